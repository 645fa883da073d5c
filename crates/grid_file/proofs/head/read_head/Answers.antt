use Rattle.std.proofs.Common.{codes, subst}
use Rattle.grid_file.specs.Fields.{IsField, LeavesFieldAt}
use Rattle.grid_file.specs.GridText.{IsGridText}
use Rattle.grid_file.specs.LeavingPlace.{LeavesAt}
use Rattle.grid_file.proofs.Exits.{exit_keeps}
use Rattle.grid_file.proofs.HeadSteps.{leaves_in_mu, leaves_in_frame, leaves_in_slot, leaves_in_blocks}
use Rattle.grid_file.proofs.head.read_head.Goals as goal

pub returns-in_err-mu-clause-leaves : goal.returns-in_err-mu-clause-leaves
returns-in_err-mu-clause-leaves c =
    let bytes = c.args.bytes.now in
    let fault = c.in_err-mu.field-0.0 in
    exit_keeps (λ f. LeavesAt IsGridText bytes f.at) c.from_residual.result fault c.from_residual.ensures.1
    (leaves_in_mu bytes fault.at c.in_err-mu.ensures.leaves)

pub returns-in_err-frame-clause-leaves : goal.returns-in_err-frame-clause-leaves
returns-in_err-frame-clause-leaves c =
    let bytes = c.args.bytes.now in
    let mu = c.in_ok-mu.mu in
    let fault = c.in_err-frame.field-0.0 in
    exit_keeps (λ f. LeavesAt IsGridText bytes f.at) c.from_residual-in_err-frame.result fault
    c.from_residual-in_err-frame.ensures.1
    (leaves_in_frame bytes mu fault.at c.in_ok-mu.ensures.read c.in_err-frame.ensures.leaves)

pub returns-in_err-slot-clause-leaves : goal.returns-in_err-slot-clause-leaves
returns-in_err-slot-clause-leaves c =
    let bytes = c.args.bytes.now in
    let mu = c.in_ok-mu.mu in
    let frame = c.in_ok-frame.frame in
    let fault = c.in_err-slot.field-0.0 in
    exit_keeps (λ f. LeavesAt IsGridText bytes f.at) c.from_residual-in_err-slot.result fault
    c.from_residual-in_err-slot.ensures.1
    (leaves_in_slot bytes mu frame fault.at c.in_ok-mu.ensures.read c.in_ok-frame.ensures.read
    (subst (λ n. LeavesFieldAt (codes " slot ") 0 n bytes frame.next fault.at) c.slots_in_frame.ensures.value
    c.in_err-slot.ensures.leaves))

pub returns-in_err-blocks-clause-leaves : goal.returns-in_err-blocks-clause-leaves
returns-in_err-blocks-clause-leaves c =
    let bytes = c.args.bytes.now in
    let mu = c.in_ok-mu.mu in
    let frame = c.in_ok-frame.frame in
    let slot = c.in_ok-slot.slot in
    let fault = c.in_err-blocks.field-0.0 in
    exit_keeps (λ f. LeavesAt IsGridText bytes f.at) c.from_residual-in_err-blocks.result fault
    c.from_residual-in_err-blocks.ensures.1
    (leaves_in_blocks bytes mu frame slot fault.at c.in_ok-mu.ensures.read c.in_ok-frame.ensures.read
    (subst (λ n. IsField (codes " slot ") bytes frame.next 0 n slot.value slot.next) c.slots_in_frame.ensures.value
    c.in_ok-slot.ensures.read)
    c.in_err-blocks.ensures.leaves)

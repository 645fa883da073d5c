use Rattle.std.proofs.Common.{ℕ, List, Option, ap, sym, subst, ◌∙◌}
use Rattle.coreset_map.specs.declared.places.Reg.{Reg}
use Rattle.monitor_plan.specs.Watch.{no_watch, watch_at, IsInside}
use Rattle.cell_placer.specs.Owners.{least_owner}
use Rattle.cell_placer.specs.Ledger.{LedgerValue}
use Rattle.cell_placer.specs.Fate.{first_meeting}
use Rattle.cell_placer.proofs.OwnerTables.{least_owner_is}
use Rattle.cell_placer.proofs.ledger.Ledger.first_meeting.Goals as goal

pub returns : goal.returns
returns c =
    let l = c.self.inside in
    let owners = l.owners.items in
    let w = watch_at c.args.plan.now c.args.at in
    let regs = c.as_slice-2.result.now in
    c.least_owner.ensures
    ∙ ap (λ (x : List (Option ℕ)). least_owner x l.blocks c.symbol.result regs) c.as_slice.ensures.value
    ∙ ap (λ (x : ℕ). least_owner owners l.blocks x regs) c.symbol.ensures
    ∙ ap (λ (x : List Reg). least_owner owners l.blocks w.symbol x) (c.as_slice-2.ensures.value ∙ c.regs.ensures.value)
    ∙ least_owner_is l.blocks l.calls l.members.items l.accepted.items owners w c.self.invariant.owners
    c.self.invariant.ledger.calls
    (subst (λ (v : LedgerValue). IsInside v.blocks w) (sym c.self.view_is)
    (c.requires.inside c.args.at no_watch c.requires.at))
    ∙ ap (λ (v : LedgerValue). first_meeting v.members v.accepted w) c.self.view_is

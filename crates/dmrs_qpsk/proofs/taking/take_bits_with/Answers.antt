use Rattle.std.proofs.Common.{List, subst}
use Rattle.coreset_map.specs.declared.places.Reg.{Reg}
use Rattle.dmrs_qpsk.proofs.Takes.{IsTaken, is_taken, bits_exactly, bad_exactly}
use Rattle.dmrs_qpsk.proofs.taking.take_bits_with.Goals as goal

-- what was read of the list's REGs
taken : (c : goal.After-take_bits_core)
    → IsTaken c.args.grid.now c.args.first c.args.id c.args.regs.now.items c.take_bits_core.result
taken c =
    let a = c.args in
    let result = c.take_bits_core.result in
    subst (λ (regs : List Reg). IsTaken a.grid.now a.first a.id regs result) c.as_slice.ensures.value
    (is_taken a.grid.now a.first a.id c.as_slice.result.now result c.take_bits_core.ensures.bits c.take_bits_core.ensures.bad)

pub returns-clause-bits : goal.returns-clause-bits
returns-clause-bits c =
    let a = c.args in
    bits_exactly a.grid.now a.first a.id a.regs.now.items c.take_bits_core.result c.requires.regs (taken c)

pub returns-clause-bad : goal.returns-clause-bad
returns-clause-bad c =
    let a = c.args in
    bad_exactly a.grid.now a.first a.id a.regs.now.items c.take_bits_core.result c.requires.regs (taken c)

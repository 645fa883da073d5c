use Rattle.std.proofs.Common.{ℕ, ◌+◌, ◌*◌, Bool, List, [], refl, sym, subst, arith}
use Rattle.gold_scrambler.specs.Gold.{gold}
use Rattle.gold_scrambler.specs.Stretches.{HasBits}
use Rattle.coreset_map.specs.RegOrder.{reg_at}
use Rattle.dmrs_qpsk.specs.Held.{Holds}
use Rattle.dmrs_qpsk.specs.ReferencePoints.{reference_start}
use Rattle.dmrs_qpsk.proofs.PointsRead.{none_taken}
use Rattle.dmrs_qpsk.proofs.RegsRead.{one_reg_more, reg_has_points, all_regs_read}
use Rattle.dmrs_qpsk.proofs.taking.take_bits_core.Goals as goal

pub loop-j-init : goal.loop-j-init
loop-j-init c =
    let a = c.args in
    none_taken a.grid.now a.first a.id a.regs.now [] refl

pub loop-j-preserved : goal.loop-j-preserved
loop-j-preserved c =
    let a = c.args in
    let l = c.loop-j in
    let reg = reg_at a.regs.now l.j in
    let wanted = c.bits_of-wanted.result in
    let of_slot : ℕ → Type 0 =
    λ slot. HasBits (gold (reference_start slot (a.first + reg.symbol) a.id)) (6 * reg.block) 6 wanted
    in
    one_reg_more a.grid.now a.first a.id a.regs.now l.j l.words c.append.new.words l.invariant c.append.ensures.before
    (reg_has_points a.grid.now a.first a.id a.regs.now l.j c.block.result wanted c.in-Some.packed c.append.new.words
    c.block.ensures (subst of_slot c.slot-slot.ensures.value c.bits_of-wanted.ensures) c.in-Some.ensures c.append.ensures.behind)

pub returns-clause-bits : goal.returns-clause-bits
returns-clause-bits c =
    let a = c.args in
    let l = c.loop-j in
    let holds : List Bool → Type 0 = Holds a.grid.now a.first a.id a.regs.now in
    subst holds (sym c.of_words-2.ensures)
    (all_regs_read a.grid.now a.first a.id a.regs.now l.j l.words (omega (arith, c.loop-j-test.false, l.auto.j-end)) l.invariant)

use Rattle.std.proofs.Common.{ℕ, ◌+◌, ◌*◌, subst}
use Rattle.gold_scrambler.specs.Gold.{gold}
use Rattle.gold_scrambler.specs.Stretches.{HasBits}
use Rattle.coreset_map.specs.RegOrder.{reg_at}
use Rattle.dmrs_qpsk.specs.ReferencePoints.{reference_start}
use Rattle.dmrs_qpsk.proofs.RegPuts.{one_reg_more}
use Rattle.dmrs_qpsk.proofs.RegWords.{point_in_reg}
use Rattle.dmrs_qpsk.proofs.placing.put_bits_core.Goals as goal

pub loop-j-preserved : goal.loop-j-preserved
loop-j-preserved c =
    let a = c.args in
    let l = c.loop-j in
    let reg = reg_at a.regs.now l.j in
    let wanted = c.bits_of-wanted.result in
    let word = c.word_of_reg-word.result in
    let of_slot : ℕ → Type 0 =
    λ slot. HasBits (gold (reference_start slot (a.first + reg.symbol) a.id)) (6 * reg.block) 6 wanted
    in
    one_reg_more a.first a.id a.regs.now a.bits.now l.j word a.grid.now l.grid c.put_block.new.self c.requires.regs
    c.loop-j-test.true l.invariant c.put_block.ensures
    (point_in_reg a.grid.now.slot (a.first + reg.symbol) a.id reg.block word wanted c.bits_at.result l.j a.bits.now
    (subst of_slot c.slot-slot.ensures.value c.bits_of-wanted.ensures) c.word_of_reg-word.ensures c.bits_at.ensures.bits)

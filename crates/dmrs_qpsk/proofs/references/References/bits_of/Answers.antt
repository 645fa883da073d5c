use Rattle.std.proofs.Common.{ℕ, ◌+◌, ◌*◌, ◌/◌, [], get_or, refl, ◌∙◌, ap, arith}
use Rattle.gold_scrambler.specs.Gold.{gold}
use Rattle.dmrs_qpsk.specs.ReferencePoints.{reference_start}
use Rattle.dmrs_qpsk.proofs.KeptBits.{six_bits}
use Rattle.dmrs_qpsk.proofs.references.References.bits_of.Goals as goal

pub returns : goal.returns
returns c =
    let a = c.args in
    let at = c.from-at.result in
    let block = c.from-block.result in
    let words = get_or c.turn.new.words at [] in
    let start = get_or c.turn.new.starts at 0 in
    let same = c.turn.ensures.start ∙ c.sequence_start-start.ensures.value in
    let kept =
    c.turn.ensures.kept.kept at (omega (arith, c.from-at.ensures, c.requires.symbol))
    (omega (arith, c.turn.ensures.start, c.sequence_start-start.ensures.small))
    in
    let six =
    six_bits start block (get_or words (block / 10) 0) words kept (omega (arith, c.from-block.ensures, c.requires.block)) refl
    in
    record {
      bit = λ i l.
          six.bit i l
          ∙ ap (λ (s : ℕ). gold s (6 * block + i)) same
          ∙ ap (λ (b : ℕ). gold (reference_start a.slot a.symbol a.id) (6 * b + i)) c.from-block.ensures;
    }

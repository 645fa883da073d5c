use Rattle.std.proofs.Common.{◌≡◌, length, refl, arith}
use Rattle.bits_core.proofs.RowWords.{rows_same, words_same}
use Rattle.bits_core.proofs.row.BitRow.slice_eq.Goals as goal

pub returns-then-word : goal.returns-then-word
returns-then-word g c = (
  (λ h. cc),
  (λ e. absurd
      (c.if-word.true
      (words_same c.args.self.now c.args.other.now c.loop-at.at c.word.result c.word-in-loop-at.result
      c.word.type_inv c.word-in-loop-at.type_inv c.word.ensures c.word-in-loop-at.ensures e))),
)

pub returns : goal.returns
returns g c =
    let lengths : length c.args.self.now ≡ length c.args.other.now = omega arith in (
      (λ _. rows_same g.row.W c.args.self.now c.args.other.now lengths (omega arith) (λ k h. c.loop-at.invariant k (omega arith))),
      (λ _. refl),
    )

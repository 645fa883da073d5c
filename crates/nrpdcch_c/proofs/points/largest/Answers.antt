use Rattle.std.proofs.Common.{arith, ◌≤◌, ◌+◌, get_or, take, subst, sym}
use Rattle.std.specs.Prelude.{All}
use Rattle.std.proofs.lemmas.List.{take_all}
use Rattle.std.proofs.lemmas.List.Elements.{All-more}
use Rattle.nrpdcch_c.proofs.points.largest.Goals as goal
use Rattle.nrpdcch_c.proofs.points.largest.Goals.{then-largest-byte, else-largest-byte}

pub loop-byte-preserved : goal.loop-byte-preserved
loop-byte-preserved c =
    let bytes = c.args.bytes.now in
    let i = c.loop-byte.byte-index in
    let before = c.loop-byte.invariant in
    let inside = c.loop-byte-test.true in
    elim c.if-largest-byte.branch [
      | then-largest-byte w ↦
          subst (λ most. All (λ byte. byte ≤ most) (take (i + 1) bytes)) (sym w.largest-is)
          (All-more (λ byte. byte ≤ get_or bytes i 0) bytes i 0 inside
          (λ k d lt. let old = before k d lt in let more = w.if-largest-byte.true in omega (arith, old, more)) (omega arith))
      | else-largest-byte w ↦
          subst (λ most. All (λ byte. byte ≤ most) (take (i + 1) bytes)) (sym w.largest-is)
          (All-more (λ byte. byte ≤ c.loop-byte.largest) bytes i 0 inside before (omega (arith, w.if-largest-byte)))
    ]

pub returns : goal.returns
returns c =
    let bytes = c.args.bytes.now in
    subst (All (λ byte. byte ≤ c.loop-byte.largest))
    (take_all c.loop-byte.byte-index bytes (omega (arith, c.loop-byte-test.false))) c.loop-byte.invariant

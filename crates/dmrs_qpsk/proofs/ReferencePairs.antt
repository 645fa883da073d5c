-- Two bits that follow each other in the sequence make a reference point.
use Rattle.std.proofs.Common.{◌≡◌, ℕ, ◌+◌, ◌*◌, Bool, ◌∙◌, ap}
use Rattle.gold_scrambler.specs.Gold.{GoldValue, gold}
use Rattle.dmrs_qpsk.specs.Modulation.{point_of}
use Rattle.dmrs_qpsk.specs.ReferencePoints.{sequence_point}

-- bits 2m and 2m + 1 of a sequence are the point that is reference point m
pub pair_is : (start m : ℕ) (g h : GoldValue) (first second : Bool) → first ≡ gold g.c_init g.at → second ≡ gold h.c_init h.at
    → g.c_init ≡ start → g.at ≡ 2 * m → h.c_init ≡ start → h.at ≡ 2 * m + 1 → point_of first second ≡ sequence_point start m
pair_is start m g h first second a b c d e f =
    ap (λ x. point_of x second) (a ∙ ap (λ s. gold s g.at) c ∙ ap (gold start) d)
    ∙ ap (point_of (gold start (2 * m))) (b ∙ ap (λ s. gold s h.at) e ∙ ap (gold start) f)

-- the point of bit 2m and the next of a sequence is reference point m
pub point-from : (start wanted bit m : ℕ) → start ≡ wanted → bit ≡ 2 * m
    → point_of (gold start bit) (gold start (bit + 1)) ≡ sequence_point wanted m
point-from start wanted bit m e f =
    ap (λ s. point_of (gold s bit) (gold s (bit + 1))) e ∙ ap (λ n. point_of (gold wanted n) (gold wanted (n + 1))) f

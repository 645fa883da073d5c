-- Which binary ones a number has, by the blocks of a power of two that it lies in.
use Rattle.std.proofs.Common.{ℕ, ◌≡◌, ◌+◌, ◌*◌, ◌^◌, ◌<◌, ◌&&◌, inl, inr, ap, ◌∙◌, arith}
use Rattle.std.specs.Prelude.{bit_and, ◌==◌}
use Rattle.std.proofs.lemmas.Bool.{eq-eqb, ne_eqb}
use Rattle.std.proofs.lemmas.Bool.Decides.{eqb_tells}
use Rattle.std.proofs.lemmas.Nat.{and_block, and_le_r, same_from_place}
use Rattle.bits_core.specs.Ones.{contains_ones}

-- two places are one where row and column are
place_eq : (w a b x s : ℕ) → x < w → s < w → (a * w + x == b * w + s) ≡ ((a == b) && (x == s))
place_eq w a b x s l m =
    elim (eqb_tells a b) [
      | inl e ↦ elim (eqb_tells x s) [
        | inl f ↦ (rw (e.0, f.0) (eq-eqb (a * w + x) (b * w + s) (ap (λ (i : ℕ). i * w + x) e.1 ∙ ap (λ (i : ℕ). b * w + i) f.1)))
        | inr f ↦ (rw (e.0, f.0) (ne_eqb (a * w + x) (b * w + s) (λ h. f.1 (same_from_place a x b s w l m h).1)))
      ]
      | inr e ↦ (rw e.0 (ne_eqb (a * w + x) (b * w + s) (λ h. e.1 (same_from_place a x b s w l m h).0)))
    ]

-- in blocks of a power of two, the ones are contained where those of both the block and the place in it are
pub contains_block : (k a b r s : ℕ) → r < 2 ^ k → s < 2 ^ k →
    contains_ones (a * 2 ^ k + r) (b * 2 ^ k + s) ≡ (contains_ones a b && contains_ones r s)
unfolding contains_ones
contains_block k a b r s l m =
    let le = and_le_r r s in
    ap (λ (x : ℕ). x == b * 2 ^ k + s) (and_block k a b r s l m)
    ∙ place_eq (2 ^ k) (bit_and a b) b (bit_and r s) s (omega arith) m

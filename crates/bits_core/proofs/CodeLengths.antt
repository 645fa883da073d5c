-- What holds at each of the five lengths holds at a code length.
use Rattle.std.proofs.Common.{ℕ, ◌≡◌, ◌^◌, ◌≤◌, lit≤, Bool, true, false, ◌||◌, inl, inr, refl, subst, sym, ◌∙◌}
use Rattle.std.proofs.lemmas.Bool.{or_cases}
use Rattle.std.proofs.lemmas.Bool.Decides.{eqb_tells}
use Rattle.std.specs.Prelude.{IsTrue, ◌==◌}
use Rattle.bits_core.specs.CodeLengths.{is_code_length}

is_one : (P : ℕ → Type 0) (n a : ℕ) → P a → IsTrue (n == a) → P n
is_one P n a p h =
    elim (eqb_tells n a) [ inl e ↦ subst P (sym e.1) p | inr e ↦ absurd (let f : true ≡ false = sym h ∙ e.0 in cc) ]

one_more : (P : ℕ → Type 0) (n a : ℕ) (rest : Bool) → P a → (IsTrue rest → P n) → IsTrue (rest || n == a) → P n
one_more P n a rest p q h = elim (or_cases rest (n == a) h) [ inl r ↦ q r | inr e ↦ is_one P n a p e ]

-- what holds at each of the five lengths holds at a code length
pub by_lengths : (P : ℕ → Type 0) → P 32 → P 64 → P 128 → P 256 → P 512 → (n : ℕ) → IsTrue (is_code_length n) → P n
by_lengths P a b c d e n =
    one_more P n 512 (n == 32 || n == 64 || n == 128 || n == 256) e
    (one_more P n 256 (n == 32 || n == 64 || n == 128) d
    (one_more P n 128 (n == 32 || n == 64) c
    (one_more P n 64 (n == 32) b (is_one P n 32 a))))

-- a code length is a power of two, and 512 at most
pub record IsPower (n : ℕ) : Type 0 where
  pub exponent : ℕ
  pub power : n ≡ 2 ^ exponent
  pub limit : n ≤ 512

-- each code length is such a power
pub power_of : (n : ℕ) → IsTrue (is_code_length n) → IsPower n
power_of =
    by_lengths IsPower
    (record { exponent = 5; power = refl; limit = lit≤ tt })
    (record { exponent = 6; power = refl; limit = lit≤ tt })
    (record { exponent = 7; power = refl; limit = lit≤ tt })
    (record { exponent = 8; power = refl; limit = lit≤ tt })
    (record { exponent = 9; power = refl; limit = lit≤ tt })

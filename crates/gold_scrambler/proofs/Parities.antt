-- The parity of a sum is the sum of the parities.
use Rattle.std.proofs.Common.{◌≡◌, ℕ, ◌+◌, ◌%◌, ◌<◌, eqb, not, ap, ◌∙◌, arith}
use Rattle.std.proofs.lemmas.Bool.Decides.{nat_tests}
use Rattle.bits_core.specs.Bits.{plus}
use Rattle.bits_core.proofs.Sums.{bit_sum}

-- the sum is odd where one of the two is
pub odd_add : (a b : ℕ) → eqb ((a + b) % 2) 1 ≡ plus (eqb (a % 2) 1) (eqb (b % 2) 1)
odd_add a b =
    let same : (a + b) % 2 ≡ (a % 2 + b % 2) % 2 = omega arith in
    ap (λ c. eqb c 1) same ∙ bit_sum (a % 2) (b % 2) (omega arith) (omega arith)

differ_tests : (a b : ℕ) → a < 2 → b < 2 → not (eqb a b) ≡ plus (eqb a 1) (eqb b 1)
differ_tests a b k l = grind (arith, nat_tests)

-- two parities differ exactly where their sum is odd
pub differ_odd : (a b : ℕ) → not (eqb (a % 2) (b % 2)) ≡ plus (eqb (a % 2) 1) (eqb (b % 2) 1)
differ_odd a b = differ_tests (a % 2) (b % 2) (omega arith) (omega arith)

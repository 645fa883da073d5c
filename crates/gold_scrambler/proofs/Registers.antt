-- A register that is shifted once a step.
use Rattle.std.proofs.Common.{◌≡◌, ℕ, zero, suc, ◌+◌, ◌*◌, ◌/◌, ◌%◌, ◌^◌, ◌<◌, sym, ◌∙◌, ap, arith, add-zero, add_comm}
use Rattle.std.specs.Int.{bit_at}
use Rattle.std.proofs.lemmas.Nat.Bits.{bit_at_cat_low, bit_at_cat_high, bit_at_lowest, bit_at-suc}

-- each step moves every bit one place down, and the parity of `top` comes in at the top
pub record IsShifted (state top : ℕ → ℕ) : Type 0 where
  pub shifts : (n : ℕ) → state (suc n) ≡ state n / 2 + top n % 2 * 2 ^ 30

-- a register one step on has the bits above the lowest, one place down
pub bit_at_shifted : (x b i : ℕ) → i < 30 → bit_at (x / 2 + b * 2 ^ 30) i ≡ bit_at x (suc i)
bit_at_shifted x b i h =
    ap (λ n. bit_at n i) (add_comm (x / 2) (b * 2 ^ 30)) ∙ bit_at_cat_low b 30 (x / 2) i h ∙ sym (bit_at-suc x i)

-- bit i of a register is its low bit i steps later
pub bit_at_state : (state top : ℕ → ℕ) (h : IsShifted state top) (n i : ℕ) → i < 31 → bit_at (state n) i ≡ state (n + i) % 2
bit_at_state state top h n zero l = bit_at_lowest (state n) ∙ ap (λ m. state m % 2) (sym (add-zero n))
bit_at_state state top h n (suc i) l =
    let e : suc n + i ≡ n + suc i = omega arith in
    sym (bit_at_shifted (state n) (top n % 2) i (omega arith))
    ∙ ap (λ x. bit_at x i) (sym (h.shifts n))
    ∙ bit_at_state state top h (suc n) i (omega arith)
    ∙ ap (λ m. state m % 2) e

-- and the bit that came in at the top
pub bit_at_top : (x b : ℕ) → x < 2 ^ 31 → bit_at (x / 2 + b % 2 * 2 ^ 30) 30 ≡ b % 2
bit_at_top x b small =
    let lower : x / 2 < 2 ^ 30 = omega arith in
    ap (λ r. bit_at r 30) (add_comm (x / 2) (b % 2 * 2 ^ 30))
    ∙ bit_at_cat_high (b % 2) 30 (x / 2) 30 lower (omega arith)
    ∙ bit_at_lowest (b % 2)
    ∙ omega arith

-- what comes in at the top is the low bit 31 steps later
pub low_after : (state top : ℕ → ℕ) (h : IsShifted state top) (n : ℕ) → state n < 2 ^ 31 → state (n + 31) % 2 ≡ top n % 2
low_after state top h n small =
    let later : suc n + 30 ≡ n + 31 = omega arith in
    ap (λ m. state m % 2) (sym later)
    ∙ sym (bit_at_state state top h (suc n) 30 (omega arith))
    ∙ ap (λ x. bit_at x 30) (h.shifts n)
    ∙ bit_at_top (state n) (top n) small

-- a small register stays small
pub shifted_small : (x b : ℕ) → x < 2 ^ 31 → x / 2 + b % 2 * 2 ^ 30 < 2 ^ 31
shifted_small x b h = omega arith

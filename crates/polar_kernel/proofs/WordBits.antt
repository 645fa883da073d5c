-- Bits of a word after a sum, a mask and a shift, and bits of packed words.
use Rattle.std.proofs.Common.{ℕ, ◌≡◌, ◌+◌, ◌*◌, ◌/◌, ◌%◌, ◌^◌, ◌<◌, zero, suc, ◌&&◌, List, eqb, refl, ap, ◌∙◌}
use Rattle.std.proofs.Common.{arith, bit_and, slice_index}
use Rattle.std.specs.Prelude.{min}
use Rattle.std.specs.Int.{bit_at}
use Rattle.std.proofs.lemmas.Nat.{shr-shr}
use Rattle.std.proofs.lemmas.Nat.Bits.{bit_at_and, bit_at-lt}
use Rattle.bits_core.specs.Ones.{has_one}
use Rattle.bits_core.specs.Row.{word_bit}

less_of_two : (x y : ℕ) → x < 2 → y < 2 → eqb (min x y) 1 ≡ (eqb x 1 && eqb y 1)
less_of_two zero zero l m = refl
less_of_two zero (suc zero) l m = refl
less_of_two (suc zero) zero l m = refl
less_of_two (suc zero) (suc zero) l m = refl
less_of_two (suc (suc x)) y l m = absurd (omega arith)
less_of_two zero (suc (suc y)) l m = absurd (omega arith)
less_of_two (suc zero) (suc (suc y)) l m = absurd (omega arith)

-- a bit of a word under a mask
pub has_one-and : (a b k : ℕ) → has_one (bit_and a b) k ≡ (has_one a k && has_one b k)
has_one-and a b k =
    ap (λ (x : ℕ). eqb x 1) (bit_at_and a b k) ∙ less_of_two (bit_at a k) (bit_at b k) (bit_at-lt a k) (bit_at-lt b k)

-- a bit of a word shifted down
pub has_one-shr : (a s k : ℕ) → has_one (a / 2 ^ s) k ≡ has_one a (k + s)
has_one-shr a s k =
    let e : s + k ≡ k + s = omega arith in
    ap (λ (x : ℕ). eqb (x % 2) 1) (shr-shr a s k) ∙ ap (λ (x : ℕ). eqb (a / 2 ^ x % 2) 1) e

-- a bit of packed words, by the number of its word and its place there
pub word_bit-at : (words : List ℕ) (q k : ℕ) → k < 64 → word_bit words (q * 64 + k) ≡ has_one (slice_index words q) k
word_bit-at words q k l =
    let number : (q * 64 + k) / 64 ≡ q = omega arith in
    let place : (q * 64 + k) % 64 ≡ k = omega arith in
    ap (λ (x : ℕ). has_one (slice_index words x) ((q * 64 + k) % 64)) number ∙ ap (has_one (slice_index words q)) place

-- a bit of the first word
pub word_bit-first : (words : List ℕ) (k : ℕ) → k < 64 → word_bit words k ≡ has_one (slice_index words 0) k
word_bit-first words k l =
    let number : k / 64 ≡ 0 = omega arith in
    let place : k % 64 ≡ k = omega arith in
    ap (λ (x : ℕ). has_one (slice_index words x) (k % 64)) number ∙ ap (has_one (slice_index words 0)) place

-- Numbers whose bits are a stretch of a sequence: shifted, cut off, and joined.
use Rattle.std.proofs.Common.{◌≡◌, ℕ, ◌+◌, ◌-◌, ◌*◌, ◌/◌, ◌%◌, ◌^◌, ◌<◌, ◌≤◌, Bool, eqb, inl, inr, sym, ◌∙◌, ap, subst, arith}
use Rattle.std.proofs.Common.{bit_and, bit_or}
use Rattle.std.proofs.lemmas.Bool.{cases_lt}
use Rattle.std.proofs.lemmas.Bool.Decides.{nat_tests}
use Rattle.std.proofs.lemmas.Nat.{pow-add, mul-add-lt, shr-shr, shl_whole, or_shifted, or_comm, and_mask, one_shl}
use Rattle.std.proofs.lemmas.Nat.Bits.{bit_at-lt, bit_at_cat_low, bit_at_cat_high, same_from_bits_below}
use Rattle.bits_core.specs.Ones.{has_one}
use Rattle.bits_core.proofs.RowWords.{has_one-low}
use Rattle.gold_scrambler.specs.Stretches.{HasBits}

-- a bit of a number that is shifted down
pub one_shr : (a k i : ℕ) → has_one (a / 2 ^ k) i ≡ has_one a (k + i)
one_shr a k i = ap (λ n. eqb (n % 2) 1) (shr-shr a k i)

-- a mask of `count` ones keeps the low bits
pub kept : (a count : ℕ) → count < 64 → bit_and a (1 * 2 ^ count % 2 ^ 64 - 1) ≡ a % 2 ^ count
kept a count h = ap (λ m. bit_and a (m - 1)) (one_shl count 64 h) ∙ and_mask a count

-- the bits above the first `count`, which are shifted out
pub passed : (x : ℕ → Bool) (n size number count width : ℕ) → count + width ≤ size → HasBits x n size number
    → HasBits x (n + count) width (number / 2 ^ count % 2 ^ width)
passed x n size number count width fits h = record {
  bit = λ i l.
      let place : n + (count + i) ≡ n + count + i = omega arith in
      has_one-low (number / 2 ^ count) width i l ∙ one_shr number count i ∙ h.bit (count + i) (omega arith) ∙ ap x place;
}

-- numbers of `size` bits that are the same bits of a sequence are one
pub same_number : (x : ℕ → Bool) (n size a b : ℕ) → a < 2 ^ size → b < 2 ^ size → HasBits x n size a → HasBits x n size b → a ≡ b
same_number x n size a b small small' h k =
    same_from_bits_below size a b small small'
    (λ i l.
    let same : has_one a i ≡ has_one b i = h.bit i l ∙ sym (k.bit i l) in
    grind (arith, nat_tests, bit_at-lt a i, bit_at-lt b i))

-- a number and one that is shifted above it share no place
joined_sum : (a b low width : ℕ) → width + low ≤ 64 → a < 2 ^ low → b < 2 ^ width
    → bit_or a (b * 2 ^ low % 2 ^ 64) ≡ b * 2 ^ low + a
joined_sum a b low width fits small small' =
    ap (λ s. bit_or a s) (shl_whole b width low 64 small' fits) ∙ or_comm a (b * 2 ^ low) ∙ or_shifted b low a small

joined_small : (a b low width : ℕ) → width + low ≤ 64 → a < 2 ^ low → b < 2 ^ width
    → bit_or a (b * 2 ^ low % 2 ^ 64) < 2 ^ (low + width)
joined_small a b low width fits small small' =
    subst (λ (m : ℕ). m < 2 ^ (low + width)) (sym (joined_sum a b low width fits small small'))
    (subst (λ (p : ℕ). b * 2 ^ low + a < p) (sym (pow-add 2 low width)) (mul-add-lt b (2 ^ low) a (2 ^ width) small' small))

-- a number of `low` bits, and above it one of `width`, of which the first `count` are the bits that come after
pub joined : (x : ℕ → Bool) (n low count width a b : ℕ) → width + low ≤ 64 → count ≤ width → a < 2 ^ low → b < 2 ^ width
    → HasBits x n low a → HasBits x (n + low) count b
    → HasBits x n (low + count) (bit_or a (b * 2 ^ low % 2 ^ 64))
joined x n low count width a b fits part small small' h k =
    let whole = joined_sum a b low width fits small small' in
    record {
      bit = λ i l. ap (λ s. has_one s i) whole ∙ elim (cases_lt i low) as (λ _. has_one (b * 2 ^ low + a) i ≡ x (n + i)) [
        | inl below ↦ ap (λ d. eqb d 1) (bit_at_cat_low b low a i below) ∙ h.bit i below
        | inr above ↦
            let place : n + low + (i - low) ≡ n + i = omega arith in
            ap (λ d. eqb d 1) (bit_at_cat_high b low a i small above) ∙ k.bit (i - low) (omega arith) ∙ ap x place
      ];
    }

-- three numbers, each above the one before
pub three_joined : (x : ℕ → Bool) (n low middle high a b c : ℕ) → low + middle + high ≤ 64 → a < 2 ^ low → b < 2 ^ middle
    → c < 2 ^ high → HasBits x n low a → HasBits x (n + low) middle b → HasBits x (n + low + middle) high c
    → HasBits x n (low + middle + high) (bit_or (bit_or a (b * 2 ^ low % 2 ^ 64)) (c * 2 ^ (low + middle) % 2 ^ 64))
three_joined x n low middle high a b c fits small small' small'' h k l =
    let two = joined x n low middle middle a b (omega arith) (omega arith) small small' h k in
    let place : n + low + middle ≡ n + (low + middle) = omega arith in
    joined x n (low + middle) high high (bit_or a (b * 2 ^ low % 2 ^ 64)) c (omega arith) (omega arith)
    (joined_small a b low middle (omega arith) small small')
    small'' two (subst (λ m. HasBits x m high c) place l)

-- A start value by its single bits.
use Rattle.std.proofs.Common.{◌≡◌, ℕ, ◌+◌, ◌*◌, ◌/◌, ◌%◌, ◌^◌, ◌<◌, ◌≢◌, bit_and, get_or, List}
use Rattle.std.proofs.Common.{sym, ◌∙◌, ap, refl, arith, zero-add, add_comm}
use Rattle.std.specs.Int.{bit_at}
use Rattle.std.specs.Int.RustNames.{bit_xor}
use Rattle.std.specs.Int.Bits.{xor_zero_r}
use Rattle.std.proofs.lemmas.List.FromFn.{get_or-map-range_with_len}
use Rattle.std.proofs.lemmas.Nat.{mod-pow-add, xor_block, mod_below, pow_pos, pow_below}
use Rattle.std.proofs.lemmas.Nat.Bits.{shr_and_one, bit_at-lt}
use Rattle.gold_scrambler.specs.Gold.{state2}
use Rattle.gold_scrambler.specs.SingleBits.{of_single_bits}
use Rattle.gold_scrambler.proofs.Linear.{state2-xor}

-- the low bits of a number and the one above them
low_more : (c k : ℕ) → c % 2 ^ (k + 1) ≡ bit_at c k * 2 ^ k + c % 2 ^ k
low_more c k = ap (λ n. c % 2 ^ n) (add_comm k 1) ∙ mod-pow-add c 1 k

-- a one above the low bits is added without carries
one_above : (c k : ℕ) → bit_at c k ≡ 1 → c % 2 ^ (k + 1) ≡ bit_xor (c % 2 ^ k) (2 ^ k)
one_above c k one =
    let p = 2 ^ k in
    let r = c % 2 ^ k in
    let low : 0 * p + r ≡ r = omega arith in
    let high : 1 * p + 0 ≡ p = omega arith in
    low_more c k
    ∙ ap (λ b. b * p + r) one
    ∙ ap (λ n. 1 * p + n) (sym (xor_zero_r r))
    ∙ sym (xor_block k 0 1 r 0 (mod_below c p (pow_pos k)) (pow_pos k))
    ∙ ap (λ n. bit_xor n (1 * p + 0)) low
    ∙ ap (λ n. bit_xor r n) high

of_nothing : 0 ≡ state2 0 1600
unfolding state2
of_nothing = refl

-- nothing is summed before the first bit
pub no_bits : (c : ℕ) → 0 ≡ state2 (c % 2 ^ 0) 1600
no_bits c = let none : c % 2 ^ 0 ≡ 0 = omega arith in of_nothing ∙ ap (λ s. state2 s 1600) (sym none)

-- the register of a single bit
pub of_single : (singles : List ℕ) (i : ℕ) → singles ≡ of_single_bits → i < 31 → get_or singles i 0 ≡ state2 (2 ^ i) 1600
of_single singles i is h =
    ap (λ xs. get_or xs i 0) is ∙ get_or-map-range_with_len (λ k. state2 (2 ^ k) 1600) 0 31 i i 0 h (zero-add i)

-- a bit that is one adds the register of it
pub one_added : (c k sum single : ℕ) → k < 31 → bit_and (c / 2 ^ k) 1 ≡ 1 → sum ≡ state2 (c % 2 ^ k) 1600
    → single ≡ state2 (2 ^ k) 1600
    → bit_xor sum single ≡ state2 (c % 2 ^ (k + 1)) 1600
one_added c k sum single h one so_far is =
    let power = pow_below k 31 h in
    let below = mod_below c (2 ^ k) (pow_pos k) in
    ap (λ n. bit_xor n single) so_far
    ∙ ap (λ n. bit_xor (state2 (c % 2 ^ k) 1600) n) is
    ∙ sym (state2-xor (c % 2 ^ k) (2 ^ k) 1600 (omega (arith, power, below)) power)
    ∙ ap (λ s. state2 s 1600) (sym (one_above c k (sym (shr_and_one c k) ∙ one)))

-- a bit that is none adds nothing
pub none_added : (c k sum : ℕ) → bit_and (c / 2 ^ k) 1 ≢ 1 → sum ≡ state2 (c % 2 ^ k) 1600 → sum ≡ state2 (c % 2 ^ (k + 1)) 1600
none_added c k sum none so_far =
    let zero_there : bit_at c k ≡ 0 = omega (arith, shr_and_one c k, bit_at-lt c k) in
    let same : 0 * 2 ^ k + c % 2 ^ k ≡ c % 2 ^ k = omega arith in
    so_far ∙ ap (λ s. state2 s 1600) (sym (low_more c k ∙ ap (λ b. b * 2 ^ k + c % 2 ^ k) zero_there ∙ same))

-- after the last bit all are summed
pub all_bits : (c k sum : ℕ) → k ≡ 31 → c < 2 ^ 31 → sum ≡ state2 (c % 2 ^ k) 1600 → sum ≡ state2 c 1600
all_bits c k sum last small so_far =
    let whole : c % 2 ^ 31 ≡ c = omega arith in
    so_far ∙ ap (λ n. state2 (c % 2 ^ n) 1600) last ∙ ap (λ s. state2 s 1600) whole

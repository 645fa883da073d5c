-- Numbers in bits, most significant bit first.
use Rattle.std.proofs.Common.{◌≡◌, ℕ, zero, suc, ◌+◌, ◌-◌, ◌*◌, ◌/◌, ◌^◌, ◌<◌, ◌≤◌, Bool, true, false, cond, eqb, List, [], ◌∷◌}
use Rattle.std.proofs.Common.{◌++◌, length, get_or, take, drop, map, bit_and, refl, ap, sym, subst, ◌∙◌, arith, append_assoc}
use Rattle.std.proofs.Common.{add-one, length-drop}
use Rattle.std.specs.List.{range_with_len}
use Rattle.std.specs.Int.{bit_at, from_bool}
use Rattle.std.proofs.Math.Nat.{pow-succ', pow-le-pow_right}
use Rattle.std.proofs.lemmas.List.{take_more, take_all, length_push, length-take, get_or-drop}
use Rattle.std.proofs.lemmas.List.FromFn.{length-map-range_with_len, get_or-map-range_with_len, fill_by_all}
use Rattle.std.proofs.lemmas.Nat.Bits.{shr_and_one, bit_at-lt, bit_at_above, bit_at_cat_low, bit_at_cat_high}
use Rattle.std.proofs.lemmas.Nat.Bits.{same_from_bits_below}
use Rattle.bits_core.specs.Bits.{bits_of, number_of}

-- a number in n bits has n
pub length-bits_of : (width value : ℕ) → length (bits_of width value) ≡ width
length-bits_of width value = length-map-range_with_len (λ i. eqb (bit_at value (width - 1 - i)) 1) 0 width

-- the bit at a place of a number in bits
pub get_or-bits_of : (width value at : ℕ) → at < width
    → get_or (bits_of width value) at false ≡ eqb (bit_at value (width - 1 - at)) 1
get_or-bits_of width value at h =
    get_or-map-range_with_len (λ i. eqb (bit_at value (width - 1 - i)) 1) 0 width at at false h (omega arith)

-- one more bit of a number is appended
pub one_more_bit : (start row : List Bool) (width value at : ℕ) → at < width → row ≡ start ++ take at (bits_of width value)
    → row ++ eqb (bit_and (value / 2 ^ (width - 1 - at)) 1) 1 ∷ [] ≡ start ++ take (at + 1) (bits_of width value)
one_more_bit start row width value at h so_far =
    let within : at < length (bits_of width value) = omega (arith, length-bits_of width value) in
    let bit : eqb (bit_and (value / 2 ^ (width - 1 - at)) 1) 1 ≡ get_or (bits_of width value) at false =
    ap (λ (b : ℕ). eqb b 1) (shr_and_one value (width - 1 - at)) ∙ sym (get_or-bits_of width value at h)
    in
    ap (λ (b : Bool). row ++ b ∷ []) bit
    ∙ ap (λ (xs : List Bool). xs ++ get_or (bits_of width value) at false ∷ []) so_far
    ∙ append_assoc start (take at (bits_of width value)) (get_or (bits_of width value) at false ∷ [])
    ∙ ap (λ (xs : List Bool). start ++ xs) (sym (take_more (bits_of width value) at false within))

-- all bits of a number are appended
pub all_bits : (start row : List Bool) (width value at : ℕ) → at ≡ width → row ≡ start ++ take at (bits_of width value)
    → row ≡ start ++ bits_of width value
all_bits start row width value at e so_far =
    so_far ∙ ap (λ (xs : List Bool). start ++ xs) (take_all at (bits_of width value) (omega (arith, length-bits_of width value)))

doubled : (x : Bool) (p n d : ℕ) → cond x (2 * p) 0 + (2 * n + d) ≡ 2 * (cond x p 0 + n) + d
doubled true p n d = omega arith
doubled false p n d = omega arith

-- a bit at the end doubles the number
pub number_of-push : (bits : List Bool) (bit : Bool) → number_of (bits ++ bit ∷ []) ≡ 2 * number_of bits + from_bool bit
number_of-push [] true = refl
number_of-push [] false = refl
number_of-push (x ∷ xs) bit =
    let length_is : length (xs ++ bit ∷ []) ≡ suc (length xs) = length_push xs bit ∙ add-one (length xs) in
    let power : 2 ^ length (xs ++ bit ∷ []) ≡ 2 * 2 ^ length xs = ap (λ (n : ℕ). 2 ^ n) length_is ∙ pow-succ' 2 (length xs) in
    ap (λ (p : ℕ). cond x p 0 + number_of (xs ++ bit ∷ [])) power
    ∙ ap (λ (n : ℕ). cond x (2 * 2 ^ length xs) 0 + n) (number_of-push xs bit)
    ∙ doubled x (2 ^ length xs) (number_of xs) (from_bool bit)

-- n bits spell a number below 2 ^ n
pub number_of_lt : (bits : List Bool) → number_of bits < 2 ^ length bits
number_of_lt [] = omega arith
number_of_lt (true ∷ xs) = omega (arith, number_of_lt xs, pow-succ' 2 (length xs))
number_of_lt (false ∷ xs) = omega (arith, number_of_lt xs, pow-succ' 2 (length xs))

-- one more bit is read
pub one_more_read : (row : List Bool) (place at number : ℕ) (bit : Bool) (digit : ℕ) → place + at < length row
    → number ≡ number_of (take at (drop place row)) → bit ≡ get_or row (place + at) false → digit ≡ from_bool bit
    → 2 * number + digit ≡ number_of (take (at + 1) (drop place row))
one_more_read row place at number bit digit h so_far read is =
    let within : at < length (drop place row) = omega (arith, length-drop place row) in
    let here : get_or (drop place row) at false ≡ bit = get_or-drop place row at false ∙ sym read in
    ap (λ (n : ℕ). 2 * n + digit) so_far
    ∙ ap (λ (d : ℕ). 2 * number_of (take at (drop place row)) + d) (is ∙ ap from_bool (sym here))
    ∙ sym (number_of-push (take at (drop place row)) (get_or (drop place row) at false))
    ∙ ap number_of (sym (take_more (drop place row) at false within))

-- fewer than 32 bits are read, so that one more fits
pub room_for_digit : (row : List Bool) (place at number digit : ℕ) → at < 32 → number ≡ number_of (take at (drop place row))
    → digit < 2
    → 2 * number + digit < 2 ^ 32
room_for_digit row place at number digit few so_far small =
    let taken : length (take at (drop place row)) ≤ 31 = omega (arith, length-take at (drop place row)) in
    let two : 0 < 2 = omega arith in
    let below : 2 ^ length (take at (drop place row)) ≤ 2 ^ 31 = pow-le-pow_right two taken in
    omega (arith, number_of_lt (take at (drop place row)))

-- a bit as a number is below 2
pub from_bool_lt : (bit : Bool) → from_bool bit < 2
from_bool_lt true = omega arith
from_bool_lt false = omega arith

-- numbers with the same low bits
pub same_bits : (width a b : ℕ) → ((k : ℕ) → k < width → bit_at a k ≡ bit_at b k) → bits_of width a ≡ bits_of width b
same_bits width a b same =
    fill_by_all (λ i. eqb (bit_at b (width - 1 - i)) 1) (bits_of width a) width false (length-bits_of width a)
    (λ i h. get_or-bits_of width a i h ∙ ap (λ (n : ℕ). eqb n 1) (same (width - 1 - i) (omega arith)))

-- the most significant bit, then the others
pub bits_of-suc : (width value : ℕ) → bits_of (suc width) value ≡ eqb (bit_at value width) 1 ∷ bits_of width value
bits_of-suc width value =
    let f : ℕ → Bool = λ i. eqb (bit_at value (suc width - 1 - i)) 1 in
    let first : suc width - 1 - 0 ≡ width = omega arith in
    let rest : map f (range_with_len 1 width) ≡ bits_of width value =
    fill_by_all (λ i. eqb (bit_at value (width - 1 - i)) 1) (map f (range_with_len 1 width)) width false
    (length-map-range_with_len f 1 width)
    (λ i h.
    let place : suc width - 1 - (i + 1) ≡ width - 1 - i = omega arith in
    get_or-map-range_with_len f 1 width i (i + 1) false h (omega arith) ∙ ap (λ (k : ℕ). eqb (bit_at value k) 1) place)
    in
    ap (λ (k : ℕ). eqb (bit_at value k) 1 ∷ map f (range_with_len 1 width)) first
    ∙ ap (λ (bits : List Bool). eqb (bit_at value width) 1 ∷ bits) rest

top_bit : (x : Bool) (n m : ℕ) → m < 2 ^ n → eqb (bit_at (cond x (2 ^ n) 0 + m) n) 1 ≡ x
top_bit true n m h =
    let whole : 2 ^ n + m ≡ 1 * 2 ^ n + m = omega arith in
    let low : n - n ≡ 0 = omega arith in
    let bit : bit_at (2 ^ n + m) n ≡ 1 =
    ap (λ (k : ℕ). bit_at k n) whole ∙ bit_at_cat_high 1 n m n h (omega arith) ∙ ap (λ (k : ℕ). bit_at 1 k) low
    in
    ap (λ (b : ℕ). eqb b 1) bit
top_bit false n m h =
    let whole : 0 + m ≡ m = omega arith in
    ap (λ (b : ℕ). eqb b 1) (ap (λ (k : ℕ). bit_at k n) whole ∙ bit_at_above m n n h (omega arith))

low_bits : (x : Bool) (n m k : ℕ) → k < n → bit_at (cond x (2 ^ n) 0 + m) k ≡ bit_at m k
low_bits true n m k h =
    let whole : 2 ^ n + m ≡ 1 * 2 ^ n + m = omega arith in
    ap (λ (v : ℕ). bit_at v k) whole ∙ bit_at_cat_low 1 n m k h
low_bits false n m k h = let whole : 0 + m ≡ m = omega arith in ap (λ (v : ℕ). bit_at v k) whole

-- the bits of what bits spell
pub bits_of-number_of : (bits : List Bool) → bits_of (length bits) (number_of bits) ≡ bits
bits_of-number_of [] = refl
bits_of-number_of (x ∷ xs) =
    let n : ℕ = length xs in
    let m : ℕ = number_of xs in
    bits_of-suc n (cond x (2 ^ n) 0 + m)
    ∙ ap (λ (b : Bool). b ∷ bits_of n (cond x (2 ^ n) 0 + m)) (top_bit x n m (number_of_lt xs))
    ∙ ap (λ (bits : List Bool). x ∷ bits) (same_bits n (cond x (2 ^ n) 0 + m) m (low_bits x n m) ∙ bits_of-number_of xs)

-- bits that spell the same number are the same
pub number_of_once : (bits others : List Bool) → length bits ≡ length others → number_of bits ≡ number_of others → bits ≡ others
number_of_once bits others e f =
    sym (bits_of-number_of bits)
    ∙ ap (λ (n : ℕ). bits_of n (number_of bits)) e
    ∙ ap (λ (n : ℕ). bits_of (length others) n) f
    ∙ bits_of-number_of others

-- two bits of which one is 1 where the other is are the same
pub same_bit : (a b : ℕ) → a < 2 → b < 2 → eqb a 1 ≡ eqb b 1 → a ≡ b
same_bit zero zero h k e = refl
same_bit zero (suc zero) h k e = cc
same_bit (suc zero) zero h k e = cc
same_bit (suc zero) (suc zero) h k e = refl
same_bit zero (suc (suc b)) h k e = absurd (omega arith)
same_bit (suc zero) (suc (suc b)) h k e = absurd (omega arith)
same_bit (suc (suc a)) b h k e = absurd (omega arith)

-- a number in bits, read again
pub number_of-bits_of : (width value : ℕ) → value < 2 ^ width → number_of (bits_of width value) ≡ value
number_of-bits_of width value h =
    let spelled : ℕ = number_of (bits_of width value) in
    let below : spelled < 2 ^ width =
    let P : ℕ → Type 0 = λ n. spelled < 2 ^ n in
    subst P (length-bits_of width value) (number_of_lt (bits_of width value))
    in
    let again : bits_of width spelled ≡ bits_of width value =
    ap (λ (n : ℕ). bits_of n spelled) (sym (length-bits_of width value)) ∙ bits_of-number_of (bits_of width value)
    in
    same_from_bits_below width spelled value below h
    (λ k l.
    let within : width - 1 - k < width = omega arith in
    let place : width - 1 - (width - 1 - k) ≡ k = omega arith in
    let same : eqb (bit_at spelled k) 1 ≡ eqb (bit_at value k) 1 =
    ap (λ (i : ℕ). eqb (bit_at spelled i) 1) (sym place)
    ∙ sym (get_or-bits_of width spelled (width - 1 - k) within)
    ∙ ap (λ (bits : List Bool). get_or bits (width - 1 - k) false) again
    ∙ get_or-bits_of width value (width - 1 - k) within
    ∙ ap (λ (i : ℕ). eqb (bit_at value i) 1) place
    in
    same_bit (bit_at spelled k) (bit_at value k) (bit_at-lt spelled k) (bit_at-lt value k) same)

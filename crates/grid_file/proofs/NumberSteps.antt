-- Numbers, digit by digit.
use Rattle.std.proofs.Common.{◌≡◌, ℕ, ◌+◌, ◌-◌, ◌*◌, ◌<◌, ◌≤◌, ◌⊎◌, min, Some, None, List, [], ◌∷◌, ◌++◌}
use Rattle.std.proofs.Common.{length, take, drop, get_or, refl, sym, ◌∙◌, ap, subst, inl, inr, arith, length-append, append_assoc}
use Rattle.std.proofs.Math.Nat.{add-zero, sub_self, min-le_left, min-le_right}
use Rattle.std.proofs.Math.Seq.{take-append_seam}
use Rattle.std.proofs.lemmas.Bool.{cases_lt}
use Rattle.std.proofs.lemmas.Bool.Decides.{nat_tests}
use Rattle.std.proofs.lemmas.List.{append-nil, drop_more, get_or-drop}
use Rattle.std.proofs.lemmas.Fmt.{decimal_digit, decimal_nonempty, decimal_injective}
use Rattle.std.specs.Fmt.{decimal}
use Rattle.plain_text.proofs.Decimals.{begins_le, decimal-longer, first_zero, zero_alone}
use Rattle.grid_file.specs.Bytes.{IsDigit, digit_of}
use Rattle.grid_file.specs.Fields.{IsRange, LeavesField, LeavesFieldAt}
use Rattle.grid_file.proofs.Digits.{digits-decimal, GoesOn, run_goes_on}

no_digit : (byte : ℕ) → digit_of byte ≡ None → IsDigit byte → ⊥
no_digit byte e h = grind (arith, nat_tests)

-- a byte is the character of a digit
pub record DigitIs (byte digit : ℕ) : Type 0 where
  pub byte_is : byte ≡ 48 + digit
  pub small : digit < 10

digit_is : (byte digit : ℕ) → digit_of byte ≡ Some digit → DigitIs byte digit
digit_is byte digit e = record { byte_is = grind (arith, nat_tests); small = grind (arith, nat_tests) }

-- the digits of a number stand from `at` to `next`
pub record NumberSoFar (bytes : List ℕ) (at least limit value next : ℕ) : Type 0 where
  pub within : next ≤ length bytes
  pub far : next ≡ at + length (decimal value)
  pub is : drop at bytes ≡ decimal value ++ drop next bytes
  pub high : value < limit
  pub positive : 0 < least → 0 < value

-- the first digit is a number
pub number_first : (bytes : List ℕ) (at least limit digit : ℕ) → digit_of (get_or bytes at 0) ≡ Some digit
    → at < length bytes → digit < limit
    → min least 1 ≤ digit → NumberSoFar bytes at least limit digit (at + 1)
number_first bytes at least limit digit e inside high low =
    let d = digit_is (get_or bytes at 0) digit e in
    let one : decimal digit ≡ (48 + digit) ∷ [] = decimal_digit digit d.small in
    record {
      within = omega arith;
      far = ap (λ n. at + n) (sym (ap length one));
      is = drop_more bytes at 0 inside ∙ ap (λ b. b ∷ drop (at + 1) bytes) d.byte_is
          ∙ ap (λ xs. xs ++ drop (at + 1) bytes) (sym one);
      high = high;
      positive = λ some. grind (arith);
    }

-- one digit more
pub number_more : (bytes : List ℕ) (at least limit value next digit : ℕ) → limit ≤ 1024
    → NumberSoFar bytes at least limit value next
    → digit_of (get_or bytes next 0) ≡ Some digit → next < length bytes → 0 < value → 10 * value + digit < limit
    → NumberSoFar bytes at least limit (10 * value + digit) (next + 1)
number_more bytes at least limit value next digit most h e inside some high =
    let d = digit_is (get_or bytes next 0) digit e in
    let longer = decimal-longer value digit some d.small (omega arith) in
    record {
      within = omega arith;
      far = omega (arith, h.far, ap length longer, length-append (decimal value) ((48 + digit) ∷ []));
      is =
          h.is ∙ ap (λ xs. decimal value ++ xs) (drop_more bytes next 0 inside)
          ∙ ap (λ b. decimal value ++ (b ∷ drop (next + 1) bytes)) d.byte_is
          ∙ sym (append_assoc (decimal value) ((48 + digit) ∷ []) (drop (next + 1) bytes))
          ∙ ap (λ xs. xs ++ drop (next + 1) bytes) (sym longer);
      high = high;
      positive = λ _. omega arith;
    }

large_not : (value digit limit n : ℕ) → 0 < value → (value ≡ 0) ⊎ (limit ≤ 10 * value + digit) → 10 * value + digit ≤ n
    → n < limit → ⊥
large_not value digit limit n some why most high =
    elim why as (λ _. ⊥) [ inl none ↦ omega arith | inr large ↦ omega arith ]

-- no number of the range begins with the first byte
leaves_first : (least limit : ℕ) (bytes : List ℕ) → IsRange least limit
    → ((value : ℕ) → least ≤ value → value < limit → GoesOn (decimal value) [] (get_or bytes 0 0) → ⊥)
    → LeavesField [] least limit bytes 0
leaves_first least limit bytes range none = record {
  within = omega arith;
  begins = (least, decimal least, omega arith, range.some, refl);
  blocked = λ value rest low high ends agrees.
      none value low high
      (run_goes_on (decimal value) rest [] (get_or bytes 0 0) (digits-decimal value (omega (arith, range.most))) tt ends
      refl agrees.there);
}

at_place : (least limit : ℕ) (bytes : List ℕ) (at : ℕ) → LeavesField [] least limit (drop at bytes) 0
    → LeavesFieldAt [] least limit bytes at at
at_place least limit bytes at leaves = record {
  least_place = omega arith;
  leaves = subst (λ n. LeavesField [] least limit (drop at bytes) n) (sym (sub_self at)) leaves;
}

first_byte : (bytes : List ℕ) (at : ℕ) → get_or (drop at bytes) 0 0 ≡ get_or bytes at 0
first_byte bytes at = get_or-drop at bytes 0 0 ∙ ap (λ i. get_or bytes i 0) (add-zero at)

-- the bytes leave the number where no digit is
pub leaves_no_digit : (bytes : List ℕ) (at least limit : ℕ) → IsRange least limit → digit_of (get_or bytes at 0) ≡ None
    → LeavesFieldAt [] least limit bytes at at
leaves_no_digit bytes at least limit range e =
    at_place least limit bytes at
    (leaves_first least limit (drop at bytes) range (λ value low high goes.
    let none = goes.ends (λ digit. no_digit (get_or bytes at 0) e (subst IsDigit (first_byte bytes at) digit)) in
    omega (arith, ap length none, decimal_nonempty value (omega (arith, range.most)))))

is_digit : (byte digit : ℕ) → DigitIs byte digit → IsDigit byte
is_digit byte digit h = (omega (arith, h.byte_is), omega (arith, h.byte_is, h.small))

-- they leave it where the first digit begins no number of the range
pub leaves_first_digit : (bytes : List ℕ) (at least limit digit : ℕ) → IsRange least limit
    → digit_of (get_or bytes at 0) ≡ Some digit
    → (digit < min least 1) ⊎ (limit ≤ digit) → LeavesFieldAt [] least limit bytes at at
leaves_first_digit bytes at least limit digit range e why =
    let d = digit_is (get_or bytes at 0) digit e in
    at_place least limit bytes at
    (leaves_first least limit (drop at bytes) range (λ value low high goes.
    let byte : get_or (drop at bytes) 0 0 ≡ 48 + digit = first_byte bytes at ∙ d.byte_is in
    let (rest, is) = goes.more (subst IsDigit (sym (first_byte bytes at)) (is_digit (get_or bytes at 0) digit d)) in
    let begins : decimal value ≡ (48 + digit) ∷ rest = is ∙ ap (λ b. b ∷ rest) byte in
    elim why as (λ _. ⊥) [
      | inr large ↦
          let most = begins_le digit value rest (omega (arith, d.small)) (omega (arith, range.most))
          (begins ∙ ap (λ xs. xs ++ rest) (sym (decimal_digit digit d.small))) in
          omega arith
      | inl h ↦
          let nought : digit ≡ 0 = omega (arith, min-le_right least 1) in
          let none = first_zero value rest (omega (arith, range.most)) (begins ∙ ap (λ n. (48 + n) ∷ rest) nought) in
          omega (arith, min-le_left least 1)
    ]))

-- a number of the range begins with the digits so far
begins_some : (bytes : List ℕ) (at least limit value next : ℕ) → IsRange least limit → NumberSoFar bytes at least limit value next
    → (n : ℕ) × (rest : List ℕ) × (least ≤ n) × (n < limit) × (decimal n ≡ decimal value ++ rest)
begins_some bytes at least limit value next range h =
    elim (cases_lt value least) as (λ _. (n : ℕ) × (rest : List ℕ) × (least ≤ n) × (n < limit)
    × (decimal n ≡ decimal value ++ rest)) [
      | inl small ↦
          let some = h.positive (omega arith) in (
            10 * value + 0,
            48 ∷ [],
            omega (arith, range.short),
            omega (arith, range.longer),
            decimal-longer value 0 some
                (omega arith) (omega (arith, range.most, h.high)),
          )
      | inr low ↦ (value, [], low, h.high, sym (append-nil (decimal value)))
    ]

-- none goes on with the next byte
leaves_next : (bytes : List ℕ) (at least limit value next : ℕ) → IsRange least limit → NumberSoFar bytes at least limit value next
    → ((n : ℕ) → least ≤ n → n < limit → GoesOn (decimal n) (decimal value) (get_or bytes next 0) → ⊥)
    → LeavesFieldAt [] least limit bytes at next
leaves_next bytes at least limit value next range h none =
    let front = decimal value in
    let here : next - at ≡ length front = omega (arith, h.far) in
    let size = length-append front (drop next bytes) in
    let taken : take (length front) (drop at bytes) ≡ front = ap (take (length front)) h.is
    ∙ take-append_seam front (drop next bytes) in
    let byte : get_or (drop at bytes) (length front) 0 ≡ get_or bytes next 0 =
    get_or-drop at bytes (length front) 0 ∙ ap (λ i. get_or bytes i 0) (sym h.far) in
    let leaves : LeavesField [] least limit (drop at bytes) (length front) = record {
      within = omega (arith, ap length h.is);
      begins =
          let (n, rest, low, high, is) = begins_some bytes at least limit value next range h in
          (n, rest, low, high, is ∙ ap (λ xs. xs ++ rest) (sym taken));
      blocked = λ n rest low high ends agrees.
          none n low high
          (run_goes_on (decimal n) rest front (get_or bytes next 0) (digits-decimal n (omega (arith, range.most)))
          (digits-decimal value (omega (arith, range.most, h.high)))
          ends (agrees.before ∙ taken) (agrees.there ∙ byte));
    } in
    record {
      least_place = omega (arith, h.far);
      leaves = subst (λ m. LeavesField [] least limit (drop at bytes) m)
          (sym here) leaves;
    }

-- they leave it where the digits end too early
pub leaves_small : (bytes : List ℕ) (at least limit value next : ℕ) → IsRange least limit
    → NumberSoFar bytes at least limit value next
    → digit_of (get_or bytes next 0) ≡ None → value < least → LeavesFieldAt [] least limit bytes at next
leaves_small bytes at least limit value next range h e small =
    leaves_next bytes at least limit value next range h (λ n low high goes.
    let same = decimal_injective n value (omega (arith, range.most)) (omega (arith, range.most, h.high))
    (goes.ends (no_digit (get_or bytes next 0) e)) in
    omega arith)

-- they leave it where one digit comes too many
pub leaves_digit : (bytes : List ℕ) (at least limit value next digit : ℕ) → IsRange least limit
    → NumberSoFar bytes at least limit value next
    → digit_of (get_or bytes next 0) ≡ Some digit → (value ≡ 0) ⊎ (limit ≤ 10 * value + digit)
    → LeavesFieldAt [] least limit bytes at next
leaves_digit bytes at least limit value next digit range h e why =
    let d = digit_is (get_or bytes next 0) digit e in
    leaves_next bytes at least limit value next range h (λ n low high goes.
    let (rest, is) = goes.more (is_digit (get_or bytes next 0) digit d) in
    elim (cases_lt 0 value) as (λ _. ⊥) [
      | inl some ↦
          let longer = decimal-longer value digit some d.small (omega (arith, d.small, h.high, range.most)) in
          let begins : decimal n ≡ decimal (10 * value + digit) ++ rest =
          is ∙ ap (λ b. decimal value ++ b ∷ rest) d.byte_is ∙ sym (append_assoc (decimal value) ((48 + digit) ∷ []) rest)
          ∙ ap (λ xs. xs ++ rest) (sym longer) in
          let most = begins_le (10 * value + digit) n rest (omega (arith, d.small, h.high, range.most))
          (omega (arith, range.most)) begins in
          large_not value digit limit n some why (omega arith) high
      | inr none ↦
          let nought : value ≡ 0 = omega arith in
          zero_alone n (get_or bytes next 0) rest (omega (arith, range.most))
          (is ∙ ap (λ m. decimal m ++ get_or bytes next 0 ∷ rest) nought)
    ])

-- of two facts, the second after the denial of the first, one holds
pub first_of_two : {A N B : Type 0} → A ⊎ (N × B) → A ⊎ B
first_of_two (inl a) = inl a
first_of_two (inr b) = inr b.1

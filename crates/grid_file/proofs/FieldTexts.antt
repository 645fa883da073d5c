-- Texts that begin with a word and a number.
use Rattle.std.proofs.Common.{◌≡◌, ℕ, ◌+◌, ◌-◌, ◌^◌, ◌<◌, ◌≤◌, List, ◌++◌, length, take, drop, refl, sym, ◌∙◌, ap}
use Rattle.std.proofs.Common.{subst, arith, append_assoc}
use Rattle.std.proofs.lemmas.List.{append_cancel_left, length-take-le, get_or_append_left, get_or-take}
use Rattle.std.proofs.lemmas.Fmt.{decimal_injective}
use Rattle.std.specs.Fmt.{decimal}
use Rattle.grid_file.specs.Bytes.{IsDigit}
use Rattle.grid_file.specs.Fields.{EndsNumber, AgreesPast, IsField, LeavesField, LeavesFieldAt}
use Rattle.grid_file.specs.LeavingPlace.{LeavesAt}
use Rattle.grid_file.proofs.Leaving.{leaves_at, leaves_after}
use Rattle.grid_file.proofs.Digits.{digits-decimal, runs_same}

-- a word, a number of this range, and then a text of the set of that number
pub record InField (word : List ℕ) (least limit : ℕ) (IsRest : ℕ → List ℕ → Type 0) (text : List ℕ) : Type 0 where
  pub value : ℕ
  pub rest : List ℕ
  pub low : least ≤ value
  pub high : value < limit
  pub is : word ++ decimal value ++ rest ≡ text
  pub more : IsRest value rest

-- each number of the range has a text that may follow it, and none begins with a digit
pub record MayFollow (least limit : ℕ) (IsRest : ℕ → List ℕ → Type 0) : Type 0 where
  pub some : (value : ℕ) → least ≤ value → value < limit → (rest : List ℕ) × IsRest value rest
  pub other : (value : ℕ) (rest : List ℕ) → least ≤ value → value < limit → IsRest value rest → EndsNumber rest

begins_as : (n : ℕ) (bytes rest : List ℕ) → 0 < n → n ≤ length bytes → EndsNumber bytes → EndsNumber (take n bytes ++ rest)
begins_as n bytes rest some most ends digit =
    let size : length (take n bytes) ≡ n = length-take-le n bytes most in
    let here = get_or_append_left (take n bytes) rest 0 0 (omega arith) ∙ get_or-take n bytes 0 0 some in
    ends (subst IsDigit here digit)

-- the texts with a word, a number of a range, and what may follow it
module _ (word : List ℕ) (least limit : ℕ) (IsRest : ℕ → List ℕ → Type 0) where
  -- the bytes leave the texts where they leave the field
  pub leaves_field : (bytes : List ℕ) (place : ℕ) → MayFollow least limit IsRest
      → LeavesField word least limit bytes place → LeavesAt (InField word least limit IsRest) bytes place
  leaves_field bytes place may leaves =
      let (value, left, low, high, begins) = leaves.begins in
      let (rest, is) = may.some value low high in
      leaves_at (InField word least limit IsRest) bytes place leaves.within (
        left ++ rest,
        record {
          value = value;
          rest = rest;
          low = low;
          high = high;
          is = ap (λ xs. xs ++ rest) begins ∙ append_assoc (take place bytes) left rest;
          more = is;
        },
      )
      (λ text within agrees.
      leaves.blocked within.value within.rest within.low within.high
      (may.other within.value within.rest within.low within.high within.more)
      (subst (λ t. AgreesPast place t bytes) (sym within.is) agrees))

  -- the field before other bytes that end the number is the one that was read
  same_field : (value : ℕ) (bytes : List ℕ) → limit < 2 ^ 64 → MayFollow least limit IsRest
      → value < limit → EndsNumber bytes → InField word least limit IsRest (word ++ decimal value ++ bytes) → IsRest value bytes
  same_field value bytes small may high ends within =
      let e : decimal within.value ++ within.rest ≡ decimal value ++ bytes =
      append_cancel_left word (decimal within.value ++ within.rest) (decimal value ++ bytes)
      (sym (append_assoc word (decimal within.value) within.rest) ∙ within.is ∙ append_assoc word (decimal value) bytes) in
      let other = may.other within.value within.rest within.low within.high within.more in
      let (digits, rest) = runs_same (decimal within.value) (decimal value) within.rest bytes
      (digits-decimal within.value (omega (arith, within.high))) (digits-decimal value (omega arith)) other ends e in
      let number : within.value ≡ value =
      decimal_injective within.value value (omega (arith, within.high)) (omega arith) digits in
      subst (λ n. IsRest n bytes) number (subst (λ r. IsRest within.value r) rest within.more)

  -- the bytes leave the texts behind the field that they have
  pub leaves_after_field : (value : ℕ) (bytes : List ℕ) (place : ℕ) → limit < 2 ^ 64
      → MayFollow least limit IsRest → least ≤ value → value < limit → EndsNumber bytes → LeavesAt (IsRest value) bytes place
      → LeavesAt (InField word least limit IsRest) (word ++ decimal value ++ bytes) (length (word ++ decimal value) + place)
  leaves_after_field value bytes place small may low high ends =
      leaves_after (InField word least limit IsRest) (IsRest value) (word ++ decimal value) bytes place
      (record {
        into = λ text is. record { value = value; rest = text; low = low; high = high; is = refl; more = is };
        back = λ n rest some most within.
            same_field value (take n bytes ++ rest) small may high (begins_as n bytes rest some most ends) within;
        whole = λ within. same_field value bytes small may high ends within;
      })

  -- by places of the whole bytes
  pub leaves_field_at : (bytes : List ℕ) (at place : ℕ) → MayFollow least limit IsRest
      → LeavesFieldAt word least limit bytes at place → LeavesAt (InField word least limit IsRest) (drop at bytes) (place - at)
  leaves_field_at bytes at place may leaves =
      leaves_field (drop at bytes) (place - at) may leaves.leaves

  -- behind the field that they have, they leave the texts where they leave what may follow it
  pub leaves_after_field_at : (bytes : List ℕ) (at value next place : ℕ) → limit < 2 ^ 64
      → MayFollow least limit IsRest → IsField word bytes at least limit value next → next ≤ place
      → LeavesAt (IsRest value) (drop next bytes) (place - next)
      → LeavesAt (InField word least limit IsRest) (drop at bytes) (place - at)
  leaves_after_field_at bytes at value next place small may field far leaves =
      let later = leaves_after_field value (drop next bytes) (place - next) small may field.low field.high field.ends leaves in
      let here : length (word ++ decimal value) + (place - next) ≡ place - at = omega (arith, field.far) in
      subst (λ n. LeavesAt (InField word least limit IsRest) (drop at bytes) n) here
      (subst (λ b. LeavesAt (InField word least limit IsRest) b (length (word ++ decimal value) + (place - next)))
      (sym field.is) later)

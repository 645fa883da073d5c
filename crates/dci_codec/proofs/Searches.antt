-- What a search finds: the first number of a range that passes a test, or one of a list, where one does.
use Rattle.std.proofs.Common.{◌≡◌, ℕ, zero, suc, ◌+◌, ◌<◌, ◌≤◌, Bool, true, false, cond, List, [], ◌∷◌, ◌++◌, Option}
use Rattle.std.proofs.Common.{Some, None, option_map, length, map, inl, inr, refl, ap, subst, ◌∙◌, arith}
use Rattle.std.specs.List.{range_with_len, find, All, Contains}
use Rattle.std.proofs.lemmas.Bool.{cases_lt}
use Rattle.std.proofs.lemmas.List.Elements.{All-nil, All-cons, All-append, All-map, Contains-append_left, Contains-append_right}
use Rattle.dci_codec.specs.Answer.{all_bits}
use Rattle.dci_codec.proofs.FieldValues.{mapped}

-- a number is the first of a range that passes
pub record IsFirst (test : ℕ → Bool) (first count at : ℕ) : Type 0 where
  pub least : first ≤ at
  pub below : at < first + count
  pub passes : test at ≡ true
  pub before : (i : ℕ) → first ≤ i → i < at → test i ≡ false

-- what is found in a range
abbrev pub IsSearched : (ℕ → Bool) → ℕ → ℕ → Option ℕ → Type 0
IsSearched test first count None = (i : ℕ) → first ≤ i → i < first + count → test i ≡ false
IsSearched test first count (Some at) = IsFirst test first count at

-- the first number, or a later one, does not pass
fails_at : (test : ℕ → Bool) (first i : ℕ) → test first ≡ false → first ≤ i → (first + 1 ≤ i → test i ≡ false) → test i ≡ false
fails_at test first i e l later =
    let P : ℕ → Type 0 = λ j. test j ≡ false in
    elim (cases_lt first i) [
      | inl m ↦ later (omega (arith, m))
      | inr m ↦ subst P (omega (arith, l, m)) e
    ]

in_later : (test : ℕ → Bool) (first count : ℕ) (found : Option ℕ) → test first ≡ false → IsSearched test (first + 1) count found
    → IsSearched test first (suc count) found
in_later test first count None e h = λ i l m. fails_at test first i e l (λ n. h i n (omega (arith, m)))
in_later test first count (Some at) e h = record {
  least = omega (arith, h.least);
  below = omega (arith, h.below);
  passes = h.passes;
  before = λ i l m. fails_at test first i e l (λ n. h.before i n m);
}

in_range : (test : ℕ → Bool) (first count : ℕ) (passes : Bool) (later : Option ℕ) → test first ≡ passes
    → IsSearched test (first + 1) count later
    → IsSearched test first (suc count) (cond passes (Some first) later)
in_range test first count true later e h = record {
  least = omega arith;
  below = omega arith;
  passes = e;
  before = λ i l m. absurd (omega (arith, l, m));
}
in_range test first count false later e h = in_later test first count later e h

-- a search over a range finds the first that passes
pub searched : (test : ℕ → Bool) (first count : ℕ) → IsSearched test first count (find test (range_with_len first count))
searched test first zero = λ i l m. absurd (omega (arith, l, m))
searched test first (suc count) =
    in_range test first count (test first) (find test (range_with_len (first + 1) count)) refl (searched test (first + 1) count)

kept_by_map : {X Y : Type 0} (f : X → Y) (passes : Bool) (x : X) (later : Option X)
    → cond passes (Some (f x)) (option_map f later) ≡ option_map f (cond passes (Some x) later)
kept_by_map f true x later = refl
kept_by_map f false x later = refl

-- a search over what a function gives
pub find-map : {X Y : Type 0} (test : Y → Bool) (f : X → Y) (xs : List X)
    → find test (map f xs) ≡ option_map f (find (λ x. test (f x)) xs)
find-map test f [] = refl
find-map test f (x ∷ xs) =
    ap (cond (test (f x)) (Some (f x))) (find-map test f xs) ∙ kept_by_map f (test (f x)) x (find (λ x. test (f x)) xs)

-- an element of a list passes
pub record IsOne {X : Type 0} (test : X → Bool) (xs : List X) (x : X) : Type 0 where
  pub among : Contains xs x
  pub passes : test x ≡ true

-- what is found in a list
abbrev pub IsFound : {X : Type 0} → (X → Bool) → List X → Option X → Type 0
IsFound test xs None = All (λ x. test x ≡ false) xs
IsFound test xs (Some x) = IsOne test xs x

in_rest : {X : Type 0} (test : X → Bool) (y : X) (ys : List X) (found : Option X) → test y ≡ false → IsFound test ys found
    → IsFound test (y ∷ ys) found
in_rest test y ys None e h = All-cons (λ x. test x ≡ false) y ys e h
in_rest test y ys (Some x) e h = record { among = Contains-append_right (y ∷ []) ys x h.among; passes = h.passes }

in_list : {X : Type 0} (test : X → Bool) (y : X) (ys : List X) (passes : Bool) (later : Option X) → test y ≡ passes
    → IsFound test ys later
    → IsFound test (y ∷ ys) (cond passes (Some y) later)
in_list test y ys true later e h = record { among = (0, omega arith, refl); passes = e }
in_list test y ys false later e h = in_rest test y ys later e h

-- a search over a list finds an element that passes
pub found : {X : Type 0} (test : X → Bool) (xs : List X) → IsFound test xs (find test xs)
found test [] = All-nil (λ x. test x ≡ false)
found test (y ∷ ys) = in_list test y ys (test y) (find test ys) refl (found test ys)

-- each list of n bits is among all of them
pub bits_among : (n : ℕ) (bits : List Bool) → length bits ≡ n → Contains (all_bits n) bits
unfolding all_bits
bits_among zero [] h = (0, omega arith, refl)
bits_among zero (bit ∷ bits) h = absurd (omega (arith, h))
bits_among (suc n) [] h = absurd (omega (arith, h))
bits_among (suc n) (false ∷ bits) h =
    Contains-append_left (map (λ (bits : List Bool). false ∷ bits) (all_bits n))
    (map (λ (bits : List Bool). true ∷ bits) (all_bits n) ++ []) (false ∷ bits)
    (mapped (λ (bits : List Bool). false ∷ bits) (all_bits n) bits (bits_among n bits (omega (arith, h))))
bits_among (suc n) (true ∷ bits) h =
    Contains-append_right (map (λ (bits : List Bool). false ∷ bits) (all_bits n))
    (map (λ (bits : List Bool). true ∷ bits) (all_bits n) ++ []) (true ∷ bits)
    (Contains-append_left (map (λ (bits : List Bool). true ∷ bits) (all_bits n)) [] (true ∷ bits)
    (mapped (λ (bits : List Bool). true ∷ bits) (all_bits n) bits (bits_among n bits (omega (arith, h)))))

one_longer : (n : ℕ) (bit : Bool) → All (λ (bits : List Bool). length bits ≡ n) (all_bits n)
    → All (λ (bits : List Bool). length bits ≡ suc n) (map (λ (bits : List Bool). bit ∷ bits) (all_bits n))
one_longer n bit h =
    All-map (λ (bits : List Bool). length bits ≡ suc n) (λ (bits : List Bool). bit ∷ bits) (all_bits n)
    (λ k d l. omega (arith, h k d l))

-- and each of them has n bits
pub length-all_bits : (n : ℕ) → All (λ (bits : List Bool). length bits ≡ n) (all_bits n)
unfolding all_bits
length-all_bits zero =
    All-cons (λ (bits : List Bool). length bits ≡ 0) [] [] refl (All-nil (λ (bits : List Bool). length bits ≡ 0))
length-all_bits (suc n) =
    let long : List Bool → Type 0 = λ bits. length bits ≡ suc n in
    let all : List (List Bool) = all_bits n in
    All-append long (map (λ (bits : List Bool). false ∷ bits) all) (map (λ (bits : List Bool). true ∷ bits) all ++ [])
    (one_longer n false (length-all_bits n))
    (All-append long (map (λ (bits : List Bool). true ∷ bits) all) [] (one_longer n true (length-all_bits n)) (All-nil long))

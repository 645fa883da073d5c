-- Lists that a function makes of numbers in order.
use Rattle.std.proofs.Common.{◌≡◌, ℕ, ◌+◌, ◌-◌, ◌<◌, ◌≤◌, List, [], ◌∷◌, ◌++◌, map, length, refl, ap, sym, ◌∙◌, arith}
use Rattle.std.specs.List.{range_with_len, sum, sum_by, slice_range}
use Rattle.std.proofs.lemmas.List.{same_lists, append_assoc}
use Rattle.std.proofs.lemmas.List.Edits.{get_or-between, length-between}
use Rattle.std.proofs.lemmas.List.FromFn.{length-map-range_with_len, get_or-map-range_with_len, map-range_with_len_more}
use Rattle.std.proofs.lemmas.List.Sums.{sum-map}

-- one number more
pub made_more : {X : Type 0} (f : ℕ → X) (n : ℕ) {old new : List X} {x : X} → old ≡ map f (range_with_len 0 n)
    → new ≡ old ++ x ∷ [] → x ≡ f n
    → new ≡ map f (range_with_len 0 (n + 1))
made_more {X} f n {old} {new} {x} e a h =
    a ∙ ap (λ (xs : List X). xs ++ x ∷ []) e ∙ ap (λ (y : X). map f (range_with_len 0 n) ++ y ∷ []) h
    ∙ sym (map-range_with_len_more f 0 n n (omega arith))

-- the same behind what was there
pub made_behind : {X : Type 0} (f : ℕ → X) (n : ℕ) (first : List X) {old new : List X} {x : X}
    → old ≡ first ++ map f (range_with_len 0 n) → new ≡ old ++ x ∷ [] → x ≡ f n
    → new ≡ first ++ map f (range_with_len 0 (n + 1))
made_behind {X} f n first {old} {new} {x} e a h =
    a ∙ ap (λ (xs : List X). xs ++ x ∷ []) e ∙ append_assoc first (map f (range_with_len 0 n)) (x ∷ [])
    ∙ ap (λ (xs : List X). first ++ xs)
    (made_more f n refl refl h)

-- functions that agree on the numbers make the same list
pub made_same : {X : Type 0} (f g : ℕ → X) (a b n : ℕ) → ((i : ℕ) → i < n → f (a + i) ≡ g (b + i))
    → map f (range_with_len a n) ≡ map g (range_with_len b n)
made_same f g a b n same =
    same_lists (map f (range_with_len a n)) (map g (range_with_len b n))
    (length-map-range_with_len f a n ∙ sym (length-map-range_with_len g b n)) (λ k d h.
    let l : k < n = omega (arith, h, length-map-range_with_len f a n) in
    get_or-map-range_with_len f a n k (a + k) d l refl ∙ same k l ∙ sym (get_or-map-range_with_len g b n k (b + k) d l refl))

-- a part of such a list is made of a part of the numbers
pub part_made : {X : Type 0} (f : ℕ → X) (n i j : ℕ) → i ≤ j → j ≤ n
    → slice_range (map f (range_with_len 0 n)) i j ≡ map f (range_with_len i (j - i))
part_made f n i j h l =
    let xs = map f (range_with_len 0 n) in
    let all = length-map-range_with_len f 0 n in
    let count : length (slice_range xs i j) ≡ j - i = length-between xs i j (omega (arith, all, l)) in
    same_lists (slice_range xs i j) (map f (range_with_len i (j - i))) (count ∙ sym (length-map-range_with_len f i (j - i)))
    (λ k d m.
    let within : k < j - i = omega (arith, m, count) in
    get_or-between xs i j k d (omega (arith, within))
    ∙ get_or-map-range_with_len f 0 n (i + k) (i + k) d (omega (arith, within, l)) (omega arith)
    ∙ sym (get_or-map-range_with_len f i (j - i) k (i + k) d within refl))

-- sums of functions that agree on the numbers
pub sums_same : {X : Type 0} (g : X → ℕ) (f : ℕ → X) (h : ℕ → ℕ) (a b n : ℕ) → ((i : ℕ) → i < n → g (f (a + i)) ≡ h (b + i))
    → sum_by g (map f (range_with_len a n)) ≡ sum_by h (range_with_len b n)
sums_same {X = X} g f h a b n same =
    sym (sum-map g (map f (range_with_len a n))) ∙ ap sum (map_twice (range_with_len a n))
    ∙ ap sum (made_same (λ k. g (f k)) h a b n same) ∙ sum-map h (range_with_len b n)
  where
    map_twice : (xs : List ℕ) → map g (map f xs) ≡ map (λ k. g (f k)) xs
    map_twice [] = refl
    map_twice (x ∷ xs) = ap (λ ys. g (f x) ∷ ys) (map_twice xs)

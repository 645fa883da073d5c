-- Elements of lists, and of the lists that are made of them.
use Rattle.std.proofs.Common.{◌≡◌, ℕ, zero, suc, ◌+◌, ◌<◌, ◌≤◌, ◌⊎◌, inl, inr, Bool, true, false, cond, List, [], ◌∷◌}
use Rattle.std.proofs.Common.{◌++◌, map, length, get_or, refl, sym, ◌∙◌, ap, subst, arith, Contains}
use Rattle.std.proofs.Math.Nat.{eq-or-lt_of_le}
use Rattle.std.specs.List.{range_with_len, flat_map, filter}

-- an element of a list
abbrev pub IsIn : {A : Type 0} → A → List A → Type 0
IsIn a [] = ⊥
IsIn a (x ∷ xs) = (a ≡ x) ⊎ IsIn a xs

-- an element of two lists joined is one of either
pub in_append : {A : Type 0} (a : A) (xs ys : List A) → IsIn a (xs ++ ys) → IsIn a xs ⊎ IsIn a ys
in_append a [] ys h = inr h
in_append a (x ∷ xs) ys (inl e) = inl (inl e)
in_append a (x ∷ xs) ys (inr h) =
    elim (in_append a xs ys h) as (λ _. IsIn a (x ∷ xs) ⊎ IsIn a ys) [ inl k ↦ inl (inr k) | inr k ↦ inr k ]

-- an element of the first is one of both
pub append_left_in : {A : Type 0} (a : A) (xs ys : List A) → IsIn a xs → IsIn a (xs ++ ys)
append_left_in a [] ys h = absurd h
append_left_in a (x ∷ xs) ys (inl e) = inl e
append_left_in a (x ∷ xs) ys (inr h) = inr (append_left_in a xs ys h)

-- and so is one of the second
pub append_right_in : {A : Type 0} (a : A) (xs ys : List A) → IsIn a ys → IsIn a (xs ++ ys)
append_right_in a [] ys h = h
append_right_in a (x ∷ xs) ys h = inr (append_right_in a xs ys h)

-- an element of a mapped list comes of one of the list
pub in_map : {A B : Type 0} (f : A → B) (b : B) (xs : List A) → IsIn b (map f xs) → (a : A) × IsIn a xs × (b ≡ f a)
in_map f b [] h = absurd h
in_map f b (x ∷ xs) (inl e) = (x, inl refl, e)
in_map f b (x ∷ xs) (inr h) = let (a, k, e) = in_map f b xs h in (a, inr k, e)

-- an element of the list gives one of the mapped list
pub map_in : {A B : Type 0} (f : A → B) (a : A) (xs : List A) → IsIn a xs → IsIn (f a) (map f xs)
map_in f a [] h = absurd h
map_in f a (x ∷ xs) (inl e) = inl (ap f e)
map_in f a (x ∷ xs) (inr h) = inr (map_in f a xs h)

-- an element of joined lists is one of what comes of an element
pub in_flat_map : {A B : Type 0} (f : A → List B) (b : B) (xs : List A) → IsIn b (flat_map f xs)
    → (a : A) × IsIn a xs × IsIn b (f a)
in_flat_map f b [] h = absurd h
in_flat_map {A = A} f b (x ∷ xs) h =
    elim (in_append b (f x) (flat_map f xs) h) as (λ _. (a : A) × IsIn a (x ∷ xs) × IsIn b (f a)) [
      | inl k ↦ (x, inl refl, k)
      | inr k ↦ let (a, i, m) = in_flat_map f b xs k in (a, inr i, m)
    ]

-- an element of what comes of an element is one of the joined lists
pub flat_map_in : {A B : Type 0} (f : A → List B) (a : A) (b : B) (xs : List A) → IsIn a xs → IsIn b (f a)
    → IsIn b (flat_map f xs)
flat_map_in f a b [] h k = absurd h
flat_map_in f a b (x ∷ xs) (inl e) k = append_left_in b (f x) (flat_map f xs) (subst (λ y. IsIn b (f y)) e k)
flat_map_in f a b (x ∷ xs) (inr h) k = append_right_in b (f x) (flat_map f xs) (flat_map_in f a b xs h k)

in_filter_cond : {A : Type 0} (p : A → Bool) (t : Bool) (a x : A) (xs : List A) → p x ≡ t
    → (IsIn a (filter p xs) → IsIn a xs × (p a ≡ true)) → IsIn a (cond t (x ∷ filter p xs) (filter p xs))
    → IsIn a (x ∷ xs) × (p a ≡ true)
in_filter_cond p true a x xs e later (inl same) = (inl same, ap p same ∙ e)
in_filter_cond p true a x xs e later (inr h) = let (i, q) = later h in (inr i, q)
in_filter_cond p false a x xs e later h = let (i, q) = later h in (inr i, q)

-- an element that a test let through is one of the list, and passes
pub in_filter : {A : Type 0} (p : A → Bool) (a : A) (xs : List A) → IsIn a (filter p xs) → IsIn a xs × (p a ≡ true)
in_filter p a [] h = absurd h
in_filter p a (x ∷ xs) h = in_filter_cond p (p x) a x xs refl (in_filter p a xs) h

filter_cond_in : {A : Type 0} (p : A → Bool) (t : Bool) (a x : A) (xs : List A) → p x ≡ t
    → (IsIn a xs → IsIn a (filter p xs)) → IsIn a (x ∷ xs) → p a ≡ true → IsIn a (cond t (x ∷ filter p xs) (filter p xs))
filter_cond_in p true a x xs e later (inl same) q = inl same
filter_cond_in p true a x xs e later (inr h) q = inr (later h)
filter_cond_in p false a x xs e later (inl same) q = absurd (let f : false ≡ true = sym e ∙ (ap p (sym same) ∙ q) in cc)
filter_cond_in p false a x xs e later (inr h) q = later h

-- an element that passes is let through
pub filter_in : {A : Type 0} (p : A → Bool) (a : A) (xs : List A) → IsIn a xs → p a ≡ true → IsIn a (filter p xs)
filter_in p a [] h q = absurd h
filter_in p a (x ∷ xs) h q = filter_cond_in p (p x) a x xs refl (λ k. filter_in p a xs k q) h q

-- an element of a range is a number in it
pub in_range : (a s n : ℕ) → IsIn a (range_with_len s n) → (s ≤ a) × (a < s + n)
in_range a s zero h = absurd h
in_range a s (suc n) (inl e) = (omega (arith, e), omega (arith, e))
in_range a s (suc n) (inr h) = let (l, m) = in_range a (s + 1) n h in (omega (arith, l), omega (arith, m))

range_in_cases : (a s n : ℕ) → (s + 1 ≤ a → a < s + 1 + n → IsIn a (range_with_len (s + 1) n)) → s ≤ a → a < s + suc n
    → (s ≡ a) ⊎ (s < a) → IsIn a (range_with_len s (suc n))
range_in_cases a s n later l m (inl e) = inl (sym e)
range_in_cases a s n later l m (inr h) = inr (later (omega arith) (omega arith))

-- a number in a range is an element of it
pub range_in : (a s n : ℕ) → s ≤ a → a < s + n → IsIn a (range_with_len s n)
range_in a s zero l m = absurd (omega arith)
range_in a s (suc n) l m = range_in_cases a s n (range_in a (s + 1) n) l m (eq-or-lt_of_le l)

-- by an element's place
pub at_in : {A : Type 0} (xs : List A) (k : ℕ) (d : A) → k < length xs → IsIn (get_or xs k d) xs
at_in [] k d h = absurd (omega arith)
at_in (x ∷ xs) zero d h = inl refl
at_in (x ∷ xs) (suc k) d h = inr (at_in xs k d (omega arith))

-- an element stands at a place
pub in_at : {A : Type 0} (a : A) (xs : List A) (d : A) → IsIn a xs → (k : ℕ) × (k < length xs) × (get_or xs k d ≡ a)
in_at a [] d h = absurd h
in_at a (x ∷ xs) d (inl e) = (0, omega arith, sym e)
in_at a (x ∷ xs) d (inr h) = let (k, l, e) = in_at a xs d h in (suc k, omega (arith, l), e)

-- std's word says the same
pub in_contains : {A : Type 0} (a : A) (xs : List A) → Contains xs a → IsIn a xs
in_contains a xs (k, l, e) = subst (λ x. IsIn x xs) e (at_in xs k a l)

-- in either direction
pub contains_in : {A : Type 0} (a : A) (xs : List A) → IsIn a xs → Contains xs a
contains_in a xs h = in_at a xs a h

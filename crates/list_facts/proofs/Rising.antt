-- Lists in a strict order: each element is before all later ones. Two such lists of the same elements are one list.
use Rattle.std.specs.Prelude.{⊤}
use Rattle.std.proofs.Common.{◌≡◌, ℕ, zero, suc, ◌+◌, ◌<◌, ◌⊎◌, inl, inr, Bool, true, false, cond, List, [], ◌∷◌, ◌++◌}
use Rattle.std.proofs.Common.{map, length, get_or, refl, sym, ◌∙◌, ap, subst, arith}
use Rattle.std.specs.List.{range_with_len, flat_map, filter}
use Rattle.list_facts.proofs.Members.{IsIn, in_append, in_map, in_flat_map, in_filter, in_range, at_in, in_at}

-- each element is before all later ones
abbrev pub Rising : {A : Type 0} → (A → A → Type 0) → List A → Type 0
Rising lt [] = ⊤
Rising {A} lt (x ∷ xs) = ((y : A) → IsIn y xs → lt x y) × Rising lt xs

-- an order in which nothing is before itself, nor after what is after it
pub record IsStrict {A : Type 0} (lt : A → A → Type 0) : Type 0 where
  pub itself : (a : A) → lt a a → ⊥
  pub turned : (a b : A) → lt a b → lt b a → ⊥

-- two lists in order, each element of the first before each of the second
pub rising-append : {A : Type 0} (lt : A → A → Type 0) (xs ys : List A) → Rising lt xs → Rising lt ys
    → ((a b : A) → IsIn a xs → IsIn b ys → lt a b) → Rising lt (xs ++ ys)
rising-append lt [] ys r s h = s
rising-append {A} lt (x ∷ xs) ys (first, later) s h = (
  λ y i. elim (in_append y xs ys i) as (λ _. lt x y) [ inl k ↦ first y k | inr k ↦ h x y (inl refl) k ],
  rising-append lt xs ys later s (λ a b i j. h a b (inr i) j),
)

-- a list mapped so that what is in order stays in order
pub rising-map : {A B : Type 0} (R : A → A → Type 0) (lt : B → B → Type 0) (f : A → B) (xs : List A)
    → ((a b : A) → R a b → lt (f a) (f b)) → Rising R xs → Rising lt (map f xs)
rising-map R lt f [] h r = tt
rising-map R lt f (x ∷ xs) h (first, later) = (
  λ y i. let (a, k, e) = in_map f y xs i in subst (λ z. lt (f x) z) (sym e) (h x a (first a k)),
  rising-map R lt f xs h later,
)

rising_filter_cond : {A : Type 0} (lt : A → A → Type 0) (p : A → Bool) (t : Bool) (x : A) (xs : List A)
    → ((y : A) → IsIn y xs → lt x y) → Rising lt (filter p xs) → Rising lt (cond t (x ∷ filter p xs) (filter p xs))
rising_filter_cond lt p true x xs first later = (λ y i. first y (in_filter p y xs i).0, later)
rising_filter_cond lt p false x xs first later = later

-- what a test let through of a list in order
pub rising-filter : {A : Type 0} (lt : A → A → Type 0) (p : A → Bool) (xs : List A) → Rising lt xs → Rising lt (filter p xs)
rising-filter lt p [] r = tt
rising-filter lt p (x ∷ xs) (first, later) = rising_filter_cond lt p (p x) x xs first (rising-filter lt p xs later)

-- joined lists, each in order, that come of a list in order
pub rising-flat_map : {A B : Type 0} (R : A → A → Type 0) (lt : B → B → Type 0) (f : A → List B) (xs : List A) → Rising R xs
    → ((a : A) → IsIn a xs → Rising lt (f a))
    → ((a b : A) (x y : B) → IsIn a xs → IsIn b xs → R a b → IsIn x (f a) → IsIn y (f b) → lt x y) → Rising lt (flat_map f xs)
rising-flat_map R lt f [] r each h = tt
rising-flat_map R lt f (x ∷ xs) (first, later) each h =
    rising-append lt (f x) (flat_map f xs) (each x (inl refl))
    (rising-flat_map R lt f xs later (λ a i. each a (inr i)) (λ a b u v i j. h a b u v (inr i) (inr j)))
    (λ a b i j. let (c, k, m) = in_flat_map f b xs j in h x c a b (inl refl) (inr k) (first c k) i m)

-- a range
pub rising-range : (s n : ℕ) → Rising (λ a b. a < b) (range_with_len s n)
rising-range s zero = tt
rising-range s (suc n) = (λ y i. let (l, m) = in_range y (s + 1) n i in omega (arith, l), rising-range (s + 1) n)

-- the first of each list is in the other, and so they are one
heads : {A : Type 0} (lt : A → A → Type 0) → IsStrict lt → (x y : A) → (x ≡ y) ⊎ lt y x → (y ≡ x) ⊎ lt x y → x ≡ y
heads lt o x y (inl e) k = e
heads lt o x y (inr h) (inl e) = sym e
heads lt o x y (inr h) (inr k) = absurd (o.turned x y k h)

place_of : {A : Type 0} (lt : A → A → Type 0) (x y : A) (ys : List A) → ((b : A) → IsIn b ys → lt y b) → IsIn x (y ∷ ys)
    → (x ≡ y) ⊎ lt y x
place_of lt x y ys first (inl e) = inl e
place_of lt x y ys first (inr h) = inr (first x h)

-- what is after the first is not the first
in_rest : {A : Type 0} (lt : A → A → Type 0) → IsStrict lt → (a x y : A) (ys : List A) → x ≡ y → lt x a → IsIn a (y ∷ ys)
    → IsIn a ys
in_rest lt o a x y ys same before (inl e) = absurd (o.itself a (subst (λ z. lt z a) (same ∙ sym e) before))
in_rest lt o a x y ys same before (inr h) = h

-- two lists in order with the same elements are one
pub one_rising : {A : Type 0} (lt : A → A → Type 0) → IsStrict lt → (xs ys : List A) → Rising lt xs → Rising lt ys
    → ((a : A) → IsIn a xs → IsIn a ys) → ((a : A) → IsIn a ys → IsIn a xs) → xs ≡ ys
one_rising lt o [] [] r s there back = refl
one_rising lt o [] (y ∷ ys) r s there back = absurd (back y (inl refl))
one_rising lt o (x ∷ xs) [] r s there back = absurd (there x (inl refl))
one_rising {A} lt o (x ∷ xs) (y ∷ ys) (first, later) (first', later') there back =
    let same : x ≡ y = heads lt o x y (place_of lt x y ys first' (there x (inl refl)))
    (place_of lt y x xs first (back y (inl refl))) in
    let rest : xs ≡ ys = one_rising lt o xs ys later later'
    (λ a i. in_rest lt o a x y ys same (first a i) (there a (inr i)))
    (λ a i. in_rest lt o a y x xs (sym same) (first' a i) (back a (inr i))) in
    ap (λ z. z ∷ xs) same ∙ ap (λ zs. y ∷ zs) rest

-- by place
pub rising-at : {A : Type 0} (lt : A → A → Type 0) (xs : List A) → Rising lt xs
    → (i j : ℕ) (d : A) → i < j → j < length xs → lt (get_or xs i d) (get_or xs j d)
rising-at lt [] r i j d h l = absurd (omega arith)
rising-at lt (x ∷ xs) r i zero d h l = absurd (omega arith)
rising-at lt (x ∷ xs) (first, later) zero (suc j) d h l = first (get_or xs j d) (at_in xs j d (omega arith))
rising-at lt (x ∷ xs) (first, later) (suc i) (suc j) d h l = rising-at lt xs later i j d (omega arith) (omega arith)

-- a list whose elements are in order by place
pub rising-from : {A : Type 0} (lt : A → A → Type 0) (xs : List A)
    → ((i j : ℕ) (d : A) → i < j → j < length xs → lt (get_or xs i d) (get_or xs j d)) → Rising lt xs
rising-from lt [] h = tt
rising-from lt (x ∷ xs) h = (
  λ y i. let (k, l, e) = in_at y xs x i in subst (λ z. lt x z) e (h 0 (suc k) x (omega arith) (omega (arith, l))),
  rising-from lt xs (λ i j d l m. h (suc i) (suc j) d (omega (arith, l)) (omega (arith, m))),
)

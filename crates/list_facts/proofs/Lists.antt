-- Facts on lists that std does not have: the greatest of some numbers, what a search finds, what two lists share, and lists
-- joined of pieces of one length.
use Rattle.std.proofs.Common.{◌≡◌, ℕ, zero, suc, ◌+◌, ◌*◌, ◌<◌, ◌≤◌, max, inl, inr}
use Rattle.std.proofs.Common.{Bool, true, false, cond, Some, List, [], ◌∷◌, length, take}
use Rattle.std.proofs.Common.{get_or, refl, sym, ◌∙◌, ap, subst, arith, zero-add, length-append}
use Rattle.std.specs.Prelude.{◌==◌}
use Rattle.std.specs.List.{fold, find, common_prefix_len, range_with_len, flat_map}
use Rattle.std.proofs.Math.Nat.{zero-mul}
use Rattle.std.proofs.lemmas.Bool.{cases_lt, eqb-true, eq-eqb}
use Rattle.std.proofs.lemmas.List.{length-take-le}
use Rattle.std.proofs.lemmas.List.Concat.{get_or-flat_map, flat_map-cons}
use Rattle.std.proofs.lemmas.List.FromFn.{get_or-range_with_len, length-range_with_len}
use Rattle.list_facts.proofs.Members.{IsIn}

-- the greatest of a number and a list is no smaller than the number
pub start_le : (a : ℕ) (xs : List ℕ) → a ≤ fold max a xs
start_le a [] = omega arith
start_le a (x ∷ xs) = omega (arith, start_le (max a x) xs)

-- nor than an element
pub member_le : (a x : ℕ) (xs : List ℕ) → IsIn x xs → x ≤ fold max a xs
member_le a x [] h = absurd h
member_le a x (y ∷ ys) (inl e) = omega (arith, start_le (max a y) ys)
member_le a x (y ∷ ys) (inr h) = member_le (max a y) x ys h

-- what holds of each of two numbers holds of the greater
one_of_two : (Holds : ℕ → Type 0) (m n : ℕ) → Holds m → Holds n → Holds (max m n)
one_of_two Holds m n h k =
    elim (cases_lt m n) [
      | inl less ↦ (let e : n ≡ max m n = omega arith in subst Holds e k)
      | inr most ↦ (let e : m ≡ max m n = omega arith in subst Holds e h)
    ]

-- what holds of a number and of each element of a list holds of the greatest of them
pub greatest_has : (Holds : ℕ → Type 0) (a : ℕ) (xs : List ℕ) → Holds a → ((x : ℕ) → IsIn x xs → Holds x) → Holds (fold max a xs)
greatest_has Holds a [] h each = h
greatest_has Holds a (x ∷ xs) h each =
    greatest_has Holds (max a x) xs (one_of_two Holds a x h (each x (inl refl))) (λ y i. each y (inr i))

found_case : {X : Type 0} (test : X → Bool) (b : Bool) (y x : X) (ys : List X) → test y ≡ b
    → (find test ys ≡ Some x → IsIn x ys × (test x ≡ true)) → cond b (Some y) (find test ys) ≡ Some x
    → IsIn x (y ∷ ys) × (test x ≡ true)
found_case test true y x ys e later h = let is : y ≡ x = cc in (inl (sym is), ap test (sym is) ∙ e)
found_case test false y x ys e later h = let (i, p) = later h in (inr i, p)

-- what a search finds is an element that passes its test
pub found_passes : {X : Type 0} (test : X → Bool) (xs : List X) (x : X) → find test xs ≡ Some x → IsIn x xs × (test x ≡ true)
found_passes test [] x h = absurd (cc)
found_passes test (y ∷ ys) x h = found_case test (test y) y x ys refl (found_passes test ys x) h

only_case : {X : Type 0} (test : X → Bool) (b : Bool) (y x : X) (ys : List X) → test y ≡ b → IsIn x (y ∷ ys) → test x ≡ true
    → (test y ≡ true → y ≡ x) → (IsIn x ys → find test ys ≡ Some x) → cond b (Some y) (find test ys) ≡ Some x
only_case test true y x ys e i p first later = ap (λ z. Some z) (first e)
only_case test false y x ys e (inl same) p first later = absurd (let f : true ≡ false = sym p ∙ ap test same ∙ e in cc)
only_case test false y x ys e (inr i) p first later = later i

-- the one element that passes a test is what the search finds
pub only_found : {X : Type 0} (test : X → Bool) (xs : List X) (x : X) → IsIn x xs → test x ≡ true
    → ((y : X) → IsIn y xs → test y ≡ true → y ≡ x) → find test xs ≡ Some x
only_found test [] x i p only = absurd i
only_found test (y ∷ ys) x i p only =
    only_case test (test y) y x ys refl i p (only y (inl refl)) (λ j. only_found test ys x j p (λ z k. only z (inr k)))

-- lists that are the same before a place share their elements before it
pub shared_least : (xs ys : List ℕ) (n : ℕ) → n ≤ length xs → n ≤ length ys → ((i : ℕ) → i < n → get_or xs i 0 ≡ get_or ys i 0)
    → n ≤ common_prefix_len ◌==◌ xs ys
shared_least [] ys n h k same = omega arith
shared_least (x ∷ xs) [] n h k same = omega arith
shared_least (x ∷ xs) (y ∷ ys) zero h k same = omega arith
shared_least (x ∷ xs) (y ∷ ys) (suc n) h k same =
    let rest : n ≤ common_prefix_len ◌==◌ xs ys =
    shared_least xs ys n (omega arith) (omega arith) (λ i l. same (suc i) (omega arith)) in
    subst (λ b. suc n ≤ cond b (1 + common_prefix_len ◌==◌ xs ys) 0) (sym (eq-eqb x y (same 0 (omega arith)))) (omega arith)

shared_cons : (b : Bool) (x y n : ℕ) (xs ys : List ℕ) → (b ≡ true → x ≡ y) → take n xs ≡ take n ys
    → take (cond b (1 + n) 0) (x ∷ xs) ≡ take (cond b (1 + n) 0) (y ∷ ys)
shared_cons true x y n xs ys h e =
    let more : 1 + n ≡ suc n = omega arith in
    rw more (ap (λ z. z ∷ take n xs) (h refl) ∙ ap (λ zs. y ∷ zs) e)
shared_cons false x y n xs ys h e = refl

-- the elements that two lists share are the same
pub shared_same : (xs ys : List ℕ) → take (common_prefix_len ◌==◌ xs ys) xs ≡ take (common_prefix_len ◌==◌ xs ys) ys
shared_same [] ys = refl
shared_same (x ∷ xs) [] = refl
shared_same (x ∷ xs) (y ∷ ys) = shared_cons (x == y) x y (common_prefix_len ◌==◌ xs ys) xs ys (eqb-true x y) (shared_same xs ys)

-- pieces of one length are together their number times as long
pub length_pieces : {A B : Type 0} (f : A → List B) (w : ℕ) → ((a : A) → length (f a) ≡ w) → (xs : List A)
    → length (flat_map f xs) ≡ length xs * w
length_pieces f w each [] = sym (zero-mul w)
length_pieces f w each (x ∷ xs) =
    ap length (flat_map-cons f x xs) ∙ length-append (f x) (flat_map f xs) ∙ omega (arith, each x, length_pieces f w each xs)

-- what stands at a place of a piece, where there is one piece of one length for each number of a range
pub piece_at : (f : ℕ → List ℕ) (w n s j : ℕ) → ((i : ℕ) → length (f i) ≡ w) → s < n → j < w
    → get_or (flat_map f (range_with_len 0 n)) (s * w + j) 0 ≡ get_or (f s) j 0
piece_at f w n s j each h k =
    let xs = range_with_len 0 n in
    let size : length xs ≡ n = length-range_with_len 0 n in
    let here : get_or xs s 0 ≡ s = get_or-range_with_len 0 n s 0 h ∙ zero-add s in
    let before : length (flat_map f (take s xs)) ≡ s * w =
    length_pieces f w each (take s xs) ∙ ap (λ m. m * w) (length-take-le s xs (omega arith)) in
    ap (λ i. get_or (flat_map f xs) (i + j) 0) (sym before)
    ∙ get_or-flat_map f xs s j 0 0 (omega arith) (omega (arith, each (get_or xs s 0)))
    ∙ ap (λ i. get_or (f i) j 0) here

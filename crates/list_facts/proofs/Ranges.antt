-- Lists made along a range of numbers, one number more at a time.
use Rattle.std.proofs.Common.{◌≡◌, ℕ, zero, suc, ◌+◌, ◌-◌, ◌≤◌, Bool, true, false, cond, List, [], ◌∷◌, ◌++◌, sym, ◌∙◌, ap, arith}
use Rattle.std.proofs.lemmas.List.{append-nil, append_assoc}
use Rattle.std.proofs.lemmas.List.Elements.{filter-append}
use Rattle.std.proofs.lemmas.Grind.{flat_map-append}
use Rattle.std.specs.List.{range_with_len, flat_map, filter}

-- a range with one number more
pub range_more_from : (s n : ℕ) → range_with_len s (suc n) ≡ range_with_len s n ++ (s + n) ∷ []
range_more_from s zero = ap (λ k. k ∷ []) (omega arith)
range_more_from s (suc n) =
    ap (λ ks. s ∷ ks) (range_more_from (s + 1) n ∙ ap (λ k. range_with_len (s + 1) n ++ k ∷ []) (omega arith))

-- a range from 0 on with one number more
pub range_more : (n : ℕ) → range_with_len 0 (n + 1) ≡ range_with_len 0 n ++ n ∷ []
range_more n = let e : n + 1 ≡ suc n = omega arith in
    ap (λ k. range_with_len 0 k) e ∙ range_more_from 0 n ∙ ap (λ k. range_with_len 0 n ++ k ∷ []) (omega arith)

-- what comes of each number, one number more
pub flat_map_range_more : {A : Type 0} (f : ℕ → List A) (n : ℕ)
    → flat_map f (range_with_len 0 (n + 1)) ≡ flat_map f (range_with_len 0 n) ++ f n
flat_map_range_more f n =
    ap (flat_map f) (range_more n) ∙ flat_map-append f (range_with_len 0 n) (n ∷ [])
    ∙ ap (λ xs. flat_map f (range_with_len 0 n) ++ xs) (append-nil (f n))

-- the same, after what was there before
pub pushed_more : {A : Type 0} (f : ℕ → List A) (before now next : List A) (n : ℕ)
    → now ≡ before ++ flat_map f (range_with_len 0 n) → next ≡ now ++ f n
    → next ≡ before ++ flat_map f (range_with_len 0 (n + 1))
pushed_more f before now next n h k =
    k ∙ ap (λ xs. xs ++ f n) h ∙ append_assoc before (flat_map f (range_with_len 0 n)) (f n)
    ∙ ap (λ xs. before ++ xs) (sym (flat_map_range_more f n))

-- the same up to a number that is the last
pub pushed_all : {A : Type 0} (f : ℕ → List A) (before now : List A) (n m : ℕ)
    → now ≡ before ++ flat_map f (range_with_len 0 n) → n ≡ m → now ≡ before ++ flat_map f (range_with_len 0 m)
pushed_all f before now n m h e = h ∙ ap (λ k. before ++ flat_map f (range_with_len 0 k)) e

filter_cases : (p : ℕ → Bool) (n : ℕ) (b : Bool) → p n ≡ b
    → filter p (range_with_len 0 (n + 1)) ≡ filter p (range_with_len 0 n) ++ cond b (n ∷ []) []
filter_cases p n b e =
    ap (filter p) (range_more n) ∙ filter-append p (range_with_len 0 n) (n ∷ [])
    ∙ ap (λ t. filter p (range_with_len 0 n) ++ cond t (n ∷ []) []) e

-- the numbers that pass a test, with one more that passes
pub filter_range_more : (p : ℕ → Bool) (n : ℕ) → p n ≡ true
    → filter p (range_with_len 0 (n + 1)) ≡ filter p (range_with_len 0 n) ++ n ∷ []
filter_range_more p n e = filter_cases p n true e

-- and with one that does not
pub filter_range_same : (p : ℕ → Bool) (n : ℕ) → p n ≡ false → filter p (range_with_len 0 (n + 1)) ≡ filter p (range_with_len 0 n)
filter_range_same p n e = filter_cases p n false e ∙ append-nil (filter p (range_with_len 0 n))

-- what comes of the numbers that pass, one number more
pub pushed_pass : {A : Type 0} (p : ℕ → Bool) (f : ℕ → List A) (before now next : List A) (n : ℕ) → p n ≡ true
    → now ≡ before ++ flat_map f (filter p (range_with_len 0 n)) → next ≡ now ++ f n
    → next ≡ before ++ flat_map f (filter p (range_with_len 0 (n + 1)))
pushed_pass p f before now next n e h k =
    k ∙ ap (λ xs. xs ++ f n) h ∙ append_assoc before (flat_map f (filter p (range_with_len 0 n))) (f n)
    ∙ ap (λ xs. before ++ xs)
    (sym (ap (flat_map f) (filter_range_more p n e) ∙ flat_map-append f (filter p (range_with_len 0 n)) (n ∷ [])
    ∙ ap (λ xs. flat_map f (filter p (range_with_len 0 n)) ++ xs) (append-nil (f n))))

-- the same where the number does not pass
pub pushed_skip : {A : Type 0} (p : ℕ → Bool) (f : ℕ → List A) (before now : List A) (n : ℕ) → p n ≡ false
    → now ≡ before ++ flat_map f (filter p (range_with_len 0 n))
    → now ≡ before ++ flat_map f (filter p (range_with_len 0 (n + 1)))
pushed_skip p f before now n e h = h ∙ ap (λ ks. before ++ flat_map f ks) (sym (filter_range_same p n e))

-- the same, for a range from another number on
pub flat_map_more_from : {A : Type 0} (f : ℕ → List A) (s n : ℕ)
    → flat_map f (range_with_len s (n + 1)) ≡ flat_map f (range_with_len s n) ++ f (s + n)
flat_map_more_from f s n =
    let e : n + 1 ≡ suc n = omega arith in
    ap (λ k. flat_map f (range_with_len s k)) e ∙ ap (flat_map f) (range_more_from s n)
    ∙ flat_map-append f (range_with_len s n) ((s + n) ∷ [])
    ∙ ap (λ xs. flat_map f (range_with_len s n) ++ xs) (append-nil (f (s + n)))

-- the same from 1 on
pub numbers_more : {A : Type 0} (f : ℕ → List A) (now next : List A) (number : ℕ) → 1 ≤ number
    → now ≡ flat_map f (range_with_len 1 (number - 1)) → next ≡ now ++ f number
    → next ≡ flat_map f (range_with_len 1 (number + 1 - 1))
numbers_more f now next number some h k =
    let e : number + 1 - 1 ≡ number - 1 + 1 = omega arith in
    let g : 1 + (number - 1) ≡ number = omega arith in
    k ∙ ap (λ xs. xs ++ f number) h ∙ ap (λ n. flat_map f (range_with_len 1 (number - 1)) ++ f n) (sym g)
    ∙ sym (flat_map_more_from f 1 (number - 1)) ∙ ap (λ n. flat_map f (range_with_len 1 n)) (sym e)

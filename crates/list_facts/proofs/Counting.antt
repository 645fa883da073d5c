-- How many numbers pass a test, and how many a list without repetition has.
use Rattle.std.proofs.Common.{ℕ, ◌≡◌, ◌≢◌, ◌+◌, ◌<◌, ◌≤◌, zero, suc, Bool, true, false, not, ◌||◌, List, [], ◌∷◌}
use Rattle.std.proofs.Common.{length, get_or, inl, inr, refl, ap, subst, sym, ◌∙◌, arith}
use Rattle.std.specs.Prelude.{◌==◌, All, if◌then◌else◌}
use Rattle.std.specs.List.{AllPairs, list_any}
use Rattle.std.proofs.Math.Numerals.{suc-eq-add-one}
use Rattle.std.proofs.lemmas.Bool.{cases_Bool, cases_lt}
use Rattle.std.proofs.lemmas.Bool.Decides.{eqb_tells}
use Rattle.std.proofs.lemmas.List.Folds.{list_any_none}
use Rattle.list_facts.specs.Counting.{count_below}
use Rattle.list_facts.proofs.Tests.{differs}

-- no number is below 0
pub count_none : (test : ℕ → Bool) → count_below 0 test ≡ 0
unfolding count_below
count_none test = refl

-- one more number, which passes
pub count_yes : (n : ℕ) (test : ℕ → Bool) → test n ≡ true → count_below (suc n) test ≡ count_below n test + 1
unfolding count_below
count_yes n test h = rw h refl

-- one more number, which does not pass
pub count_no : (n : ℕ) (test : ℕ → Bool) → test n ≡ false → count_below (suc n) test ≡ count_below n test
unfolding count_below
count_no n test h = rw h refl

-- the same, for a sum
pub count_more : (n : ℕ) (test : ℕ → Bool) → test n ≡ true → count_below (n + 1) test ≡ count_below n test + 1
count_more n test h = ap (λ (x : ℕ). count_below x test) (sym (suc-eq-add-one n)) ∙ count_yes n test h

-- the same, for a sum
pub count_no_more : (n : ℕ) (test : ℕ → Bool) → test n ≡ false → count_below (n + 1) test ≡ count_below n test
count_no_more n test h = ap (λ (x : ℕ). count_below x test) (sym (suc-eq-add-one n)) ∙ count_no n test h

-- tests that agree below n
pub count_same : (n : ℕ) (test other : ℕ → Bool) → ((i : ℕ) → i < n → test i ≡ other i) → count_below n test ≡ count_below n other
unfolding count_below
count_same zero test other h = refl
count_same (suc n) test other h = rw (h n (omega arith), count_same n test other (λ i l. h i (omega arith))) refl

or_no_more : (a b : Bool) → a ≡ false → (a || b) ≡ b
or_no_more a b h = rw h refl

-- a number that is added to a test, before it and from it on
count_added_before : (n x : ℕ) (test : ℕ → Bool) → n ≤ x → count_below n (λ p. x == p || test p) ≡ count_below n test
count_added_before n x test h =
    count_same n (λ p. x == p || test p) test (λ i l. or_no_more (x == i) (test i) (differs x i (λ e. omega arith)))

more_of : (b : Bool) (x y : ℕ) → x ≡ y + 1 → ◌≡◌ {A = ℕ} (if b then x + 1 else x) ((if b then y + 1 else y) + 1)
more_of true x y h = ap (λ (c : ℕ). c + 1) h
more_of false x y h = h

count_added : (n x : ℕ) (test : ℕ → Bool) → x < n → test x ≡ false
    → count_below n (λ p. x == p || test p) ≡ count_below n test + 1
unfolding count_below
count_added zero x test l h = absurd (omega arith)
count_added (suc n) x test l h =
    elim (eqb_tells x n) [
      | inl e ↦
          rw (e.0, subst (λ (y : ℕ). test y ≡ false) e.1 h) (ap (λ (c : ℕ). c + 1) (count_added_before n x test (omega arith)))
      | inr e ↦
          rw e.0 (more_of (test n) (count_below n (λ p. x == p || test p)) (count_below n test)
          (count_added n x test (omega arith) h))
    ]

count_nowhere : (n : ℕ) → count_below n (λ p. false) ≡ 0
unfolding count_below
count_nowhere zero = refl
count_nowhere (suc n) = count_nowhere n

-- no two numbers of the list are equal
abbrev pub AreApart : List ℕ → Type 0
AreApart xs = AllPairs (λ x y. x ≢ y) xs

head_apart : (x : ℕ) (xs : List ℕ) → AreApart (x ∷ xs) → list_any (λ y. y == x) xs ≡ false
head_apart x xs h =
    list_any_none (λ y. y == x) xs
    (λ i d l. differs (get_or xs i d) x (λ e. h zero (suc i) d (omega arith) (omega arith) (sym e)))

tail_apart : (x : ℕ) (xs : List ℕ) → AreApart (x ∷ xs) → AreApart xs
tail_apart x xs h i j d l m = h (suc i) (suc j) d (omega arith) (omega arith)

-- as many numbers below n are in a list of such numbers as it is long, where no two are equal
pub count_of_list : (n : ℕ) (xs : List ℕ) → All (λ x. x < n) xs → AreApart xs
    → count_below n (λ p. list_any (λ y. y == p) xs) ≡ length xs
count_of_list n [] inside apart = count_nowhere n
count_of_list n (x ∷ xs) inside apart =
    let here : x < n = inside zero 0 (omega arith) in
    let rest = count_of_list n xs (λ i d l. inside (suc i) d (omega arith)) (tail_apart x xs apart) in
    count_added n x (λ p. list_any (λ y. y == p) xs) here (head_apart x xs apart) ∙ ap (λ (c : ℕ). c + 1) rest ∙ omega arith

-- where all pass, they are as many as there are
pub count_whole : (n : ℕ) (test : ℕ → Bool) → ((i : ℕ) → i < n → test i ≡ true) → count_below n test ≡ n
count_whole zero test h = count_none test
count_whole (suc n) test h =
    count_yes n test (h n (omega arith)) ∙ ap (λ (c : ℕ). c + 1) (count_whole n test (λ i l. h i (omega arith))) ∙ omega arith

-- no fewer pass below a greater number
pub count_rises : (n p : ℕ) (info : ℕ → Bool) → p ≤ n → count_below p info ≤ count_below n info
count_rises zero p info h = let e : p ≡ 0 = omega arith in rw e (omega arith)
count_rises (suc n) p info h =
    elim (cases_lt p (suc n)) [
      | inl l ↦
          let below = count_rises n p info (omega arith) in
          elim (cases_Bool (info n)) [
            | inl t ↦ (let c = count_yes n info t in omega arith)
            | inr f ↦ (let c = count_no n info f in omega arith)
          ]
      | inr g ↦ (let e : p ≡ suc n = omega arith in rw e (omega arith))
    ]

-- fewer pass below a number that passes than below a greater one
pub count_before : (n p : ℕ) (info : ℕ → Bool) → p < n → info p ≡ true → count_below p info < count_below n info
count_before n p info h t =
    let one = count_yes p info t in
    let more = count_rises n (suc p) info (omega arith) in
    omega arith

-- the number that passes after j others
pub record IsPicked (n j : ℕ) (info : ℕ → Bool) : Type 0 where
  pub place : ℕ
  pub within : place < n
  pub passes : info place ≡ true
  pub count_is : count_below place info ≡ j

more_places : (n j : ℕ) (info : ℕ → Bool) → IsPicked n j info → IsPicked (suc n) j info
more_places n j info p = record {
  place = p.place;
  within = (let l = p.within in omega arith);
  passes = p.passes;
  count_is = p.count_is;
}

-- each number that passes is at its turn
pub picked_at : (n j : ℕ) (info : ℕ → Bool) → j < count_below n info → IsPicked n j info
picked_at zero j info h = absurd (let z = count_none info in omega arith)
picked_at (suc n) j info h =
    elim (cases_Bool (info n)) [
      | inl t ↦ elim (cases_lt j (count_below n info)) [
        | inl l ↦ more_places n j info (picked_at n j info l)
        | inr g ↦
            let c = count_yes n info t in
            record {
              place = n;
              within = omega arith;
              passes = t;
              count_is = omega arith;
            }
      ]
      | inr f ↦ (let c = count_no n info f in more_places n j info (picked_at n j info (omega arith)))
    ]

-- the numbers below n pass a test or do not
pub count_split : (n : ℕ) (test : ℕ → Bool) → count_below n (λ i. not (test i)) + count_below n test ≡ n
count_split zero test = omega (arith, count_none test, count_none (λ i. not (test i)))
count_split (suc n) test =
    let rest = count_split n test in
    elim (cases_Bool (test n)) [
      | inl t ↦ omega (arith, count_yes n test t, count_no n (λ i. not (test i)) (ap not t))
      | inr f ↦ omega (arith, count_no n test f, count_yes n (λ i. not (test i)) (ap not f))
    ]

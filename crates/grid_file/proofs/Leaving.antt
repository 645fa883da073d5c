-- Where bytes leave a set of texts, step by step.
use Rattle.std.proofs.Common.{◌≡◌, ℕ, ◌+◌, ◌-◌, ◌<◌, ◌≤◌, List, ◌++◌, length, take, refl, sym, ◌∙◌, ap, subst, inl, inr}
use Rattle.std.proofs.Common.{arith, length-append, append_assoc}
use Rattle.std.proofs.lemmas.Bool.{cases_lt}
use Rattle.std.proofs.lemmas.List.{length-take-le, take-take, take-append-le, get_or_append_left, get_or-take}
use Rattle.std.proofs.Math.Seq.{take-append-add}
use Rattle.grid_file.specs.Fields.{AgreesPast}
use Rattle.grid_file.specs.LeavingPlace.{Begins, LeavesAt}

agrees_taken : (k n : ℕ) (bytes rest : List ℕ) → k < n → n ≤ length bytes → AgreesPast k (take n bytes ++ rest) bytes
agrees_taken k n bytes rest less most =
    let size : length (take n bytes) ≡ n = length-take-le n bytes most in
    let joined : length (take n bytes ++ rest) ≡ length (take n bytes) + length rest = length-append (take n bytes) rest in
    record {
      before = take-append-le k (take n bytes) rest (omega arith) ∙ take-take k n bytes (omega arith);
      longer = λ _. omega arith;
      shorter = λ _. omega arith;
      there = get_or_append_left (take n bytes) rest 0 k (omega arith) ∙ get_or-take n bytes k 0 less;
    }

agrees_whole : (k : ℕ) (bytes : List ℕ) → AgreesPast k bytes bytes
agrees_whole k bytes = record { before = refl; longer = λ h. h; shorter = λ h. h; there = refl }

-- some text begins with the bytes before a place, and none agrees with the bytes past it
pub leaves_at : (IsText : List ℕ → Type 0) (bytes : List ℕ) (place : ℕ) → place ≤ length bytes → Begins IsText (take place bytes)
    → ((text : List ℕ) → IsText text → AgreesPast place text bytes → ⊥) → LeavesAt IsText bytes place
leaves_at IsText bytes place within begins blocked = record {
  no_text = λ is. blocked bytes is (agrees_whole place bytes);
  within = within;
  begins = begins;
  longest = λ n most some.
      elim (cases_lt place n) as (λ _. n ≤ place) [
        | inl less ↦ absurd (blocked (take n bytes ++ some.0) some.1 (agrees_taken place n bytes some.0 less most))
        | inr h ↦ h
      ];
}

-- what follows a front of the texts of one set are the texts of another, as far as the bytes go
pub record Follows (IsText IsRest : List ℕ → Type 0) (front bytes : List ℕ) : Type 0 where
  pub into : (text : List ℕ) → IsRest text → IsText (front ++ text)
  pub back : (n : ℕ) (rest : List ℕ) → 0 < n → n ≤ length bytes → IsText (front ++ (take n bytes ++ rest))
      → IsRest (take n bytes ++ rest)
  pub whole : IsText (front ++ bytes) → IsRest bytes

-- bytes that leave what follows a front leave, behind it, the texts with the front
pub leaves_after : (IsText IsRest : List ℕ → Type 0) (front bytes : List ℕ) (place : ℕ) → Follows IsText IsRest front bytes
    → LeavesAt IsRest bytes place
    → LeavesAt IsText (front ++ bytes) (length front + place)
leaves_after IsText IsRest front bytes place follows leaves =
    let size : length (front ++ bytes) ≡ length front + length bytes = length-append front bytes in
    record {
      no_text = λ is. leaves.no_text (follows.whole is);
      within = omega (arith, leaves.within);
      begins =
          let (rest, is) = leaves.begins in (
            rest,
            subst IsText (sym (append_assoc front (take place bytes) rest)
                ∙ ap (λ xs. xs ++ rest) (sym (take-append-add front bytes place))) (follows.into (take place bytes ++ rest) is),
          );
      longest = λ n most some.
          elim (cases_lt (length front) n) as (λ _. n ≤ length front + place) [
            | inl less ↦
                let m = n - length front in
                let here : length front + m ≡ n = omega arith in
                let text : IsText (front ++ (take m bytes ++ some.0)) =
                subst IsText (ap (λ i. take i (front ++ bytes) ++ some.0) (sym here)
                ∙ ap (λ xs. xs ++ some.0) (take-append-add front bytes m) ∙ append_assoc front (take m bytes) some.0)
                some.1 in
                let far = leaves.longest m (omega arith) (some.0, follows.back m some.0 (omega arith) (omega arith) text) in
                omega arith
            | inr h ↦ omega arith
          ];
    }

-- the same texts
pub leaves_same : (IsText IsOther : List ℕ → Type 0) (bytes : List ℕ) (place : ℕ) → ((text : List ℕ) → IsOther text → IsText text)
    → ((text : List ℕ) → IsText text → IsOther text) → LeavesAt IsOther bytes place → LeavesAt IsText bytes place
leaves_same IsText IsOther bytes place into back leaves = record {
  no_text = λ is. leaves.no_text (back bytes is);
  within = leaves.within;
  begins = let (rest, is) = leaves.begins in (rest, into (take place bytes ++ rest) is);
  longest = λ n most some. leaves.longest n most (some.0, back (take n bytes ++ some.0) some.1);
}

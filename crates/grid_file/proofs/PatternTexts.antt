-- Texts that fit a pattern, character by character.
use Rattle.std.proofs.Common.{◌≡◌, ℕ, ◌+◌, ◌-◌, ◌<◌, ◌≤◌, IsTrue, List, ◌++◌, length, take, drop, get_or, refl, sym}
use Rattle.std.proofs.Common.{◌∙◌, ap, subst, inl, inr, arith, length-append}
use Rattle.std.proofs.lemmas.Bool.{cases_lt}
use Rattle.std.proofs.lemmas.List.{length-drop, length-take-le, get_or_append_left, get_or-append_right}
use Rattle.std.proofs.lemmas.List.{get_or-append-add, get_or-take, get_or-drop}
use Rattle.grid_file.specs.LeavingPlace.{LeavesAt}
use Rattle.grid_file.specs.Patterns.{fits, Fits, FitsBefore}
use Rattle.grid_file.proofs.Leaving.{leaves_at}

-- each character of a pattern fits itself
pub fits_itself : (c : ℕ) → IsTrue (fits c c)
fits_itself c = grind (arith)

-- a pattern fits itself
pub fits_whole : (pattern : List ℕ) → Fits pattern pattern
fits_whole pattern = record { size = refl; each = λ i l. fits_itself (get_or pattern i 0) }

-- two texts fit two patterns one behind the other
pub fits_joined : (a b x y : List ℕ) → Fits a x → Fits b y → Fits (a ++ b) (x ++ y)
fits_joined a b x y h k =
    let sizes : length (a ++ b) ≡ length a + length b = length-append a b in
    record {
      size = omega (arith, h.size, k.size, length-append x y);
      each = λ i l.
          elim (cases_lt i (length a)) [
            | inl less ↦
                subst (λ w. IsTrue (fits w (get_or (x ++ y) i 0))) (sym (get_or_append_left a b 0 i less))
                (subst (λ c. IsTrue (fits (get_or a i 0) c)) (sym (get_or_append_left x y 0 i (omega (arith, h.size))))
                (h.each i less))
            | inr most ↦
                subst (λ w. IsTrue (fits w (get_or (x ++ y) i 0))) (sym (get_or-append_right a b (length a) i 0 refl most))
                (subst (λ c. IsTrue (fits (get_or b (i - length a) 0) c))
                (sym (get_or-append_right x y (length a) i 0 h.size most)) (k.each (i - length a) (omega arith)))
          ];
    }

-- the front of a text that fits two patterns fits the first
pub fits_front : (a b x : List ℕ) → Fits (a ++ b) x → Fits a (take (length a) x)
fits_front a b x h =
    let sizes : length (a ++ b) ≡ length a + length b = length-append a b in
    record {
      size = length-take-le (length a) x (omega (arith, h.size));
      each = λ i l.
          subst (λ w. IsTrue (fits w (get_or (take (length a) x) i 0))) (get_or_append_left a b 0 i l)
          (subst (λ c. IsTrue (fits (get_or (a ++ b) i 0) c)) (sym (get_or-take (length a) x i 0 l)) (h.each i (omega arith)));
    }

-- its rest fits the second
pub fits_back : (a b x : List ℕ) → Fits (a ++ b) x → Fits b (drop (length a) x)
fits_back a b x h =
    let sizes : length (a ++ b) ≡ length a + length b = length-append a b in
    record {
      size = length-drop (length a) x ∙ omega (arith, h.size);
      each = λ i l.
          subst (λ w. IsTrue (fits w (get_or (drop (length a) x) i 0))) (get_or-append-add a b i 0)
          (subst (λ c. IsTrue (fits (get_or (a ++ b) (length a + i) 0) c)) (sym (get_or-drop (length a) x i 0))
          (h.each (length a + i) (omega arith)));
    }

-- a beginning that fits goes on with the rest of the pattern
fits_completed : (pattern bytes : List ℕ) (place : ℕ) → FitsBefore pattern bytes place
    → Fits pattern (take place bytes ++ drop place pattern)
fits_completed pattern bytes place h =
    let front : length (take place bytes) ≡ place = length-take-le place bytes h.within in
    record {
      size = length-append (take place bytes) (drop place pattern) ∙ omega (arith, front, length-drop place pattern, h.inside);
      each = λ i l.
          elim (cases_lt i place) [
            | inl less ↦
                let here = get_or_append_left (take place bytes) (drop place pattern) 0 i (omega arith)
                ∙ get_or-take place bytes i 0 less in
                subst (λ c. IsTrue (fits (get_or pattern i 0) c)) (sym here) (h.each i less)
            | inr most ↦
                let place_is : place + (i - place) ≡ i = omega arith in
                let here =
                get_or-append_right (take place bytes) (drop place pattern) place i 0 front most
                ∙ get_or-drop place pattern (i - place) 0
                ∙ ap (λ j. get_or pattern j 0) place_is in
                subst (λ c. IsTrue (fits (get_or pattern i 0) c)) (sym here) (fits_itself (get_or pattern i 0))
          ];
    }

-- the bytes leave the pattern: they end within it, have a byte there that doesn't fit, or go on after its end
pub leaves_pattern : (pattern bytes : List ℕ) (place : ℕ) → FitsBefore pattern bytes place
    → (place < length pattern → place < length bytes → IsTrue (fits (get_or pattern place 0) (get_or bytes place 0)) → ⊥)
    → (place ≡ length pattern → place < length bytes) → LeavesAt (Fits pattern) bytes place
leaves_pattern pattern bytes place before misfit ended =
    leaves_at (Fits pattern) bytes place before.within (drop place pattern, fits_completed pattern bytes place before)
    (λ text fit agrees.
    elim (cases_lt place (length pattern)) as (λ _. ⊥) [
      | inl less ↦
          misfit less (agrees.longer (omega (arith, fit.size)))
          (subst (λ c. IsTrue (fits (get_or pattern place 0) c)) agrees.there (fit.each place less))
      | inr most ↦
          let whole : place ≡ length pattern = omega (arith, before.inside) in
          let long = agrees.shorter (ended whole) in
          omega (arith, fit.size)
    ])

-- one character more that fits
pub fits_more : (pattern bytes : List ℕ) (place next : ℕ) → FitsBefore pattern bytes place → next ≡ place + 1
    → place < length pattern → place < length bytes
    → IsTrue (fits (get_or pattern place 0) (get_or bytes place 0)) → FitsBefore pattern bytes next
fits_more pattern bytes place next before is inside within fit = record {
  inside = omega arith;
  within = omega arith;
  each = λ i l.
      elim (cases_lt i place) [
        | inl less ↦ before.each i less
        | inr most ↦
            let here : place ≡ i = omega arith in
            subst (λ j. IsTrue (fits (get_or pattern j 0) (get_or bytes j 0))) here fit
      ];
}

-- before its first character anything fits a pattern
pub fits_none : (pattern bytes : List ℕ) → FitsBefore pattern bytes 0
fits_none pattern bytes = record { inside = omega arith; within = omega arith; each = λ i l. absurd (omega arith) }

-- where all bytes fit the whole pattern, they fit it
pub fits_all : (pattern bytes : List ℕ) (place : ℕ) → FitsBefore pattern bytes place → length pattern ≤ place
    → length bytes ≤ place → Fits pattern bytes
fits_all pattern bytes place before h k = record {
  size = omega (arith, before.inside, before.within);
  each = λ i l. before.each i (omega arith);
}

-- One append after another.
use Rattle.std.proofs.Common.{◌≡◌, ℕ, ◌+◌, ◌<◌, List, ◌++◌, length, take, drop}
use Rattle.std.proofs.Common.{get_or, Result, sym, ap, subst, ◌∙◌, append_assoc, arith, length-append}
use Rattle.std.specs.List.{flat_map}
use Rattle.std.specs.Prelude.{IsErr}
use Rattle.std.proofs.lemmas.List.{drop_more, take-append-le, take-append-drop}
use Rattle.std.proofs.lemmas.List.Concat.{flat_map-append}
use Rattle.std.proofs.lemmas.Result.{MatchResult-weaker, MatchResult-from_err, IfOk-from_err}
use Rattle.std.proofs.Math.Seq.{take-append-add}
use Rattle.plain_text.specs.Appending.{IsBegun, Appends}

-- where the first of two pieces is begun, so are both
pub begun_first : {old new p : List ℕ} (q : List ℕ) → IsBegun old new p → IsBegun old new (p ++ q)
begun_first {old = old} {p = p} q h = record {
  count = h.count;
  within = omega (arith, h.within, length-append p q);
  text = h.text ∙ ap (λ x. old ++ x) (sym (take-append-le h.count p q h.within));
}

-- where the second of two pieces is begun after the first, so are both
pub begun_second : {old mid new q : List ℕ} (p : List ℕ) → IsBegun mid new q → mid ≡ old ++ p → IsBegun old new (p ++ q)
begun_second {old = old} {q = q} p h e = record {
  count = length p + h.count;
  within = omega (arith, h.within, length-append p q);
  text =
      h.text ∙ ap (λ x. x ++ take h.count q) e ∙ append_assoc old p (take h.count q)
      ∙ ap (λ x. old ++ x) (sym (take-append-add p q h.count));
}

-- a list of pieces is those before a place, the one at the place, and those behind it
flat_map-at : {X : Type 0} (f : X → List ℕ) (xs : List X) (i : ℕ) (d : X) → i < length xs
    → flat_map f xs ≡ flat_map f (take i xs) ++ (f (get_or xs i d) ++ flat_map f (drop (i + 1) xs))
flat_map-at f xs i d h =
    ap (flat_map f) (sym (take-append-drop i xs)) ∙ flat_map-append f (take i xs) (drop i xs)
    ∙ ap (λ ys. flat_map f (take i xs) ++ flat_map f ys) (drop_more xs i d h)

-- where the piece at a place is begun after those before it, so are all
pub begun_at : {X : Type 0} {old mid new : List ℕ} (f : X → List ℕ) (xs : List X) (i : ℕ) (d : X)
    → IsBegun mid new (f (get_or xs i d)) → mid ≡ old ++ flat_map f (take i xs) → i < length xs → IsBegun old new (flat_map f xs)
begun_at {old = old} {new = new} f xs i d h e l =
    let P : List ℕ → Type 0 = λ x. IsBegun old new x in
    subst P (sym (flat_map-at f xs i d l))
    (begun_second (flat_map f (take i xs)) (begun_first (flat_map f (drop (i + 1) xs)) h) e)

-- the same at an item that is known to stand at the place
pub begun_at_item : {X : Type 0} {old mid new : List ℕ} (f : X → List ℕ) (xs : List X) (i : ℕ) (x : X)
    → IsBegun mid new (f x) → x ≡ get_or xs i x → mid ≡ old ++ flat_map f (take i xs) → i < length xs
    → IsBegun old new (flat_map f xs)
begun_at_item {X = X} {mid = mid} {new = new} f xs i x h is e l =
    let P : X → Type 0 = λ y. IsBegun mid new (f y) in
    begun_at f xs i x (subst P is h) e l

-- one piece behind another
pub appended_twice : {mid new : List ℕ} (old p q : List ℕ) → mid ≡ old ++ p → new ≡ mid ++ q → new ≡ old ++ (p ++ q)
appended_twice old p q m n = n ∙ ap (λ x. x ++ q) m ∙ append_assoc old p q

-- a call that gives up appends, where its text is begun
pub appends_begun : {E : Type 0} {old new piece : List ℕ} (r : Result (Unit {0}) E) → IsErr r → IsBegun old new piece
    → Appends old new piece r
appends_begun r e h = record {
  whole = IfOk-from_err r (λ x. _) e;
  prefix = MatchResult-from_err r (λ x. _) (λ y. _) e (λ y. h);
}

-- the exit of a call that gives up in the middle of a text: `before` was appended, a piece is begun, and `after` is left
pub appends_middle : {E : Type 0} {old mid new piece text : List ℕ} (r : Result (Unit {0}) E) (before after : List ℕ)
    → IsErr r → mid ≡ old ++ before → IsBegun mid new piece → text ≡ before ++ (piece ++ after) → Appends old new text r
appends_middle {old = old} {new = new} r before after e m h t =
    let P : List ℕ → Type 0 = λ x. IsBegun old new x in
    appends_begun r e (subst P (sym t) (begun_second before (begun_first after h) m))

-- the end of a call whose last step appends a piece behind what was appended
pub appends_last : {E : Type 0} {old mid new piece text : List ℕ} {r : Result (Unit {0}) E} (before : List ℕ)
    → mid ≡ old ++ before → Appends mid new piece r → text ≡ before ++ piece → Appends old new text r
appends_last {old = old} {new = new} {piece = piece} {r = r} before m h t = record {
  whole =
      MatchResult-weaker r h.whole
      (λ x w. w ∙ ap (λ y. y ++ piece) m ∙ append_assoc old before piece ∙ ap (λ y. old ++ y) (sym t)) (λ y n. n);
  prefix =
      let P : List ℕ → Type 0 = λ x. IsBegun old new x in
      MatchResult-weaker r h.prefix (λ x n. n) (λ y b. subst P (sym t) (begun_second before b m));
}

-- a call that appends a text that is spelled in another way
pub appends_same : {E : Type 0} {old new piece text : List ℕ} {r : Result (Unit {0}) E} → Appends old new piece r
    → text ≡ piece → Appends old new text r
appends_same {old = old} {new = new} {r = r} h t = let P : List ℕ → Type 0 = λ x. Appends old new x r in subst P (sym t) h

-- Every list of fitting values is among all values of the rows.
use Rattle.std.proofs.Common.{◌≡◌, ℕ, zero, suc, ◌+◌, ◌^◌, ◌<◌, Bool, true, false, cond, nat_lt, List, [], ◌∷◌, Option}
use Rattle.std.proofs.Common.{Some, length, map, get_or, refl, ap, sym, subst, ◌∙◌, arith}
use Rattle.std.specs.List.{range_with_len, flat_map, find, Contains}
use Rattle.std.proofs.lemmas.Bool.{and_parts, ltb-true}
use Rattle.std.proofs.lemmas.List.{length-map, get_or-map}
use Rattle.std.proofs.lemmas.List.Elements.{Contains-append_left, Contains-append_right}
use Rattle.dci_fields.specs.declared.formats.Format.{Format}
use Rattle.dci_fields.specs.declared.rows.FieldRow.{FieldRow}
use Rattle.dci_fields.specs.Payloads.{are_fitting, payload_of}
use Rattle.dci_fields.proofs.PayloadsOfRows.{payload_parts}
use Rattle.dci_codec.specs.AllValues.{all_values}

-- what a function gives of an element is among what it gives of all
pub mapped : {X Y : Type 0} (f : X → Y) (xs : List X) (x : X) → Contains xs x → Contains (map f xs) (f x)
mapped f xs x h = (h.0, omega (arith, length-map xs f, h.1), get_or-map f xs h.0 x (f x) h.1 ∙ ap f h.2)

-- what one number of a range gives is among what the range gives
from_range : (f : ℕ → List (List ℕ)) (first count at : ℕ) (x : List ℕ) → at < count → Contains (f (first + at)) x
    → Contains (flat_map f (range_with_len first count)) x
from_range f first zero at x h within = absurd (omega arith)
from_range f first (suc count) zero x h within =
    let P : ℕ → Type 0 = λ n. Contains (f n) x in
    Contains-append_left (f first) (flat_map f (range_with_len (first + 1) count)) x (subst P (omega arith) within)
from_range f first (suc count) (suc at) x h within =
    let P : ℕ → Type 0 = λ n. Contains (f n) x in
    Contains-append_right (f first) (flat_map f (range_with_len (first + 1) count)) x
    (from_range f (first + 1) count at x (omega arith) (subst P (omega arith) within))

-- values that fit are among all values
pub fitting_among : (rows : List FieldRow) (values : List ℕ) → are_fitting rows values ≡ true → Contains (all_values rows) values
unfolding all_values
fitting_among [] [] h = (0, omega arith, refl)
fitting_among [] (v ∷ vs) h = cc
fitting_among (r ∷ rs) [] h = cc
fitting_among (r ∷ rs) (v ∷ vs) h =
    let parts = and_parts (nat_lt v (2 ^ r.width)) (are_fitting rs vs) h in
    let all : List (List ℕ) = all_values rs in
    let P : ℕ → Type 0 = λ n. Contains (map (λ (others : List ℕ). n ∷ others) all) (v ∷ vs) in
    let here : v ≡ 0 + v = omega arith in
    from_range (λ n. map (λ (others : List ℕ). n ∷ others) all) 0 (2 ^ r.width) v (v ∷ vs) (ltb-true v (2 ^ r.width) parts.0)
    (subst P here (mapped (λ (others : List ℕ). v ∷ others) all vs (fitting_among rs vs parts.1)))

-- the values of a payload are among all values
pub payload_among : (rows : List FieldRow) (format : Format) (values : List ℕ) (size : ℕ) (payload : List Bool)
    → payload_of rows format values size ≡ Some payload → Contains (all_values rows) values
payload_among rows format values size payload e = fitting_among rows values (payload_parts rows format values size payload e).fits

chosen : {X : Type 0} (b : Bool) (y x : X) (rest : Option X) → (b ≡ true → y ≡ x) → (b ≡ false → rest ≡ Some x)
    → cond b (Some y) rest ≡ Some x
chosen true y x rest h k = ap (λ z. Some z) (h refl)
chosen false y x rest h k = k refl

passed : {X : Type 0} (test : X → Bool) (y x : X) (ys : List X) (at : ℕ) → test x ≡ true → test y ≡ false → at < length (y ∷ ys)
    → get_or (y ∷ ys) at x ≡ x → Contains ys x
passed test y x ys zero pass fail h e =
    let differ : test x ≡ false = ap test (sym e) ∙ fail in cc
passed test y x ys (suc at) pass fail h e = (at, omega arith, e)

-- a test that one element alone passes finds it
pub find_only : {X : Type 0} (test : X → Bool) (xs : List X) (x : X) → Contains xs x → test x ≡ true
    → ((y : X) → test y ≡ true → y ≡ x) → find test xs ≡ Some x
find_only test [] x h pass only = absurd (omega (arith, h.1))
find_only test (y ∷ ys) x h pass only =
    chosen (test y) y x (find test ys) (only y) (λ fail. find_only test ys x (passed test y x ys h.0 pass fail h.1 h.2) pass only)

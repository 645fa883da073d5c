-- The elements of a list of values.
use Rattle.std.proofs.Common.{◌≡◌, ℕ, suc, ◌+◌, ◌<◌, List, [], ◌∷◌, ◌++◌, length, map}
use Rattle.std.proofs.Common.{get_or, take, drop, refl, ap, sym, ◌∙◌, arith, drop-cons}
use Rattle.std.specs.Prelude.{Option, None, Some}
use Rattle.std.proofs.lemmas.List.{length-map, take_more}
use Rattle.std.proofs.Math.ListN.{get_or-map}
use Rattle.rrc_settings.specs.Faults.{first_of}
use Rattle.serde_json.specs.Data.{Data}
use Rattle.serde_json.specs.View.{view, items_view}
use Rattle.serde_json.specs.declared.value.Value.{Value}
use Rattle.json_form.specs.Kinds.{list_of_items, first_from}

-- the elements are those that were put in
pub list_of_items_view : (vs : List Value) → list_of_items (items_view vs) ≡ map view vs
list_of_items_view [] = refl
list_of_items_view (v ∷ vs) = ap (λ ds. view v ∷ ds) (list_of_items_view vs)

-- there are as many as were put in
pub length_of_items_view : (vs : List Value) → length (list_of_items (items_view vs)) ≡ length vs
length_of_items_view [] = refl
length_of_items_view (v ∷ vs) = ap suc (length_of_items_view vs)

-- the elements from place i on are the one there and the ones after it
first_from_next : {A F : Type 0} (judge : ℕ → A → Option F) (xs : List A) (i : ℕ) (d : A) → i < length xs →
    first_from judge i (drop i xs) ≡ first_of (judge i (get_or xs i d) ∷ first_from judge (i + 1) (drop (i + 1) xs) ∷ [])
first_from_next judge xs i d h =
    let next : suc i ≡ i + 1 = omega arith in
    ap (first_from judge i) (drop-cons xs i d h ∙ ap (λ k. get_or xs i d ∷ drop k xs) next)

-- the values from place i on are the one there and the ones after it
pub first_from_view_next : {F : Type 0} (judge : ℕ → Data → Option F) (vs : List Value) (i : ℕ) (v : Value) → i < length vs →
    first_from judge i (drop i (map view vs))
    ≡ first_of (judge i (view (get_or vs i v)) ∷ first_from judge (i + 1) (drop (i + 1) (map view vs)) ∷ [])
first_from_view_next judge vs i v h =
    let seen : length (map view vs) ≡ length vs = length-map vs view in
    let here : get_or (map view vs) i (view v) ≡ view (get_or vs i v) = get_or-map view vs i v in
    let next = first_from_next judge (map view vs) i (view v) (omega arith) in
    rw here at next

-- the first i + 1 values are the first i and the one there
pub take_view_next : {T : Type 0} (f : Data → T) (vs : List Value) (i : ℕ) (v : Value) → i < length vs →
    take (i + 1) (map f (map view vs)) ≡ take i (map f (map view vs)) ++ f (view (get_or vs i v)) ∷ []
take_view_next f vs i v h =
    let seen : length (map view vs) ≡ length vs = length-map vs view in
    let mapped : length (map f (map view vs)) ≡ length (map view vs) = length-map (map view vs) f in
    let here : get_or (map view vs) i (view v) ≡ view (get_or vs i v) = get_or-map view vs i v in
    let there : get_or (map f (map view vs)) i (f (view v)) ≡ f (get_or (map view vs) i (view v)) =
    get_or-map f (map view vs) i (view v) in
    let next = take_more (map f (map view vs)) i (f (view v)) (omega arith) in
    rw (there, here) at next

-- one finding alone
first_of_one : {F : Type 0} (finding : Option F) → first_of (finding ∷ []) ≡ finding
first_of_one None = refl
first_of_one (Some fault) = refl

-- the fault of the element at place i is the list's, where those before it have none
pub element_found : {F : Type 0} (judge : ℕ → Data → Option F) (vs : List Value) (i : ℕ) (v : Value) (found : Option F)
    (fault : F) → found ≡ first_from judge i (drop i (map view vs)) → i < length vs → v ≡ get_or vs i v
    → judge i (view v) ≡ Some fault → found ≡ Some fault
element_found judge vs i v found fault rest h is here =
    let later = first_from judge (i + 1) (drop (i + 1) (map view vs)) in
    let there : judge i (view (get_or vs i v)) ≡ judge i (view v) = ap (λ w. judge i (view w)) (sym is) in
    rest ∙ first_from_view_next judge vs i v h ∙ ap (λ finding. first_of (finding ∷ later ∷ [])) (there ∙ here)

-- where it has none, the list's fault is that of the elements after it
pub element_passed : {F : Type 0} (judge : ℕ → Data → Option F) (vs : List Value) (i : ℕ) (v : Value) (found : Option F)
    → found ≡ first_from judge i (drop i (map view vs)) → i < length vs → v ≡ get_or vs i v → judge i (view v) ≡ None
    → found ≡ first_from judge (i + 1) (drop (i + 1) (map view vs))
element_passed judge vs i v found rest h is none =
    let later = first_from judge (i + 1) (drop (i + 1) (map view vs)) in
    let there : judge i (view (get_or vs i v)) ≡ judge i (view v) = ap (λ w. judge i (view w)) (sym is) in
    rest ∙ first_from_view_next judge vs i v h ∙ ap (λ finding. first_of (finding ∷ later ∷ [])) (there ∙ none)
    ∙ first_of_one later

-- the first i values that are read and the one at place i are the first i + 1
pub element_read : {T : Type 0} (f : Data → T) (vs : List Value) (i : ℕ) (v : Value) (read more : List T) (x : T)
    → read ≡ take i (map f (map view vs)) → i < length vs → v ≡ get_or vs i v → more ≡ read ++ x ∷ [] → x ≡ f (view v)
    → more ≡ take (i + 1) (map f (map view vs))
element_read f vs i v read more x done h is pushed value =
    let first = take i (map f (map view vs)) in
    pushed ∙ ap (λ xs. xs ++ x ∷ []) done ∙ ap (λ y. first ++ y ∷ []) (value ∙ ap (λ w. f (view w)) is)
    ∙ sym (take_view_next f vs i v h)

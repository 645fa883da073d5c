-- The reading of bytes, and what follows for what is found in them and for what they spell.
use Rattle.std.proofs.Common.{◌≡◌, ℕ, List, Bool, true, false, inl, inr, sym, ◌∙◌, refl, ap}
use Rattle.std.proofs.lemmas.Bool.{false_from_ne_true}
use Rattle.std.specs.Prelude.{Option, None, Some, Result, Ok, Err, IsUtf8, cond}
use Rattle.std.specs.Str.{is_utf8}
use Rattle.std.proofs.lemmas.Str.{IsUtf8-from_is_utf8, is_utf8-from_IsUtf8}
use Rattle.serde_json.specs.Data.{Data}
use Rattle.serde_json.specs.Read.{read}
use Rattle.json_form.specs.declared.error.JsonError.{JsonError}
use Rattle.json_form.specs.declared.error.JsonError.TheVariants.{Fault, NoMemory}
use Rattle.json_form.specs.Reads.{Gives}
use Rattle.json_form.specs.Texts.{IsJson, IsNoJson, json_of, found_in, spelled_in}

-- a JSON text has its reading
json_of_json : (bytes : List ℕ) (d : Data) → IsJson bytes d → json_of bytes ≡ Some d
unfolding json_of
json_of_json bytes d j = let u = is_utf8-from_IsUtf8 bytes j.0 in rw (u, j.1)

-- bytes that are no UTF-8 fail the test
no_utf8 : (bytes : List ℕ) → (IsUtf8 bytes → ⊥) → is_utf8 bytes ≡ false
no_utf8 bytes n = false_from_ne_true (is_utf8 bytes) (λ e. n (IsUtf8-from_is_utf8 bytes e))

-- where nothing is read there is no reading, whatever the test says
none_by : (b : Bool) (found : Option Data) → found ≡ None → cond b found None ≡ None
none_by true found e = e
none_by false found e = refl

-- what is no JSON has no reading
json_of_no_json : (bytes : List ℕ) → IsNoJson bytes → json_of bytes ≡ None
unfolding json_of
json_of_no_json bytes (inl n) = rw (no_utf8 bytes n)
json_of_no_json bytes (inr e) = none_by (is_utf8 bytes) (read bytes) e

-- what is found in a JSON text is found in its value
pub found_of_json : {F : Type 0} (no_json : F) (judge : Data → Option F) (bytes : List ℕ) (d : Data) → IsJson bytes d →
    found_in no_json judge bytes ≡ judge d
unfolding found_in
found_of_json no_json judge bytes d j = rw (json_of_json bytes d j)

-- what a JSON text spells is what its value spells
pub spelled_of_json : {T : Type 0} (value : Data → T) (bytes : List ℕ) (d : Data) → IsJson bytes d
    → spelled_in value bytes ≡ value d
unfolding spelled_in
spelled_of_json value bytes d j = rw (json_of_json bytes d j)

-- in what is no JSON just that is found
pub found_of_no_json : {F : Type 0} (no_json : F) (judge : Data → Option F) (bytes : List ℕ) → IsNoJson bytes →
    found_in no_json judge bytes ≡ Some no_json
unfolding found_in
found_of_no_json no_json judge bytes n = rw (json_of_no_json bytes n)

-- bytes that are UTF-8 or not, and that have a reading or none
by_reading : {F : Type 0} (no_json fault : F) (judge : Data → Option F) (bytes : List ℕ)
    → ((d : Data) → judge d ≡ Some fault → ⊥) → (test : Bool) (found : Option Data)
    → is_utf8 bytes ≡ test → read bytes ≡ found → found_in no_json judge bytes ≡ Some fault → IsNoJson bytes
by_reading no_json fault judge bytes never false found u r e = inl (λ text. absurd (let t = is_utf8-from_IsUtf8 bytes text in cc))
by_reading no_json fault judge bytes never true None u r e = inr r
by_reading no_json fault judge bytes never true (Some d) u r e =
    let json : IsJson bytes d = (IsUtf8-from_is_utf8 bytes u, r) in
    absurd (never d (sym (found_of_json no_json judge bytes d json) ∙ e))

-- bytes in which a fault is found that no value has are no JSON
pub no_json_where : {F : Type 0} (no_json fault : F) (judge : Data → Option F) (bytes : List ℕ)
    → ((d : Data) → judge d ≡ Some fault → ⊥) → found_in no_json judge bytes ≡ Some fault → IsNoJson bytes
no_json_where no_json fault judge bytes never e =
    by_reading no_json fault judge bytes never (is_utf8 bytes) (read bytes) refl refl e

-- an answer tells no fault that is not found
pub never_given : {T F : Type 0} (finding : Option F) (value : T) (fault : F) (result : Result T (JsonError F))
    → (finding ≡ Some fault → ⊥) → Gives finding value result → result ≡ Err (Fault fault) → ⊥
never_given finding value fault (Ok x) never g e = cc
never_given finding value fault (Err NoMemory) never g e = cc
never_given finding value fault (Err (Fault other)) never g e =
    let same : other ≡ fault = cc in
    never (g ∙ ap Some same)

-- A payload is read as the formats are tried one after another.
use Rattle.std.proofs.Common.{◌≡◌, ◌↔◌, ℕ, ◌+◌, ◌<◌, ◌≤◌, Bool, false, List, Option, Some, None, length, get_or, refl}
use Rattle.std.proofs.Common.{ap, sym, subst, ◌∙◌, arith, lit<, inl, inr}
use Rattle.std.proofs.lemmas.Bool.{cases_lt}
use Rattle.std.proofs.lemmas.Option.{none-some}
use Rattle.list_facts.proofs.Tests.{true_not_false}
use Rattle.dci_fields.specs.declared.formats.Format.{Format}
use Rattle.dci_fields.specs.declared.formats.Format.TheVariants.{F00, F10, Order, F01, F11}
use Rattle.dci_fields.specs.declared.rows.FieldRow.{FieldRow}
use Rattle.dci_fields.specs.declared.values.FieldValue.{FieldValue}
use Rattle.dci_fields.specs.Payloads.{Carries}
use Rattle.monitor_plan.specs.declared.watch.Watch.{Watch}
use Rattle.monitor_plan.specs.Watch.{fits, list_of}
use Rattle.dci_codec.specs.declared.heard.Heard.{Heard}
use Rattle.dci_codec.specs.Hearing.{IsReadAs}
use Rattle.dci_codec.specs.Formats.{formats}

-- an entry by its parts
abbrev pub heard_with : ℕ → Format → List FieldValue → Heard
heard_with number format values = record { watch = number; format = format; values = values }

-- the fields that a format's list has in a payload
pub fields_of : (w : Watch) (format : Format) (rows : List FieldRow) (payload : List Bool) (result : Option (List FieldValue))
    → rows ≡ list_of w format
    → ((fields : List FieldValue) → (result ≡ Some fields) ↔ Carries rows format (length payload) payload fields)
    → (fields : List FieldValue) → (result ≡ Some fields) ↔ Carries (list_of w format) format (length payload) payload fields
fields_of w format rows payload result same exact =
    let P : List FieldRow → Type 0 = λ x.
    (fields : List FieldValue) → (result ≡ Some fields) ↔ Carries x format (length payload) payload fields in
    subst P same exact

-- no format before a place of the list of formats has a payload
abbrev pub NoneRead : Watch → List Bool → ℕ → Type 0
NoneRead w payload n =
    (k number : ℕ) → k < n → (fields : List FieldValue)
    → IsReadAs w number payload (heard_with number (get_or formats k F00) fields) → ⊥

none_here : (w : Watch) (payload : List Bool) (n : ℕ) (format : Format) → NoneRead w payload n → format ≡ get_or formats n F00
    → ((number : ℕ) (fields : List FieldValue) → IsReadAs w number payload (heard_with number format fields) → ⊥)
    → NoneRead w payload (n + 1)
none_here w payload n format before is none k number h fields read =
    elim (cases_lt k n) [
      | inl l ↦ before k number l fields read
      | inr l ↦
          (let same : k ≡ n = omega arith in
          let P : Format → Type 0 = λ f. IsReadAs w number payload (heard_with number f fields) in
          none number fields (subst P (ap (λ (x : ℕ). get_or formats x F00) same ∙ sym is) read))
    ]

-- a format that does not fit has no payload
pub none_unfit : (w : Watch) (payload : List Bool) (n : ℕ) (format : Format) → NoneRead w payload n
    → format ≡ get_or formats n F00
    → fits w format ≡ false → NoneRead w payload (n + 1)
none_unfit w payload n format before is unfit =
    none_here w payload n format before is (λ number fields read. true_not_false (fits w format) read.fitting unfit)

-- nor has one whose list has no fields in it
pub none-unread : (w : Watch) (payload : List Bool) (n : ℕ) (format : Format) → NoneRead w payload n
    → format ≡ get_or formats n F00
    → length payload ≡ w.size
    → ((fields : List FieldValue) → (None ≡ Some fields) ↔ Carries (list_of w format) format (length payload) payload fields)
    → NoneRead w payload (n + 1)
none-unread w payload n format before is size none =
    none_here w payload n format before is
    (λ number fields read.
    let P : ℕ → Type 0 = λ x. Carries (list_of w format) format x payload fields in
    none-some fields ((none fields).1 (subst P (sym size) read.carries)))

abbrev place_of : Format → ℕ
place_of F00 = 0
place_of F10 = 1
place_of Order = 2
place_of F01 = 3
place_of F11 = 4

in_place : (format : Format) → format ≡ get_or formats (place_of format) F00
in_place F00 = refl
in_place F10 = refl
in_place Order = refl
in_place F01 = refl
in_place F11 = refl

place_below : (format : Format) → place_of format < 5
place_below F00 = lit< tt
place_below F10 = lit< tt
place_below Order = lit< tt
place_below F01 = lit< tt
place_below F11 = lit< tt

-- none of the formats has the payload
pub none-read : (w : Watch) (number : ℕ) (payload : List Bool) (n : ℕ) → 5 ≤ n → NoneRead w payload n → (h : Heard)
    → IsReadAs w number payload h → ⊥
none-read w number payload n all none h read =
    let P : Format → Type 0 = λ f. IsReadAs w number payload (heard_with number f h.values) in
    let Q : ℕ → Type 0 = λ m. IsReadAs w number payload (heard_with m h.format h.values) in
    let below = place_below h.format in
    none (place_of h.format) number (omega arith) h.values (subst P (in_place h.format) (subst Q read.number_is read))

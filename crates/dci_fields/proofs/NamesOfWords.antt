-- What a word names: the one whose word it is.
use Rattle.std.proofs.Common.{◌≡◌, ◌≢◌, ◌↔◌, ℕ, Option, Some, Bool, true, false, bytes_eq, ◌&&◌, cond, List, [], ◌∷◌}
use Rattle.std.proofs.Common.{refl, ap, sym, ◌∙◌, subst}
use Rattle.std.specs.List.{list_all, find}
use Rattle.std.proofs.lemmas.Slice.Eq.{bytes_eq-Decides}
use Rattle.dci_fields.specs.declared.formats.Format.{Format}
use Rattle.dci_fields.specs.declared.formats.Format.TheVariants as formats
use Rattle.dci_fields.specs.declared.formats.TheConstants.{FORMATS}
use Rattle.dci_fields.specs.declared.names.FieldName.{FieldName}
use Rattle.dci_fields.specs.declared.names.FieldName.TheVariants as names
use Rattle.dci_fields.specs.declared.names.TheConstants.{NAMES}
use Rattle.dci_fields.specs.Formats.{format_word, format_named}
use Rattle.dci_fields.specs.Words.{word_of, field_named, IsWordOf}

-- what is the first, or found later, so passes
found_first : {X : Type 0} (p q : X → Bool) (x y : X) (b c d : Bool) (found : Option X) → p x ≡ b → q x ≡ c → (c && d) ≡ true
    → cond b (Some x) found ≡ Some y
    → (d ≡ true → found ≡ Some y → (p y ≡ true) × (q y ≡ true)) → (p y ≡ true) × (q y ≡ true)
found_first p q x y true true d found eb ec h e later = let same : x ≡ y = cc in (ap p (sym same) ∙ eb, ap q (sym same) ∙ ec)
found_first p q x y false true d found eb ec h e later = later h e
found_first p q x y b false d found eb ec h e later = cc

-- what is found passes the test, and each test that all elements pass
found_passes : {X : Type 0} (p q : X → Bool) (xs : List X) (y : X) → list_all q xs ≡ true → find p xs ≡ Some y
    → (p y ≡ true) × (q y ≡ true)
found_passes p q [] y h e = cc
found_passes p q (x ∷ xs) y h e =
    let later = found_passes p q xs y in
    found_first p q x y (p x) (q x) (list_all q xs) (find p xs) refl refl h e later

-- whether a name has a word: each but the identifier
abbrev has_word : FieldName → Bool
has_word names.Identifier = false
has_word _ = true

-- all names of the table have one
all_have_words : list_all has_word NAMES ≡ true
all_have_words = refl

-- a name with a word is no identifier
no_identifier : (name : FieldName) → has_word name ≡ true → name ≢ names.Identifier
no_identifier name h e = let f : has_word name ≡ false = ap has_word e in cc

-- a name with a word is what its word names
found_by_word : (name : FieldName) → name ≢ names.Identifier → field_named (word_of name) ≡ Some name
unfolding field_named
found_by_word names.Identifier h = absurd (h refl)
found_by_word _ h = refl

-- the name that a word names is the one whose word it is
pub field_named_exactly : (word : List ℕ) (name : FieldName) → (field_named word ≡ Some name) ↔ IsWordOf name word
unfolding field_named
field_named_exactly word name = (
  (λ e. let t = found_passes (λ (n : FieldName). bytes_eq (word_of n) word) has_word NAMES name all_have_words e in
      (no_identifier name t.1, (bytes_eq-Decides (word_of name) word).0 t.0)),
  (λ w. subst (λ (bytes : List ℕ). field_named bytes ≡ Some name) w.1 (found_by_word name w.0)),
)

-- a format is what its word names
found_format : (format : Format) → format_named (format_word format) ≡ Some format
unfolding format_named
found_format formats.F00 = refl
found_format _ = refl

-- the format that a word names is the one whose word it is
pub format_named_exactly : (word : List ℕ) (format : Format) → (format_named word ≡ Some format) ↔ (format_word format ≡ word)
unfolding format_named
format_named_exactly word format = (
  (λ e. let test : Format → Bool = λ f. bytes_eq (format_word f) word in
      (bytes_eq-Decides (format_word format) word).0 (found_passes test (λ _. true) FORMATS format refl e).0),
  (λ w. subst (λ (bytes : List ℕ). format_named bytes ≡ Some format) w (found_format format)),
)

-- the same of what is equal to it
pub if_field_named : (word : List ℕ) (found : Option FieldName) → found ≡ field_named word
    → (name : FieldName) → (found ≡ Some name) ↔ IsWordOf name word
if_field_named word found e name =
    subst (λ (x : Option FieldName). (x ≡ Some name) ↔ IsWordOf name word) (sym e) (field_named_exactly word name)

-- the same of what is equal to it
pub if_format_named : (word : List ℕ) (found : Option Format) → found ≡ format_named word
    → (format : Format) → (found ≡ Some format) ↔ (format_word format ≡ word)
if_format_named word found e format =
    subst (λ (x : Option Format). (x ≡ Some format) ↔ (format_word format ≡ word)) (sym e) (format_named_exactly word format)

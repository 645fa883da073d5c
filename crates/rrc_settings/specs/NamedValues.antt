-- The words that the settings have for the values of an enum, each at one place (3GPP TS 38.331, 6.3.2).
use Rattle.std.specs.Prelude.{ℕ, Bool, List, [], ◌∷◌, Option, map, option_map, find, codes, bytes_eq}
use Rattle.std.specs.List.{list_any}
use Rattle.rrc_settings.specs.declared.settings.SetKind.{SetKind}
use Rattle.rrc_settings.specs.declared.settings.SetKind.TheVariants as set_kinds
use Rattle.rrc_settings.specs.declared.settings.Codebook.{Codebook}
use Rattle.rrc_settings.specs.declared.settings.Codebook.TheVariants as codebooks
use Rattle.rrc_settings.specs.declared.settings.Allocation.{Allocation}
use Rattle.rrc_settings.specs.declared.settings.Allocation.TheVariants as allocations

-- a word and the value that it names
pub record Named (V : Type 0) : Type 0 where
  pub word : List ℕ
  pub value : V

-- a word for a value
abbrev pub named : {V : Type 0} → List ℕ → V → Named V
named word value = record { word = word; value = value }

-- one of the words of a list
abbrev pub is_word_of : List (List ℕ) → List ℕ → Bool
is_word_of words word = list_any (bytes_eq word) words

-- whether a word names one of the values
abbrev pub is_named : {V : Type 0} → List (Named V) → List ℕ → Bool
is_named {V = V} names word = is_word_of (map (λ (n : Named V). n.word) names) word

-- the value that a word names, where it names one
abbrev pub value_named : {V : Type 0} → List (Named V) → List ℕ → Option V
value_named {V = V} names word = option_map (λ (n : Named V). n.value) (find (λ (n : Named V). bytes_eq word n.word) names)

-- the kinds of a search space set
abbrev pub set_kind_words : List (Named SetKind)
set_kind_words
    = named (codes "common") set_kinds.Common
    ∷ named (codes "fallback") set_kinds.Fallback
    ∷ named (codes "specific") set_kinds.Specific
    ∷ []

-- the layouts of acknowledgements
abbrev pub codebook_words : List (Named Codebook)
codebook_words
    = named (codes "semi_static") codebooks.SemiStatic
    ∷ named (codes "dynamic") codebooks.Dynamic
    ∷ []

-- the ways to grant blocks
abbrev pub allocation_words : List (Named Allocation)
allocation_words
    = named (codes "type0") allocations.Type0
    ∷ named (codes "type1") allocations.Type1
    ∷ named (codes "dynamic") allocations.Dynamic
    ∷ []

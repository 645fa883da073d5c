-- What follows of the fields of a grant from the object that gives them.
use Rattle.std.proofs.Common.{◌≡◌, suc, List, [], ◌∷◌, length, map, String, Global, Less, string_bytes}
use Rattle.std.proofs.Common.{nat_cmp, refl, ap}
use Rattle.std.specs.Cmp.Lexicographic.{slice_cmp}
use Rattle.std.specs.List.{AllByRecursion}
use Rattle.std.specs.List.Sorted.{IsStrictlySortedBy}
use Rattle.std.specs.Map.{keys_of}
use Rattle.std.specs.String.{string_cmp}
use Rattle.dci_fields.specs.declared.fault.Given.{Given}
use Rattle.serde_json.proofs.Views.{Entry}
use Rattle.serde_json.specs.Data.{Members, no_members, member}
use Rattle.serde_json.specs.View.{members_view}
use Rattle.dci_fields.specs.Words.{field_named}
use Rattle.grant_file.specs.Fields.{given_in, words_in}
use Rattle.grant_file.specs.Lists.{IsAscending, IsReadFields}

-- a word below all keys is below all words
below_words : (word : String Global) (es : List Entry) → AllByRecursion (λ y. string_cmp word y ≡ Less) (keys_of es)
    → AllByRecursion (λ y. slice_cmp nat_cmp (string_bytes word) y ≡ Less) (words_in (members_view es))
below_words word [] h = tt
below_words word (e ∷ es) h = (h.0, below_words word es h.1)

-- the words of an object ascend as its keys do
pub ascending_words : (es : List Entry) → IsStrictlySortedBy string_cmp (keys_of es) → IsAscending (words_in (members_view es))
unfolding IsStrictlySortedBy
ascending_words [] h = tt
ascending_words (e ∷ es) h = (below_words e.0 es h.0, ascending_words es h.1)

-- there are as many values as words
in_place : (ms : Members) → length (given_in ms) ≡ length (words_in ms)
in_place no_members = refl
in_place (member word d ms) = ap suc (in_place ms)

-- each value has the name of its word
named : (ms : Members) → map (λ (g : Given). g.name) (given_in ms) ≡ map field_named (words_in ms)
named no_members = refl
named (member word d ms) = ap (λ names. field_named word ∷ names) (named ms)

-- the fields of an object whose words ascend
pub read_fields : (ms : Members) → IsAscending (words_in ms) → IsReadFields (given_in ms) (words_in ms)
read_fields ms h = record { ascending = h; in_place = in_place ms; named = named ms }

-- no fields
pub read_no_fields : IsReadFields [] []
unfolding IsStrictlySortedBy
read_no_fields = record { ascending = tt; in_place = refl; named = refl }

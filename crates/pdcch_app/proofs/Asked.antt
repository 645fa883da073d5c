-- What the words of `explain` ask for: a handset by its name, and a watch by its number.
use Rattle.std.proofs.Common.{◌≡◌, ℕ, ◌<◌, true, eqb, List, [], ◌∷◌, Option, Some, None, String, length, get_or}
use Rattle.std.proofs.Common.{slice_get, refl, subst, arith}
use Rattle.std.specs.String.{string_bytes}
use Rattle.std.specs.declared.alloc.Global.{Global}
use Rattle.std.proofs.lemmas.Bool.Decides.{nat_tests}
use Rattle.pdcch_app.specs.declared.arguments.Flag.{Flag}
use Rattle.pdcch_app.specs.declared.arguments.Flag.TheVariants.{Handset, Watch}
use Rattle.pdcch_app.specs.declared.words.Command.TheVariants.{Explain}
use Rattle.pdcch_app.specs.Arguments.{Argument, arguments, arguments_after, are_formed, is_number, texts_under}
use Rattle.pdcch_app.specs.Words.{command_of, handset, legal, value, watch}
use Rattle.pdcch_app.proofs.Spellings.{are_parts, taken}
use Rattle.std.proofs.lemmas.Bool.{and_parts}

-- the value of `--watch` is a number, by the first argument
first_number : (flag : Option Flag) (text : List ℕ) (list : List Argument) (word : List ℕ)
    → are_formed (record { flag = flag; text = text } ∷ list) ≡ true
    → slice_get (texts_under (Some Watch) (record { flag = flag; text = text } ∷ list)) 0 ≡ Some word
    → (are_formed list ≡ true → slice_get (texts_under (Some Watch) list) 0 ≡ Some word → is_number word ≡ true)
    → is_number word ≡ true
first_number None text list word f e later = later f e
first_number (Some Handset) text list word f e later = later f e
first_number (Some Watch) text list word f e later =
    let same : text ≡ word = cc in
    subst (λ t. is_number t ≡ true) same (and_parts (is_number text) (are_formed list) f).0

-- and by all
numbers : (list : List Argument) (word : List ℕ) → are_formed list ≡ true
    → slice_get (texts_under (Some Watch) list) 0 ≡ Some word → is_number word ≡ true
numbers [] word f e = absurd (let g : ⊥ = cc in g)
numbers (a ∷ list) word f e = first_number a.flag a.text list word f e (λ g k. numbers list word g k)

only_one : (texts : List (List ℕ)) → length texts ≡ 1 → slice_get texts 0 ≡ Some (get_or texts 0 [])
only_one [] l = absurd (omega (arith, l))
only_one (text ∷ texts) l = refl

is_one : (n : ℕ) → eqb n 1 ≡ true → n ≡ 1
is_one n e = grind (arith, nat_tests)

-- both options stand, and the watch is asked for by its number
pub record AsksBoth (words : List (String Global)) : Type 0 where
  pub handset_stands : 0 < length (texts_under (Some Handset) (arguments words))
  pub watch_stands : 0 < length (texts_under (Some Watch) (arguments words))
  pub handset_is : handset words ≡ Some (value words Handset)
  pub watch_is : watch words ≡ Some (value words Watch)
  pub number : is_number (value words Watch) ≡ true

-- legal words of `explain` do
pub asks_both : (words : List (String Global)) → legal words ≡ Some Explain → AsksBoth words
asks_both [] h = absurd (let f : ⊥ = cc in f)
asks_both (w ∷ ws) h =
    let list = arguments_after None ws in
    let named = texts_under (Some Handset) list in
    let numbered = texts_under (Some Watch) list in
    let is = taken (command_of (string_bytes w)) list Explain h in
    let parts = are_parts Explain list is.1 in
    let many = and_parts (eqb (length (texts_under None list)) 4) _ parts.many in
    let options = and_parts (eqb (length named) 1) _ many.1 in
    let one_name : length named ≡ 1 = is_one (length named) options.0 in
    let one_number : length numbered ≡ 1 = is_one (length numbered) (and_parts (eqb (length numbered) 1) _ options.1).0 in
    let word = only_one numbered one_number in
    record {
      handset_stands = omega (arith, one_name);
      watch_stands = omega (arith, one_number);
      handset_is = only_one named one_name;
      watch_is = word;
      number = numbers list (value (w ∷ ws) Watch) parts.formed word;
    }

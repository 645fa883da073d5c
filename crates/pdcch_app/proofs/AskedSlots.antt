-- What stands under no option: the number of slots of `sweep`, and the files behind it.
use Rattle.std.proofs.Common.{◌≡◌, ℕ, ◌+◌, ◌<◌, ◌≤◌, true, ◌&&◌, eqb, leb, List, [], ◌∷◌, Some, None}
use Rattle.std.proofs.Common.{String, length, take, get_or, slice_get, refl, sym, ap, ◌∙◌, arith}
use Rattle.std.specs.List.{list_all}
use Rattle.std.specs.String.{string_bytes}
use Rattle.std.specs.declared.alloc.Global.{Global}
use Rattle.std.proofs.lemmas.Bool.Decides.{nat_tests}
use Rattle.std.proofs.lemmas.List.{get_or-drop, length-drop}
use Rattle.std.proofs.lemmas.Option.{get_or_from_slice_get, slice_get-get_or}
use Rattle.pdcch_app.specs.declared.words.Command.{Command}
use Rattle.pdcch_app.specs.declared.words.Command.TheVariants.{Write, Search, Explain, Sweep}
use Rattle.pdcch_app.specs.Arguments.{arguments, arguments_after, is_number, number_of, texts_under}
use Rattle.pdcch_app.specs.Words.{command_of, count_of, file, files, is_slots, legal, numbers_before, slots}
use Rattle.pdcch_app.proofs.Spellings.{are_parts, taken}
use Rattle.std.proofs.lemmas.Bool.{and_parts}
use Rattle.list_facts.proofs.Tests.{and_true}

-- the first of some texts decides
pub by_the_first : (texts : List (List ℕ)) (text : List ℕ) → slice_get texts 0 ≡ Some text
    → list_all is_slots (take 1 texts) ≡ is_slots text
by_the_first [] text e = absurd (let f : ⊥ = cc in f)
by_the_first (other ∷ texts) text e =
    let same : other ≡ text = cc in
    and_true (is_slots other) ∙ ap is_slots same

-- where there is none, nothing is asked
pub by_no_first : (texts : List (List ℕ)) → slice_get texts 0 ≡ None → list_all is_slots (take 1 texts) ≡ true
by_no_first [] e = refl
by_no_first (other ∷ texts) e = absurd (let f : ⊥ = cc in f)

-- as many arguments under no option as a command takes
pub as_many : (words : List (String Global)) (command : Command) → legal words ≡ Some command
    → length (texts_under None (arguments words)) ≡ numbers_before command + count_of command
as_many [] command h = absurd (let f : ⊥ = cc in f)
as_many (w ∷ ws) command h =
    let list = arguments_after None ws in
    let is = taken (command_of (string_bytes w)) list command h in
    let count = and_parts (eqb (length (texts_under None list)) (numbers_before command + count_of command)) _
    (are_parts command list is.1).many in
    grind (arith, nat_tests, count.0)

-- so that legal words name as many files as their command takes
pub files_are : (words : List (String Global)) (command : Command) → legal words ≡ Some command
    → length (files command words) ≡ count_of command
files_are words command h =
    let texts = texts_under None (arguments words) in
    omega (arith, as_many words command h, length-drop (numbers_before command) texts)

-- a number of slots stands first
pub record AsksSlots (words : List (String Global)) : Type 0 where
  pub stands : slice_get (texts_under None (arguments words)) 0 ≡ Some (get_or (texts_under None (arguments words)) 0 [])
  pub number : is_number (get_or (texts_under None (arguments words)) 0 []) ≡ true
  pub least : 1 ≤ slots words
  pub most : slots words ≤ 200

three_texts : (texts : List (List ℕ)) → length texts ≡ 3 → slice_get texts 0 ≡ Some (get_or texts 0 [])
three_texts [] l = absurd (omega (arith, l))
three_texts (text ∷ texts) l = refl

-- so it is in legal words of `sweep`
pub asks_slots : (words : List (String Global)) → legal words ≡ Some Sweep → AsksSlots words
asks_slots [] h = absurd (let f : ⊥ = cc in f)
asks_slots (w ∷ ws) h =
    let list = arguments_after None ws in
    let texts = texts_under None list in
    let text = get_or texts 0 [] in
    let is = taken (command_of (string_bytes w)) list Sweep h in
    let first = three_texts texts (as_many (w ∷ ws) Sweep h) in
    let all : is_slots text ≡ true = sym (by_the_first texts text first) ∙ (are_parts Sweep list is.1).numbers in
    let below = and_parts (is_number text && leb 1 (number_of text)) (leb (number_of text) 200) all in
    let above = and_parts (is_number text) (leb 1 (number_of text)) below.0 in
    record {
      stands = first;
      number = above.0;
      least = grind (arith, nat_tests, above.1);
      most = grind (arith, nat_tests, below.1);
    }

-- there is one number at most
pub few_numbers : (command : Command) → numbers_before command ≤ 1
few_numbers Write = omega arith
few_numbers Search = omega arith
few_numbers Explain = omega arith
few_numbers Sweep = omega arith

-- a file of a command is an argument under no option, behind the numbers
file_within : (command : Command) (words : List (String Global)) (place : ℕ) → place < length (files command words)
    → numbers_before command + place < length (texts_under None (arguments words))
file_within command words place l = omega (arith, l, length-drop (numbers_before command) (texts_under None (arguments words)))

-- what stands behind the numbers at its place is the file
pub file_is : (command : Command) (words : List (String Global)) (place : ℕ) (text : List ℕ)
    → slice_get (texts_under None (arguments words)) (numbers_before command + place) ≡ Some text
    → text ≡ file command words place
file_is command words place text e =
    let texts = texts_under None (arguments words) in
    sym (get_or-drop (numbers_before command) texts place []
    ∙ get_or_from_slice_get texts (numbers_before command + place) text [] e)

-- and something stands there, where the words name such a file
pub file_there : (command : Command) (words : List (String Global)) (place : ℕ) → place < length (files command words)
    → slice_get (texts_under None (arguments words)) (numbers_before command + place)
    ≡ Some (get_or (texts_under None (arguments words)) (numbers_before command + place) [])
file_there command words place l =
    slice_get-get_or (texts_under None (arguments words)) (numbers_before command + place) [] (file_within command words place l)

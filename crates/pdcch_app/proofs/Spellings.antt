-- The words of a command and its arguments are read back, and no others are legal.
use Rattle.std.proofs.Common.{◌≡◌, ℕ, true, cond, ◌&&◌, option_and_then, List, [], ◌∷◌}
use Rattle.std.proofs.Common.{◌++◌, Option, Some, None, String, map, flat_map, refl, ◌∙◌, ap, subst, arith}
use Rattle.std.specs.Str.{bytes_eq}
use Rattle.std.specs.String.{string_bytes}
use Rattle.std.specs.declared.alloc.Global.{Global}
use Rattle.std.proofs.lemmas.Slice.Eq.{bytes_eq-Decides}
use Rattle.std.proofs.lemmas.Grind.{common_steps}
use Rattle.std.proofs.lemmas.Option.{cond_some}
use Rattle.pdcch_app.specs.declared.arguments.Flag.{Flag}
use Rattle.pdcch_app.specs.declared.arguments.Flag.TheVariants.{Handset, Watch}
use Rattle.pdcch_app.specs.declared.words.Command.{Command}
use Rattle.pdcch_app.specs.declared.words.Command.TheVariants.{Write, Search, Explain, Sweep}
use Rattle.pdcch_app.specs.Arguments.{Argument, arguments_after, are_plain, are_formed, is_plain, flag_of, flag_name, flags}
use Rattle.pdcch_app.specs.Words.{are_as_many, are_for, are_slots, legal, command_of, command_name, commands}
use Rattle.pdcch_app.specs.Spelling.{words_under, spelled, LegalWordsAreSpelled, ReadsWhatIsSpelled}
use Rattle.std.proofs.lemmas.Bool.{and_parts}
use Rattle.list_facts.proofs.Tests.{found_passes}

-- the words of the arguments alone
abbrev of_all : List Argument → List (List ℕ)
of_all list = flat_map (λ argument. words_under argument.flag argument.text) list

-- a plain word names no option
plain_is_no_flag : (w : List ℕ) → is_plain w ≡ true → flag_of w ≡ None
plain_is_no_flag [] h = search
plain_is_no_flag (b ∷ bs) h = grind (arith, common_steps)

flag_of_name : (flag : Flag) → flag_of (flag_name flag) ≡ Some flag
flag_of_name Handset = refl
flag_of_name Watch = refl

-- the arguments where the first word names an option, or none
abbrev begun : Option Flag → List ℕ → List (String Global) → List Argument
begun o text ws =
    elim o as (λ _. List Argument)
    [ None ↦ record { flag = None; text = text } ∷ arguments_after None ws | Some flag ↦ arguments_after (Some flag) ws ]

-- the arguments that are read of the words of an argument and more words
read_on : (flag : Option Flag) (text : List ℕ) (words : List (String Global)) (more : List (List ℕ)) (list : List Argument)
    → is_plain text ≡ true → map string_bytes words ≡ words_under flag text ++ more
    → ((ws : List (String Global)) → map string_bytes ws ≡ more → arguments_after None ws ≡ list)
    → arguments_after None words ≡ record { flag = flag; text = text } ∷ list
read_on None text [] more list p e h = search
read_on None text (w ∷ ws) more list p e h =
    let first : string_bytes w ≡ text = cc in
    let rest : map string_bytes ws ≡ more = cc in
    let read : arguments_after None (w ∷ ws) ≡ record { flag = None; text = string_bytes w } ∷ arguments_after None ws
    = ap (λ o. begun o (string_bytes w) ws) (ap flag_of first ∙ plain_is_no_flag text p) in
    let left : arguments_after None ws ≡ list = h ws rest in
    cc
read_on (Some flag) text [] more list p e h = search
read_on (Some flag) text (w ∷ []) more list p e h = search
read_on (Some flag) text (w ∷ v ∷ vs) more list p e h =
    let name : string_bytes w ≡ flag_name flag = cc in
    let value : string_bytes v ≡ text = cc in
    let rest : map string_bytes vs ≡ more = cc in
    let read : arguments_after None (w ∷ v ∷ vs) ≡ record { flag = Some flag; text = string_bytes v } ∷ arguments_after None vs
    = ap (λ o. begun o (string_bytes w) (v ∷ vs)) (ap flag_of name ∙ flag_of_name flag) in
    let left : arguments_after None vs ≡ list = h vs rest in
    cc

-- plain arguments are read of their words
read_all : (list : List Argument) (words : List (String Global)) → are_plain list ≡ true
    → map string_bytes words ≡ of_all list → arguments_after None words ≡ list
read_all [] [] p e = refl
read_all [] (w ∷ ws) p e = search
read_all (a ∷ list) words p e =
    let plain = and_parts (is_plain a.text) (are_plain list) p in
    read_on a.flag a.text words (of_all list) list plain.0 e (λ ws rest. read_all list ws plain.1 rest)

-- what arguments for a command are
pub record AreFor (command : Command) (list : List Argument) : Type 0 where
  pub plain : are_plain list ≡ true
  pub formed : are_formed list ≡ true
  pub many : are_as_many command list ≡ true
  pub numbers : are_slots command list ≡ true

-- what makes arguments fit a command holds part by part
pub are_parts : (command : Command) (list : List Argument) → are_for command list ≡ true → AreFor command list
are_parts command list h =
    let counted = and_parts (are_plain list && are_formed list && are_as_many command list) (are_slots command list) h in
    let written = and_parts (are_plain list && are_formed list) (are_as_many command list) counted.0 in
    let each = and_parts (are_plain list) (are_formed list) written.0 in
    record { plain = each.0; formed = each.1; many = written.1; numbers = counted.1 }

plain_if_for : (command : Command) (list : List Argument) → are_for command list ≡ true → are_plain list ≡ true
plain_if_for command list h = (are_parts command list h).plain

-- plain arguments are read of the words that spell them
pub reads_spelled : ReadsWhatIsSpelled
reads_spelled [] command list p e = search
reads_spelled (w ∷ ws) command list p e = let rest : map string_bytes ws ≡ of_all list = cc in read_all list ws p rest

flag_named : (w : List ℕ) (flag : Flag) → flag_of w ≡ Some flag → w ≡ flag_name flag
flag_named w flag h = (bytes_eq-Decides w (flag_name flag)).0 (found_passes (λ f. bytes_eq w (flag_name f)) flags flag h)

command_named : (w : List ℕ) (command : Command) → command_of w ≡ Some command → w ≡ command_name command
command_named w command h =
    (bytes_eq-Decides w (command_name command)).0 (found_passes (λ c. bytes_eq w (command_name c)) commands command h)

command_of_name : (command : Command) → command_of (command_name command) ≡ Some command
command_of_name Write = refl
command_of_name Search = refl
command_of_name Explain = refl
command_of_name Sweep = refl

-- the name of an option that the words follow
abbrev before : Option Flag → List (List ℕ)
before None = []
before (Some flag) = flag_name flag ∷ []

-- the words of what was read, from a word on that names an option, or none
spell_begun : (o : Option Flag) (w : String Global) (ws : List (String Global)) → flag_of (string_bytes w) ≡ o
    → ((f : Option Flag) → are_plain (arguments_after f ws) ≡ true
    → before f ++ map string_bytes ws ≡ of_all (arguments_after f ws))
    → are_plain (begun o (string_bytes w) ws) ≡ true → map string_bytes (w ∷ ws) ≡ of_all (begun o (string_bytes w) ws)
spell_begun None w ws n h p =
    ap (λ rest. string_bytes w ∷ rest) (h None (and_parts (is_plain (string_bytes w)) (are_plain (arguments_after None ws)) p).1)
spell_begun (Some flag) w ws n h p =
    ap (λ name. name ∷ map string_bytes ws) (flag_named (string_bytes w) flag n) ∙ h (Some flag) p

-- plain arguments that were read are written as the words that they were read of
spell_after : (ws : List (String Global)) (flag : Option Flag) → are_plain (arguments_after flag ws) ≡ true
    → before flag ++ map string_bytes ws ≡ of_all (arguments_after flag ws)
spell_after [] None p = refl
spell_after [] (Some flag) p = search
spell_after (w ∷ ws) None p = spell_begun (flag_of (string_bytes w)) w ws refl (λ f q. spell_after ws f q) p
spell_after (w ∷ ws) (Some flag) p =
    ap (λ rest. flag_name flag ∷ string_bytes w ∷ rest)
    (spell_after ws None (and_parts (is_plain (string_bytes w)) (are_plain (arguments_after None ws)) p).1)

-- what a legal line has
pub taken : (o : Option Command) (list : List Argument) (command : Command)
    → option_and_then (λ c. cond (are_for c list) (Some c) None) o ≡ Some command
    → (o ≡ Some command) × (are_for command list ≡ true)
taken None list command h = search
taken (Some c) list command h =
    let is = cond_some (are_for c list) c command h in
    (ap (λ d. Some d) is.1, subst (λ d. are_for d list ≡ true) is.1 is.0)

-- legal words are written so
legal_then : (w : String Global) (ws : List (String Global)) (command : Command) → legal (w ∷ ws) ≡ Some command
    → (list : List Argument) × (are_for command list ≡ true) × (map string_bytes (w ∷ ws) ≡ spelled command list)
legal_then w ws command e =
    let is = taken (command_of (string_bytes w)) (arguments_after None ws) command e in
    let words = spell_after ws None (plain_if_for command (arguments_after None ws) is.1) in
    let name = command_named (string_bytes w) command is.0 in (
      arguments_after None ws,
      is.1,
      ap (λ rest. string_bytes w ∷ rest) words
          ∙ ap (λ n. n ∷ of_all (arguments_after None ws)) name,
    )

-- words that are written so are legal
then_legal : (w : String Global) (ws : List (String Global)) (command : Command) (list : List Argument)
    → are_for command list ≡ true
    → map string_bytes (w ∷ ws) ≡ spelled command list → legal (w ∷ ws) ≡ Some command
then_legal w ws command list f e =
    let name : string_bytes w ≡ command_name command = cc in
    let rest : map string_bytes ws ≡ of_all list = cc in
    let read = read_all list ws (plain_if_for command list f) rest in
    let is : command_of (string_bytes w) ≡ Some command = ap command_of name ∙ command_of_name command in
    let fits : are_for command (arguments_after None ws) ≡ true = ap (are_for command) read ∙ f in
    ap (λ o. option_and_then (λ c. cond (are_for c (arguments_after None ws)) (Some c) None) o) is
    ∙ ap (λ b. cond b (Some command) None) fits

-- words are legal for a command exactly where they spell it with arguments for it
pub legal_words : LegalWordsAreSpelled
legal_words [] command =
    (λ e. absurd cc, λ t. let never : map (string_bytes {Z = Global}) [] ≡ spelled command t.0 = t.2 in absurd cc)
legal_words (w ∷ ws) command = (legal_then w ws command, λ t. then_legal w ws command t.0 t.1 t.2)

-- How a command and its arguments are written as words.
use Rattle.std.specs.Prelude.{◌≡◌, ◌↔◌, true, List, [], ◌∷◌, Option, Some, None, ℕ, map, flat_map, String}
use Rattle.std.specs.String.{string_bytes}
use Rattle.std.specs.declared.alloc.Global.{Global}
use Rattle.pdcch_app.specs.declared.arguments.Flag.{Flag}
use Rattle.pdcch_app.specs.declared.words.Command.{Command}
use Rattle.pdcch_app.specs.Arguments.{Argument, are_plain, arguments, flag_name}
use Rattle.pdcch_app.specs.Words.{are_for, legal, command_name}

-- the words of an argument: it alone, or the name of its option before it
abbrev pub words_under : Option Flag → List ℕ → List (List ℕ)
words_under None text = text ∷ []
words_under (Some flag) text = flag_name flag ∷ text ∷ []

-- the words of a command and its arguments, in the arguments' order
abbrev pub spelled : Command → List Argument → List (List ℕ)
spelled command list = command_name command ∷ flat_map (λ argument. words_under argument.flag argument.text) list

-- words are legal for a command exactly where they are its name and the words of arguments for it, in any order
abbrev pub LegalWordsAreSpelled : Type 0
LegalWordsAreSpelled = (words : List (String Global)) (command : Command)
    → (legal words ≡ Some command)
    ↔ ((list : List Argument) × (are_for command list ≡ true) × (map string_bytes words ≡ spelled command list))

-- plain arguments that a command is written with are the ones that are read
abbrev pub ReadsWhatIsSpelled : Type 0
ReadsWhatIsSpelled = (words : List (String Global)) (command : Command) (list : List Argument)
    → are_plain list ≡ true → map string_bytes words ≡ spelled command list → arguments words ≡ list

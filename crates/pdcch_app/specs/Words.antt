-- Which words are legal, and which of them name files.
use Rattle.std.specs.Prelude.{ℕ, ◌+◌, Bool, cond, ◌&&◌, eqb, leb, List, [], ◌∷◌, Option, Some, None, length, drop, take}
use Rattle.std.specs.Prelude.{get_or, slice_get, find, codes, option_and_then, String}
use Rattle.std.specs.List.{list_all}
use Rattle.std.specs.Str.{bytes_eq}
use Rattle.std.specs.String.{string_bytes}
use Rattle.std.specs.declared.alloc.Global.{Global}
use Rattle.pdcch_app.specs.declared.arguments.Flag.{Flag}
use Rattle.pdcch_app.specs.declared.arguments.Flag.TheVariants.{Handset, Watch}
use Rattle.pdcch_app.specs.declared.words.Command.{Command}
use Rattle.pdcch_app.specs.declared.words.Command.TheVariants.{Write, Search, Explain, Sweep}
use Rattle.pdcch_app.specs.declared.words.Use.{Use}
use Rattle.pdcch_app.specs.declared.words.Use.TheVariants.{Never, AtMostOnce, Once}
use Rattle.pdcch_app.specs.Arguments.{Argument, arguments, arguments_after, flags, texts_under, are_plain, are_formed}
use Rattle.pdcch_app.specs.Arguments.{is_number, number_of}

-- the name of a command
abbrev pub command_name : Command → List ℕ
command_name Write = codes "write"
command_name Search = codes "search"
command_name Explain = codes "explain"
command_name Sweep = codes "sweep"

-- all commands
abbrev pub commands : List Command
commands = Write ∷ Search ∷ Explain ∷ Sweep ∷ []

-- the command that the first word names
abbrev pub command_of : List ℕ → Option Command
command_of word = find (λ command. bytes_eq word (command_name command)) commands

-- how many files a command takes
abbrev pub count_of : Command → ℕ
count_of Write = 4
count_of Search = 4
count_of Explain = 4
count_of Sweep = 2

-- how many numbers stand before the files
abbrev pub numbers_before : Command → ℕ
numbers_before Write = 0
numbers_before Search = 0
numbers_before Explain = 0
numbers_before Sweep = 1

-- how often a command takes an option
abbrev pub use_of : Command → Flag → Use
use_of Write Handset = Never
use_of Write Watch = Never
use_of Search Handset = AtMostOnce
use_of Search Watch = Never
use_of Explain Handset = Once
use_of Explain Watch = Once
use_of Sweep Handset = Never
use_of Sweep Watch = Never

-- an option that is to be used so may stand `count` times
abbrev pub allows : Use → ℕ → Bool
allows Never count = eqb count 0
allows AtMostOnce count = leb count 1
allows Once count = eqb count 1

-- as many arguments under no option as the command takes numbers and files, and under each option as it takes it
abbrev pub are_as_many : Command → List Argument → Bool
are_as_many command list =
    eqb (length (texts_under None list)) (numbers_before command + count_of command)
    && list_all (λ flag. allows (use_of command flag) (length (texts_under (Some flag) list))) flags

-- a number of slots to sweep: from 1 to 200, in one to nine decimal digits
abbrev pub is_slots : List ℕ → Bool
is_slots text = is_number text && leb 1 (number_of text) && leb (number_of text) 200

-- the numbers before the files, of which `sweep` alone has one, are numbers of slots
abbrev pub are_slots : Command → List Argument → Bool
are_slots command list = list_all is_slots (take (numbers_before command) (texts_under None list))

-- the arguments are plain, of the forms that their options ask for, as many as the command takes, and its numbers are in their
-- range
abbrev pub are_for : Command → List Argument → Bool
are_for command list = are_plain list && are_formed list && are_as_many command list && are_slots command list

-- the command, where the words are legal: its name, then arguments for it
abbrev pub legal : List (String Global) → Option Command
legal [] = None
legal (w ∷ ws) =
    option_and_then (λ command. cond (are_for command (arguments_after None ws)) (Some command) None)
    (command_of (string_bytes w))

-- the words that name files, which stand behind the numbers of the command
abbrev pub files : Command → List (String Global) → List (List ℕ)
files command words = drop (numbers_before command) (texts_under None (arguments words))

-- the k-th of them
abbrev pub file : Command → List (String Global) → ℕ → List ℕ
file command words k = get_or (files command words) k []

-- the number of slots to sweep, which stands before the files
abbrev pub slots : List (String Global) → ℕ
slots words = number_of (get_or (texts_under None (arguments words)) 0 [])

-- the value of `--handset`, where it stands
abbrev pub handset : List (String Global) → Option (List ℕ)
handset words = slice_get (texts_under (Some Handset) (arguments words)) 0

-- the value of `--watch`, where it stands
abbrev pub watch : List (String Global) → Option (List ℕ)
watch words = slice_get (texts_under (Some Watch) (arguments words)) 0

-- the value of an option that has to stand
abbrev pub value : List (String Global) → Flag → List ℕ
value words flag = get_or (texts_under (Some flag) (arguments words)) 0 []

-- the files that a run may ask for, which are none where the words are not legal
abbrev pub named_by : Option Command → List (String Global) → List (List ℕ)
named_by None words = []
named_by (Some command) words = files command words

-- the files that a run on these words may ask for
abbrev pub named : List (String Global) → List (List ℕ)
named words = named_by (legal words) words

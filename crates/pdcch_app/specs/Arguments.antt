-- What each word after a command is for: an option, its value, or an argument of the command itself.
use Rattle.std.specs.Prelude.{ℕ, Bool, true, false, not, ◌&&◌, eqb, leb, List, [], ◌∷◌, Option, Some, None, length, map}
use Rattle.std.specs.Prelude.{filter, find, codes, String}
use Rattle.std.specs.Char.{is_ascii_digit}
use Rattle.std.specs.List.{list_all}
use Rattle.std.specs.Str.{bytes_eq}
use Rattle.std.specs.Str.Parse.{digits_value}
use Rattle.std.specs.String.{string_bytes}
use Rattle.std.specs.declared.alloc.Global.{Global}
use Rattle.pdcch_app.specs.declared.arguments.Flag.{Flag}
use Rattle.pdcch_app.specs.declared.arguments.Flag.TheVariants.{Handset, Watch}

-- the name of an option
abbrev pub flag_name : Flag → List ℕ
flag_name Handset = codes "--handset"
flag_name Watch = codes "--watch"

-- all options
abbrev pub flags : List Flag
flags = Handset ∷ Watch ∷ []

-- the option that a word names
abbrev pub flag_of : List ℕ → Option Flag
flag_of word = find (λ flag. bytes_eq word (flag_name flag)) flags

-- a word after the command that names no option, with the option whose value it is
pub record Argument : Type 0 where
  pub flag : Option Flag
  pub text : List ℕ

-- the arguments of the words that follow an option, or none; an option with no word after it has the empty word for its value
abbrev pub arguments_after : Option Flag → List (String Global) → List Argument
arguments_after None [] = []
arguments_after (Some flag) [] = record { flag = Some flag; text = [] } ∷ []
arguments_after None (w ∷ ws) =
    elim (flag_of (string_bytes w)) as (λ _. List Argument) [
      | None ↦ record { flag = None; text = string_bytes w } ∷ arguments_after None ws
      | Some flag ↦ arguments_after (Some flag) ws
    ]
arguments_after (Some flag) (w ∷ ws) = record { flag = Some flag; text = string_bytes w } ∷ arguments_after None ws

-- the arguments of all words, the first of which is the command
abbrev pub arguments : List (String Global) → List Argument
arguments [] = []
arguments (w ∷ ws) = arguments_after None ws

-- an argument stands under that option, or under none
abbrev pub is_under : Option Flag → Argument → Bool
is_under None argument = elim argument.flag as (λ _. Bool) [ None ↦ true | Some _ ↦ false ]
is_under (Some Handset) argument = elim argument.flag as (λ _. Bool) [ None ↦ false | Some Handset ↦ true | Some Watch ↦ false ]
is_under (Some Watch) argument = elim argument.flag as (λ _. Bool) [ None ↦ false | Some Handset ↦ false | Some Watch ↦ true ]

-- the texts of the arguments under an option, or under none, in their order
abbrev pub texts_under : Option Flag → List Argument → List (List ℕ)
texts_under flag list = map (λ argument. argument.text) (filter (is_under flag) list)

-- a word that is not empty and does not begin with `-`
abbrev pub is_plain : List ℕ → Bool
is_plain [] = false
is_plain (b ∷ bs) = not (eqb b 45)

-- all arguments are plain words
abbrev pub are_plain : List Argument → Bool
are_plain list = list_all (λ argument. is_plain argument.text) list

-- one to nine decimal digits, the first of which may be zeros
abbrev pub is_number : List ℕ → Bool
is_number text = leb 1 (length text) && leb (length text) 9 && list_all is_ascii_digit text

-- the number that decimal digits write
abbrev pub number_of : List ℕ → ℕ
number_of text = digits_value 10 text

-- an argument is written in the form that its option asks for: a watch is asked for by its number
abbrev pub is_formed : Argument → Bool
is_formed argument =
    elim argument.flag as (λ _. Bool) [ None ↦ true | Some Handset ↦ true | Some Watch ↦ is_number argument.text ]

-- so are all arguments
abbrev pub are_formed : List Argument → Bool
are_formed list = list_all is_formed list

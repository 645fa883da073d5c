-- A number among the words.
use Rattle.std.proofs.Common.{◌≡◌, ℕ, ◌<◌, ◌≤◌, true, ◌&&◌, List, leb, Result, Ok, length, refl, arith}
use Rattle.std.specs.Char.{is_ascii_digit}
use Rattle.std.specs.Int.{IsInRange}
use Rattle.std.specs.List.{list_all}
use Rattle.std.specs.Str.Parse.{ParsesUnsigned}
use Rattle.std.proofs.lemmas.Bool.Decides.{nat_tests}
use Rattle.std.proofs.lemmas.Str.Parse.{IsDigitsTest, numerals_by_value, parse_gives, digits_value_short}
use Rattle.pdcch_app.specs.Arguments.{is_number, number_of}
use Rattle.std.proofs.lemmas.Bool.{and_parts}
use Rattle.std.proofs.lemmas.Bool.{and_from}

-- digits alone
abbrev AreDigits : List ℕ → Type 0
AreDigits text = list_all is_ascii_digit text ≡ true

in_range : (c : ℕ) → is_ascii_digit c ≡ true → IsInRange 48 57 c
in_range c h = grind (arith, nat_tests)

is_digit : (c : ℕ) → IsInRange 48 57 c → is_ascii_digit c ≡ true
is_digit c h = grind (arith, nat_tests)

digits_test : IsDigitsTest AreDigits
digits_test = record {
  empty = refl;
  parts = λ c cs h. let (first, rest) = and_parts (is_ascii_digit c) (list_all is_ascii_digit cs) h in (in_range c first, rest);
  more = λ c cs first rest. and_from (is_ascii_digit c) (list_all is_ascii_digit cs) (is_digit c first) rest;
}

-- what a number is
record IsNumber (text : List ℕ) : Type 0 where
  some : 0 < length text
  short : length text ≤ 9
  digits : AreDigits text

number_is : (text : List ℕ) → is_number text ≡ true → IsNumber text
number_is text h =
    let (few, digits) = and_parts (leb 1 (length text) && leb (length text) 9) (list_all is_ascii_digit text) h in
    let (some, short) = and_parts (leb 1 (length text)) (leb (length text) 9) few in
    record { some = grind (arith, nat_tests, some); short = grind (arith, nat_tests, short); digits = digits }

-- it is read as its value, which 32 bits hold
pub number_parses : {E : Type 0} (text : List ℕ) (result : Result ℕ E) → is_number text ≡ true
    → ParsesUnsigned 32 10 text result → result ≡ Ok (number_of text)
number_parses text result h parses =
    let is = number_is text h in
    let own = numerals_by_value AreDigits digits_test in
    parse_gives own 32 text result parses is.digits is.some (omega (arith, digits_value_short own text 9 is.digits is.short))

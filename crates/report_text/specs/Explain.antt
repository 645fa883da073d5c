-- The lines of one watch: where it looks, and what was heard there or why nothing was.
use Rattle.std.specs.Prelude.{ℕ, List, [], ◌∷◌, ◌++◌, codes, Result, Ok, Err}
use Rattle.std.specs.List.{flat_map}
use Rattle.std.specs.Fmt.{decimal}
use Rattle.dci_fields.specs.declared.formats.Format.{Format}
use Rattle.dci_fields.specs.Formats.{format_word}
use Rattle.dci_codec.specs.declared.heard.Heard.{Heard}
use Rattle.dci_codec.specs.declared.silence.Silence.{Silence}
use Rattle.dci_codec.specs.declared.silence.Silence.TheVariants as silence
use Rattle.dmrs_qpsk.specs.declared.taking.BadPlace.{BadPlace}
use Rattle.dmrs_qpsk.specs.declared.taking.Flaw.{Flaw}
use Rattle.dmrs_qpsk.specs.declared.taking.Flaw.TheVariants.{Empty, Reference}
use Rattle.monitor_plan.specs.declared.watch.Watch.{Watch}
use Rattle.report_text.specs.Report.{field_text, watch_text}

-- what the first line begins with: the number of the watch
unfoldable pub watch_start : ℕ → List ℕ
watch_start number = codes "watch " ++ decimal number ++ 32 ∷ []

-- the first line: the number of the watch, and where it looks
unfoldable pub watch_line : ℕ → Watch → List ℕ
watch_line number watch = watch_start number ++ watch_text watch ++ 10 ∷ []

-- what is wrong with a place
abbrev pub flaw_word : Flaw → List ℕ
flaw_word Empty = codes "empty"
flaw_word Reference = codes "reference"

-- the place that is bad
unfoldable pub spot_text : BadPlace → List ℕ
spot_text bad =
    codes "silent: " ++ flaw_word bad.flaw ++ codes " at symbol " ++ decimal bad.symbol ++ codes " subcarrier "
    ++ decimal bad.subcarrier

-- why nothing was heard
abbrev pub silent_text : Silence → List ℕ
silent_text (silence.Spot bad) = spot_text bad
silent_text (silence.Repeat at) = codes "silent: repeat at bit " ++ decimal at
silent_text silence.Code = codes "silent: code"
silent_text silence.Crc = codes "silent: crc"
silent_text silence.Format = codes "silent: format"

-- the format that was heard
unfoldable pub format_text : Format → List ℕ
format_text format = codes "heard: " ++ format_word format

-- what was heard: a format, and each shown field behind a space
unfoldable pub heard_text : Heard → List ℕ
heard_text heard = format_text heard.format ++ flat_map field_text heard.values

-- what was heard, or why nothing was
abbrev pub answer_text : Result Heard Silence → List ℕ
answer_text (Ok heard) = heard_text heard
answer_text (Err why) = silent_text why

-- the second line
unfoldable pub answer_line : Result Heard Silence → List ℕ
answer_line answer = answer_text answer ++ 10 ∷ []

-- both lines of a watch of this number with the answer there
unfoldable pub explain_text : Watch → ℕ → Result Heard Silence → List ℕ
explain_text watch number answer = watch_line number watch ++ answer_line answer

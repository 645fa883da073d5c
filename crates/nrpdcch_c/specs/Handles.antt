-- What a call with a handle answers.
use Rattle.std.specs.Prelude.{Option, None, Some, Result, Err}
use Rattle.nrpdcch_c.specs.declared.handle.Opened.{Opened}
use Rattle.nrpdcch_c.specs.declared.stop.Stop.{Stop}
use Rattle.nrpdcch_c.specs.declared.stop.Stop.TheVariants as stops

-- by what is open behind the handle, where something is
abbrev pub in_opened : {A : Type 0} → Option Opened → (Opened → Result A Stop) → Result A Stop
in_opened None answer = Err stops.Closed
in_opened (Some opened) answer = answer opened

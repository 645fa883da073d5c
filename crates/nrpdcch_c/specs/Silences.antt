-- What is told of a watch at which nothing is heard, as C has it.
use Rattle.std.specs.Prelude.{ℕ, Result, Ok, Err}
use Rattle.dci_codec.specs.declared.silence.Silence.{Silence}
use Rattle.dci_codec.specs.declared.silence.Silence.TheVariants as silence
use Rattle.dmrs_qpsk.specs.declared.taking.Flaw.{Flaw}
use Rattle.dmrs_qpsk.specs.declared.taking.Flaw.TheVariants as flaw
use Rattle.nrpdcch_c.specs.declared.silence.NrpdcchSilence.{NrpdcchSilence}
use Rattle.nrpdcch_c.specs.declared.stop.Stop.{Stop}
use Rattle.nrpdcch_c.specs.declared.stop.Stop.TheVariants as stops

-- the number of what is wrong with a place
abbrev pub flaw_number : Flaw → ℕ
flaw_number flaw.Empty = 1
flaw_number flaw.Reference = 2

-- a stage that needs no more than a place
abbrev pub silence_at : ℕ → ℕ → NrpdcchSilence
silence_at stage at = record { stage = stage; symbol = 0; subcarrier = 0; flaw = 0; at = at }

-- the stage of hearing that fails first
abbrev pub silence_by : Silence → NrpdcchSilence
silence_by (silence.Spot bad) = record {
  stage = 1;
  symbol = bad.symbol;
  subcarrier = bad.subcarrier;
  flaw = flaw_number bad.flaw;
  at = 0;
}
silence_by (silence.Repeat at) = silence_at 2 at
silence_by silence.Code = silence_at 3 0
silence_by silence.Crc = silence_at 4 0
silence_by silence.Format = silence_at 5 0

-- what is told of a refusal: the stage, or the number that the refusal tells
abbrev pub silence_of : Stop → NrpdcchSilence
silence_of (stops.Silent s) = silence_by s
silence_of stops.Argument = silence_at 0 0
silence_of stops.NoMemory = silence_at 0 0
silence_of stops.Closed = silence_at 0 0
silence_of stops.Open = silence_at 0 0
silence_of (stops.Settings _) = silence_at 0 0
silence_of (stops.Reliability _) = silence_at 0 0
silence_of (stops.InputOrder _) = silence_at 0 0
silence_of stops.Over = silence_at 0 0
silence_of stops.NoHandset = silence_at 0 0
silence_of stops.NoWatch = silence_at 0 0
silence_of stops.NoFormat = silence_at 0 0
silence_of stops.NotCarried = silence_at 0 0
silence_of (stops.Field _) = silence_at 0 0
silence_of stops.GridLength = silence_at 0 0
silence_of (stops.GridByte at) = silence_at 0 at
silence_of (stops.Small needed) = silence_at 0 needed
silence_of (stops.GridText at) = silence_at 0 at

-- what a call leaves where its silences are told
abbrev pub silence_left : {A : Type 0} → Result A Stop → NrpdcchSilence → NrpdcchSilence
silence_left (Ok a) old = old
silence_left (Err stop) old = silence_of stop

-- Why nothing is heard at a watch: the stage of hearing that fails first (3GPP TS 38.212, 7.3).
use Rattle.std.specs.Prelude.{◌≡◌, ℕ, ◌+◌, ◌*◌, Bool, List, length, Result, Ok, Err}
use Rattle.crc_mask.specs.Parity.{masked}
use Rattle.dmrs_qpsk.specs.Held.{Holds, IsFirstBad}
use Rattle.monitor_plan.specs.declared.watch.Watch.{Watch}
use Rattle.polar_chain.specs.Decoding.{IsBlockBy}
use Rattle.rate_match.specs.MotherCode.{length_of}
use Rattle.rate_match.specs.Repeats.{IsFirstDiffering, RepeatsBelow}
use Rattle.slot_grid.specs.Grid.{GridValue}
use Rattle.table_files.specs.declared.tables.Tables.{Tables}
use Rattle.dci_codec.specs.declared.heard.Heard.{Heard}
use Rattle.dci_codec.specs.declared.silence.Silence.{Silence}
use Rattle.dci_codec.specs.declared.silence.Silence.TheVariants as silence
use Rattle.dci_codec.specs.Hearing.{IsCarried, IsHeard, Spells}
use Rattle.dci_codec.specs.Scrambling.{scrambled}
use Rattle.dci_codec.specs.Spelling.{Spelling}

-- how many bits the word of a watch's code has
abbrev pub word_length : Watch → ℕ
word_length watch = length_of (watch.size + 24) (108 * watch.level)

-- bits are received at a watch: the data places have the points of these bits, each added to the sequence's, and the reference
-- places their reference points
abbrev pub IsReceived : GridValue → Watch → List Bool → Type 0
IsReceived grid watch bits = Holds grid watch.symbol watch.dmrs_id watch.regs.items (scrambled watch.scramble bits)

-- bits are the code of a block at a watch
abbrev pub IsCodeAt : Tables → Watch → List Bool → List Bool → Type 0
IsCodeAt tables watch = IsBlockBy tables.reliability tables.input_order (watch.size + 24) (108 * watch.level)

-- of the received bits, the one at this place is the first that differs from the bit that it repeats
pub record HasDifferingRepeat (grid : GridValue) (watch : Watch) (at : ℕ) : Type 0 where
  pub bits : List Bool
  pub received : IsReceived grid watch bits
  pub differs : IsFirstDiffering (word_length watch) bits at

-- the repeats of the received bits agree, and these are the code of no block
pub record HasNoCode (tables : Tables) (grid : GridValue) (watch : Watch) : Type 0 where
  pub bits : List Bool
  pub received : IsReceived grid watch bits
  pub repeats : RepeatsBelow (word_length watch) bits (length bits)
  pub none : (block : List Bool) → IsCodeAt tables watch bits block → ⊥

-- the received bits are the code of a block, and this is no payload with its parity masked by the watch's RNTI
pub record HasOtherParity (tables : Tables) (grid : GridValue) (watch : Watch) : Type 0 where
  pub bits : List Bool
  pub block : List Bool
  pub received : IsReceived grid watch bits
  pub code : IsCodeAt tables watch bits block
  pub none : (payload : List Bool) → masked payload watch.rnti ≡ block → ⊥

-- the grid carries a payload, and spells nothing: no format that fits the watch has the payload
pub record HasNoFormat (tables : Tables) (grid : GridValue) (watch : Watch) : Type 0 where
  pub payload : List Bool
  pub carried : IsCarried tables grid watch payload
  pub none : (spelling : Spelling) → Spells tables grid watch spelling → ⊥

-- the stage that fails first: a place is bad, a repeat differs, the bits are no code, the parity is another, or no format fits
abbrev pub IsSilence : Tables → GridValue → Watch → Silence → Type 0
IsSilence tables grid watch (silence.Spot bad) = IsFirstBad grid watch.symbol watch.dmrs_id watch.regs.items bad
IsSilence tables grid watch (silence.Repeat at) = HasDifferingRepeat grid watch at
IsSilence tables grid watch silence.Code = HasNoCode tables grid watch
IsSilence tables grid watch silence.Crc = HasOtherParity tables grid watch
IsSilence tables grid watch silence.Format = HasNoFormat tables grid watch

-- the answer at the watch of a number: what is heard, or the stage that fails first
abbrev pub IsAnswer : Tables → GridValue → Watch → ℕ → Result Heard Silence → Type 0
IsAnswer tables grid watch number (Ok heard) = IsHeard tables grid watch number heard
IsAnswer tables grid watch number (Err silence) = IsSilence tables grid watch silence

-- the answer on the way to it: the payload that the grid carries, or the stage before the formats that fails first
abbrev pub IsPayloadAnswer : Tables → GridValue → Watch → Result (List Bool) Silence → Type 0
IsPayloadAnswer tables grid watch (Ok payload) = IsCarried tables grid watch payload
IsPayloadAnswer tables grid watch (Err (silence.Spot bad)) = IsSilence tables grid watch (silence.Spot bad)
IsPayloadAnswer tables grid watch (Err (silence.Repeat at)) = IsSilence tables grid watch (silence.Repeat at)
IsPayloadAnswer tables grid watch (Err silence.Code) = IsSilence tables grid watch silence.Code
IsPayloadAnswer tables grid watch (Err silence.Crc) = IsSilence tables grid watch silence.Crc
IsPayloadAnswer tables grid watch (Err silence.Format) = ⊥

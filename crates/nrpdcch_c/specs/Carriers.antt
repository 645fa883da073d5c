-- What is told of a cell.
use Rattle.std.specs.Prelude.{ℕ, List, Option, length, position, bytes_eq, Result, Ok}
use Rattle.std.specs.Option.{ok_or}
use Rattle.rrc_settings.specs.declared.settings.RawCell.{RawCell}
use Rattle.nrpdcch_c.specs.declared.carrier.NrpdcchCarrier.{NrpdcchCarrier}
use Rattle.nrpdcch_c.specs.declared.handle.Opened.{Opened}
use Rattle.nrpdcch_c.specs.declared.stop.Stop.{Stop}
use Rattle.nrpdcch_c.specs.declared.stop.Stop.TheVariants as stops
use Rattle.nrpdcch_c.specs.Handles.{in_opened}

-- the numerology, the blocks and the number of handsets
abbrev pub carrier_of : RawCell → NrpdcchCarrier
carrier_of cell = record { mu = cell.mu; blocks = cell.blocks; handsets = length cell.handsets }

-- what is told of the cell behind a handle
abbrev pub carrier_wanted : Option Opened → Result NrpdcchCarrier Stop
carrier_wanted opened = in_opened opened (λ o. Ok (carrier_of o.cell))

-- the place of the handset of a name
abbrev pub handset_in : RawCell → List ℕ → Result ℕ Stop
handset_in cell name = ok_or (position (λ h. bytes_eq h.name name) cell.handsets) stops.NoHandset

-- the same for the cell behind a handle
abbrev pub handset_wanted : Option Opened → List ℕ → Result ℕ Stop
handset_wanted opened name = in_opened opened (λ o. handset_in o.cell name)

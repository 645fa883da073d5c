-- What the scrambling of a candidate begins with (3GPP TS 38.211, 7.3.2.3).
use Rattle.std.specs.Prelude.{ℕ, ◌+◌, ◌*◌, ◌%◌, ◌^◌, Option, Some, None}
use Rattle.rrc_settings.specs.declared.settings.SetKind.{SetKind}
use Rattle.rrc_settings.specs.declared.settings.SetKind.TheVariants.{Common, Fallback, Specific}

-- the start of the sequence from an identity of a radio network R and an identity I: (R * 2^16 + I) mod 2^31
abbrev pub sequence_start : ℕ → ℕ → ℕ
sequence_start r i = (r * 2 ^ 16 + i) % 2 ^ 31

-- the handset's own start where the CORESET has an identity of its reference signal, else the cell's
abbrev pub own_start : ℕ → ℕ → Option ℕ → ℕ
own_start cell rnti None = sequence_start 0 cell
own_start cell rnti (Some id) = sequence_start rnti id

-- what the scrambling begins with: in a common set the cell's number
abbrev pub scrambling_start : SetKind → ℕ → ℕ → Option ℕ → ℕ
scrambling_start Common cell rnti id = sequence_start 0 cell
scrambling_start Fallback cell rnti id = own_start cell rnti id
scrambling_start Specific cell rnti id = own_start cell rnti id

-- The demodulation reference signal of the control channel (3GPP TS 38.211, 7.4.1.3.1).
use Rattle.std.specs.Prelude.{ℕ, ◌+◌, ◌*◌, ◌%◌, ◌^◌}
use Rattle.slot_grid.specs.declared.places.Point.{Point}
use Rattle.gold_scrambler.specs.Gold.{gold}
use Rattle.dmrs_qpsk.specs.Modulation.{point_of}

-- the start value of the sequence, for a slot, a symbol of the slot and the scrambling identity
abbrev pub reference_start : ℕ → ℕ → ℕ → ℕ
reference_start slot symbol id = (2 ^ 17 * (14 * slot + symbol + 1) * (2 * id + 1) + 2 * id) % 2 ^ 31

-- reference point m of a symbol: the point of bits 2m and 2m + 1
abbrev pub sequence_point : ℕ → ℕ → Point
sequence_point start m = point_of (gold start (2 * m)) (gold start (2 * m + 1))

-- reference point k, below 3, of a common block
unfoldable pub reference : ℕ → ℕ → ℕ → ℕ → ℕ → Point
reference slot symbol id block k = sequence_point (reference_start slot symbol id) (3 * block + k)

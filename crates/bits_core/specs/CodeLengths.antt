-- The lengths of the polar code's word (3GPP TS 38.212, 5.3.1).
use Rattle.std.specs.Prelude.{ℕ, Bool, ◌==◌, ◌||◌}

-- the lengths that a word of the downlink control channel may have
abbrev pub is_code_length : ℕ → Bool
is_code_length n = n == 32 || n == 64 || n == 128 || n == 256 || n == 512

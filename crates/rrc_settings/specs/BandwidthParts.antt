-- Bandwidth parts (3GPP TS 38.213, 12; TS 38.331, `BWP`).
use Rattle.std.specs.Prelude.{ℕ, ◌+◌}
use Rattle.rrc_settings.specs.declared.settings.Bwp.{Bwp}

-- the block after the last one of a bandwidth part
abbrev pub end_of : Bwp → ℕ
end_of bwp = bwp.start + bwp.size

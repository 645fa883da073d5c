-- Words of the code alone: a CORESET's groups looked at bit by bit. What the groups are stands in ControlGroups.antt.
use Rattle.std.specs.Prelude.{ℕ, ◌+◌, Bool, ◌&&◌, nat_lt, count_by}
use Rattle.std.specs.List.{list_any, range_with_len}
use Rattle.rrc_settings.specs.declared.settings.Bwp.{Bwp}
use Rattle.rrc_settings.specs.BandwidthParts.{end_of}
use Rattle.rrc_settings.specs.BitSets.{has_bit}
use Rattle.rrc_settings.specs.ControlGroups.{group_block}

-- how many of the 64 bits are one
unfoldable pub bits_counted : ℕ → ℕ
bits_counted groups = count_by (has_bit groups) (range_with_len 0 64)

-- whether the group of a bit that is one reaches outside the bandwidth part
unfoldable pub bits_reach : Bwp → ℕ → Bool
bits_reach bwp groups =
    list_any (λ g. has_bit groups g && nat_lt (end_of bwp) (group_block bwp.start g + 6)) (range_with_len 0 64)

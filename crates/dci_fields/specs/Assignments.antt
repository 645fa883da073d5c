-- Widths of the frequency domain resource assignment (3GPP TS 38.212, 7.3.1; TS 38.214, 5.1.2.2).
use Rattle.std.specs.Prelude.{◌≡◌, ℕ, ◌+◌, ◌*◌, ◌/◌, ◌≤◌, ◌⊎◌, max, unwrap_or}
use Rattle.alloc_fields.specs.Widths.{bits_for}
use Rattle.alloc_fields.specs.Groups.{rbg_count}
use Rattle.rrc_settings.specs.declared.settings.Bwp.{Bwp}
use Rattle.rrc_settings.specs.declared.settings.Allocation.{Allocation}
use Rattle.rrc_settings.specs.declared.settings.Allocation.TheVariants as allocations
use Rattle.rrc_settings.specs.declared.settings.RawCell.{RawCell}
use Rattle.rrc_settings.specs.declared.settings.Handset.{Handset}
use Rattle.dci_fields.specs.declared.formats.Widths.{Widths}
use Rattle.dci_fields.specs.declared.formats.Widths.TheVariants.{Common, Own}

-- how many blocks a bandwidth part may have
pub record IsBlockCount (n : ℕ) : Type 0 where
  pub least : 6 ≤ n
  pub most : n ≤ 275

-- the configuration of the groups of blocks
abbrev pub IsGroupConfig : ℕ → Type 0
IsGroupConfig config = (config ≡ 1) ⊎ (config ≡ 2)

-- the bits of a start and a length among n blocks, of which there are n (n + 1) / 2
unfoldable pub span_bits : ℕ → ℕ
span_bits n = bits_for (n * (n + 1) / 2)

-- type 0 has a bit for each group, type 1 the bits of a start and a length, and a dynamic choice the larger of the two
-- and one bit that says which it is
unfoldable pub fdra_width : Bwp → Allocation → ℕ → ℕ
fdra_width bwp allocations.Type0 config = rbg_count bwp.size bwp.start config
fdra_width bwp allocations.Type1 config = span_bits bwp.size
fdra_width bwp allocations.Dynamic config = max (rbg_count bwp.size bwp.start config) (span_bits bwp.size) + 1

-- the blocks that count for the assignment of format 1_0: in common widths those of CORESET 0 where there is one, else
-- those of the initial bandwidth part
abbrev pub downlink_blocks : RawCell → Handset → Widths → ℕ
downlink_blocks cell handset Common = unwrap_or cell.coreset0 cell.initial_downlink
downlink_blocks cell handset Own = handset.downlink.size

-- those that count for the assignment of format 0_0
abbrev pub uplink_blocks : RawCell → Handset → Widths → ℕ
uplink_blocks cell handset Common = cell.initial_uplink
uplink_blocks cell handset Own = handset.uplink.size

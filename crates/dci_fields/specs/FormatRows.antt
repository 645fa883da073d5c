-- The fields of the formats in order, with their widths (3GPP TS 38.212, 7.3.1.1 and 7.3.1.2).
use Rattle.std.specs.Prelude.{ℕ, ◌+◌, Bool, true, false, not, ◌&&◌, cond, nat_eq, List, [], ◌∷◌, Option, Some, None}
use Rattle.std.specs.Prelude.{is_some, slice_index}
use Rattle.alloc_fields.specs.Widths.{bits_for}
use Rattle.rrc_settings.specs.declared.settings.Allocation.{Allocation}
use Rattle.rrc_settings.specs.declared.settings.Allocation.TheVariants as allocations
use Rattle.rrc_settings.specs.declared.settings.Codebook.{Codebook}
use Rattle.rrc_settings.specs.declared.settings.Codebook.TheVariants as codebooks
use Rattle.rrc_settings.specs.declared.settings.Bwp.{Bwp}
use Rattle.rrc_settings.specs.declared.settings.UplinkFields.{UplinkFields}
use Rattle.rrc_settings.specs.declared.settings.DownlinkFields.{DownlinkFields}
use Rattle.rrc_settings.specs.declared.settings.Handset.{Handset}
use Rattle.rrc_settings.specs.declared.settings.RawCell.{RawCell}
use Rattle.dci_fields.specs.declared.formats.Format.{Format}
use Rattle.dci_fields.specs.declared.formats.Format.TheVariants.{F00, F10, Order, F01, F11}
use Rattle.dci_fields.specs.declared.formats.Widths.{Widths}
use Rattle.dci_fields.specs.declared.names.FieldName.{FieldName}
use Rattle.dci_fields.specs.declared.names.FieldName.TheVariants as names
use Rattle.dci_fields.specs.declared.rows.FieldRow.{FieldRow}
use Rattle.rrc_settings.specs.HandsetsOfCell.{handset_at}
use Rattle.dci_fields.specs.Assignments.{span_bits, fdra_width, downlink_blocks, uplink_blocks}
use Rattle.dci_fields.specs.Antennas.{downlink_ports, sri_width, precoding_width, uplink_ports}

-- a field and how many bits it has
abbrev pub row : FieldName → ℕ → FieldRow
row name width = record { name = name; width = width }

-- so many bits where a setting is true, none where it is not
abbrev pub where_set : Bool → ℕ → ℕ
where_set setting bits = cond setting bits 0

-- the bandwidth part: one of 0, 1, 2, 3 or 4 that are set
abbrev pub bwp_width : ℕ → ℕ
bwp_width bwps = slice_index (0 ∷ 1 ∷ 2 ∷ 2 ∷ 2 ∷ []) bwps

-- whether blocks may be granted by a start and a length
abbrev pub has_type1 : Allocation → Bool
has_type1 allocations.Type0 = false
has_type1 allocations.Type1 = true
has_type1 allocations.Dynamic = true

-- the downlink assignment index of format 1_1
abbrev pub downlink_index : Codebook → ℕ
downlink_index codebooks.SemiStatic = 0
downlink_index codebooks.Dynamic = 2

-- the first downlink assignment index of format 0_1
abbrev pub uplink_index : Codebook → ℕ
uplink_index codebooks.SemiStatic = 1
uplink_index codebooks.Dynamic = 2

-- format 0_0, where the frequency assignment has so many bits
abbrev pub rows_00 : ℕ → List FieldRow
rows_00 fdra
    = row names.Identifier 1
    ∷ row names.Fdra fdra
    ∷ row names.Tdra 4
    ∷ row names.Hopping 1
    ∷ row names.Mcs 5
    ∷ row names.Ndi 1
    ∷ row names.Rv 2
    ∷ row names.Harq 4
    ∷ row names.Tpc 2
    ∷ []

-- format 1_0
abbrev pub rows_10 : ℕ → List FieldRow
rows_10 fdra
    = row names.Identifier 1
    ∷ row names.Fdra fdra
    ∷ row names.Tdra 4
    ∷ row names.Vrb 1
    ∷ row names.Mcs 5
    ∷ row names.Ndi 1
    ∷ row names.Rv 2
    ∷ row names.Harq 4
    ∷ row names.Dai 2
    ∷ row names.Tpc 2
    ∷ row names.Pucch 3
    ∷ row names.Timing 3
    ∷ []

-- a PDCCH order after its frequency assignment
abbrev pub rows_after_order : List FieldRow
rows_after_order
    = row names.Preamble 6
    ∷ row names.Supplementary 1
    ∷ row names.Ssb 6
    ∷ row names.Mask 4
    ∷ row names.Reserved 10
    ∷ []

-- a PDCCH order
abbrev pub rows_order : ℕ → List FieldRow
rows_order fdra
    = row names.Identifier 1
    ∷ row names.Fdra fdra
    ∷ rows_after_order

-- format 1_1
abbrev pub rows_11 : Codebook → Bwp → DownlinkFields → List FieldRow
rows_11 codebook bwp f
    = row names.Identifier 1
    ∷ row names.Bwp (bwp_width f.bwps)
    ∷ row names.Fdra (fdra_width bwp f.allocation f.rbg_config)
    ∷ row names.Tdra f.tdra
    ∷ row names.Vrb (where_set (f.interleaved && has_type1 f.allocation) 1)
    ∷ row names.Bundling (where_set f.bundling 1)
    ∷ row names.RateMatch f.rate_match
    ∷ row names.ZpCsiRs (bits_for (f.zp_sets + 1))
    ∷ row names.Mcs 5
    ∷ row names.Ndi 1
    ∷ row names.Rv 2
    ∷ row names.Mcs2 (where_set (nat_eq f.codewords 2) 5)
    ∷ row names.Ndi2 (where_set (nat_eq f.codewords 2) 1)
    ∷ row names.Rv2 (where_set (nat_eq f.codewords 2) 2)
    ∷ row names.Harq 4
    ∷ row names.Dai (downlink_index codebook)
    ∷ row names.Tpc 2
    ∷ row names.Pucch 3
    ∷ row names.Timing f.timing
    ∷ row names.Ports (downlink_ports f)
    ∷ row names.Tci (where_set f.tci 3)
    ∷ row names.Srs 2
    ∷ row names.Cbgti f.cbg
    ∷ row names.Flush (where_set f.flush 1)
    ∷ row names.Dmrs 1
    ∷ []

-- format 0_1
abbrev pub rows_01 : Codebook → Bwp → UplinkFields → List FieldRow
rows_01 codebook bwp f
    = row names.Identifier 1
    ∷ row names.Bwp (bwp_width f.bwps)
    ∷ row names.Fdra (fdra_width bwp f.allocation f.rbg_config)
    ∷ row names.Tdra f.tdra
    ∷ row names.Hopping (where_set (f.hopping && has_type1 f.allocation) 1)
    ∷ row names.Mcs 5
    ∷ row names.Ndi 1
    ∷ row names.Rv 2
    ∷ row names.Harq 4
    ∷ row names.Dai (uplink_index codebook)
    ∷ row names.Dai2 (where_set f.second_dai 2)
    ∷ row names.Tpc 2
    ∷ row names.Sri (sri_width f)
    ∷ row names.Precoding (precoding_width f)
    ∷ row names.Ports (uplink_ports f)
    ∷ row names.Srs 2
    ∷ row names.Csi f.csi_request
    ∷ row names.Cbgti f.cbg
    ∷ row names.Ptrs (where_set f.ptrs 2)
    ∷ row names.Beta (where_set f.beta 2)
    ∷ row names.Dmrs (where_set (not f.transform) 1)
    ∷ row names.Ulsch 1
    ∷ []

-- format 0_1 of a handset that has its fields
abbrev pub uplink_rows : Handset → Option UplinkFields → List FieldRow
uplink_rows handset None = []
uplink_rows handset (Some f) = rows_01 handset.codebook handset.uplink f

-- format 1_1 of a handset that has its fields
abbrev pub downlink_rows : Handset → Option DownlinkFields → List FieldRow
downlink_rows handset None = []
downlink_rows handset (Some f) = rows_11 handset.codebook handset.downlink f

-- a format of a handset
abbrev pub rows_of : RawCell → Handset → Format → Widths → List FieldRow
rows_of cell handset F00 widths = rows_00 (span_bits (uplink_blocks cell handset widths))
rows_of cell handset F10 widths = rows_10 (span_bits (downlink_blocks cell handset widths))
rows_of cell handset Order widths = rows_order (span_bits (downlink_blocks cell handset widths))
rows_of cell handset F01 widths = uplink_rows handset handset.uplink_fields
rows_of cell handset F11 widths = downlink_rows handset handset.downlink_fields

-- a format of the handset at a place of the cell's list
abbrev pub raw_rows : RawCell → ℕ → Format → Widths → List FieldRow
raw_rows cell handset format widths = rows_of cell (handset_at cell handset) format widths

-- the handset has the fields that a format asks for
abbrev pub has_fields : Handset → Format → Bool
has_fields handset F00 = true
has_fields handset F10 = true
has_fields handset Order = true
has_fields handset F01 = is_some handset.uplink_fields
has_fields handset F11 = is_some handset.downlink_fields

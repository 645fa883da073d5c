-- What the settings of a legal cell say, object by object (3GPP TS 38.331, 6.3.2; TS 38.213, 10.1; TS 38.211, 7.3.2.2).
use Rattle.std.specs.Prelude.{◌≡◌, ℕ, ◌+◌, ◌*◌, ◌%◌, ◌<◌, ◌≤◌, ◌⊎◌, false, true, [], ◌∷◌, length, slice_index}
use Rattle.std.specs.Prelude.{All, IfSome, IsSome}
use Rattle.std.specs.List.{list_all}
use Rattle.rrc_settings.specs.declared.settings.Bwp.{Bwp}
use Rattle.rrc_settings.specs.declared.settings.Interleave.{Interleave}
use Rattle.rrc_settings.specs.declared.settings.Coreset.{Coreset}
use Rattle.rrc_settings.specs.declared.settings.SearchSet.{SearchSet}
use Rattle.rrc_settings.specs.declared.settings.Codebook.{Codebook}
use Rattle.rrc_settings.specs.declared.settings.UplinkFields.{UplinkFields}
use Rattle.rrc_settings.specs.declared.settings.DownlinkFields.{DownlinkFields}
use Rattle.rrc_settings.specs.declared.settings.Handset.{Handset}
use Rattle.rrc_settings.specs.declared.settings.RawCell.{RawCell}
use Rattle.rrc_settings.specs.AggregationLevels.{level_at}
use Rattle.rrc_settings.specs.BandwidthParts.{end_of}
use Rattle.rrc_settings.specs.BitSets.{has_bit}
use Rattle.rrc_settings.specs.ControlGroups.{groups_of, group_block, cces_of}
use Rattle.rrc_settings.specs.Conflicts.{bundle_differs, is_semi_static}
use Rattle.rrc_settings.specs.HandsetsOfCell.{handset_at, coreset_at, set_at, coreset_of, coreset_numbered}
use Rattle.rrc_settings.specs.SetKinds.{is_common, is_specific}
use Rattle.rrc_settings.specs.Numbers.{is_one_of}
use Rattle.rrc_settings.specs.Table.{is_period, is_candidate_count, is_group_limit}

-- a bandwidth part has its numbers in range
pub record IsLegalBwp (bwp : Bwp) : Type 0 where
  pub start_most : bwp.start ≤ 269
  pub size_least : 6 ≤ bwp.size
  pub size_most : bwp.size ≤ 275

-- an interleaver has its numbers in range, its bundles go with the CORESET's symbols, and the REGs fill its rows
pub record IsLegalInterleave (c : Coreset) (i : Interleave) : Type 0 where
  pub bundle : is_one_of (2 ∷ 3 ∷ 6 ∷ []) i.bundle ≡ true
  pub rows : is_one_of (2 ∷ 3 ∷ 6 ∷ []) i.rows ≡ true
  pub shift : IfSome i.shift (λ n. n ≤ 274)
  pub bundle_goes : bundle_differs i.bundle c.duration ≡ false
  pub filled : 6 * cces_of c % (i.bundle * i.rows) ≡ 0

-- a CORESET has its numbers in range, and some groups, each of which lies in the bandwidth part
pub record IsLegalCoreset (downlink : Bwp) (c : Coreset) : Type 0 where
  pub number_least : 1 ≤ c.number
  pub number_most : c.number ≤ 11
  pub duration_least : 1 ≤ c.duration
  pub duration_most : c.duration ≤ 3
  pub dmrs_id : IfSome c.dmrs_id (λ n. n ≤ 65535)
  pub some_groups : 0 < length (groups_of c.groups)
  pub inside : All (λ g. group_block downlink.start g + 6 ≤ end_of downlink) (groups_of c.groups)
  pub interleave : IfSome c.interleave (IsLegalInterleave c)

-- a search space set has its numbers in range, and its handset has its CORESET, in which its candidates fit
pub record IsLegalSearchSet (h : Handset) (s : SearchSet) : Type 0 where
  pub number_least : 1 ≤ s.number
  pub number_most : s.number ≤ 39
  pub coreset_least : 1 ≤ s.coreset
  pub coreset_most : s.coreset ≤ 11
  pub period : is_period s.period ≡ true
  pub period_least : 1 ≤ s.period
  pub offset : s.offset < s.period
  pub duration_least : 1 ≤ s.duration
  pub duration : (s.duration ≡ 1) ⊎ (s.duration < s.period)
  pub some_symbols : 0 < s.symbols
  pub counts_are : list_all is_candidate_count s.candidates ≡ true
  pub counts : (i : ℕ) → slice_index s.candidates i ≤ 8
  pub base_most : s.base ≤ 65535
  pub base : is_common s.kind ≡ true → s.base ≡ 0
  pub found : IsSome (coreset_numbered s.coreset h.coresets.items)
  pub asked : (i : ℕ) → i < 5 → 0 < slice_index s.candidates i → level_at i ≤ cces_of (coreset_of h s)
  pub ends : (y : ℕ) → y < 16 → has_bit s.symbols y ≡ true → y + (coreset_of h s).duration ≤ 14
  pub fields : is_specific s.kind ≡ true → IsSome h.uplink_fields × IsSome h.downlink_fields

-- what decides the fields of format 0_1 has its numbers in range, and goes together
pub record IsLegalUplink (codebook : Codebook) (f : UplinkFields) : Type 0 where
  pub bwps : f.bwps ≤ 4
  pub rbg_config_least : 1 ≤ f.rbg_config
  pub rbg_config_most : f.rbg_config ≤ 2
  pub tdra : f.tdra ≤ 4
  pub dmrs_type_least : 1 ≤ f.dmrs_type
  pub dmrs_type_most : f.dmrs_type ≤ 2
  pub dmrs_length_least : 1 ≤ f.dmrs_length
  pub dmrs_length_most : f.dmrs_length ≤ 2
  pub srs_resources_least : 1 ≤ f.srs_resources
  pub srs_resources_most : f.srs_resources ≤ 2
  pub csi_request : f.csi_request ≤ 6
  pub cbg : is_group_limit f.cbg ≡ true
  pub cbg_most : f.cbg ≤ 8
  pub second_dai : f.second_dai ≡ true → is_semi_static codebook ≡ false
  pub transform : f.transform ≡ true → f.dmrs_type ≡ 1

-- what decides the fields of format 1_1 has its numbers in range, and goes together
pub record IsLegalDownlink (f : DownlinkFields) : Type 0 where
  pub bwps : f.bwps ≤ 4
  pub rbg_config_least : 1 ≤ f.rbg_config
  pub rbg_config_most : f.rbg_config ≤ 2
  pub tdra : f.tdra ≤ 4
  pub rate_match : f.rate_match ≤ 2
  pub zp_sets : f.zp_sets ≤ 3
  pub codewords_least : 1 ≤ f.codewords
  pub codewords_most : f.codewords ≤ 2
  pub timing : f.timing ≤ 3
  pub dmrs_type_least : 1 ≤ f.dmrs_type
  pub dmrs_type_most : f.dmrs_type ≤ 2
  pub dmrs_length_least : 1 ≤ f.dmrs_length
  pub dmrs_length_most : f.dmrs_length ≤ 2
  pub cbg : is_group_limit f.cbg ≡ true
  pub cbg_most : f.cbg ≤ 8
  pub flush : f.flush ≡ true → 0 < f.cbg

-- a handset has its numbers in range, its bandwidth parts lie in the carrier, and its CORESETs and sets are legal and
-- have numbers of their own
pub record IsLegalHandset (cell : RawCell) (h : Handset) : Type 0 where
  pub rnti_least : 1 ≤ h.rnti
  pub rnti_most : h.rnti ≤ 65519
  pub downlink : IsLegalBwp h.downlink
  pub uplink : IsLegalBwp h.uplink
  pub downlink_inside : end_of h.downlink ≤ cell.blocks
  pub uplink_inside : end_of h.uplink ≤ 275
  pub coresets_least : 1 ≤ length h.coresets.items
  pub coresets_most : length h.coresets.items ≤ 3
  pub sets_least : 1 ≤ length h.sets.items
  pub sets_most : length h.sets.items ≤ 10
  pub coresets : (k : ℕ) → k < length h.coresets.items → IsLegalCoreset h.downlink (coreset_at h k)
  pub sets : (k : ℕ) → k < length h.sets.items → IsLegalSearchSet h (set_at h k)
  pub coreset_numbers : (i j : ℕ) → i < length h.coresets.items → j < length h.coresets.items
      → (coreset_at h i).number ≡ (coreset_at h j).number → i ≡ j
  pub set_numbers : (i j : ℕ) → i < length h.sets.items → j < length h.sets.items
      → (set_at h i).number ≡ (set_at h j).number → i ≡ j
  pub uplink_fields : IfSome h.uplink_fields (IsLegalUplink h.codebook)
  pub downlink_fields : IfSome h.downlink_fields IsLegalDownlink

-- a cell has its numbers in range, and its handsets are legal and have names and identities of their own
pub record IsLegalCell (raw : RawCell) : Type 0 where
  pub version : raw.version ≡ 1
  pub cell : raw.cell ≤ 1007
  pub mu_most : raw.mu ≤ 3
  pub blocks_least : 6 ≤ raw.blocks
  pub blocks_most : raw.blocks ≤ 275
  pub initial_downlink_least : 6 ≤ raw.initial_downlink
  pub initial_downlink_most : raw.initial_downlink ≤ 275
  pub initial_uplink_least : 6 ≤ raw.initial_uplink
  pub initial_uplink_most : raw.initial_uplink ≤ 275
  pub coreset0 : IfSome raw.coreset0 (λ n. is_one_of (24 ∷ 48 ∷ 96 ∷ []) n ≡ true)
  pub handsets_least : 1 ≤ length raw.handsets
  pub handsets_most : length raw.handsets ≤ 64
  pub handsets : (k : ℕ) → k < length raw.handsets → IsLegalHandset raw (handset_at raw k)
  pub names : (i j : ℕ) → i < length raw.handsets → j < length raw.handsets
      → (handset_at raw i).name ≡ (handset_at raw j).name → i ≡ j
  pub rntis : (i j : ℕ) → i < length raw.handsets → j < length raw.handsets
      → (handset_at raw i).rnti ≡ (handset_at raw j).rnti → i ≡ j

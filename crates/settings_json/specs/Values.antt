-- The settings that a JSON value spells where its shape is right.
use Rattle.std.specs.Prelude.{ℕ, List, map, option_map, unwrap_or}
use Rattle.rrc_settings.specs.declared.words.Key.TheVariants as keys
use Rattle.rrc_settings.specs.declared.settings.Allocation.{Allocation}
use Rattle.rrc_settings.specs.declared.settings.Allocation.TheVariants as allocations
use Rattle.rrc_settings.specs.declared.settings.Codebook.{Codebook}
use Rattle.rrc_settings.specs.declared.settings.Codebook.TheVariants as codebooks
use Rattle.rrc_settings.specs.declared.settings.SetKind.{SetKind}
use Rattle.rrc_settings.specs.declared.settings.SetKind.TheVariants as set_kinds
use Rattle.rrc_settings.specs.declared.settings.Bwp.{Bwp}
use Rattle.rrc_settings.specs.declared.settings.Interleave.{Interleave}
use Rattle.rrc_settings.specs.declared.settings.Coreset.{Coreset}
use Rattle.rrc_settings.specs.declared.settings.SearchSet.{SearchSet}
use Rattle.rrc_settings.specs.declared.settings.UplinkFields.{UplinkFields}
use Rattle.rrc_settings.specs.declared.settings.DownlinkFields.{DownlinkFields}
use Rattle.rrc_settings.specs.declared.settings.Handset.{Handset}
use Rattle.rrc_settings.specs.declared.settings.RawCell.{RawCell}
use Rattle.rrc_settings.specs.Naming.{names}
use Rattle.rrc_settings.specs.NamedValues.{value_named, allocation_words, codebook_words, set_kind_words}
use Rattle.serde_json.specs.Data.{Data}
use Rattle.json_form.specs.Kinds.{number_of, bits_value, number_in, optional_number_in, number_or_default_in}
use Rattle.json_form.specs.Kinds.{text_in, truth_in, elements_in, inner_at, value_at}

-- the way to grant blocks that a word names
abbrev pub allocation_of : List ℕ → Allocation
allocation_of word = unwrap_or (value_named allocation_words word) allocations.Type0

-- the layout of acknowledgements that a word names
abbrev pub codebook_of : List ℕ → Codebook
codebook_of word = unwrap_or (value_named codebook_words word) codebooks.SemiStatic

-- the kind of a set that a word names
abbrev pub set_kind_of : List ℕ → SetKind
set_kind_of word = unwrap_or (value_named set_kind_words word) set_kinds.Common

-- a bandwidth part
unfoldable pub bwp_value : Data → Bwp
bwp_value d = record { start = number_in names keys.Start d; size = number_in names keys.Size d }

-- an interleaver
unfoldable pub interleave_value : Data → Interleave
interleave_value d = record {
  bundle = number_in names keys.Bundle d;
  rows = number_in names keys.Rows d;
  shift = optional_number_in names keys.Shift d;
}

-- a CORESET
unfoldable pub coreset_value : Data → Coreset
coreset_value d = record {
  number = number_in names keys.Number d;
  groups = bits_value (text_in names keys.Groups d);
  duration = number_in names keys.Duration d;
  interleave = option_map interleave_value (value_at names keys.Interleave d);
  dmrs_id = optional_number_in names keys.DmrsId d;
}

-- a search space set: its duration is 1 and its base 0 where they are absent
unfoldable pub set_value : Data → SearchSet
set_value d = record {
  number = number_in names keys.Number d;
  coreset = number_in names keys.Coreset d;
  kind = set_kind_of (text_in names keys.Kind d);
  period = number_in names keys.Period d;
  offset = number_in names keys.Offset d;
  duration = number_or_default_in names keys.Duration 1 d;
  symbols = bits_value (text_in names keys.Symbols d);
  candidates = map number_of (elements_in names keys.Candidates d);
  base = number_or_default_in names keys.Base 0 d;
}

-- what decides the fields of format 0_1
unfoldable pub uplink_value : Data → UplinkFields
uplink_value d = record {
  bwps = number_in names keys.Bwps d;
  allocation = allocation_of (text_in names keys.Allocation d);
  rbg_config = number_in names keys.RbgConfig d;
  tdra = number_in names keys.Tdra d;
  hopping = truth_in names keys.Hopping d;
  second_dai = truth_in names keys.SecondDai d;
  transform = truth_in names keys.Transform d;
  dmrs_type = number_in names keys.DmrsType d;
  dmrs_length = number_in names keys.DmrsLength d;
  srs_resources = number_in names keys.SrsResources d;
  csi_request = number_in names keys.CsiRequest d;
  cbg = number_in names keys.Cbg d;
  ptrs = truth_in names keys.Ptrs d;
  beta = truth_in names keys.Beta d;
}

-- what decides the fields of format 1_1
unfoldable pub downlink_value : Data → DownlinkFields
downlink_value d = record {
  bwps = number_in names keys.Bwps d;
  allocation = allocation_of (text_in names keys.Allocation d);
  rbg_config = number_in names keys.RbgConfig d;
  tdra = number_in names keys.Tdra d;
  interleaved = truth_in names keys.Interleaved d;
  bundling = truth_in names keys.Bundling d;
  rate_match = number_in names keys.RateMatch d;
  zp_sets = number_in names keys.ZpSets d;
  codewords = number_in names keys.Codewords d;
  timing = number_in names keys.Timing d;
  dmrs_type = number_in names keys.DmrsType d;
  dmrs_length = number_in names keys.DmrsLength d;
  tci = truth_in names keys.Tci d;
  cbg = number_in names keys.Cbg d;
  flush = truth_in names keys.Flush d;
}

-- a handset
unfoldable pub handset_value : Data → Handset
handset_value d = record {
  name = text_in names keys.Name d;
  rnti = number_in names keys.Rnti d;
  downlink = bwp_value (inner_at names keys.Downlink d);
  uplink = bwp_value (inner_at names keys.Uplink d);
  codebook = codebook_of (text_in names keys.Codebook d);
  coresets = record { items = map coreset_value (elements_in names keys.Coresets d) };
  sets = record { items = map set_value (elements_in names keys.Sets d) };
  uplink_fields = option_map uplink_value (value_at names keys.UplinkFields d);
  downlink_fields = option_map downlink_value (value_at names keys.DownlinkFields d);
}

-- the settings of a cell
unfoldable pub raw_value : Data → RawCell
raw_value d = record {
  version = number_in names keys.Version d;
  cell = number_in names keys.Cell d;
  mu = number_in names keys.Mu d;
  blocks = number_in names keys.Blocks d;
  initial_downlink = number_in names keys.InitialDownlink d;
  initial_uplink = number_in names keys.InitialUplink d;
  coreset0 = optional_number_in names keys.Coreset0 d;
  handsets = map handset_value (elements_in names keys.Handsets d);
}

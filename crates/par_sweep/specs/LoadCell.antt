-- The cell of the generated load: 32 handsets that share all blocks of a carrier, each with two candidates in each slot.
use Rattle.std.specs.Prelude.{ℕ, ◌+◌, ◌-◌, ◌^◌, List, [], ◌∷◌, ◌++◌, Some, None, codes, map}
use Rattle.std.specs.List.{range_with_len}
use Rattle.std.specs.Fmt.{decimal}
use Rattle.rrc_settings.specs.declared.settings.Bwp.{Bwp}
use Rattle.rrc_settings.specs.declared.settings.Codebook.TheVariants.{SemiStatic}
use Rattle.rrc_settings.specs.declared.settings.Coreset.{Coreset}
use Rattle.rrc_settings.specs.declared.settings.SearchSet.{SearchSet}
use Rattle.rrc_settings.specs.declared.settings.SetKind.TheVariants.{Fallback}
use Rattle.rrc_settings.specs.declared.settings.Handset.{Handset}
use Rattle.rrc_settings.specs.declared.settings.RawCell.{RawCell}

-- the name of a handset: `h` and its number in decimal digits
unfoldable pub handset_name : ℕ → List ℕ
handset_name h = codes "h" ++ decimal h

-- all blocks of the carrier
abbrev pub all_blocks : Bwp
all_blocks = record { start = 0; size = 273 }

-- the CORESET of each handset: all 45 groups of six blocks in two symbols, interleaved in bundles of six REGs
abbrev pub load_coreset : Coreset
load_coreset = record {
  number = 1;
  groups = 2 ^ 45 - 1;
  duration = 2;
  interleave = Some (record { bundle = 6; rows = 2; shift = Some 7 });
  dmrs_id = None;
}

-- the set of a handset: two candidates at level 2 in each slot from symbol 0 on, with the handset's number as their base
abbrev pub load_set : ℕ → SearchSet
load_set h = record {
  number = 1;
  coreset = 1;
  kind = Fallback;
  period = 1;
  offset = 0;
  duration = 1;
  symbols = 1;
  candidates = 0 ∷ 2 ∷ 0 ∷ 0 ∷ 0 ∷ [];
  base = h;
}

-- the handset with a number
abbrev pub load_handset : ℕ → Handset
load_handset h = record {
  name = handset_name h;
  rnti = h + 1;
  downlink = all_blocks;
  uplink = all_blocks;
  codebook = SemiStatic;
  coresets = record { items = load_coreset ∷ [] };
  sets = record { items = load_set h ∷ [] };
  uplink_fields = None;
  downlink_fields = None;
}

-- the cell
unfoldable pub load_cell : RawCell
load_cell = record {
  version = 1;
  cell = 100;
  mu = 0;
  blocks = 273;
  initial_downlink = 273;
  initial_uplink = 273;
  coreset0 = None;
  handsets = map load_handset (range_with_len 0 32);
}

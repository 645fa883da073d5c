-- The handsets of a cell, their CORESETs and their search space sets, by their places in the lists and by their numbers.
use Rattle.std.specs.Prelude.{ℕ, List, [], Option, None, nat_eq, find, unwrap_or, slice_index_or}
use Rattle.rrc_settings.specs.declared.settings.RawCell.{RawCell}
use Rattle.rrc_settings.specs.declared.settings.Handset.{Handset}
use Rattle.rrc_settings.specs.declared.settings.Coreset.{Coreset}
use Rattle.rrc_settings.specs.declared.settings.SearchSet.{SearchSet}
use Rattle.rrc_settings.specs.declared.settings.SetKind.TheVariants.{Common}
use Rattle.rrc_settings.specs.declared.settings.Codebook.TheVariants.{SemiStatic}

-- a handset with nothing set
abbrev pub no_handset : Handset
no_handset = record {
  name = [];
  rnti = 0;
  downlink = record { start = 0; size = 0 };
  uplink = record { start = 0; size = 0 };
  codebook = SemiStatic;
  coresets = record { items = [] };
  sets = record { items = [] };
  uplink_fields = None;
  downlink_fields = None;
}

-- a handset of a cell, by its place in the list
abbrev pub handset_at : RawCell → ℕ → Handset
handset_at cell handset = slice_index_or cell.handsets handset no_handset

-- a CORESET with nothing set
abbrev pub no_coreset : Coreset
no_coreset = record { number = 0; groups = 0; duration = 0; interleave = None; dmrs_id = None }

-- a CORESET of a handset, by its place in the list
abbrev pub coreset_at : Handset → ℕ → Coreset
coreset_at h place = slice_index_or h.coresets.items place no_coreset

-- the CORESET with a number
abbrev pub coreset_numbered : ℕ → List Coreset → Option Coreset
coreset_numbered number coresets = find (λ (c : Coreset). nat_eq c.number number) coresets

-- a search space set with nothing set
abbrev pub no_set : SearchSet
no_set = record {
  number = 0;
  coreset = 0;
  kind = Common;
  period = 0;
  offset = 0;
  duration = 0;
  symbols = 0;
  candidates = [];
  base = 0;
}

-- a set of a handset, by its place in the list
abbrev pub set_at : Handset → ℕ → SearchSet
set_at h place = slice_index_or h.sets.items place no_set

-- the CORESET of a set: the one that has the number
abbrev pub coreset_of : Handset → SearchSet → Coreset
coreset_of h s = unwrap_or (coreset_numbered s.coreset h.coresets.items) no_coreset

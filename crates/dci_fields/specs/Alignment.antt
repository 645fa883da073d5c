-- The sizes of the formats that a handset monitors (after 3GPP TS 38.212, 7.3.1.0). The steps, the fourth included, are
-- this project's profile of that clause: only sizes that some set of the handset monitors count.
use Rattle.std.specs.Prelude.{ℕ, ◌+◌, Bool, true, false, ◌&&◌, cond, nat_eq, nat_le, max, List, [], ◌∷◌, Option, Some, None}
use Rattle.std.specs.List.{list_any, filter_map}
use Rattle.std.specs.Set.{distinct_count}
use Rattle.rrc_settings.specs.declared.settings.RawCell.{RawCell}
use Rattle.rrc_settings.specs.declared.settings.Handset.{Handset}
use Rattle.rrc_settings.specs.declared.settings.SearchSet.{SearchSet}
use Rattle.rrc_settings.specs.declared.settings.SetKind.{SetKind}
use Rattle.rrc_settings.specs.declared.settings.SetKind.TheVariants as kinds
use Rattle.rrc_settings.specs.contracts.settings.SetKindPartialEq.TheImpl as set_kind
use Rattle.dci_fields.specs.declared.formats.Format.{Format}
use Rattle.dci_fields.specs.declared.formats.Format.TheVariants.{F00, F10, F01, F11}
use Rattle.dci_fields.specs.declared.formats.Widths.{Widths}
use Rattle.dci_fields.specs.declared.formats.Widths.TheVariants.{Common, Own}
use Rattle.dci_fields.specs.declared.sizes.Sizes.{Sizes}
use Rattle.rrc_settings.specs.HandsetsOfCell.{handset_at}
use Rattle.dci_fields.specs.FieldLists.{width_of}
use Rattle.dci_fields.specs.FormatRows.{rows_of}

-- two kinds of set are the same
abbrev pub same_kind : SetKind → SetKind → Bool
same_kind a b = set_kind.ghosts.eq a b

-- whether a handset has a set of a kind
abbrev pub has_set : Handset → SetKind → Bool
has_set handset kind = list_any (λ (s : SearchSet). same_kind s.kind kind) handset.sets.items

-- the size of a format before any alignment
abbrev pub raw_size : RawCell → Handset → Format → Widths → ℕ
raw_size cell handset format widths = width_of (rows_of cell handset format widths)

-- a size, where some set monitors it
abbrev pub where_monitored : Bool → ℕ → Option ℕ
where_monitored monitored size = cond monitored (Some size) None

-- step 0: in common sets formats 0_0 and 1_0 have the size of format 1_0 in common widths
abbrev pub common_size : RawCell → Handset → ℕ
common_size cell handset = raw_size cell handset F10 Common

-- step 1: in the handset's sets of fallback they have the larger of their own sizes
abbrev pub fallback_size : RawCell → Handset → ℕ
fallback_size cell handset = max (raw_size cell handset F00 Own) (raw_size cell handset F10 Own)

-- step 2: where a set of fallback is monitored, another format of its size gets one zero
abbrev pub told_apart : Bool → ℕ → ℕ → ℕ
told_apart monitored fallback size = cond (monitored && nat_eq size fallback) (size + 1) size

-- the sizes that are there
abbrev pub sizes_there : List (Option ℕ) → List ℕ
sizes_there sizes = filter_map (λ (size : Option ℕ). size) sizes

-- the sizes after step 2
abbrev pub sizes_apart : RawCell → Handset → Sizes
sizes_apart cell handset =
    let fallback = fallback_size cell handset in
    let monitored = has_set handset kinds.Fallback in
    record {
      common = where_monitored (has_set handset kinds.Common) (common_size cell handset);
      fallback = where_monitored monitored fallback;
      up = where_monitored (has_set handset kinds.Specific) (told_apart monitored fallback (raw_size cell handset F01 Own));
      down = where_monitored (has_set handset kinds.Specific) (told_apart monitored fallback (raw_size cell handset F11 Own));
      step4 = false;
    }

-- step 3: at most three different sizes may be monitored
abbrev pub are_few : Sizes → Bool
are_few sizes =
    nat_le (distinct_count nat_eq (sizes_there (sizes.common ∷ sizes.fallback ∷ sizes.up ∷ sizes.down ∷ []))) 3

-- step 4: the zeros of step 2 are taken off, and the formats of fallback take the common widths everywhere
abbrev pub sizes_joined : RawCell → Handset → Sizes
sizes_joined cell handset = record {
  common = where_monitored (has_set handset kinds.Common) (common_size cell handset);
  fallback = where_monitored (has_set handset kinds.Fallback) (common_size cell handset);
  up = where_monitored (has_set handset kinds.Specific) (raw_size cell handset F01 Own);
  down = where_monitored (has_set handset kinds.Specific) (raw_size cell handset F11 Own);
  step4 = true;
}

-- the sizes that a handset of a cell monitors
unfoldable pub sizes_of : RawCell → Handset → Sizes
sizes_of cell handset = cond (are_few (sizes_apart cell handset)) (sizes_apart cell handset) (sizes_joined cell handset)

-- the sizes that the handset at a place of the cell's list monitors
abbrev pub sizes_at : RawCell → ℕ → Sizes
sizes_at cell handset = sizes_of cell (handset_at cell handset)

-- The settings of the load's cell pass every check.
use Rattle.std.proofs.Common.{◌≡◌, ℕ, ◌<◌, true, [], ◌∷◌, length, get_or, refl, sym, ap, ◌∙◌, arith}
use Rattle.std.specs.Fmt.{digits}
use Rattle.std.specs.List.{list_all, range_with_len}
use Rattle.std.specs.Prelude.{None}
use Rattle.std.proofs.lemmas.List.FromFn.{get_or-map-range_with_len, get_or-range_with_len, length-range_with_len}
use Rattle.std.proofs.lemmas.List.Sums.{AllPass-from_list_all}
use Rattle.rrc_settings.specs.Name.{is_name}
use Rattle.rrc_settings.specs.Legal.{first_fault, IsLegal}
use Rattle.rrc_settings.specs.HandsetsOfCell.{handset_at, no_handset}
use Rattle.rrc_settings.specs.Faults.{Finding, first_of, unless}
use Rattle.rrc_settings.specs.Table.{cell_ranges, handset_ranges, set_ranges, coreset_ranges, interleave_ranges}
use Rattle.rrc_settings.specs.Table.{bwp_ranges, in_range}
use Rattle.rrc_settings.specs.Conflicts.{conflict, reaches_outside, ends_after_slot, asks_above, interleave_conflicts}
use Rattle.rrc_settings.specs.Conflicts.{coreset_conflicts, timing_conflicts, set_conflicts, uplink_conflicts}
use Rattle.rrc_settings.specs.Conflicts.{downlink_conflicts, handset_conflicts, cell_conflicts}
use Rattle.rrc_settings.specs.ControlGroups.{groups_of}
use Rattle.par_sweep.specs.LoadCell.{handset_name, load_cell, load_handset}

names_of_all : list_all (λ h. is_name (handset_name h)) (range_with_len 0 32) ≡ true
unfolding handset_name digits
names_of_all = refl

-- the name of each handset is one
pub named : (h : ℕ) → h < 32 → is_name (handset_name h) ≡ true
named h l =
    let e : get_or (range_with_len 0 32) h 0 ≡ h = get_or-range_with_len 0 32 h 0 l ∙ omega arith in
    ap (λ (k : ℕ). is_name (handset_name k)) (sym e)
    ∙ AllPass-from_list_all (λ h. is_name (handset_name h)) (range_with_len 0 32) names_of_all h 0
    (omega (arith, l, length-range_with_len 0 32))

-- it has 32 handsets
pub count_of_handsets : length load_cell.handsets ≡ 32
unfolding load_cell
count_of_handsets = refl

-- the handset at a place of the cell's list is the one with that number
pub handset_there : (h : ℕ) → h < 32 → handset_at load_cell h ≡ load_handset h
unfolding load_cell
handset_there h l = get_or-map-range_with_len load_handset 0 32 h h no_handset l (omega arith)

-- no number is out of its range
ranges_none : cell_ranges load_cell ≡ None
unfolding cell_ranges handset_ranges set_ranges coreset_ranges interleave_ranges bwp_ranges in_range unless load_cell
    handset_name digits
ranges_none = refl

-- and no settings stand together that may not
conflicts_none : cell_conflicts load_cell ≡ None
unfolding cell_conflicts handset_conflicts downlink_conflicts uplink_conflicts set_conflicts timing_conflicts
    coreset_conflicts interleave_conflicts
    asks_above ends_after_slot reaches_outside groups_of conflict unless load_cell handset_name digits
conflicts_none = refl

-- so the cell is legal
pub legal : IsLegal load_cell
unfolding first_fault
legal =
    ap (λ (f : Finding). first_of (f ∷ cell_conflicts load_cell ∷ [])) ranges_none
    ∙ ap (λ (f : Finding). first_of (f ∷ [])) conflicts_none

-- No check of the ranges finds that a text is no JSON.
use Rattle.std.proofs.Common.{ℕ, List, [], length, map, Bool}
use Rattle.std.specs.Prelude.{Option, None, Some}
use Rattle.rrc_settings.specs.declared.words.Key.{Key}
use Rattle.rrc_settings.specs.declared.place.Reason.TheVariants.{OutOfRange}
use Rattle.rrc_settings.specs.declared.settings.RawCell.{RawCell}
use Rattle.rrc_settings.specs.Faults.{Steps, Finding, ◌▸◌, fault_at}
use Rattle.rrc_settings.specs.Numbers.{is_from_to}
use Rattle.rrc_settings.specs.Table.{Row, in_range, in_range_if_given, list_ranges, ranges_by, bwp_table, bwp_ranges}
use Rattle.rrc_settings.specs.Table.{interleave_table, interleave_ranges, coreset_table, coreset_ranges, set_table}
use Rattle.rrc_settings.specs.Table.{set_ranges, uplink_table, uplink_ranges, downlink_table, downlink_ranges}
use Rattle.rrc_settings.specs.Table.{handset_table, handset_ranges, cell_table, cell_ranges}
use Rattle.settings_json.proofs.OtherFaults.{reason_of, IsOther, other_first_in, other_if_given}
use Rattle.json_form.proofs.OtherReasons.{AllOther, other_none, other_unless, other_first_of, other_first_of_two}

-- checks of a value's numbers that find only other things
abbrev pub Judges : {T : Type 0} → (Steps → T → Finding) → Type 0
Judges {T = T} judge = (at : Steps) (x : T) → IsOther (judge at x)

-- the checks of a table's rows, at a place and of a value
abbrev pub RowsJudge : {T : Type 0} → List (Row T) → Type 0
RowsJudge {T = T} rows = (at : Steps) (x : T) → AllOther reason_of (map (λ (r : Row T). r.range at x) rows)

-- an object by a table
by_rows : {T : Type 0} (rows : List (Row T)) → RowsJudge rows → Judges (ranges_by rows)
by_rows rows h at x = other_first_of _ (h at x)

-- a number
number_judges : (at : Steps) (key : Key) (range : ℕ → Bool) (n : ℕ) → IsOther (in_range at key range n)
unfolding in_range
number_judges at key range n = other_unless (fault_at (at ▸ key) OutOfRange) (range n) tt

-- a number that may be absent
given_judges : (at : Steps) (key : Key) (range : ℕ → Bool) (n : Option ℕ) → IsOther (in_range_if_given at key range n)
given_judges at key range None = other_none
given_judges at key range (Some n) = number_judges at key range n

-- a list by its length and its elements
list_judges : {T : Type 0} (key : Key) (low high : ℕ) (judge : Steps → T → Finding) (at : Steps) (xs : List T) → Judges judge →
    IsOther (list_ranges key low high judge at xs)
list_judges key low high judge at xs h =
    let size = number_judges at key (is_from_to low high) (length xs) in
    other_first_of_two _ _ size (other_first_in (λ earlier. judge) (at ▸ key) [] xs (λ before. h))

-- a bandwidth part
bwp_judges : Judges bwp_ranges
unfolding bwp_ranges
bwp_judges = by_rows bwp_table (λ at x. (number_judges _ _ _ _, (number_judges _ _ _ _, tt)))

-- an interleaver
interleave_judges : Judges interleave_ranges
unfolding interleave_ranges
interleave_judges = by_rows interleave_table (λ at x. search (number_judges, given_judges))

-- a CORESET
coreset_judges : Judges coreset_ranges
unfolding coreset_ranges
coreset_judges =
    by_rows coreset_table (λ at x. search (number_judges, given_judges, other_none, other_if_given, interleave_judges))

-- a search space set
set_judges : Judges set_ranges
unfolding set_ranges
set_judges = by_rows set_table (λ at x. search (number_judges, other_none, other_unless))

-- what decides the fields of format 0_1
uplink_judges : Judges uplink_ranges
unfolding uplink_ranges
uplink_judges = by_rows uplink_table (λ at x. search (number_judges, other_none))

-- what decides the fields of format 1_1
downlink_judges : Judges downlink_ranges
unfolding downlink_ranges
downlink_judges = by_rows downlink_table (λ at x. search (number_judges, other_none))

-- a handset
handset_judges : Judges handset_ranges
unfolding handset_ranges
handset_judges =
    by_rows handset_table (λ at x.
    search (
      number_judges,
      other_none,
      bwp_judges,
      list_judges,
      coreset_judges,
      set_judges,
      other_if_given,
      uplink_judges,
      downlink_judges,
    ))

-- the whole
pub cell_judges : (raw : RawCell) → IsOther (cell_ranges raw)
unfolding cell_ranges
cell_judges raw = by_rows cell_table (λ at x. search (number_judges, given_judges, list_judges, handset_judges)) [] raw

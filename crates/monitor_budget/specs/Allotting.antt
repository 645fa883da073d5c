-- Which sets a handset looks at in a slot (3GPP TS 38.213, 10.1): the common ones all, and of the others as many as
-- keep both limits.
use Rattle.std.specs.Prelude.{ℕ, zero, suc, ◌++◌, Bool, true, false, not, ◌&&◌, ◌==◌, cond, List, Result, Ok, Err, length, take}
use Rattle.std.specs.List.{range_with_len, flat_map, filter}
use Rattle.rrc_settings.specs.declared.settings.RawCell.{RawCell}
use Rattle.rrc_settings.specs.declared.settings.Handset.{Handset}
use Rattle.rrc_settings.specs.declared.settings.SetKind.{SetKind}
use Rattle.rrc_settings.specs.SetKinds.{is_common}
use Rattle.dci_fields.specs.declared.sizes.Sizes.{Sizes}
use Rattle.search_starts.specs.Calendar.{slots_before, is_monitored}
use Rattle.monitor_budget.specs.declared.allotment.CommonOver.{CommonOver}
use Rattle.monitor_budget.specs.declared.allotment.Allotment.{Allotment}
use Rattle.monitor_budget.specs.Counts.{candidate_count, different_cces}
use Rattle.rrc_settings.specs.HandsetsOfCell.{set_at}
use Rattle.monitor_budget.specs.Limits.{are_within}

-- whether a kind of set is wanted: common, or one of the handset's own
abbrev pub is_wanted : Bool → SetKind → Bool
is_wanted true kind = is_common kind
is_wanted false kind = not (is_common kind)

-- whether the set at a place has a number, is of the wanted kinds and is monitored in a slot
abbrev pub is_searched : RawCell → Handset → Bool → ℕ → ℕ → ℕ → ℕ → Bool
is_searched cell h common frame slot number place =
    let s = set_at h place in s.number == number && (is_wanted common s.kind && is_monitored s (slots_before cell.mu frame slot))

-- the places of such sets with a number
unfoldable pub numbered_sets : RawCell → Handset → Bool → ℕ → ℕ → ℕ → List ℕ
numbered_sets cell h common frame slot number =
    filter (is_searched cell h common frame slot number) (range_with_len 0 (length h.sets.items))

-- the places of such sets, by rising number: the numbers are 1 to 39
unfoldable pub sets_in_slot : RawCell → Handset → Bool → ℕ → ℕ → List ℕ
sets_in_slot cell h common frame slot = flat_map (numbered_sets cell h common frame slot) (range_with_len 1 39)

-- the common sets that are monitored in a slot
abbrev pub common_sets : RawCell → Handset → ℕ → ℕ → List ℕ
common_sets cell h frame slot = sets_in_slot cell h true frame slot

-- the handset's own sets that are monitored in a slot
abbrev pub own_sets : RawCell → Handset → ℕ → ℕ → List ℕ
own_sets cell h frame slot = sets_in_slot cell h false frame slot

-- the sets at some places keep both limits together
abbrev pub keep_limits : RawCell → Handset → Sizes → List ℕ → Bool
keep_limits cell h sizes places =
    are_within cell.mu (candidate_count cell h sizes places) (different_cces cell h sizes places)

-- the greatest number up to a last one that passes a test, or 0
abbrev pub greatest : (ℕ → Bool) → ℕ → ℕ
greatest test zero = 0
greatest test (suc n) = cond (test (suc n)) (suc n) (greatest test n)

-- the longest front of some sets that keeps both limits together with the common sets
unfoldable pub longest_front : RawCell → Handset → Sizes → List ℕ → List ℕ → List ℕ
longest_front cell h sizes common own =
    take (greatest (λ n. keep_limits cell h sizes (common ++ take n own)) (length own)) own

-- the sets at some places, with both counts
abbrev pub allotment_of : RawCell → Handset → Sizes → List ℕ → Allotment
allotment_of cell h sizes places = record {
  sets = record { items = places };
  candidates = candidate_count cell h sizes places;
  cces = different_cces cell h sizes places;
}

-- both counts of the common sets
abbrev pub common_over : RawCell → Handset → Sizes → List ℕ → CommonOver
common_over cell h sizes common =
    record { candidates = candidate_count cell h sizes common; cces = different_cces cell h sizes common }

-- the sets that a handset looks at in a slot, or that its common sets exceed a limit
unfoldable pub allotted : RawCell → Handset → Sizes → ℕ → ℕ → Result Allotment CommonOver
allotted cell h sizes frame slot =
    let common = common_sets cell h frame slot in
    cond (keep_limits cell h sizes common)
    (Ok (allotment_of cell h sizes (common ++ longest_front cell h sizes common (own_sets cell h frame slot))))
    (Err (common_over cell h sizes common))

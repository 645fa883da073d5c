-- The summary of a sweep: a line for each slot, then one with the sums.
use Rattle.std.specs.Prelude.{ℕ, ◌+◌, List, [], ◌∷◌, ◌++◌, codes, length}
use Rattle.std.specs.List.{flat_map, sum_by}
use Rattle.std.specs.Fmt.{decimal}
use Rattle.par_sweep.specs.declared.totals.SlotTotals.{SlotTotals}
use Rattle.par_sweep.specs.declared.summary.Sums.{Sums}

-- the line of a slot
unfoldable pub slot_line : SlotTotals → List ℕ
slot_line s =
    codes "frame " ++ decimal s.frame ++ codes " slot " ++ decimal s.slot ++ codes " placed " ++ decimal s.placed
    ++ codes " overlapped " ++ decimal s.overlapped ++ codes " heard " ++ decimal s.heard ++ 10 ∷ []

-- the sums over several slots
abbrev pub sums_of : List SlotTotals → Sums
sums_of totals = record {
  placed = sum_by (λ (s : SlotTotals). s.placed) totals;
  overlapped = sum_by (λ (s : SlotTotals). s.overlapped) totals;
  heard = sum_by (λ (s : SlotTotals). s.heard) totals;
}

-- some sums with those of one slot more
abbrev pub added : Sums → SlotTotals → Sums
added sums s = record {
  placed = sums.placed + s.placed;
  overlapped = sums.overlapped + s.overlapped;
  heard = sums.heard + s.heard;
}

-- the line of the sums over so many slots
unfoldable pub sums_line : ℕ → Sums → List ℕ
sums_line slots sums =
    codes "slots " ++ decimal slots ++ codes " placed " ++ decimal sums.placed ++ codes " overlapped " ++ decimal sums.overlapped
    ++ codes " heard " ++ decimal sums.heard ++ 10 ∷ []

-- the whole summary
unfoldable pub summary_text : List SlotTotals → List ℕ
summary_text totals = flat_map slot_line totals ++ sums_line (length totals) (sums_of totals)

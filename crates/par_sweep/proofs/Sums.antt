-- Sums over the first slots.
use Rattle.std.proofs.Common.{◌≡◌, ℕ, ◌+◌, ◌*◌, ◌<◌, ◌≤◌, List, length, take, get_or, ap, sym, ◌∙◌}
use Rattle.std.proofs.lemmas.List.{take_all}
use Rattle.std.proofs.lemmas.List.Sums.{sum_by_more}
use Rattle.par_sweep.specs.declared.totals.SlotTotals.{SlotTotals}
use Rattle.par_sweep.specs.declared.summary.Sums.{Sums}
use Rattle.par_sweep.specs.Summary.{added, sums_of}

-- the sums over the first n slots, each of which has less than 2^32 of each
pub record AreSums (totals : List SlotTotals) (n : ℕ) (sums : Sums) : Type 0 where
  pub are : sums ≡ sums_of (take n totals)
  pub placed : sums.placed ≤ n * 4294967295
  pub overlapped : sums.overlapped ≤ n * 4294967295
  pub heard : sums.heard ≤ n * 4294967295

-- the sums with those of the next slot
pub sums_more : (totals : List SlotTotals) (n : ℕ) (sums : Sums) (slot : SlotTotals) → n < length totals
    → slot ≡ get_or totals n slot
    → sums ≡ sums_of (take n totals) → added sums slot ≡ sums_of (take (n + 1) totals)
sums_more totals n sums slot h at e =
    let so_far = sums_of (take n totals) in
    let all = sums_of (take (n + 1) totals) in
    let next = added so_far (get_or totals n slot) in
    let placed = sum_by_more (λ (s : SlotTotals). s.placed) totals n slot h in
    let overlapped = sum_by_more (λ (s : SlotTotals). s.overlapped) totals n slot h in
    let heard = sum_by_more (λ (s : SlotTotals). s.heard) totals n slot h in
    ap (λ (x : Sums). added x slot) e ∙ ap (added so_far) at
    ∙ ap (λ (x : ℕ). record { placed = x; overlapped = next.overlapped; heard = next.heard }) (sym placed)
    ∙ ap (λ (x : ℕ). record { placed = all.placed; overlapped = x; heard = next.heard }) (sym overlapped)
    ∙ ap (λ (x : ℕ). record { placed = all.placed; overlapped = all.overlapped; heard = x }) (sym heard)

-- the sums over all slots
pub sums_all : (totals : List SlotTotals) (n : ℕ) (sums : Sums) → length totals ≤ n → sums ≡ sums_of (take n totals)
    → sums ≡ sums_of totals
sums_all totals n sums h e = e ∙ ap sums_of (take_all n totals h)

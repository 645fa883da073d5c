-- A set has few candidates in a slot, and a handset looks at few sets.
use Rattle.std.proofs.Common.{◌≡◌, ℕ, ◌*◌, ◌≤◌, ◌==◌, ap, arith}
use Rattle.std.specs.Prelude.{Bool, true, false, cond, min, max, List, [], ◌∷◌, ◌++◌, Option, Some, None, Ok, length}
use Rattle.std.specs.Prelude.{take, slice_index}
use Rattle.std.specs.List.{range_with_len, flat_map}
use Rattle.std.specs.Option.{option_to_list}
use Rattle.std.proofs.lemmas.List.{length-append, length-map, length-take}
use Rattle.std.proofs.lemmas.List.Concat.{length-flat_map}
use Rattle.std.proofs.lemmas.List.FromFn.{length-range_with_len}
use Rattle.std.proofs.lemmas.List.Sums.{length-filter, count_by-le-length, sum_by-le}
use Rattle.rrc_settings.specs.BitSets.{has_bit}
use Rattle.rrc_settings.specs.declared.settings.RawCell.{RawCell}
use Rattle.rrc_settings.specs.declared.settings.Handset.{Handset}
use Rattle.rrc_settings.specs.declared.settings.SearchSet.{SearchSet}
use Rattle.rrc_settings.specs.declared.settings.SetKind.{SetKind}
use Rattle.rrc_settings.specs.declared.settings.SetKind.TheVariants as kinds
use Rattle.dci_fields.specs.declared.sizes.Sizes.{Sizes}
use Rattle.list_facts.proofs.Members.{IsIn, in_range, at_in}
use Rattle.monitor_budget.specs.declared.allotment.Allotment.{Allotment}
use Rattle.monitor_budget.specs.SetCandidates.{rising, rising_sizes, sizes_in, symbols_of, candidate_at}
use Rattle.monitor_budget.specs.SetCandidates.{numbered_candidates, level_candidates, symbol_candidates, set_candidates}
use Rattle.monitor_budget.specs.SetCandidates.{AreAsked}
use Rattle.monitor_budget.specs.Allotting.{common_sets, own_sets, longest_front, greatest, keep_limits, allotment_of}
use Rattle.monitor_budget.specs.Allotting.{common_over, allotted}
use Rattle.monitor_budget.proofs.Allotments.{result_cases}
use Rattle.monitor_budget.proofs.SearchOrder.{few_both}

-- pieces that are few each are few together
pub few_flat_map : {X A : Type 0} (f : X → List A) (m : ℕ) (xs : List X) → ((x : X) → IsIn x xs → length (f x) ≤ m)
    → length (flat_map f xs) ≤ length xs * m
few_flat_map f m xs few =
    let all = sum_by-le (λ x. length (f x)) m xs (λ i d l. few _ (at_in xs i d l)) in
    omega (arith, length-flat_map f xs, all)

-- a set monitors two sizes at most
few_rising : (a b : ℕ) → length (rising a b) ≤ 2
few_rising a b = by (a == b)
  where
    by : (c : Bool) → length (cond c (a ∷ []) (min a b ∷ max a b ∷ [])) ≤ 2
    by true = omega arith
    by false = omega arith

few_option : (o : Option ℕ) → length (option_to_list o) ≤ 2
few_option None = omega arith
few_option (Some n) = omega arith

few_rising_sizes : (up down : Option ℕ) → length (rising_sizes up down) ≤ 2
few_rising_sizes None None = omega arith
few_rising_sizes (Some up) None = omega arith
few_rising_sizes None (Some down) = omega arith
few_rising_sizes (Some up) (Some down) = few_rising up down

-- a kind of set monitors two sizes at most
pub few_sizes : (sizes : Sizes) (kind : SetKind) → length (sizes_in sizes kind) ≤ 2
few_sizes sizes kinds.Common = few_option sizes.common
few_sizes sizes kinds.Fallback = few_option sizes.fallback
few_sizes sizes kinds.Specific = few_rising_sizes sizes.up sizes.down

-- so many candidates at most at a level, at a symbol, and in all
few_level : (cces : ℕ) (sizes : List ℕ) (s : SearchSet) (symbol i : ℕ) → length sizes ≤ 2 → slice_index s.candidates i ≤ 8
    → length (level_candidates cces sizes s symbol i) ≤ 16
unfolding numbered_candidates level_candidates
few_level cces sizes s symbol i few asked =
    let numbers = range_with_len 0 (slice_index s.candidates i) in
    let all = few_flat_map (numbered_candidates cces sizes s symbol i) 2 numbers
    (λ m k. omega (arith, few, length-map sizes (candidate_at cces s symbol i m))) in
    omega (arith, all, asked, length-range_with_len 0 (slice_index s.candidates i))

few_symbol : (cces : ℕ) (sizes : List ℕ) (s : SearchSet) (symbol : ℕ) → length sizes ≤ 2 → AreAsked cces s.candidates
    → length (symbol_candidates cces sizes s symbol) ≤ 80
unfolding symbol_candidates
few_symbol cces sizes s symbol few asked =
    let all = few_flat_map (level_candidates cces sizes s symbol) 16 (range_with_len 0 5)
    (λ i k. let below = (in_range i 0 5 k).1 in few_level cces sizes s symbol i few (asked i (omega (arith, below))).0) in
    omega (arith, all, length-range_with_len 0 5)

-- a set has 1,120 candidates at most
pub few_candidates : (cces : ℕ) (sizes : List ℕ) (s : SearchSet) → length sizes ≤ 2 → AreAsked cces s.candidates
    → length (set_candidates cces sizes s) ≤ 1120
unfolding set_candidates
few_candidates cces sizes s few asked =
    let test = has_bit s.symbols in
    let slot = range_with_len 0 14 in
    let all = few_flat_map (symbol_candidates cces sizes s) 80 (symbols_of s)
    (λ symbol k. few_symbol cces sizes s symbol few asked) in
    omega (arith, all, length-filter test slot, count_by-le-length test slot, length-range_with_len 0 14)

-- a handset looks at ten sets at most
few_front : (cell : RawCell) (h : Handset) (sizes : Sizes) (common own : List ℕ)
    → length (longest_front cell h sizes common own) ≤ length own
unfolding longest_front
few_front cell h sizes common own =
    let n = greatest (λ n. keep_limits cell h sizes (common ++ take n own)) (length own) in
    omega (arith, length-take n own)

-- an allotment has ten sets at most
pub few_allotted : (cell : RawCell) (h : Handset) (sizes : Sizes) (frame slot : ℕ) (a : Allotment) → length h.sets.items ≤ 10
    → allotted cell h sizes frame slot ≡ Ok a → length a.sets.items ≤ 10
unfolding allotted
few_allotted cell h sizes frame slot a few e =
    let common = common_sets cell h frame slot in
    let own = own_sets cell h frame slot in
    let front = longest_front cell h sizes common own in
    let same = result_cases (common_over cell h sizes common) (allotment_of cell h sizes (common ++ front)) a
    (keep_limits cell h sizes common) e in
    omega (
      arith,
      ap (λ (x : Allotment). length x.sets.items) same,
      length-append common front,
      few_front cell h sizes
          common own,
      few_both cell h frame slot few,
    )

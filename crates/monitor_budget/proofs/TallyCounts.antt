-- What a tally counts, one set more, and how many.
use Rattle.std.proofs.Common.{◌≡◌, ℕ, Bool, false, replicate, List, [], ◌∷◌, ◌++◌, length, count_by, sym, ◌∙◌, ap, subst}
use Rattle.std.proofs.Common.{◌≤◌, arith}
use Rattle.std.specs.List.{flat_map}
use Rattle.std.specs.Set.{distinct_count}
use Rattle.std.proofs.lemmas.List.{append-nil, append_assoc}
use Rattle.std.proofs.lemmas.Grind.{flat_map-append}
use Rattle.rrc_settings.specs.declared.settings.RawCell.{RawCell}
use Rattle.rrc_settings.specs.declared.settings.Handset.{Handset}
use Rattle.dci_fields.specs.declared.sizes.Sizes.{Sizes}
use Rattle.monitor_budget.specs.declared.counted.Counted.{Counted}
use Rattle.monitor_budget.specs.declared.tally.Tally.{Tally}
use Rattle.monitor_budget.specs.Counts.{count_as_one, Cce, counted_of, all_counted, cces_of, all_cces, candidate_count}
use Rattle.monitor_budget.specs.Counts.{different_cces}
use Rattle.rrc_settings.specs.HandsetsOfCell.{set_at}
use Rattle.monitor_budget.specs.Tally.{mark_count, AddsCounted, AddsCces, FillsRoom, Tallies}
use Rattle.monitor_budget.proofs.Distinct.{distinct_count_front}
use Rattle.monitor_budget.proofs.Adding.{decides_count_as_one, counted_none, counted_then, cces_none, cces_then}
use Rattle.monitor_budget.proofs.FinalCounts.{counted_are, cces_are}

-- a new tally counts no sets
pub tallies_none : {room : ℕ} (cell : RawCell) (h : Handset) (sizes : Sizes) (tally : Tally room) → tally.seen.items ≡ []
    → tally.marks ≡ replicate mark_count false
    → Tallies cell h sizes [] tally
unfolding all_counted all_cces
tallies_none cell h sizes tally e f = record {
  counted = subst (λ (xs : List Counted). AddsCounted [] xs []) (sym e) (counted_none []);
  cces = subst (λ (xs : List Bool). AddsCces (replicate mark_count false) xs []) (sym f) (cces_none (replicate mark_count false));
}

one_more : {A : Type 0} (f : ℕ → List A) (places : List ℕ) (place : ℕ)
    → flat_map f places ++ f place ≡ flat_map f (places ++ place ∷ [])
one_more f places place = sym (flat_map-append f places (place ∷ []) ∙ ap (λ xs. flat_map f places ++ xs) (append-nil (f place)))

-- a tally counts one set more
pub tallies_more : {room : ℕ} (cell : RawCell) (h : Handset) (sizes : Sizes) (places : List ℕ) (place : ℕ) (old new : Tally room)
    → Tallies cell h sizes places old
    → AddsCounted old.seen.items new.seen.items (counted_of cell h sizes (set_at h place))
    → AddsCces old.marks new.marks (cces_of cell h sizes (set_at h place))
    → Tallies cell h sizes (places ++ place ∷ []) new
unfolding all_counted all_cces
tallies_more cell h sizes places place old new t a b = record {
  counted =
      subst (λ (xs : List Counted). AddsCounted [] new.seen.items xs)
      (one_more (λ p. counted_of cell h sizes (set_at h p)) places place)
      (counted_then [] old.seen.items new.seen.items (flat_map (λ p. counted_of cell h sizes (set_at h p)) places)
      (counted_of cell h sizes (set_at h place)) t.counted a);
  cces =
      subst (λ (xs : List Cce). AddsCces (replicate mark_count false) new.marks xs)
      (one_more (λ p. cces_of cell h sizes (set_at h p)) places place)
      (cces_then (replicate mark_count false) old.marks new.marks (flat_map (λ p. cces_of cell h sizes (set_at h p)) places)
      (cces_of cell h sizes (set_at h place)) t.cces b);
}

-- a tally has seen as many candidates as count
pub candidates_are : {room : ℕ} (cell : RawCell) (h : Handset) (sizes : Sizes) (places : List ℕ) (tally : Tally room)
    → Tallies cell h sizes places tally
    → length tally.seen.items ≡ candidate_count cell h sizes places
unfolding candidate_count
candidates_are cell h sizes places tally t = counted_are tally.seen.items (all_counted cell h sizes places) t.counted

-- and has as many marks as CCEs count
pub different_are : {room : ℕ} (cell : RawCell) (h : Handset) (sizes : Sizes) (places : List ℕ) (tally : Tally room)
    → Tallies cell h sizes places tally
    → length tally.marks ≡ mark_count → count_by (λ b. b) tally.marks ≡ different_cces cell h sizes places
unfolding different_cces
different_are cell h sizes places tally t e = cces_are tally.marks (all_cces cell h sizes places) e t.cces

-- where one set more leaves no room, at least as many candidates count as there is room for
pub fills_are : {room : ℕ} (cell : RawCell) (h : Handset) (sizes : Sizes) (places : List ℕ) (place : ℕ) (old new : Tally room)
    → Tallies cell h sizes places old
    → FillsRoom room old.seen.items new.seen.items (counted_of cell h sizes (set_at h place))
    → room ≤ candidate_count cell h sizes (places ++ place ∷ [])
unfolding all_counted candidate_count
fills_are {room} cell h sizes places place old new t f =
    let all = λ (p : ℕ). counted_of cell h sizes (set_at h p) in
    let before = flat_map all places in
    let seen = counted_are new.seen.items (before ++ f.front)
    (counted_then [] old.seen.items new.seen.items before f.front t.counted f.counted) in
    let grows = distinct_count_front count_as_one decides_count_as_one (before ++ f.front) f.rest in
    let whole : (before ++ f.front) ++ f.rest ≡ flat_map all (places ++ place ∷ []) =
    append_assoc before f.front f.rest ∙ ap (λ xs. before ++ xs) (sym f.are) ∙ one_more all places place in
    let count = ap (λ xs. distinct_count count_as_one xs) whole in
    let full = f.full in
    omega (arith, seen, grows, count, full)

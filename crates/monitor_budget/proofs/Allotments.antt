-- An allotment, one set more.
use Rattle.std.proofs.Common.{◌≡◌, ℕ, zero, suc, ◌+◌, ◌<◌, ◌≤◌, Bool, true, false, cond, Result, Ok, Err, IfOk, All}
use Rattle.std.proofs.Common.{drop, inl, inr, nat_le, List, [], ◌∷◌, ◌++◌, length, take, get_or, count_by}
use Rattle.std.proofs.Common.{refl, sym, ◌∙◌, ap, subst, arith}
use Rattle.std.proofs.lemmas.List.{append_assoc, take_more, take-append-drop}
use Rattle.std.proofs.lemmas.Bool.{leb-true, and_parts}
use Rattle.arrayvec.specs.ArrayVec.{ArrayVec}
use Rattle.rrc_settings.specs.declared.settings.RawCell.{RawCell}
use Rattle.rrc_settings.specs.declared.settings.Handset.{Handset}
use Rattle.dci_fields.specs.declared.sizes.Sizes.{Sizes}
use Rattle.monitor_budget.specs.declared.tally.Tally.{Tally}
use Rattle.monitor_budget.specs.declared.allotment.Allotment.{Allotment}
use Rattle.monitor_budget.specs.declared.allotment.CommonOver.{CommonOver}
use Rattle.monitor_budget.specs.Counts.{candidate_count, different_cces}
use Rattle.monitor_budget.specs.Limits.{most_candidates, most_cces, are_within}
use Rattle.monitor_budget.specs.Allotting.{common_sets, own_sets, longest_front, allotment_of, common_over, keep_limits}
use Rattle.monitor_budget.specs.Allotting.{greatest, allotted}
use Rattle.monitor_budget.specs.Tally.{mark_count, Tallies}
use Rattle.list_facts.proofs.Members.{IsIn, in_append, append_left_in, at_in}
use Rattle.monitor_budget.proofs.SearchOrder.{in_slot}
use Rattle.monitor_budget.proofs.TallyCounts.{candidates_are, different_are}

-- both counts of a tally, as numbers
pub record AreCounts (cell : RawCell) (h : Handset) (sizes : Sizes) (places : List ℕ) (candidates cces : ℕ) : Type 0 where
  pub candidates_are : candidates ≡ candidate_count cell h sizes places
  pub cces_are : cces ≡ different_cces cell h sizes places

-- the numbers that a tally tells are both counts
pub are_counts : {room : ℕ} (cell : RawCell) (h : Handset) (sizes : Sizes) (places : List ℕ) (tally : Tally room)
    (candidates cces : ℕ)
    → Tallies cell h sizes places tally
    → candidates ≡ length tally.seen.items → cces ≡ count_by (λ b. b) tally.marks → length tally.marks ≡ mark_count
    → AreCounts cell h sizes places candidates cces
are_counts cell h sizes places tally candidates cces t e f g = record {
  candidates_are = e ∙ candidates_are cell h sizes places tally t;
  cces_are = f ∙ different_are cell h sizes places tally t g;
}

abbrev made : ArrayVec ℕ → ℕ → ℕ → Allotment
made sets candidates cces = record { sets = sets; candidates = candidates; cces = cces }

-- the allotment of sets with their counts
pub allotment_made : (cell : RawCell) (h : Handset) (sizes : Sizes) (places : List ℕ) (sets : ArrayVec ℕ)
    (candidates cces : ℕ) → sets.items ≡ places
    → AreCounts cell h sizes places candidates cces → made sets candidates cces ≡ allotment_of cell h sizes places
allotment_made cell h sizes places sets candidates cces e c =
    ap (λ (xs : List ℕ). made (record { items = xs }) candidates cces) e
    ∙ ap (λ (n : ℕ). made (record { items = places }) n cces) c.candidates_are
    ∙ ap (λ (n : ℕ). made (record { items = places }) (candidate_count cell h sizes places) n) c.cces_are

-- both counts of common sets
pub over_made : (cell : RawCell) (h : Handset) (sizes : Sizes) (places : List ℕ) (candidates cces : ℕ)
    → AreCounts cell h sizes places candidates cces
    → ◌≡◌ {A = CommonOver} (record { candidates = candidates; cces = cces }) (common_over cell h sizes places)
over_made cell h sizes places candidates cces c =
    let over : ℕ → ℕ → CommonOver = λ n m. record { candidates = n; cces = m } in
    ap (λ (n : ℕ). over n cces) c.candidates_are ∙ ap (λ (m : ℕ). over (candidate_count cell h sizes places) m) c.cces_are

-- whether the counts keep the limits
pub limits_are : (cell : RawCell) (h : Handset) (sizes : Sizes) (places : List ℕ) (candidates cces : ℕ) (b : Bool)
    → AreCounts cell h sizes places candidates cces
    → b ≡ are_within cell.mu candidates cces → keep_limits cell h sizes places ≡ b
limits_are cell h sizes places candidates cces b c e =
    ap (λ n. are_within cell.mu n (different_cces cell h sizes places)) (sym c.candidates_are)
    ∙ ap (λ m. are_within cell.mu candidates m) (sym c.cces_are) ∙ sym e

-- no numerology allows more candidates
most_below : (mu : ℕ) → most_candidates mu ≤ 44
most_below zero = omega arith
most_below (suc zero) = omega arith
most_below (suc (suc zero)) = omega arith
most_below (suc (suc (suc zero))) = omega arith
most_below (suc (suc (suc (suc n)))) = omega arith

-- so many candidates exceed the limit
exceeds_cases : (mu candidates cces : ℕ) (b : Bool) → 44 < candidates → are_within mu candidates cces ≡ b → b ≡ false
exceeds_cases mu candidates cces true l e =
    absurd (let w = leb-true candidates (most_candidates mu)
    (and_parts (nat_le candidates (most_candidates mu)) (nat_le cces (most_cces mu)) e).0 in
    let m = most_below mu in
    omega (arith, l, w, m))
exceeds_cases mu candidates cces false l e = refl

-- sets of more candidates than any limit allows do not keep it
pub exceeds : (cell : RawCell) (h : Handset) (sizes : Sizes) (places : List ℕ) → 44 < candidate_count cell h sizes places
    → keep_limits cell h sizes places ≡ false
exceeds cell h sizes places l =
    exceeds_cases cell.mu (candidate_count cell h sizes places) (different_cces cell h sizes places)
    (keep_limits cell h sizes places) l refl

-- the sets so far and one more
pub front_more : (common own : List ℕ) (i : ℕ) → i < length own
    → (common ++ take i own) ++ get_or own i 0 ∷ [] ≡ common ++ take (i + 1) own
front_more common own i l =
    append_assoc common (take i own) (get_or own i 0 ∷ []) ∙ ap (λ xs. common ++ xs) (sym (take_more own i 0 l))

-- whether the sets so far and one more keep the limits
pub front_keeps : (cell : RawCell) (h : Handset) (sizes : Sizes) (common own : List ℕ) (i : ℕ) (b : Bool) → i < length own
    → b ≡ keep_limits cell h sizes ((common ++ take i own) ++ get_or own i 0 ∷ [])
    → keep_limits cell h sizes (common ++ take (i + 1) own) ≡ b
front_keeps cell h sizes common own i b l e =
    sym (e ∙ ap (λ (xs : List ℕ). keep_limits cell h sizes xs) (front_more common own i l))

-- whether the common sets do
pub common_keep : (cell : RawCell) (h : Handset) (sizes : Sizes) (frame slot : ℕ) (places : List ℕ) (b : Bool)
    → places ≡ common_sets cell h frame slot → b ≡ keep_limits cell h sizes places
    → keep_limits cell h sizes (common_sets cell h frame slot) ≡ b
common_keep cell h sizes frame slot places b e k = sym (k ∙ ap (λ (xs : List ℕ). keep_limits cell h sizes xs) e)

-- the two answers
pub allotted_over : (cell : RawCell) (h : Handset) (sizes : Sizes) (frame slot : ℕ)
    → keep_limits cell h sizes (common_sets cell h frame slot) ≡ false
    → allotted cell h sizes frame slot ≡ Err (common_over cell h sizes (common_sets cell h frame slot))
unfolding allotted
allotted_over cell h sizes frame slot k =
    let common = common_sets cell h frame slot in
    ap (λ (b : Bool). cond b
    (Ok (allotment_of cell h sizes (common ++ longest_front cell h sizes common (own_sets cell h frame slot))))
    (Err (common_over cell h sizes common))) k

-- where the common sets keep the limits, there is an allotment
pub allotted-fits : (cell : RawCell) (h : Handset) (sizes : Sizes) (frame slot : ℕ)
    → keep_limits cell h sizes (common_sets cell h frame slot) ≡ true
    → allotted cell h sizes frame slot
    ≡ Ok (allotment_of cell h sizes
    (common_sets cell h frame slot
    ++ longest_front cell h sizes (common_sets cell h frame slot) (own_sets cell h frame slot)))
unfolding allotted
allotted-fits cell h sizes frame slot k =
    let common = common_sets cell h frame slot in
    ap (λ (b : Bool). cond b
    (Ok (allotment_of cell h sizes (common ++ longest_front cell h sizes common (own_sets cell h frame slot))))
    (Err (common_over cell h sizes common))) k

-- the sets of an allotment are some of the handset's
in_take : (x : ℕ) (n : ℕ) (xs : List ℕ) → IsIn x (take n xs) → IsIn x xs
in_take x n xs i = subst (λ ys. IsIn x ys) (take-append-drop n xs) (append_left_in x (take n xs) (drop n xs) i)

front_in : (cell : RawCell) (h : Handset) (sizes : Sizes) (common own : List ℕ) (x : ℕ)
    → IsIn x (longest_front cell h sizes common own) → IsIn x own
unfolding longest_front
front_in cell h sizes common own x i =
    in_take x (greatest (λ n. keep_limits cell h sizes (common ++ take n own)) (length own)) own i

-- an answer that is an allotment is the one that was made
pub result_cases : (over : CommonOver) (a b : Allotment) (t : Bool) → cond t (Ok a) (Err over) ≡ Ok b → a ≡ b
result_cases over a b true e = cc
result_cases over a b false e = absurd (cc)

-- each set of an allotment is one of the handset's
pub allotted_within : (cell : RawCell) (h : Handset) (sizes : Sizes) (frame slot : ℕ) (a : Allotment)
    → allotted cell h sizes frame slot ≡ Ok a
    → (place : ℕ) → IsIn place a.sets.items → place < length h.sets.items
unfolding allotted
allotted_within cell h sizes frame slot a e place i =
    let common = common_sets cell h frame slot in
    let own = own_sets cell h frame slot in
    let places = common ++ longest_front cell h sizes common own in
    let same = result_cases (common_over cell h sizes common) (allotment_of cell h sizes places) a
    (keep_limits cell h sizes common) e in
    let j = subst (λ (x : Allotment). IsIn place x.sets.items) (sym same) i in
    elim (in_append place common (longest_front cell h sizes common own) j) as (λ _. place < length h.sets.items) [
      | inl k ↦ (in_slot cell h true frame slot place k).2.within
      | inr k ↦ (in_slot cell h false frame slot place (front_in cell h sizes common own place k)).2.within
    ]

-- the same, by places
pub all_allotted : (cell : RawCell) (h : Handset) (sizes : Sizes) (frame slot : ℕ) (a : Allotment)
    → allotted cell h sizes frame slot ≡ Ok a
    → All (λ place. place < length h.sets.items) a.sets.items
all_allotted cell h sizes frame slot a e k d l = allotted_within cell h sizes frame slot a e _ (at_in a.sets.items k d l)

-- the same, for an answer of the code
pub answer_within : (cell : RawCell) (h : Handset) (sizes : Sizes) (frame slot : ℕ) (result : Result Allotment CommonOver)
    → result ≡ allotted cell h sizes frame slot
    → IfOk result (λ a. All (λ place. place < length h.sets.items) a.sets.items)
answer_within cell h sizes frame slot (Ok a) e = all_allotted cell h sizes frame slot a (sym e)
answer_within cell h sizes frame slot (Err over) e = tt

-- What each planned list of watches of a legal cell keeps.
use Rattle.std.proofs.Common.{◌≡◌, ℕ, ◌<◌, ◌≤◌, List, Result, Ok, Err, length, refl, sym, ap, arith}
use Rattle.std.proofs.lemmas.List.{length-map}
use Rattle.rrc_settings.specs.declared.settings.RawCell.{RawCell}
use Rattle.rrc_settings.specs.declared.settings.Handset.{Handset}
use Rattle.rrc_settings.specs.declared.settings.SearchSet.{SearchSet}
use Rattle.rrc_settings.specs.Legal.{IsLegal}
use Rattle.rrc_settings.specs.LegalCell.{IsLegalCell, IsLegalHandset, IsLegalSearchSet}
use Rattle.rrc_settings.specs.HandsetsOfCell.{handset_at, set_at, coreset_of}
use Rattle.rrc_settings.proofs.LegalCell.{legal_cell}
use Rattle.coreset_map.specs.ResourcesOfCell.{resources_in}
use Rattle.dci_fields.specs.declared.sizes.Sizes.{Sizes}
use Rattle.dci_fields.specs.Alignment.{sizes_of}
use Rattle.list_facts.proofs.Members.{IsIn}
use Rattle.monitor_budget.specs.declared.allotment.Allotment.{Allotment}
use Rattle.monitor_budget.specs.declared.allotment.CommonOver.{CommonOver}
use Rattle.monitor_budget.specs.Allotting.{allotted}
use Rattle.monitor_budget.specs.SetCandidates.{sizes_in}
use Rattle.monitor_budget.specs.Counts.{cces_under, candidates_of}
use Rattle.monitor_budget.proofs.Allotments.{allotted_within}
use Rattle.monitor_budget.proofs.FewCandidates.{few_flat_map, few_sizes, few_candidates, few_allotted}
use Rattle.monitor_budget.proofs.Spaces.{set_asks}
use Rattle.monitor_plan.specs.declared.watch.Watch.{Watch}
use Rattle.monitor_plan.specs.Watches.{watch_of, set_watches, watches_of}
use Rattle.monitor_plan.specs.Planned.{watches_allotted, planned}
use Rattle.monitor_plan.proofs.Plans.{IsMade, plan-made}

-- the watches of a set are few
few_set : (cell : RawCell) (h : Handset) (s : SearchSet) (sizes : Sizes) → IsLegalSearchSet h s
    → length (set_watches cell h sizes s) ≤ 1120
unfolding set_watches
few_set cell h s sizes known =
    let cces = cces_under cell h s in
    let few = few_candidates cces (sizes_in sizes s.kind) s (few_sizes sizes s.kind)
    (set_asks cell h s (resources_in cell.cell h.downlink.start (coreset_of h s)) known refl) in
    omega (arith, few, length-map (candidates_of cell h sizes s) (watch_of cell h sizes s))

-- and so are those of ten sets
few_watches : (cell : RawCell) (h : Handset) (sizes : Sizes) (places : List ℕ) → IsLegalHandset cell h
    → ((place : ℕ) → IsIn place places → place < length h.sets.items) → length places ≤ 10
    → length (watches_of cell h sizes places) ≤ 11200
unfolding watches_of
few_watches cell h sizes places there within few =
    let all = few_flat_map (λ place. set_watches cell h sizes (set_at h place)) 1120 places
    (λ place k. few_set cell h (set_at h place) sizes (there.sets place (within place k))) in
    omega (arith, all, few)

made_from : (cell : RawCell) (handset frame slot : ℕ) (watches : List Watch) (r : Result Allotment CommonOver)
    → IsLegalCell cell → handset < length cell.handsets
    → r ≡ allotted cell (handset_at cell handset) (sizes_of cell (handset_at cell handset)) frame slot
    → watches_allotted cell (handset_at cell handset) (sizes_of cell (handset_at cell handset)) r ≡ Ok watches
    → IsMade cell handset frame slot watches
made_from cell handset frame slot watches (Ok a) legal l e f =
    let h = handset_at cell handset in
    let sizes = sizes_of cell h in
    let is : watches_of cell h sizes a.sets.items ≡ watches = same_watches (watches_of cell h sizes a.sets.items) watches f in
    let within = allotted_within cell h sizes frame slot a (sym e) in
    let there = legal.handsets handset l in
    let few = few_watches cell h sizes a.sets.items there within
    (few_allotted cell h sizes frame slot a there.sets_most (sym e)) in
    plan-made cell handset frame slot sizes a watches legal l refl e (sym is) (omega (arith, few, ap length is))
  where
    same_watches : (xs ys : List Watch) → ◌≡◌ {A = Result (List Watch) CommonOver} (Ok xs) (Ok ys) → xs ≡ ys
    same_watches xs ys k = cc
made_from cell handset frame slot watches (Err over) legal l e f = absurd (let k : ⊥ = cc in k)

-- a planned list is sound, inside the slot and the carrier, alike and few
pub planned-made : (cell : RawCell) (handset frame slot : ℕ) (watches : List Watch) → IsLegal cell
    → handset < length cell.handsets
    → planned cell handset frame slot ≡ Ok watches → IsMade cell handset frame slot watches
unfolding planned
planned-made cell handset frame slot watches legal l e =
    let h = handset_at cell handset in
    let sizes = sizes_of cell h in
    made_from cell handset frame slot watches (allotted cell h sizes frame slot) (legal_cell cell legal) l refl e

-- The plan as the code makes it.
use Rattle.std.proofs.Common.{◌≡◌, ℕ, ◌<◌, ◌≤◌, ◌↔◌, List, Result, Ok, Err, All, length, sym, ◌∙◌, ap, subst}
use Rattle.rrc_settings.specs.declared.settings.RawCell.{RawCell}
use Rattle.rrc_settings.specs.LegalCell.{IsLegalCell}
use Rattle.dci_fields.specs.declared.sizes.Sizes.{Sizes}
use Rattle.dci_fields.specs.Alignment.{sizes_of}
use Rattle.rrc_settings.specs.HandsetsOfCell.{handset_at}
use Rattle.monitor_budget.specs.declared.allotment.Allotment.{Allotment}
use Rattle.monitor_budget.specs.declared.allotment.CommonOver.{CommonOver as Over}
use Rattle.monitor_budget.specs.Allotting.{allotted}
use Rattle.monitor_budget.proofs.Allotments.{allotted_within}
use Rattle.monitor_plan.specs.declared.watch.Watch.{Watch}
use Rattle.monitor_plan.specs.declared.plan.PlanFault.{PlanFault}
use Rattle.monitor_plan.specs.declared.plan.PlanFault.TheVariants.{CommonOver, NoMemory}
use Rattle.monitor_plan.specs.Watch.{IsSound, AreAlike, IsPlan, IsInside}
use Rattle.monitor_plan.specs.Watches.{watches_of}
use Rattle.monitor_plan.specs.Planned.{over_by, watches_allotted, planned}
use Rattle.monitor_plan.proofs.SoundWatches.{all_sound, all_inside, all_alike}

-- what is known of the watches of an allotment
pub record IsMade (cell : RawCell) (handset frame slot : ℕ) (items : List Watch) : Type 0 where
  pub planned_is : planned cell handset frame slot ≡ Ok items
  pub plan : IsPlan items
  pub inside : All (IsInside cell.blocks) items

-- the plan of an allotment is its watches
pub plan-fits : (cell : RawCell) (handset frame slot : ℕ) (sizes : Sizes) (a : Allotment)
    → sizes ≡ sizes_of cell (handset_at cell handset)
    → Ok a ≡ allotted cell (handset_at cell handset) sizes frame slot
    → planned cell handset frame slot ≡ Ok (watches_of cell (handset_at cell handset) sizes a.sets.items)
unfolding planned
plan-fits cell handset frame slot sizes a e f =
    let h = handset_at cell handset in
    let answer = ap (λ (s : Sizes). watches_allotted cell h s (allotted cell h s frame slot)) e in
    sym answer ∙ ap (λ (r : Result Allotment Over). watches_allotted cell h sizes r) (sym f)

-- there is no plan where the common sets exceed a limit
pub plan_over : (cell : RawCell) (handset frame slot : ℕ) (sizes : Sizes) (over : Over)
    → sizes ≡ sizes_of cell (handset_at cell handset)
    → Err over ≡ allotted cell (handset_at cell handset) sizes frame slot → planned cell handset frame slot ≡ Err over
unfolding planned
plan_over cell handset frame slot sizes over e f =
    let h = handset_at cell handset in
    let answer = ap (λ (s : Sizes). watches_allotted cell h s (allotted cell h s frame slot)) e in
    sym answer ∙ ap (λ (r : Result Allotment Over). watches_allotted cell h sizes r) (sym f)

-- the watches of an allotment of a legal cell
pub plan-made : (cell : RawCell) (handset frame slot : ℕ) (sizes : Sizes) (a : Allotment) (items : List Watch)
    → IsLegalCell cell → handset < length cell.handsets
    → sizes ≡ sizes_of cell (handset_at cell handset) → Ok a ≡ allotted cell (handset_at cell handset) sizes frame slot
    → items ≡ watches_of cell (handset_at cell handset) sizes a.sets.items → length items ≤ 11200
    → IsMade cell handset frame slot items
plan-made cell handset frame slot sizes a items legal l e f g few =
    let h = handset_at cell handset in
    let own = sizes_of cell h in
    let there = legal.handsets handset l in
    let same : items ≡ watches_of cell h own a.sets.items = g ∙ ap (λ (s : Sizes). watches_of cell h s a.sets.items) e in
    let within = allotted_within cell h sizes frame slot a (sym f) in
    record {
      planned_is = plan-fits cell handset frame slot sizes a e f ∙ ap (λ (ws : List Watch). Ok ws) (sym g);
      plan = record {
        sound = subst (λ (ws : List Watch). All IsSound ws) (sym same) (all_sound cell h a.sets.items legal there within);
        alike = subst AreAlike (sym same) (all_alike cell h own a.sets.items there within);
        few = few;
      };
      inside =
          subst (λ (ws : List Watch). All (IsInside cell.blocks) ws) (sym same) (all_inside cell h a.sets.items there within);
    }

-- the fault comes exactly where the common sets exceed a limit
abbrev Answer : Type 0
Answer = Result (List Watch) PlanFault

abbrev Outcome : Type 0
Outcome = Result (List Watch) Over

-- an answer with watches says that no limit is exceeded
pub made_not_over : (p : Outcome) (items : List Watch) (candidates cces : ℕ) → p ≡ Ok items
    → (◌≡◌ {A = Answer} (Ok items) (Err (CommonOver candidates cces))) ↔ (p ≡ Err (over_by candidates cces))
made_not_over p items candidates cces e = (λ h. absurd (cc), λ h. absurd (clash (sym e ∙ h)))
  where
    clash : ◌≡◌ {A = Outcome} (Ok items) (Err (over_by candidates cces)) → ⊥
    clash h = cc

-- and so does one of a lack of memory
pub memory_not_over : (p : Outcome) (items : List Watch) (candidates cces : ℕ) → p ≡ Ok items
    → (◌≡◌ {A = Answer} (Err NoMemory) (Err (CommonOver candidates cces))) ↔ (p ≡ Err (over_by candidates cces))
memory_not_over p items candidates cces e = (λ h. absurd (cc), λ h. absurd (clash (sym e ∙ h)))
  where
    clash : ◌≡◌ {A = Outcome} (Ok items) (Err (over_by candidates cces)) → ⊥
    clash h = cc

-- an answer with counts says by how much
pub over_exactly : (p : Outcome) (over : Over) (candidates cces : ℕ) → p ≡ Err over
    → (◌≡◌ {A = Answer} (Err (CommonOver over.candidates over.cces)) (Err (CommonOver candidates cces)))
    ↔ (p ≡ Err (over_by candidates cces))
over_exactly p over candidates cces e = (
  λ h. e ∙ there over.candidates over.cces h,
  λ h. let o = once over (over_by candidates cces) (sym e ∙ h) in ap
      (λ (x : Over). failed (CommonOver x.candidates x.cces)) o,
)
  where
    failed : PlanFault → Answer
    failed f = Err f

    there : (a b : ℕ) → ◌≡◌ {A = Answer} (Err (CommonOver a b)) (Err (CommonOver candidates cces))
        → ◌≡◌ {A = Outcome} (Err (over_by a b)) (Err (over_by candidates cces))
    there a b h =
        let x : a ≡ candidates = cc in let y : b ≡ cces = cc in
        ap (λ (n : ℕ). stopped (over_by n b)) x ∙ ap (λ (n : ℕ). stopped (over_by candidates n)) y
      where
        stopped : Over → Outcome
        stopped o = Err o

    once : (a b : Over) → ◌≡◌ {A = Outcome} (Err a) (Err b) → a ≡ b
    once a b h = cc

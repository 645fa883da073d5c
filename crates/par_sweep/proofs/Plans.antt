-- In each slot of the load there is a desk, and each handset has a plan: no set is common.
use Rattle.std.proofs.Common.{◌≡◌, ℕ, zero, suc, ◌+◌, ◌/◌, ◌%◌, ◌<◌, ◌≤◌, Bool, true, false, ◌&&◌, ◌==◌, cond, List, []}
use Rattle.std.proofs.Common.{◌∷◌, ◌++◌, Result, Ok, length, refl, ap, sym, ◌∙◌, arith}
use Rattle.std.specs.List.{range_with_len, flat_map}
use Rattle.std.specs.Result.{result_unwrap_or}
use Rattle.rrc_settings.specs.declared.settings.RawCell.{RawCell}
use Rattle.rrc_settings.specs.declared.settings.Handset.{Handset}
use Rattle.rrc_settings.specs.HandsetsOfCell.{handset_at}
use Rattle.dci_fields.specs.declared.sizes.Sizes.{Sizes}
use Rattle.dci_fields.specs.Alignment.{sizes_of}
use Rattle.monitor_budget.specs.declared.allotment.CommonOver.{CommonOver as Over}
use Rattle.monitor_budget.specs.Allotting.{common_sets, keep_limits, numbered_sets, sets_in_slot}
use Rattle.monitor_budget.specs.Counts.{all_cces, all_counted, candidate_count, different_cces}
use Rattle.monitor_budget.proofs.Allotments.{allotted-fits}
use Rattle.monitor_plan.specs.declared.watch.Watch.{Watch}
use Rattle.monitor_plan.specs.Planned.{planned}
use Rattle.monitor_plan.proofs.Plans.{plan-fits}
use Rattle.cell_placer.specs.declared.member.Member.{Member}
use Rattle.cell_placer.specs.Opened.{SlotOver, before, behind, member_of, members_at, new_desk, opened}
use Rattle.cell_placer.proofs.Openings.{at_place, none_left}
use Rattle.par_sweep.specs.LoadCell.{load_cell, load_handset}
use Rattle.par_sweep.specs.Slots.{slot_desk, slot_watches, no_desk, PlansEverySlot}
use Rattle.par_sweep.proofs.LegalLoad.{count_of_handsets, handset_there}

-- there is a value
record Has {A E : Type 0} (r : Result A E) : Type 0 where
  value : A
  is : r ≡ Ok value

has_unwrapped : {A E : Type 0} (r : Result A E) (other : A) → Has r → r ≡ Ok (result_unwrap_or r other)
has_unwrapped {A = A} {E = E} r other h =
    h.is ∙ ap (λ (x : A). Ok x) (sym (ap (λ (x : Result A E). result_unwrap_or x other) h.is))

-- no set of a handset is common
numbered_none : (cell : RawCell) (b frame slot number : ℕ) → numbered_sets cell (load_handset b) true frame slot number ≡ []
unfolding numbered_sets
numbered_none cell b frame slot number = by (1 == number)
  where
    by : (t : Bool) → cond {A = List ℕ} (t && false) (0 ∷ []) [] ≡ []
    by true = refl
    by false = refl

flat_map_none : (f : ℕ → List ℕ) (xs : List ℕ) → ((x : ℕ) → f x ≡ []) → flat_map f xs ≡ []
flat_map_none f [] h = refl
flat_map_none f (x ∷ xs) h = ap (λ ys. ys ++ flat_map f xs) (h x) ∙ flat_map_none f xs h

common_none : (cell : RawCell) (b frame slot : ℕ) → common_sets cell (load_handset b) frame slot ≡ []
unfolding sets_in_slot
common_none cell b frame slot =
    flat_map_none (numbered_sets cell (load_handset b) true frame slot) (range_with_len 1 39) (numbered_none cell b frame slot)

-- none keeps both limits
none_keep : (h : Handset) (sizes : Sizes) → keep_limits load_cell h sizes [] ≡ true
unfolding candidate_count all_counted different_cces all_cces load_cell
none_keep h sizes = refl

-- each handset has a plan
has_plan : (h frame slot : ℕ) → h < 32 → Has (planned load_cell h frame slot)
has_plan h frame slot l =
    let x = handset_at load_cell h in
    let sizes = sizes_of load_cell x in
    let none : common_sets load_cell x frame slot ≡ [] =
    ap (λ (y : Handset). common_sets load_cell y frame slot) (handset_there h l) ∙ common_none load_cell h frame slot
    in
    let keeps : keep_limits load_cell x sizes (common_sets load_cell x frame slot) ≡ true =
    ap (keep_limits load_cell x sizes) none ∙ none_keep x sizes
    in
    record {
      value = _;
      is = plan-fits load_cell h frame slot sizes _ refl
          (sym (allotted-fits load_cell x sizes frame slot keeps));
    }

-- so there are members for handsets
has_members : (frame slot first count : ℕ) → first + count ≤ 32
    → Has (members_at load_cell frame slot (range_with_len first count))
has_members frame slot first zero h = record { value = []; is = none_left load_cell frame slot }
has_members frame slot first (suc count) h =
    let places = range_with_len (first + 1) count in
    let plan = has_plan first frame slot (omega (arith, h)) in
    let rest = has_members frame slot (first + 1) count (omega (arith, h)) in
    let m = member_of (handset_at load_cell first) plan.value in
    record {
      value = m ∷ rest.value;
      is =
          at_place load_cell frame slot first places
          ∙ ap (λ (p : Result (List Watch) Over). before load_cell first p (members_at load_cell frame slot places)) plan.is
          ∙ ap (λ (r : Result (List Member) SlotOver). behind (m ∷ []) r) rest.is;
    }

-- and a desk
has_desk : (frame slot : ℕ) → Has (opened load_cell frame slot 64)
has_desk frame slot =
    let n = length load_cell.handsets in
    let members = has_members frame slot 0 n (omega (arith, count_of_handsets)) in
    record { value = _; is = ap (new_desk load_cell frame slot 64) members.is }

-- the law: in each slot there is a desk, and each handset has a plan
pub plans_every_slot : PlansEverySlot
unfolding slot_desk slot_watches
plans_every_slot t = record {
  desk = has_unwrapped (opened load_cell (t / 10) (t % 10) 64) no_desk (has_desk (t / 10) (t % 10));
  watches = λ h l. has_unwrapped (planned load_cell h (t / 10) (t % 10)) [] (has_plan h (t / 10) (t % 10) l);
}

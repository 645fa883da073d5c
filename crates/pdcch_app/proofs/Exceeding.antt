-- Handsets have their watches in a slot exactly where the common sets of none exceed a limit.
use Rattle.std.proofs.Common.{◌≡◌, ℕ, zero, suc, ◌<◌, Bool, true, false, cond, ltb, Some, None, List, [], ◌∷◌, Result}
use Rattle.std.proofs.Common.{Ok, Err, length, get_or, refl, sym, ap, subst, ◌∙◌, arith}
use Rattle.std.specs.List.{range_with_len, position_or_len}
use Rattle.std.specs.Str.{bytes_eq}
use Rattle.std.proofs.lemmas.List.FromFn.{length-range_with_len, get_or-range_with_len}
use Rattle.std.proofs.lemmas.List.Quantifiers.{position-Some}
use Rattle.std.proofs.lemmas.List.Sums.{passes_at_first, fails_before_first}
use Rattle.std.proofs.lemmas.Option.{cond_some}
use Rattle.std.proofs.lemmas.Slice.Eq.{bytes_eq-Decides}
use Rattle.std.proofs.lemmas.Bool.Decides.{nat_tests}
use Rattle.grant_file.specs.declared.grants.GrantList.{GrantList}
use Rattle.rrc_settings.specs.declared.settings.RawCell.{RawCell}
use Rattle.rrc_settings.specs.declared.settings.Handset.{Handset}
use Rattle.rrc_settings.specs.HandsetsOfCell.{handset_at, no_handset}
use Rattle.monitor_budget.specs.declared.allotment.CommonOver.{CommonOver}
use Rattle.monitor_plan.specs.declared.watch.Watch.{Watch}
use Rattle.monitor_plan.specs.Planned.{planned}
use Rattle.cell_placer.specs.declared.member.Member.{Member}
use Rattle.cell_placer.specs.Opened.{SlotOver, before, members_at, new_desk, opened}
use Rattle.cell_placer.specs.Placing.{DeskValue}
use Rattle.run_steps.specs.Outcome.{Refusal}
use Rattle.pdcch_app.specs.Causes.{IsNamed, SomeExceeds}
use Rattle.pdcch_app.specs.Reporting.{Listener, handset_named, listener_before, listeners_of, over_limits}

-- the common sets of one of these handsets exceed a limit
pub record OneExceeds (cell : RawCell) (frame slot : ℕ) (handsets : List ℕ) : Type 0 where
  pub number : ℕ
  pub within : number < length handsets
  pub over : CommonOver
  pub is : planned cell (get_or handsets number 0) frame slot ≡ Err over

-- what is answered of handsets by their plans: it is refused with the fault of the first whose common sets exceed a limit
pub record IsByPlans {E F : Type 0} (cell : RawCell) (frame slot : ℕ) (answer : List ℕ → Result (List E) F)
    (fault : ℕ → CommonOver → F) : Type 0 where
  pub none : (f : F) → answer [] ≡ Err f → ⊥
  pub over : (first : ℕ) (others : List ℕ) (found : CommonOver) → planned cell first frame slot ≡ Err found
      → answer (first ∷ others) ≡ Err (fault first found)
  pub later : (first : ℕ) (others : List ℕ) (watches : List Watch) (f : F) → planned cell first frame slot ≡ Ok watches
      → answer others ≡ Err f → answer (first ∷ others) ≡ Err f
  pub whole : (first : ℕ) (others : List ℕ) (watches : List Watch) (es : List E) (f : F)
      → planned cell first frame slot ≡ Ok watches → answer others ≡ Ok es → answer (first ∷ others) ≡ Err f → ⊥

-- a fault is that of one of these handsets, whose common sets exceed a limit
pub record IsFaultOf {F : Type 0} (cell : RawCell) (frame slot : ℕ) (handsets : List ℕ) (fault : ℕ → CommonOver → F) (f : F)
    : Type 0 where
  pub one : OneExceeds cell frame slot handsets
  pub is : f ≡ fault (get_or handsets one.number 0) one.over

module _ {E F : Type 0} (cell : RawCell) (frame slot : ℕ) (answer : List ℕ → Result (List E) F) (fault : ℕ → CommonOver → F)
    (by : IsByPlans cell frame slot answer fault) where
  -- by the plan of the first handset, and by what is answered of the others
  first_refused : (first : ℕ) (others : List ℕ) (plan : Result (List Watch) CommonOver) (rest : Result (List E) F) (f : F)
      → planned cell first frame slot ≡ plan → answer others ≡ rest → answer (first ∷ others) ≡ Err f
      → ((g : F) → answer others ≡ Err g → IsFaultOf cell frame slot others fault g)
      → IsFaultOf cell frame slot (first ∷ others) fault f
  first_refused first others (Err found) rest f p r e next =
      let both_are = sym (by.over first others found p) ∙ e in
      let same : f ≡ fault first found = cc in
      record { one = record { number = 0; within = omega arith; over = found; is = p }; is = same }
  first_refused first others (Ok watches) (Err g) f p r e next =
      let both_are = sym (by.later first others watches g p r) ∙ e in
      let same : f ≡ g = cc in
      let at = next g r in
      let one = at.one in
      record {
        one = record { number = suc one.number; within = omega (arith, one.within); over = one.over; is = one.is };
        is = same ∙ at.is;
      }
  first_refused first others (Ok watches) (Ok es) f p r e next = absurd (by.whole first others watches es f p r e)

  -- handsets are refused where the common sets of one exceed a limit
  one_refused : (handsets : List ℕ) (f : F) → answer handsets ≡ Err f → IsFaultOf cell frame slot handsets fault f
  one_refused [] f e = absurd (by.none f e)
  one_refused (first ∷ others) f e =
      first_refused first others (planned cell first frame slot) (answer others) f refl refl e (λ g h. one_refused others g h)

  -- the same by the plan of the first handset, where there is an answer
  first_within : (first : ℕ) (others : List ℕ) (plan : Result (List Watch) CommonOver) (rest : Result (List E) F) (es : List E)
      → planned cell first frame slot ≡ plan → answer others ≡ rest → answer (first ∷ others) ≡ Ok es
      → ((ds : List E) → answer others ≡ Ok ds → OneExceeds cell frame slot others → ⊥)
      → (number : ℕ) → number < length (first ∷ others) → (over : CommonOver)
      → planned cell (get_or (first ∷ others) number 0) frame slot ≡ Err over → ⊥
  first_within first others (Err found) rest es p r e next number l over h =
      let never = sym (by.over first others found p) ∙ e in cc
  first_within first others (Ok watches) (Err f) es p r e next number l over h =
      let never = sym (by.later first others watches f p r) ∙ e in cc
  first_within first others (Ok watches) (Ok ds) es p r e next zero l over h = let never = sym p ∙ h in cc
  first_within first others (Ok watches) (Ok ds) es p r e next (suc number) l over h =
      next ds r (record { number = number; within = omega (arith, l); over = over; is = h })

  -- where handsets are answered, the common sets of none exceed a limit
  none_refused : (handsets : List ℕ) (es : List E) → answer handsets ≡ Ok es → OneExceeds cell frame slot handsets → ⊥
  none_refused [] es e one = let l : one.number < 0 = one.within in absurd (omega arith)
  none_refused (first ∷ others) es e one =
      first_within first others (planned cell first frame slot) (answer others) es refl refl e
      (λ ds h. none_refused others ds h) one.number one.within one.over one.is

-- handsets are reported by their plans
listeners_by : (cell : RawCell) (frame slot : ℕ) → IsByPlans cell frame slot (listeners_of cell frame slot) (over_limits cell)
listeners_by cell frame slot = record {
  none = λ f e. let never : ⊥ = cc in never;
  over = λ first others found p. ap (λ plan. listener_before cell first plan (listeners_of cell frame slot others)) p;
  later = λ first others watches f p r.
      ap (λ plan. listener_before cell first plan (listeners_of cell frame slot others)) p
      ∙ ap (listener_before cell first (Ok watches)) r;
  whole = λ first others watches es f p r e.
      let is = ap (λ plan. listener_before cell first plan (listeners_of cell frame slot others)) p
      ∙ ap (listener_before cell first (Ok watches)) r in
      let never = sym is ∙ e in cc;
}

-- handsets are refused where the common sets of one exceed a limit
pub listeners_exceed : (cell : RawCell) (frame slot : ℕ) (handsets : List ℕ) (refusal : Refusal)
    → listeners_of cell frame slot handsets ≡ Err refusal → IsFaultOf cell frame slot handsets (over_limits cell) refusal
listeners_exceed cell frame slot =
    one_refused cell frame slot (listeners_of cell frame slot) (over_limits cell) (listeners_by cell frame slot)

-- where handsets have their watches, the common sets of none exceed a limit
pub listeners_within : (cell : RawCell) (frame slot : ℕ) (handsets : List ℕ) (listeners : List Listener)
    → listeners_of cell frame slot handsets ≡ Ok listeners → OneExceeds cell frame slot handsets → ⊥
listeners_within cell frame slot =
    none_refused cell frame slot (listeners_of cell frame slot) (over_limits cell) (listeners_by cell frame slot)

-- the slot that is refused for a handset
abbrev over_at : ℕ → CommonOver → SlotOver
over_at handset over = record { handset = handset; over = over }

-- so are the handsets of a desk
members_by : (cell : RawCell) (frame slot : ℕ) → IsByPlans cell frame slot (members_at cell frame slot) over_at
unfolding members_at
members_by cell frame slot = record {
  none = λ f e. let never : ⊥ = cc in never;
  over = λ first others found p. ap (λ plan. before cell first plan (members_at cell frame slot others)) p;
  later = λ first others watches f p r.
      ap (λ plan. before cell first plan (members_at cell frame slot others)) p ∙ ap (before cell first (Ok watches)) r;
  whole = λ first others watches es f p r e.
      let is = ap (λ plan. before cell first plan (members_at cell frame slot others)) p
      ∙ ap (before cell first (Ok watches)) r in
      let never = sym is ∙ e in cc;
}

-- all handsets of a cell
abbrev pub all_of : RawCell → List ℕ
all_of cell = range_with_len 0 (length cell.handsets)

all_within : (cell : RawCell) (number : ℕ) → number < length (all_of cell) → number < length cell.handsets
all_within cell number l = omega (arith, l, length-range_with_len 0 (length cell.handsets))

all_at : (cell : RawCell) (number : ℕ) → number < length cell.handsets → get_or (all_of cell) number 0 ≡ number
all_at cell number l = get_or-range_with_len 0 (length cell.handsets) number 0 l ∙ omega arith

-- one of all handsets is one of the cell
pub some_of_all : (cell : RawCell) (frame slot : ℕ) → OneExceeds cell frame slot (all_of cell) → SomeExceeds cell None frame slot
some_of_all cell frame slot one =
    let within = all_within cell one.number one.within in
    record {
      handset = one.number;
      served = within;
      over = one.over;
      is = subst (λ (h : ℕ). planned cell h frame slot ≡ Err one.over) (all_at cell one.number within) one.is;
    }

-- and one of the cell is one of all
pub one_of_all : (cell : RawCell) (frame slot : ℕ) → SomeExceeds cell None frame slot → OneExceeds cell frame slot (all_of cell)
one_of_all cell frame slot some =
    let within : some.handset < length cell.handsets = some.served in
    record {
      number = some.handset;
      within = omega (arith, within, length-range_with_len 0 (length cell.handsets));
      over = some.over;
      is = subst (λ (h : ℕ). planned cell h frame slot ≡ Err some.over) (sym (all_at cell some.handset within)) some.is;
    }

-- the one handset with a name
pub some_of_one : (cell : RawCell) (frame slot : ℕ) (name : List ℕ) (handset : ℕ) → handset_named cell name ≡ Some handset
    → OneExceeds cell frame slot (handset ∷ [])
    → SomeExceeds cell (Some name) frame slot
some_of_one cell frame slot name handset e one =
    let first : one.number ≡ 0 = omega (arith, one.within) in
    let same : get_or (handset ∷ []) one.number 0 ≡ handset = ap (λ (k : ℕ). get_or (handset ∷ []) k 0) first in
    record {
      handset = handset;
      served = e;
      over = one.over;
      is = subst
          (λ (h : ℕ). planned cell h frame slot ≡ Err one.over) same one.is;
    }

-- and it alone has the name
pub one_of_one : (cell : RawCell) (frame slot : ℕ) (name : List ℕ) (handset : ℕ) → handset_named cell name ≡ Some handset
    → SomeExceeds cell (Some name) frame slot
    → OneExceeds cell frame slot (handset ∷ [])
one_of_one cell frame slot name handset e some =
    let found : handset_named cell name ≡ Some some.handset = some.served in
    let same : some.handset ≡ handset = cc in
    record {
      number = 0;
      within = omega arith;
      over = some.over;
      is = subst
          (λ (h : ℕ). planned cell h frame slot ≡ Err some.over) same some.is;
    }

-- a slot has no desk where its handsets are refused
members_over : (cell : RawCell) (frame slot room : ℕ) (found : Result (List Member) SlotOver) (over : SlotOver)
    → new_desk cell frame slot room found ≡ Err over → found ≡ Err over
members_over cell frame slot room (Ok members) over e = absurd (let f : ⊥ = cc in f)
members_over cell frame slot room (Err other) over e = let same : other ≡ over = cc in ap (λ (s : SlotOver). Err s) same

-- the handset of a cell for which the slot of grants is refused
slot_fault : (cell : RawCell) (list : GrantList) (over : SlotOver)
    → opened cell list.frame list.slot (length list.grants) ≡ Err over
    → IsFaultOf cell list.frame list.slot (all_of cell) over_at over
slot_fault cell list over e =
    one_refused cell list.frame list.slot (members_at cell list.frame list.slot) over_at (members_by cell list.frame list.slot)
    (all_of cell) over
    (members_over cell list.frame list.slot (length list.grants) (members_at cell list.frame list.slot (all_of cell)) over e)

-- the slot of grants has no desk where the common sets of a handset exceed a limit
pub no_desk : (cell : RawCell) (list : GrantList) (over : SlotOver)
    → opened cell list.frame list.slot (length list.grants) ≡ Err over
    → SomeExceeds cell None list.frame list.slot
no_desk cell list over e = some_of_all cell list.frame list.slot (slot_fault cell list over e).one

-- and the handset that opening names is one of the cell
pub over_within : (cell : RawCell) (list : GrantList) (over : SlotOver)
    → opened cell list.frame list.slot (length list.grants) ≡ Err over → over.handset < length cell.handsets
over_within cell list over e =
    let fault = slot_fault cell list over e in
    let within = all_within cell fault.one.number fault.one.within in
    subst (λ (s : SlotOver). s.handset < length cell.handsets) (sym fault.is)
    (subst (λ (h : ℕ). h < length cell.handsets) (sym (all_at cell fault.one.number within)) within)

desk_members : (cell : RawCell) (frame slot room : ℕ) (found : Result (List Member) SlotOver) (desk : DeskValue)
    → new_desk cell frame slot room found ≡ Ok desk
    → (members : List Member) × (found ≡ Ok members)
desk_members cell frame slot room (Ok members) desk e = (members, refl)
desk_members cell frame slot room (Err fault) desk e = absurd (let f : ⊥ = cc in f)

-- it has one where the common sets of none do
pub a_desk : (cell : RawCell) (list : GrantList) (desk : DeskValue)
    → opened cell list.frame list.slot (length list.grants) ≡ Ok desk
    → SomeExceeds cell None list.frame list.slot → ⊥
a_desk cell list desk e some =
    let (members, are) = desk_members cell list.frame list.slot (length list.grants)
    (members_at cell list.frame list.slot (all_of cell)) desk e in
    none_refused cell list.frame list.slot (members_at cell list.frame list.slot) over_at
    (members_by cell list.frame list.slot) (all_of cell) members are (one_of_all cell list.frame list.slot some)

-- a handset's name is this
abbrev has_name : List ℕ → Handset → Bool
has_name name handset = bytes_eq handset.name name

-- a handset that is found by its name has it
pub named_is : (cell : RawCell) (name : List ℕ) (handset : ℕ) → handset_named cell name ≡ Some handset → IsNamed cell name
named_is cell name handset e =
    let first = position_or_len (has_name name) cell.handsets in
    let is = cond_some (ltb first (length cell.handsets)) first handset e in
    let within : first < length cell.handsets = grind (arith, nat_tests, is.0) in
    record {
      handset = first;
      within = within;
      is = (bytes_eq-Decides (handset_at cell first).name name).0
          (passes_at_first (has_name name) cell.handsets no_handset within);
    }

-- and is one of the cell
pub place_within : (cell : RawCell) (name : List ℕ) (handset : ℕ) → handset_named cell name ≡ Some handset
    → handset < length cell.handsets
place_within cell name handset e = (position-Some (has_name name) cell.handsets handset no_handset e).0

none_found : (b : Bool) (handset : ℕ) → cond b (Some handset) None ≡ None → b ≡ false
none_found true handset e = absurd (let f : ⊥ = cc in f)
none_found false handset e = refl

-- and where none is found, none has it
pub none_named : (cell : RawCell) (name : List ℕ) → handset_named cell name ≡ None → IsNamed cell name → ⊥
none_named cell name e named =
    let first = position_or_len (has_name name) cell.handsets in
    let past = none_found (ltb first (length cell.handsets)) first e in
    let before : named.handset < first = let within : named.handset < length cell.handsets = named.within in
    grind (arith, nat_tests, past) in
    let no_name = fails_before_first (has_name name) cell.handsets named.handset no_handset before in
    let has = (bytes_eq-Decides (handset_at cell named.handset).name name).1 named.is in
    let f : true ≡ false = sym has ∙ no_name in cc

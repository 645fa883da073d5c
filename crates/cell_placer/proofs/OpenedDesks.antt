-- The desk of a slot of a legal cell is a desk, with the handsets of the cell.
use Rattle.std.proofs.Common.{◌≡◌, ℕ, zero, suc, ◌<◌, inl, inr, List, [], ◌∷◌, Result, Ok, Err, length, get_or, refl}
use Rattle.std.proofs.Common.{sym, subst, ◌∙◌, arith}
use Rattle.std.specs.List.{range_with_len}
use Rattle.std.proofs.lemmas.List.{get_or_default}
use Rattle.std.proofs.lemmas.List.FromFn.{length-range_with_len, get_or-range_with_len}
use Rattle.rrc_settings.specs.declared.settings.RawCell.{RawCell}
use Rattle.rrc_settings.specs.HandsetsOfCell.{handset_at}
use Rattle.rrc_settings.specs.Legal.{IsLegal}
use Rattle.slot_grid.specs.Image.{blank_grid}
use Rattle.list_facts.proofs.Members.{IsIn, in_range}
use Rattle.monitor_budget.specs.declared.allotment.CommonOver.{CommonOver as Over}
use Rattle.monitor_plan.specs.declared.watch.Watch.{Watch}
use Rattle.monitor_plan.specs.Planned.{planned}
use Rattle.monitor_plan.proofs.PlannedWatches.{planned-made}
use Rattle.cell_placer.specs.declared.member.Member.{Member}
use Rattle.cell_placer.specs.Ledger.{no_member, member_at, IsMember}
use Rattle.cell_placer.specs.Made.{IsMade}
use Rattle.cell_placer.specs.Opened.{SlotOver, member_of, before, members_at, new_desk}
use Rattle.cell_placer.specs.OpenedDesk.{IsOpened, OpensADesk}
use Rattle.cell_placer.specs.Placing.{DeskValue}
use Rattle.cell_placer.proofs.Openings.{at_place, none_left}
use Rattle.cell_placer.proofs.Histories.{same_desk}

-- members are those of the handsets at some places
record AreMembers (cell : RawCell) (frame slot : ℕ) (places : List ℕ) (members : List Member) : Type 0 where
  count : length members ≡ length places
  each : (i : ℕ) → i < length places → IsMade cell (get_or places i 0) frame slot (member_at members i)

-- a handset that comes before others has a plan
record IsBefore (cell : RawCell) (handset : ℕ) (plan : Result (List Watch) Over) (rest : Result (List Member) SlotOver)
    (members : List Member) : Type 0 where
  watches : List Watch
  others : List Member
  planned_is : plan ≡ Ok watches
  rest_is : rest ≡ Ok others
  is : member_of (handset_at cell handset) watches ∷ others ≡ members

before_ok : (cell : RawCell) (handset : ℕ) (plan : Result (List Watch) Over) (rest : Result (List Member) SlotOver)
    (members : List Member)
    → before cell handset plan rest ≡ Ok members → IsBefore cell handset plan rest members
before_ok cell handset (Ok watches) (Ok others) members e =
    record {
      watches = watches;
      others = others;
      planned_is = refl;
      rest_is = refl;
      is = same_members
          (member_of (handset_at cell handset) watches ∷ others) members e;
    }
  where
    same_members : (xs ys : List Member) → ◌≡◌ {A = Result (List Member) SlotOver} (Ok xs) (Ok ys) → xs ≡ ys
    same_members xs ys k = cc
before_ok cell handset (Ok watches) (Err over) members e = absurd (let f : ⊥ = cc in f)
before_ok cell handset (Err over) rest members e = absurd (let f : ⊥ = cc in f)

-- the member of a handset of a legal cell
one_made : (cell : RawCell) (handset frame slot : ℕ) (watches : List Watch) → IsLegal cell → handset < length cell.handsets
    → planned cell handset frame slot ≡ Ok watches → IsMade cell handset frame slot (member_of (handset_at cell handset) watches)
one_made cell handset frame slot watches legal l e =
    let made = planned-made cell handset frame slot watches legal l e in
    record { planned_is = e; member = refl; known = record { plan = made.plan; inside = made.inside } }

first_and_others : (cell : RawCell) (frame slot place : ℕ) (places : List ℕ) (m : Member) (others : List Member)
    → IsMade cell place frame slot m
    → AreMembers cell frame slot places others → AreMembers cell frame slot (place ∷ places) (m ∷ others)
first_and_others cell frame slot place places m others made known =
    record { count = let n = known.count in omega (arith, n); each = each }
  where
    each : (i : ℕ) → i < length (place ∷ places) → IsMade cell (get_or (place ∷ places) i 0) frame slot (member_at (m ∷ others) i)
    each zero h = made
    each (suc i) h = known.each i (omega (arith, h))

members_are : (cell : RawCell) (frame slot : ℕ) (places : List ℕ) (members : List Member) → IsLegal cell
    → ((place : ℕ) → IsIn place places → place < length cell.handsets) → members_at cell frame slot places ≡ Ok members
    → AreMembers cell frame slot places members
members_are cell frame slot [] members legal below e = none members (sym (none_left cell frame slot) ∙ e)
  where
    none : (ms : List Member) → ◌≡◌ {A = Result (List Member) SlotOver} (Ok []) (Ok ms) → AreMembers cell frame slot [] ms
    none [] k = record { count = refl; each = λ i h. absurd (omega (arith, h)) }
    none (m ∷ ms) k = absurd (let f : ⊥ = cc in f)
members_are cell frame slot (place ∷ places) members legal below e =
    let b = before_ok cell place (planned cell place frame slot) (members_at cell frame slot places) members
    (sym (at_place cell frame slot place places) ∙ e) in
    let made = one_made cell place frame slot b.watches legal (below place (inl refl)) b.planned_is in
    let others = members_are cell frame slot places b.others legal (λ p i. below p (inr i)) b.rest_is in
    subst (AreMembers cell frame slot (place ∷ places)) b.is
    (first_and_others cell frame slot place places _ b.others made others)

-- the desk before any grant
abbrev first_desk : RawCell → ℕ → ℕ → ℕ → List Member → DeskValue
first_desk cell frame slot room members = record {
  ledger = record { blocks = cell.blocks; members = members; room = room; calls = 0; accepted = [] };
  grid = blank_grid cell.mu frame slot cell.blocks;
}

-- all handsets
all_known : (cell : RawCell) (frame slot : ℕ) (members : List Member)
    → AreMembers cell frame slot (range_with_len 0 (length cell.handsets)) members → (handset : ℕ)
    → handset < length cell.handsets
    → IsMade cell handset frame slot (member_at members handset)
all_known cell frame slot members known handset h =
    let n = length cell.handsets in
    let here : get_or (range_with_len 0 n) handset 0 ≡ handset = get_or-range_with_len 0 n handset 0 h ∙ omega arith in
    subst (λ (k : ℕ). IsMade cell k frame slot (member_at members handset)) here
    (known.each handset (omega (arith, h, length-range_with_len 0 n)))

new_known : (cell : RawCell) (frame slot room : ℕ) (members : List Member)
    → AreMembers cell frame slot (range_with_len 0 (length cell.handsets)) members
    → IsOpened cell frame slot (first_desk cell frame slot room members)
new_known cell frame slot room members known =
    let n = length cell.handsets in
    let count : length members ≡ n = let k = known.count in omega (arith, k, length-range_with_len 0 n) in
    let each = all_known cell frame slot members known in
    record {
      keeps = record {
        ledger = record {
          members = λ i d l.
              subst (IsMember cell.blocks) (get_or_default members i no_member d l) (each i (omega (arith, l, count))).known;
          calls = omega arith;
        };
        blocks = refl;
      };
      count = count;
      each = each;
      blank = refl;
    }

new_is : (cell : RawCell) (frame slot room : ℕ) (members : Result (List Member) SlotOver) (desk : DeskValue) → IsLegal cell
    → members_at cell frame slot (range_with_len 0 (length cell.handsets)) ≡ members
    → new_desk cell frame slot room members ≡ Ok desk
    → IsOpened cell frame slot desk
new_is cell frame slot room (Ok members) desk legal m e =
    let n = length cell.handsets in
    let known = members_are cell frame slot (range_with_len 0 n) members legal
    (λ place i. let b = (in_range place 0 n i).1 in omega (arith, b)) m in
    subst (IsOpened cell frame slot) (same_desk (first_desk cell frame slot room members) desk e)
    (new_known cell frame slot room members known)
new_is cell frame slot room (Err over) desk legal m e = absurd (let f : ⊥ = cc in f)

-- the law: a desk that was opened is one, with the handsets of the cell and a blank grid
pub opens_a_desk : OpensADesk
opens_a_desk cell frame slot room desk legal e =
    new_is cell frame slot room (members_at cell frame slot (range_with_len 0 (length cell.handsets))) desk legal refl e

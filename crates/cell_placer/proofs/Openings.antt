-- The handsets of a desk, one after the other.
use Rattle.std.proofs.Common.{◌≡◌, ℕ, suc, ◌+◌, ◌-◌, ◌<◌, ◌≤◌, List, [], ◌∷◌, ◌++◌, Result, Ok, Err, IsOk, All, length, refl}
use Rattle.std.proofs.Common.{ap, sym, subst, ◌∙◌, arith, append_assoc}
use Rattle.std.specs.List.{range_with_len}
use Rattle.std.proofs.lemmas.List.{append-nil}
use Rattle.std.proofs.lemmas.List.Elements.{All-push}
use Rattle.rrc_settings.specs.declared.settings.RawCell.{RawCell}
use Rattle.rrc_settings.specs.HandsetsOfCell.{handset_at}
use Rattle.monitor_budget.specs.declared.allotment.CommonOver.{CommonOver as Over}
use Rattle.monitor_plan.specs.declared.watch.Watch.{Watch}
use Rattle.monitor_plan.specs.Planned.{planned}
use Rattle.cell_placer.specs.declared.member.Member.{Member}
use Rattle.cell_placer.specs.declared.refusal.DeskFault.{DeskFault}
use Rattle.cell_placer.specs.declared.refusal.DeskFault.TheVariants.{CommonOver, NoMemory}
use Rattle.cell_placer.specs.Ledger.{IsMember}
use Rattle.cell_placer.specs.Made.{IsMade}
use Rattle.cell_placer.specs.Opened.{member_of, behind, before, members_at, SlotOver}
use Rattle.cell_placer.specs.OpeningFaults.{Tells}

-- the handsets from a place of the cell's list on
abbrev pub members_from : RawCell → ℕ → ℕ → ℕ → Result (List Member) SlotOver
members_from cell frame slot n = members_at cell frame slot (range_with_len n (length cell.handsets - n))

-- the handsets before place n are made, and those from there on are left
pub record AreMade (cell : RawCell) (frame slot n : ℕ) (members : List Member) : Type 0 where
  pub known : All (IsMember cell.blocks) members
  pub made : members_at cell frame slot (range_with_len 0 (length cell.handsets))
      ≡ behind members (members_from cell frame slot n)

behind_both : (members : List Member) (m : Member) (r : Result (List Member) SlotOver)
    → behind members (behind (m ∷ []) r) ≡ behind (members ++ m ∷ []) r
behind_both members m (Ok rest) = ap (λ (xs : List Member). Ok xs) (sym (append_assoc members (m ∷ []) rest))
behind_both members m (Err fault) = refl

-- the handset at a place comes before the others
pub at_place : (cell : RawCell) (frame slot handset : ℕ) (handsets : List ℕ)
    → members_at cell frame slot (handset ∷ handsets)
    ≡ before cell handset (planned cell handset frame slot) (members_at cell frame slot handsets)
unfolding members_at
at_place cell frame slot handset handsets = refl

-- with no place left there is no handset
pub none_left : (cell : RawCell) (frame slot : ℕ) → members_at cell frame slot [] ≡ Ok []
unfolding members_at
none_left cell frame slot = refl

-- the handsets from a place on begin with the one there
first_there : (cell : RawCell) (frame slot n : ℕ) → n < length cell.handsets
    → members_from cell frame slot n ≡ before cell n (planned cell n frame slot) (members_from cell frame slot (n + 1))
first_there cell frame slot n h =
    let count = length cell.handsets in
    let e : count - n ≡ suc (count - (n + 1)) = omega (arith, h) in
    ap (λ (k : ℕ). members_at cell frame slot (range_with_len n k)) e
    ∙ at_place cell frame slot n (range_with_len (n + 1) (count - (n + 1)))

-- behind the last place there is none
none_there : (cell : RawCell) (frame slot n : ℕ) → length cell.handsets ≤ n → members_from cell frame slot n ≡ Ok []
none_there cell frame slot n h =
    let e : length cell.handsets - n ≡ 0 = omega (arith, h) in
    ap (λ (k : ℕ). members_at cell frame slot (range_with_len n k)) e ∙ none_left cell frame slot

-- one handset more is made
pub one_made : {cell : RawCell} {frame slot n : ℕ} {members : List Member} {m : Member} → n < length cell.handsets
    → AreMade cell frame slot n members → IsMade cell n frame slot m → AreMade cell frame slot (n + 1) (members ++ m ∷ [])
one_made {cell} {frame} {slot} {n} {members} {m} h so_far one =
    let rest = members_from cell frame slot (n + 1) in
    record {
      known = All-push (IsMember cell.blocks) members m so_far.known one.known;
      made =
          so_far.made
          ∙ ap (behind members) (first_there cell frame slot n h
          ∙ ap (λ (p : Result (List Watch) Over). before cell n p rest) one.planned_is
          ∙ ap (λ (x : Member). behind (x ∷ []) rest) (sym one.member))
          ∙ behind_both members m rest;
    }

-- all are made
pub all_made : {cell : RawCell} {frame slot n : ℕ} {members : List Member} → length cell.handsets ≤ n
    → AreMade cell frame slot n members
    → members_at cell frame slot (range_with_len 0 (length cell.handsets)) ≡ Ok members
all_made {cell} {frame} {slot} {n} {members} h so_far =
    so_far.made ∙ ap (behind members) (none_there cell frame slot n h) ∙ ap (λ (xs : List Member). Ok xs) (append-nil members)

-- a fault tells of the handsets from a place on
pub record TellsFrom (cell : RawCell) (frame slot n : ℕ) (fault : DeskFault) : Type 0 where
  pub told : Tells fault (members_from cell frame slot n)

-- a fault that tells of what stands behind some handsets tells of all
told_behind : (members : List Member) (fault : DeskFault) (r : Result (List Member) SlotOver) → Tells fault r
    → Tells fault (behind members r)
told_behind members NoMemory (Ok rest) h = refl
told_behind members NoMemory (Err over) h = cc
told_behind members (CommonOver handset candidates cces) r h = ap (behind members) h

-- a fault tells of the handsets from one on, where it tells of those behind one that has a plan
pub told_from : {cell : RawCell} {frame slot n : ℕ} {watches : List Watch} {fault : DeskFault} → n < length cell.handsets
    → planned cell n frame slot ≡ Ok watches
    → TellsFrom cell frame slot (n + 1) fault → TellsFrom cell frame slot n fault
told_from {cell} {frame} {slot} {n} {watches} {fault} h e later =
    let rest = members_from cell frame slot (n + 1) in
    let first = member_of (handset_at cell n) watches ∷ [] in
    let same : members_from cell frame slot n ≡ behind first rest =
    first_there cell frame slot n h ∙ ap (λ (p : Result (List Watch) Over). before cell n p rest) e in
    let P : Result (List Member) SlotOver → Type 0 = λ r. Tells fault r in
    record { told = subst P (sym same) (told_behind first fault rest later.told) }

-- a handset without a plan is told
pub over_told : {cell : RawCell} {frame slot n : ℕ} {over : Over} → n < length cell.handsets
    → planned cell n frame slot ≡ Err over
    → TellsFrom cell frame slot n (CommonOver n over.candidates over.cces)
over_told {cell} {frame} {slot} {n} {over} h e = record {
  told =
      first_there cell frame slot n h
      ∙ ap (λ (p : Result (List Watch) Over). before cell n p (members_from cell frame slot (n + 1))) e;
}

-- where none is left, there are members
pub none_over : {cell : RawCell} {frame slot n : ℕ} → length cell.handsets ≤ n → TellsFrom cell frame slot n NoMemory
none_over {cell} {frame} {slot} {n} h = record {
  told = subst (λ (r : Result (List Member) SlotOver). IsOk r) (sym (none_there cell frame slot n h)) refl;
}

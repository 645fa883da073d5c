-- Grants that are placed one after the other: what one grant more adds to desk and fates.
use Rattle.std.proofs.Common.{◌≡◌, ℕ, ◌+◌, ◌<◌, ◌≤◌, List, [], ◌∷◌, Result, Ok, Err, length}
use Rattle.std.proofs.Common.{drop, get_or, refl, ap, sym, ◌∙◌, arith}
use Rattle.std.proofs.lemmas.List.{drop_more, drop_all}
use Rattle.grant_file.specs.declared.grants.Grant.{Grant}
use Rattle.table_files.specs.declared.tables.Tables.{Tables}
use Rattle.cell_placer.specs.declared.member.Accepted.{Accepted}
use Rattle.cell_placer.specs.declared.refusal.Placed.{Placed}
use Rattle.cell_placer.specs.declared.refusal.Refusal.{Refusal}
use Rattle.cell_placer.specs.Ledger.{LedgerValue}
use Rattle.cell_placer.specs.Fate.{decided, fate}
use Rattle.cell_placer.specs.Placing.{DeskValue, booked, step, fates, desk_after}

-- one call more is counted, accepted or refused
pub calls_more : (ledger : LedgerValue) (found : Result Accepted Refusal) → (booked ledger found).calls ≡ ledger.calls + 1
calls_more ledger (Ok entry) = refl
calls_more ledger (Err refusal) = refl

-- the desk after a first grant and the rest
pub desk_more : (tables : Tables) (desk : DeskValue) (grant : Grant) (rest : List Grant)
    → desk_after tables desk (grant ∷ rest) ≡ desk_after tables (step tables desk grant) rest
unfolding desk_after
desk_more tables desk grant rest = refl

-- the fates of a first grant and of the rest
pub fates_more : (tables : Tables) (desk : DeskValue) (grant : Grant) (rest : List Grant)
    → fates desk.ledger (grant ∷ rest) ≡ fate desk.ledger grant ∷ fates (step tables desk grant).ledger rest
unfolding fates
fates_more tables desk grant rest = refl

-- with no grant left the desk stays
pub desk_none : (tables : Tables) (desk : DeskValue) → desk_after tables desk [] ≡ desk
unfolding desk_after
desk_none tables desk = refl

-- with no grant left there is no fate
pub fates_none : (ledger : LedgerValue) → fates ledger [] ≡ []
unfolding fates
fates_none ledger = refl

-- the grant at a place of a list is placed on a desk: its answer, and the desk that it leaves
pub record IsPlacedAt (tables : Tables) (grants : List Grant) (n : ℕ) (now next : DeskValue) (grant : Grant)
    (answer : Result Placed Refusal) : Type 0 where
  pub within : n < length grants
  pub grant_is : grant ≡ get_or grants n grant
  pub answer_is : answer ≡ fate now.ledger grant
  pub next_is : next ≡ step tables now grant

-- the grants before a place of a list were placed: with the others on the desk as it stands, all are
pub record ArePlacedBelow (tables : Tables) (grants : List Grant) (n : ℕ) (first now : DeskValue) : Type 0 where
  pub desk : desk_after tables now (drop n grants) ≡ desk_after tables first grants
  pub calls : now.ledger.calls ≡ first.ledger.calls + n

module _ {tables : Tables} {grants : List Grant} {n : ℕ} {now next : DeskValue} {grant : Grant} {answer : Result Placed Refusal}
    (placed : IsPlacedAt tables grants n now next grant answer) where
  -- the grants from its place on are this one and the others
  pub left_at : drop n grants ≡ grant ∷ drop (n + 1) grants
  left_at = drop_more grants n grant placed.within ∙ ap (λ x. x ∷ drop (n + 1) grants) (sym placed.grant_is)

  -- and so are the answers to them
  pub fates_at : fates now.ledger (drop n grants) ≡ answer ∷ fates next.ledger (drop (n + 1) grants)
  fates_at =
      let rest = drop (n + 1) grants in
      ap (fates now.ledger) left_at ∙ fates_more tables now grant rest
      ∙ ap (λ x. x ∷ fates (step tables now grant).ledger rest) (sym placed.answer_is)
      ∙ ap (λ (x : DeskValue). answer ∷ fates x.ledger rest) (sym placed.next_is)

  -- with it one grant more was placed
  pub placed_below_more : (first : DeskValue) → ArePlacedBelow tables grants n first now
      → ArePlacedBelow tables grants (n + 1) first next
  placed_below_more first below = record {
    desk =
        ap (λ x. desk_after tables x (drop (n + 1) grants)) placed.next_is
        ∙ sym (desk_more tables now grant (drop (n + 1) grants))
        ∙ ap (desk_after tables now) (sym left_at) ∙ below.desk;
    calls =
        ap (λ (x : DeskValue). x.ledger.calls) placed.next_is ∙ calls_more now.ledger (decided now.ledger grant)
        ∙ omega (arith, below.calls);
  }

-- behind the last place the desk is the one that all leave
pub desk_of_all : {tables : Tables} {grants : List Grant} {n : ℕ} {first now : DeskValue} → length grants ≤ n
    → ArePlacedBelow tables grants n first now → now ≡ desk_after tables first grants
desk_of_all {tables} {grants} {n} {first} {now} h below =
    sym (ap (desk_after tables now) (drop_all n grants h) ∙ desk_none tables now) ∙ below.desk

-- and no answer is left
pub fates_of_none : (ledger : LedgerValue) (grants : List Grant) (n : ℕ) → length grants ≤ n → fates ledger (drop n grants) ≡ []
fates_of_none ledger grants n h = ap (fates ledger) (drop_all n grants h) ∙ fates_none ledger

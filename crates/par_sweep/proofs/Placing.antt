-- Grants that are placed one after the other, and what is counted of them.
use Rattle.std.proofs.Common.{◌≡◌, ℕ, ◌+◌, ◌≤◌, Bool, true, false, cond, List, Result, length, drop, ap, ◌∙◌, arith}
use Rattle.std.specs.Prelude.{is_ok}
use Rattle.std.specs.List.{count_by}
use Rattle.std.proofs.lemmas.List.Sums.{sum_by-cons}
use Rattle.grant_file.specs.declared.grants.Grant.{Grant}
use Rattle.table_files.specs.declared.tables.Tables.{Tables}
use Rattle.dci_codec.specs.declared.codes.Codes.{Codes}
use Rattle.dci_codec.specs.KnownCodes.{AreOf}
use Rattle.cell_placer.specs.declared.refusal.Placed.{Placed}
use Rattle.cell_placer.specs.declared.refusal.Refusal.{Refusal}
use Rattle.cell_placer.specs.Placing.{DeskValue, fates}
use Rattle.cell_placer.proofs.GrantByGrant.{IsPlacedAt, ArePlacedBelow, fates_at, fates_of_none, placed_below_more}
use Rattle.par_sweep.specs.declared.slots.Counts.{Counts}
use Rattle.par_sweep.specs.Slots.{counted, counts_of, is_overlap}

-- so many of the answers before a place of the list pass a test: with those to come, it is as many as of all
pub record AreCounted (p : Result Placed Refusal → Bool) (grants : List Grant) (n : ℕ) (first now : DeskValue)
    (count : ℕ) : Type 0 where
  pub all : count + count_by p (fates now.ledger (drop n grants)) ≡ count_by p (fates first.ledger grants)
  pub most : count ≤ n

-- the grants before a place of the list were placed and counted
pub record Underway (tables : Tables) (grants : List Grant) (n : ℕ) (first now : DeskValue) (counts : Counts) : Type 0 where
  pub desk : ArePlacedBelow tables grants n first now
  pub placed : AreCounted is_ok grants n first now counts.placed
  pub overlapped : AreCounted is_overlap grants n first now counts.overlapped

-- and the codes that are kept are by the tables
pub record UnderwayWith (codes : Codes) (tables : Tables) (grants : List Grant) (n : ℕ) (first now : DeskValue)
    (counts : Counts) : Type 0 where
  pub placed : Underway tables grants n first now counts
  pub kept : AreOf tables codes

at_most_one : (b : Bool) → cond b 1 0 ≤ 1
at_most_one true = omega arith
at_most_one false = omega arith

counted_more : {tables : Tables} {grants : List Grant} {n : ℕ} {first now next : DeskValue} {grant : Grant}
    {answer : Result Placed Refusal} {p : Result Placed Refusal → Bool} {count more : ℕ}
    → IsPlacedAt tables grants n now next grant answer → AreCounted p grants n first now count
    → more ≡ count + cond (p answer) 1 0 → AreCounted p grants (n + 1) first next more
counted_more {grants = grants} {n = n} {next = next} {answer = answer} {p = p} here so_far e =
    let later = fates next.ledger (drop (n + 1) grants) in
    let all = ap (count_by p) (fates_at here) in
    let one = sum_by-cons (λ (a : Result Placed Refusal). cond (p a) 1 0) answer later in
    record { all = omega (arith, e, all, one, so_far.all); most = omega (arith, e, so_far.most, at_most_one (p answer)) }

-- one grant more
pub placed_more : {tables : Tables} {grants : List Grant} {n : ℕ} {first now next : DeskValue} {counts more : Counts}
    {grant : Grant} {answer : Result Placed Refusal}
    → IsPlacedAt tables grants n now next grant answer → Underway tables grants n first now counts
    → more ≡ counted counts answer → Underway tables grants (n + 1) first next more
placed_more {first = first} here so_far e = record {
  desk = placed_below_more here first so_far.desk;
  placed = counted_more here so_far.placed (ap (λ (x : Counts). x.placed) e);
  overlapped = counted_more here so_far.overlapped (ap (λ (x : Counts). x.overlapped) e);
}

counted_all : {p : Result Placed Refusal → Bool} {grants : List Grant} {n : ℕ} {first now : DeskValue} {count : ℕ}
    → length grants ≤ n → AreCounted p grants n first now count → count ≡ count_by p (fates first.ledger grants)
counted_all {p} {grants} {n} {first} {now} h counted =
    omega (arith, counted.all, ap (count_by p) (fates_of_none now.ledger grants n h))

-- the counts of all grants
pub counts_all : {tables : Tables} {grants : List Grant} {n : ℕ} {first now : DeskValue} {counts : Counts}
    → length grants ≤ n → Underway tables grants n first now counts
    → counts ≡ counts_of (fates first.ledger grants)
counts_all {grants = grants} {first = first} {counts = counts} h u =
    ap (λ (x : ℕ). record { placed = x; overlapped = counts.overlapped }) (counted_all h u.placed)
    ∙ ap (λ (x : ℕ). record { placed = count_by is_ok (fates first.ledger grants); overlapped = x }) (counted_all h u.overlapped)

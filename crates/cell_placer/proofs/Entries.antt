-- The watch of an entry, and what a ledger keeps with one entry more.
use Rattle.std.proofs.Common.{◌≡◌, ℕ, ◌+◌, ◌<◌, List, [], ◌∷◌, ◌++◌, Option, length, get_or, take, ap, sym, subst, ◌∙◌}
use Rattle.std.proofs.Math.Seq.{take-append_seam}
use Rattle.std.proofs.lemmas.List.{get_or_default}
use Rattle.coreset_map.specs.declared.places.Reg.{Reg}
use Rattle.monitor_plan.specs.declared.watch.Watch.{Watch}
use Rattle.monitor_plan.specs.Watch.{watch_at}
use Rattle.cell_placer.specs.declared.member.Member.{Member}
use Rattle.cell_placer.specs.declared.member.Accepted.{Accepted}
use Rattle.cell_placer.specs.Ledger.{LedgerValue, no_member, member_at, watch_of, IsLedger}
use Rattle.cell_placer.specs.Owners.{owned, AreOwners}
use Rattle.cell_placer.specs.Ready.{IsSpot}
use Rattle.cell_placer.proofs.Calls.{calls_more, calls-add}
use Rattle.cell_placer.proofs.OwnerTables.{owned_is}

-- a handset that is found at a place is the one there
pub member_is : (members : List Member) (h : ℕ) (m : Member) → h < length members → m ≡ get_or members h m
    → m ≡ member_at members h
member_is members h m l e = e ∙ get_or_default members h m no_member l

-- a watch is found for an entry: that of the handset at the entry's place
pub record IsFoundFor (members : List Member) (a : Accepted) (w : Watch) : Type 0 where
  pub member : Member
  pub member_is : member ≡ get_or members a.handset member
  pub watch_is : w ≡ watch_at member.plan a.watch

-- it is the entry's
pub watch_found : {ledger : LedgerValue} {a : Accepted} {w : Watch} → IsSpot ledger a → IsFoundFor ledger.members a w
    → w ≡ watch_of ledger.members a
watch_found {ledger} {a} {w} spot found =
    found.watch_is
    ∙ ap (λ (x : Member). watch_at x.plan a.watch)
    (member_is ledger.members a.handset found.member spot.handset found.member_is)

-- a table was written for an entry: that of the owners before it, where the call owns the REGs of its watch
pub record IsOwnedBy (ledger : LedgerValue) (a : Accepted) (owners after : List (Option ℕ)) : Type 0 where
  pub watch : Watch
  pub regs : List Reg
  pub before : List (Option ℕ)
  pub watch_is : watch ≡ watch_of ledger.members a
  pub regs_are : regs ≡ watch.regs.items
  pub before_is : before ≡ owners
  pub after_is : after ≡ owned a.call ledger.blocks watch.symbol before regs

-- it is the table of the owners with the entry
pub owners_after : {ledger : LedgerValue} {a : Accepted} {owners after : List (Option ℕ)} → IsSpot ledger a
    → AreOwners ledger.blocks ledger.members ledger.accepted owners → IsOwnedBy ledger a owners after
    → AreOwners ledger.blocks ledger.members (ledger.accepted ++ a ∷ []) after
owners_after {ledger} {a} {owners} {after} spot table w =
    let own = watch_of ledger.members a in
    let P : List (Option ℕ) → Type 0 = λ x. AreOwners ledger.blocks ledger.members (ledger.accepted ++ a ∷ []) x in
    let same : after ≡ owned a.call ledger.blocks own.symbol owners own.regs.items =
    w.after_is ∙ ap (λ (x : List (Option ℕ)). owned a.call ledger.blocks w.watch.symbol x w.regs) w.before_is
    ∙ ap (λ (x : List Reg). owned a.call ledger.blocks w.watch.symbol owners x) w.regs_are
    ∙ ap (λ (x : Watch). owned a.call ledger.blocks x.symbol owners x.regs.items) w.watch_is in
    subst P (sym same) (owned_is ledger.blocks ledger.members ledger.accepted owners a table spot.inside spot.free)

-- the ledger with one entry more
pub ledger_after : (ledger : LedgerValue) (a : Accepted) → a.call ≡ ledger.calls → IsLedger ledger
    → IsLedger (record ledger { calls = ledger.calls + 1; accepted = ledger.accepted ++ a ∷ [] })
ledger_after ledger a e h = record { members = h.members; calls = calls-add 0 ledger.calls ledger.accepted a e h.calls }

-- a table that is written back into memory for as many is the table
pub written_back : (n : ℕ) (owners rest : List (Option ℕ)) → length owners ≡ n → take n (owners ++ rest) ≡ owners
written_back n owners rest e =
    let P : ℕ → Type 0 = λ k. take k (owners ++ rest) ≡ owners in subst P e (take-append_seam owners rest)

-- and with a call that was refused
pub ledger_counted : (ledger : LedgerValue) → IsLedger ledger → IsLedger (record ledger { calls = ledger.calls + 1 })
ledger_counted ledger h = record { members = h.members; calls = calls_more 0 ledger.calls ledger.accepted h.calls }

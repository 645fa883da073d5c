-- What is known of a grant that is accepted.
use Rattle.std.proofs.Common.{◌≡◌, ℕ, ◌<◌, Bool, true, false, ◌&&◌, nat_lt, cond, List, Option, Some, None, is_none}
use Rattle.std.proofs.Common.{Result, Ok, Err, length, bytes_eq, refl, ap, sym, subst, ◌∙◌, arith}
use Rattle.std.specs.Prelude.{◌==◌, position, IfOk}
use Rattle.std.specs.List.{list_any}
use Rattle.std.proofs.lemmas.Bool.{and_parts, ltb-true}
use Rattle.std.proofs.lemmas.List.Quantifiers.{position-Some}
use Rattle.dci_fields.specs.declared.fault.FieldFault.{FieldFault}
use Rattle.dci_fields.specs.declared.rows.FieldRow.{FieldRow}
use Rattle.dci_fields.specs.FirstFieldFault.{field_fault}
use Rattle.monitor_plan.specs.declared.watch.Watch.{Watch}
use Rattle.monitor_plan.specs.Watch.{list_of, no_watch, watch_at}
use Rattle.grant_file.specs.declared.grants.Grant.{Grant}
use Rattle.cell_placer.specs.declared.member.Member.{Member}
use Rattle.cell_placer.specs.declared.member.Accepted.{Accepted}
use Rattle.cell_placer.specs.declared.refusal.Refusal.{Refusal}
use Rattle.cell_placer.specs.declared.refusal.Refusal.TheVariants.{Full}
use Rattle.cell_placer.specs.Ledger.{LedgerValue, no_member, member_at, IsMember, IsLedger}
use Rattle.cell_placer.specs.Suitable.{is_suitable}
use Rattle.cell_placer.specs.Fate.{first_meeting, is_free, by_room, by_free, by_fault, by_first, by_set, by_handset, decided}
use Rattle.cell_placer.specs.Ready.{IsReady}
use Rattle.cell_placer.proofs.SuitableWatches.{suits, first_suits}

-- the tests that the deciding searches with
abbrev is_named : Grant → Member → Bool
is_named grant m = bytes_eq m.name grant.handset

abbrev is_open : LedgerValue → Grant → Watch → Bool
is_open ledger grant w = is_suitable grant w && is_free ledger w

-- the searches by which an entry is decided
pub record IsDecided (ledger : LedgerValue) (grant : Grant) (a : Accepted) : Type 0 where
  pub handset : position (is_named grant) ledger.members ≡ Some a.handset
  pub first : ℕ
  pub first_is : position (is_suitable grant) (member_at ledger.members a.handset).plan ≡ Some first
  pub faultless : field_fault (list_of (watch_at (member_at ledger.members a.handset).plan first) grant.format) grant.format
      grant.given ≡ None
  pub open_is : position (is_open ledger grant) (member_at ledger.members a.handset).plan ≡ Some a.watch
  pub call : a.call ≡ ledger.calls
  pub room : length ledger.accepted < ledger.room

abbrev entry : ℕ → ℕ → ℕ → Accepted
entry call handset watch = record { call = call; handset = handset; watch = watch }

refused : {A : Type 0} (r : Refusal) (a : Accepted) → ◌≡◌ {A = Result Accepted Refusal} (Err r) (Ok a) → A
refused r a e = absurd (let f : ⊥ = cc in f)

same_entry : (a b : Accepted) → ◌≡◌ {A = Result Accepted Refusal} (Ok a) (Ok b) → a ≡ b
same_entry a b e = cc

room_ok : (ledger : LedgerValue) (handset watch : ℕ) (a : Accepted) → by_room ledger handset watch ≡ Ok a
    → (entry ledger.calls handset watch ≡ a) × (length ledger.accepted < ledger.room)
room_ok ledger handset watch a h = by (nat_lt (length ledger.accepted) ledger.room) refl h
  where
    by : (b : Bool) → nat_lt (length ledger.accepted) ledger.room ≡ b
        → ◌≡◌ {A = Result Accepted Refusal} (cond b (Ok (entry ledger.calls handset watch)) (Err (Full ledger.room))) (Ok a)
        → (entry ledger.calls handset watch ≡ a) × (length ledger.accepted < ledger.room)
    by true e k = (same_entry (entry ledger.calls handset watch) a k, ltb-true (length ledger.accepted) ledger.room e)
    by false e k = refused (Full ledger.room) a k

-- the decision at each step
abbrev IsFree : LedgerValue → ℕ → Option ℕ → Accepted → Type 0
IsFree ledger handset found a =
    (found ≡ Some a.watch) × (a.handset ≡ handset) × (a.call ≡ ledger.calls) × (length ledger.accepted < ledger.room)

free_ok : (ledger : LedgerValue) (handset : ℕ) (first : Watch) (found : Option ℕ) (a : Accepted)
    → by_free ledger handset first found ≡ Ok a
    → IsFree ledger handset found a
free_ok ledger handset first None a h = refused _ a h
free_ok ledger handset first (Some watch) a h =
    let (same, room) = room_ok ledger handset watch a h in (
      ap (λ (x : Accepted). Some x.watch) same,
      sym (ap (λ (x : Accepted). x.handset) same),
      sym (ap (λ (x : Accepted). x.call) same),
      room,
    )

fault_ok : (ledger : LedgerValue) (grant : Grant) (handset : ℕ) (watches : List Watch) (first : Watch)
    (fault : Option FieldFault) (a : Accepted)
    → by_fault ledger grant handset watches first fault ≡ Ok a
    → (fault ≡ None) × IsFree ledger handset (position (is_open ledger grant) watches) a
fault_ok ledger grant handset watches first (Some fault) a h = refused _ a h
fault_ok ledger grant handset watches first None a h =
    (refl, free_ok ledger handset first (position (is_open ledger grant) watches) a h)

abbrev IsFirst : LedgerValue → Grant → ℕ → List Watch → Option ℕ → Accepted → Type 0
IsFirst ledger grant handset watches found a =
    (k : ℕ) × (found ≡ Some k) × (field_fault (list_of (watch_at watches k) grant.format) grant.format grant.given ≡ None)
    × IsFree ledger handset (position (is_open ledger grant) watches) a

first_ok : (ledger : LedgerValue) (grant : Grant) (handset : ℕ) (watches : List Watch) (found : Option ℕ) (a : Accepted)
    → by_first ledger grant handset watches found ≡ Ok a → IsFirst ledger grant handset watches found a
first_ok ledger grant handset watches None a h = refused _ a h
first_ok ledger grant handset watches (Some k) a h =
    let w = watch_at watches k in
    let ok = fault_ok ledger grant handset watches w (field_fault (list_of w grant.format) grant.format grant.given) a h in
    (k, refl, ok.0, ok.1)

set_ok : (ledger : LedgerValue) (grant : Grant) (handset : ℕ) (watches : List Watch) (has : Bool) (a : Accepted)
    → by_set ledger grant handset watches has ≡ Ok a
    → IsFirst ledger grant handset watches (position (is_suitable grant) watches) a
set_ok ledger grant handset watches false a h = refused _ a h
set_ok ledger grant handset watches true a h = first_ok ledger grant handset watches (position (is_suitable grant) watches) a h

handset_ok : (ledger : LedgerValue) (grant : Grant) (found : Option ℕ) (a : Accepted) → by_handset ledger grant found ≡ Ok a
    → (handset : ℕ) × (found ≡ Some handset)
    × IsFirst ledger grant handset (member_at ledger.members handset).plan
    (position (is_suitable grant) (member_at ledger.members handset).plan) a
handset_ok ledger grant None a h = refused _ a h
handset_ok ledger grant (Some handset) a h =
    let m = member_at ledger.members handset in
    (handset, refl, set_ok ledger grant handset m.plan (list_any (λ number. number == grant.set) m.sets.items) a h)

-- an accepted grant was found so
pub decided_ok : (ledger : LedgerValue) (grant : Grant) (a : Accepted) → decided ledger grant ≡ Ok a → IsDecided ledger grant a
unfolding decided
decided_ok ledger grant a h =
    let (handset, found, (k, first_is, faultless, (open_is, same, call, room))) = handset_ok ledger grant
    (position (is_named grant) ledger.members) a h in
    let W : ℕ → List Watch = λ n. (member_at ledger.members n).plan in
    let P : ℕ → Type 0 = λ n. position (is_suitable grant) (W n) ≡ Some k in
    let Q : ℕ → Type 0 = λ n. field_fault (list_of (watch_at (W n) k) grant.format) grant.format grant.given ≡ None in
    let R : ℕ → Type 0 = λ n. position (is_open ledger grant) (W n) ≡ Some a.watch in
    record {
      handset = found ∙ ap (λ (n : ℕ). Some n) (sym same);
      first = k;
      first_is = subst P (sym same) first_is;
      faultless = subst Q (sym same) faultless;
      open_is = subst R (sym same) open_is;
      call = call;
      room = room;
    }

none_of : (o : Option ℕ) → is_none o ≡ true → o ≡ None
none_of None e = refl
none_of (Some n) e = absurd (let f : ⊥ = cc in f)

-- it may be written where it was found
pub ready : (ledger : LedgerValue) (grant : Grant) (a : Accepted) → IsLedger ledger → decided ledger grant ≡ Ok a
    → IsReady ledger grant a
ready ledger grant a keeps h =
    let d = decided_ok ledger grant a h in
    let m = member_at ledger.members a.handset in
    let w = watch_at m.plan a.watch in
    let there = position-Some (is_named grant) ledger.members a.handset no_member d.handset in
    let found = position-Some (is_open ledger grant) m.plan a.watch no_watch d.open_is in
    let parts = and_parts (is_suitable grant w) (is_free ledger w) found.1 in
    let own = suits grant w parts.0 in
    let first = first_suits grant m.plan d.first d.first_is in
    let member : IsMember ledger.blocks m = keeps.members a.handset no_member there.0 in
    let few = member.plan.few in
    let alike = member.plan.alike a.watch d.first grant.format found.0 first.0 (own.set ∙ sym first.1.set) own.fitting
    first.1.fitting in
    let P : List FieldRow → Type 0 = λ rows. field_fault rows grant.format grant.given ≡ None in
    record {
      spot = record {
        call = d.call;
        handset = there.0;
        watch = found.0;
        few = omega (arith, few, found.0);
        sound = member.plan.sound a.watch no_watch found.0;
        inside = member.inside a.watch no_watch found.0;
        free = none_of (first_meeting ledger.members ledger.accepted w) parts.1;
        room = d.room;
      };
      fitting = own.fitting;
      faultless = subst P (sym alike.0) d.faultless;
    }

-- so it is of each entry that is decided
pub ready_if : (ledger : LedgerValue) (grant : Grant) (result : Result Accepted Refusal) → IsLedger ledger
    → result ≡ decided ledger grant
    → IfOk result (λ a. IsReady ledger grant a)
ready_if ledger grant (Ok a) keeps e = ready ledger grant a keeps (sym e)
ready_if ledger grant (Err refusal) keeps e = cc

-- What a refusal names in its grant, where it is the one that is decided.
use Rattle.std.proofs.Common.{◌≡◌, ℕ, Bool, true, false, cond, List, Option, Some, None, Result, Ok, Err, length, refl, subst}
use Rattle.std.specs.Prelude.{◌==◌}
use Rattle.std.specs.List.{list_any}
use Rattle.dci_fields.specs.declared.fault.FieldFault.{FieldFault}
use Rattle.dci_fields.specs.FirstFieldFault.{field_fault}
use Rattle.dci_fields.proofs.FirstFieldFaults.{finds_field_fault}
use Rattle.monitor_plan.specs.declared.watch.Watch.{Watch}
use Rattle.monitor_plan.specs.Watch.{list_of, watch_at}
use Rattle.grant_file.specs.declared.grants.Grant.{Grant}
use Rattle.cell_placer.specs.declared.member.Accepted.{Accepted}
use Rattle.cell_placer.specs.declared.refusal.Refusal.{Refusal}
use Rattle.cell_placer.specs.declared.refusal.Refusal.TheVariants.{Full}
use Rattle.cell_placer.specs.Fate.{by_free, by_fault, by_first, by_set, by_handset, decided, answer_of, fate}
use Rattle.cell_placer.specs.Ledger.{LedgerValue, member_at}
use Rattle.report_text.specs.Refusal.{NamesField, IsNamed}
use Rattle.report_text.proofs.NamedFields.{named_from_fault}

-- what holds of one refusal holds of the one that is answered
named_along : {T : Type 0} (grant : Grant) (a b : Refusal) → ◌≡◌ {A = Result T Refusal} (Err a) (Err b) → IsNamed grant a
    → IsNamed grant b
named_along grant a b e h = let s : a ≡ b = cc in subst (IsNamed grant) s h

named_room : (grant : Grant) (has_room : Bool) (a : Accepted) (room : ℕ) (r : Refusal)
    → cond has_room (Ok a) (Err (Full room)) ≡ Err r → IsNamed grant r
named_room grant true a room r e = absurd (let f : ⊥ = cc in f)
named_room grant false a room r e = named_along grant (Full room) r e tt

named_free : (ledger : LedgerValue) (grant : Grant) (handset : ℕ) (first : Watch) (free : Option ℕ) (r : Refusal)
    → by_free ledger handset first free ≡ Err r → IsNamed grant r
named_free ledger grant handset first None r e = named_along grant _ r e tt
named_free ledger grant handset first (Some watch) r e = named_room grant _ _ _ r e

named_fault : (ledger : LedgerValue) (grant : Grant) (handset : ℕ) (watches : List Watch) (first : Watch)
    (found : Option FieldFault) (r : Refusal)
    → ((fault : FieldFault) → found ≡ Some fault → NamesField grant fault)
    → by_fault ledger grant handset watches first found ≡ Err r → IsNamed grant r
named_fault ledger grant handset watches first (Some fault) r h e = named_along grant _ r e (h fault refl)
named_fault ledger grant handset watches first None r h e = named_free ledger grant handset first _ r e

named_first : (ledger : LedgerValue) (grant : Grant) (handset : ℕ) (watches : List Watch) (at : Option ℕ) (r : Refusal)
    → length grant.given ≡ length grant.words → by_first ledger grant handset watches at ≡ Err r → IsNamed grant r
named_first ledger grant handset watches None r words e = named_along grant _ r e tt
named_first ledger grant handset watches (Some k) r words e =
    let rows = list_of (watch_at watches k) grant.format in
    named_fault ledger grant handset watches (watch_at watches k) (field_fault rows grant.format grant.given) r
    (λ fault f. named_from_fault rows grant.format grant fault words
    ((finds_field_fault rows grant.format grant.given fault).0 f)) e

named_set : (ledger : LedgerValue) (grant : Grant) (handset : ℕ) (watches : List Watch) (has_set : Bool) (r : Refusal)
    → length grant.given ≡ length grant.words → by_set ledger grant handset watches has_set ≡ Err r → IsNamed grant r
named_set ledger grant handset watches false r words e = named_along grant _ r e tt
named_set ledger grant handset watches true r words e = named_first ledger grant handset watches _ r words e

named_handset : (ledger : LedgerValue) (grant : Grant) (at : Option ℕ) (r : Refusal)
    → length grant.given ≡ length grant.words → by_handset ledger grant at ≡ Err r → IsNamed grant r
named_handset ledger grant None r words e = named_along grant _ r e tt
named_handset ledger grant (Some handset) r words e =
    let m = member_at ledger.members handset in
    named_set ledger grant handset m.plan (list_any (λ number. number == grant.set) m.sets.items) r words e

decided_from_answer : (d : Result Accepted Refusal) (r : Refusal) → answer_of d ≡ Err r → d ≡ Err r
decided_from_answer (Ok a) r e = absurd (let f : ⊥ = cc in f)
decided_from_answer (Err q) r e = cc

-- the refusal that is a grant's fate names a value that the grant has, where its words are in the places of its values
pub named_from_fate : (ledger : LedgerValue) (grant : Grant) (r : Refusal)
    → length grant.given ≡ length grant.words → fate ledger grant ≡ Err r → IsNamed grant r
unfolding decided
named_from_fate ledger grant r words e = named_handset ledger grant _ r words (decided_from_answer (decided ledger grant) r e)

-- The jobs of a run: the cause of each way in which one of them ends it.
use Rattle.std.proofs.Common.{◌≡◌, ℕ, zero, suc, ◌<◌, ◌≤◌, Bool, true, false, cond, ltb, Option, Some, None, List, []}
use Rattle.std.proofs.Common.{◌∷◌, Result, Ok, Err, length, slice_get, refl, sym, subst, ◌∙◌, arith}
use Rattle.std.specs.List.{list_all}
use Rattle.std.proofs.lemmas.Bool.Decides.{nat_tests}
use Rattle.rrc_settings.specs.declared.settings.RawCell.{RawCell}
use Rattle.table_files.specs.declared.tables.Tables.{Tables}
use Rattle.grant_file.specs.declared.grants.GrantList.{GrantList}
use Rattle.monitor_budget.specs.declared.allotment.CommonOver.{CommonOver}
use Rattle.monitor_plan.specs.declared.watch.Watch.{Watch}
use Rattle.monitor_plan.specs.Planned.{planned}
use Rattle.slot_grid.specs.Grid.{GridValue}
use Rattle.cell_placer.specs.declared.refusal.Placed.{Placed}
use Rattle.cell_placer.specs.declared.refusal.Refusal.{Refusal as GrantRefusal}
use Rattle.cell_placer.specs.Opened.{SlotOver, opened}
use Rattle.cell_placer.specs.Placing.{DeskValue, fates}
use Rattle.run_steps.specs.declared.statuses.Status.{Status}
use Rattle.run_steps.specs.declared.statuses.Status.TheVariants as ends
use Rattle.run_steps.specs.Outcome.{Refusal, ended, status_of}
use Rattle.pdcch_app.specs.Arguments.{number_of}
use Rattle.pdcch_app.specs.Causes.{IsNamed, SomeExceeds, SomeRefused}
use Rattle.pdcch_app.specs.Explaining.{explained, explained_by, explained_of, printed, unknown_watch}
use Rattle.pdcch_app.specs.Reporting.{Listener, handset_named, only_handset, listeners_of, heard_by, heard_of_all, searched}
use Rattle.pdcch_app.specs.Writing.{is_placed, written_on, written}
use Rattle.pdcch_app.proofs.Exceeding.{OneExceeds, listeners_exceed, listeners_within, all_of}
use Rattle.pdcch_app.proofs.Exceeding.{some_of_all, one_of_all, some_of_one, one_of_one, no_desk, named_is, none_named}

-- some answer is a refusal where not all are placed
pub some_refused : (answers : List (Result Placed GrantRefusal)) → list_all is_placed answers ≡ false → SomeRefused answers
some_refused [] e = absurd (let f : ⊥ = cc in f)
some_refused (Ok placed ∷ answers) e =
    let later = some_refused answers e in record { number = suc later.number; refusal = later.refusal; is = later.is }
some_refused (Err refusal ∷ answers) e = record { number = 0; refusal = refusal; is = refl }

refused_at : (answers : List (Result Placed GrantRefusal)) (number : ℕ) (refusal : GrantRefusal)
    → slice_get answers number ≡ Some (Err refusal) → list_all is_placed answers ≡ false
refused_at [] number refusal e = absurd (let f : ⊥ = cc in f)
refused_at (Err other ∷ answers) number refusal e = refl
refused_at (Ok placed ∷ answers) zero refusal e = absurd (let f : ⊥ = cc in f)
refused_at (Ok placed ∷ answers) (suc number) refusal e = refused_at answers number refusal e

-- and not all are placed where some answer is one
pub not_all_placed : (answers : List (Result Placed GrantRefusal)) → SomeRefused answers → list_all is_placed answers ≡ false
not_all_placed answers some = refused_at answers some.number some.refusal some.is

-- the status of a list of which all were placed, or not
placed_status : (C : Status → Type 0) (answers : List (Result Placed GrantRefusal)) (all : Bool)
    → list_all is_placed answers ≡ all
    → (SomeRefused answers → C ends.GrantsRefused) → ((SomeRefused answers → ⊥) → C ends.Done)
    → C (cond all ends.Done ends.GrantsRefused)
placed_status C answers true e some none = none (λ (h : SomeRefused answers). let f = sym e ∙ not_all_placed answers h in cc)
placed_status C answers false e some none = some (some_refused answers e)

written_status : (C : Status → Type 0) (cell : RawCell) (tables : Tables) (list : GrantList) (found : Result DeskValue SlotOver)
    → ((over : SlotOver) → found ≡ Err over → C ends.SlotRefused)
    → ((desk : DeskValue) → found ≡ Ok desk → SomeRefused (fates desk.ledger list.grants) → C ends.GrantsRefused)
    → ((desk : DeskValue) → found ≡ Ok desk → (SomeRefused (fates desk.ledger list.grants) → ⊥) → C ends.Done)
    → C (ended (written_on cell tables list.grants found)).status
written_status C cell tables list (Ok desk) over some none =
    let answers = fates desk.ledger list.grants in
    placed_status C answers (list_all is_placed answers) refl (some desk refl) (none desk refl)
written_status C cell tables list (Err slot) over some none = over slot refl

-- the ways in which `write` ends with grants that were read
pub write_ends : (C : Status → Type 0) (cell : RawCell) (tables : Tables) (list : GrantList)
    → (SomeExceeds cell None list.frame list.slot → C ends.SlotRefused)
    → ((desk : DeskValue) → opened cell list.frame list.slot (length list.grants) ≡ Ok desk
    → SomeRefused (fates desk.ledger list.grants) → C ends.GrantsRefused)
    → ((desk : DeskValue) → opened cell list.frame list.slot (length list.grants) ≡ Ok desk
    → (SomeRefused (fates desk.ledger list.grants) → ⊥) → C ends.Done)
    → C (ended (written cell tables list)).status
unfolding written
write_ends C cell tables list over some none =
    written_status C cell tables list (opened cell list.frame list.slot (length list.grants))
    (λ slot e. over (no_desk cell list slot e)) some none

-- handsets that have their watches, or the common sets of one of which exceed a limit
heard_status : (C : Status → Type 0) (cell : RawCell) (tables : Tables) (points : GridValue) (handsets : List ℕ)
    (found : Result (List Listener) Refusal)
    → listeners_of cell points.frame points.slot handsets ≡ found
    → (OneExceeds cell points.frame points.slot handsets → C ends.SlotRefused)
    → ((OneExceeds cell points.frame points.slot handsets → ⊥) → C ends.Done)
    → C (ended (heard_by cell tables points found)).status
heard_status C cell tables points handsets (Ok listeners) e over none =
    none (listeners_within cell points.frame points.slot handsets listeners e)
heard_status C cell tables points handsets (Err refusal) e over none =
    let fault = listeners_exceed cell points.frame points.slot handsets refusal e in
    subst (λ (r : Refusal). C (status_of r.cause)) (sym fault.is) (over fault.one)

-- the same of the handset with a name, where the cell has it
named_status : (C : Status → Type 0) (cell : RawCell) (tables : Tables) (points : GridValue) (name : List ℕ)
    (found : Option ℕ) → handset_named cell name ≡ found
    → ((IsNamed cell name → ⊥) → C ends.NoSuch) → (SomeExceeds cell (Some name) points.frame points.slot → C ends.SlotRefused)
    → (IsNamed cell name → (SomeExceeds cell (Some name) points.frame points.slot → ⊥) → C ends.Done)
    → C (ended (heard_of_all cell tables points (only_handset name found))).status
named_status C cell tables points name None e unknown over none = unknown (none_named cell name e)
named_status C cell tables points name (Some handset) e unknown over none =
    heard_status C cell tables points (handset ∷ []) (listeners_of cell points.frame points.slot (handset ∷ [])) refl
    (λ one. over (some_of_one cell points.frame points.slot name handset e one))
    (λ no_one. none (named_is cell name handset e)
    (λ some. no_one (one_of_one cell points.frame points.slot name handset e some)))

-- the ways in which `search` ends with a grid that was read
pub search_ends : (C : Status → Type 0) (cell : RawCell) (tables : Tables) (points : GridValue) (named : Option (List ℕ))
    → ((name : List ℕ) → named ≡ Some name → (IsNamed cell name → ⊥) → C ends.NoSuch)
    → (SomeExceeds cell named points.frame points.slot → C ends.SlotRefused)
    → (((name : List ℕ) → named ≡ Some name → IsNamed cell name) → (SomeExceeds cell named points.frame points.slot → ⊥)
    → C ends.Done)
    → C (ended (searched cell tables points named)).status
unfolding searched
search_ends C cell tables points None unknown over none =
    heard_status C cell tables points (all_of cell) (listeners_of cell points.frame points.slot (all_of cell)) refl
    (λ one. over (some_of_all cell points.frame points.slot one))
    (λ no_one. none (λ name e. absurd (let f : ⊥ = cc in f)) (λ some. no_one (one_of_all cell points.frame points.slot some)))
search_ends C cell tables points (Some name) unknown over none =
    named_status C cell tables points name (handset_named cell name) refl (unknown name refl) over
    (λ named_so. none (λ other e. let same : name ≡ other = cc in subst (IsNamed cell) same named_so))

-- the watch of a number is there, or is not
watch_status : (C : Status → Type 0) (number count : ℕ) (text word : List ℕ) (there : Bool) → ltb number count ≡ there
    → (count ≤ number → C ends.NoSuch) → (number < count → C ends.Done)
    → C (ended (cond there (printed text) (Err (unknown_watch word)))).status
watch_status C number count text word true e unknown none = none (grind (arith, nat_tests))
watch_status C number count text word false e unknown none = unknown (grind (arith, nat_tests))

-- the handset with a name has so many watches in the slot of a grid, and a run ends so
abbrev pub EndsAmong : RawCell → GridValue → List ℕ → (ℕ → Type 0) → Type 0 → Type 0
EndsAmong cell points name Count Ends =
    (handset : ℕ) (watches : List Watch) → handset_named cell name ≡ Some handset
    → planned cell handset points.frame points.slot ≡ Ok watches → Count (length watches) → Ends

-- a handset has its watches, or its common sets exceed a limit
explained_status : (C : Status → Type 0) (cell : RawCell) (tables : Tables) (points : GridValue) (name word : List ℕ)
    (handset : ℕ) (plan : Result (List Watch) CommonOver)
    → handset_named cell name ≡ Some handset → planned cell handset points.frame points.slot ≡ plan
    → (SomeExceeds cell (Some name) points.frame points.slot → C ends.SlotRefused)
    → ((watches : List Watch) → planned cell handset points.frame points.slot ≡ Ok watches → length watches ≤ number_of word
    → C ends.NoSuch)
    → ((watches : List Watch) → planned cell handset points.frame points.slot ≡ Ok watches → number_of word < length watches
    → C ends.Done)
    → C (ended (explained_by cell tables points word handset plan)).status
explained_status C cell tables points name word handset (Ok watches) e p over unknown none =
    watch_status C (number_of word) (length watches) _ word (ltb (number_of word) (length watches)) refl (unknown watches p)
    (none watches p)
explained_status C cell tables points name word handset (Err found) e p over unknown none =
    over (record { handset = handset; served = e; over = found; is = p })

-- the cell has the handset, or has none of the name
asked_status : (C : Status → Type 0) (cell : RawCell) (tables : Tables) (points : GridValue) (name word : List ℕ)
    (found : Option ℕ) → handset_named cell name ≡ found
    → ((IsNamed cell name → ⊥) → C ends.NoSuch)
    → (SomeExceeds cell (Some name) points.frame points.slot → C ends.SlotRefused)
    → EndsAmong cell points name (λ count. count ≤ number_of word) (C ends.NoSuch)
    → EndsAmong cell points name (λ count. number_of word < count) (C ends.Done)
    → C (ended (explained_of cell tables points name word found)).status
asked_status C cell tables points name word None e unnamed over unknown none = unnamed (none_named cell name e)
asked_status C cell tables points name word (Some handset) e unnamed over unknown none =
    explained_status C cell tables points name word handset (planned cell handset points.frame points.slot) e refl over
    (λ watches p l. unknown handset watches e p l) (λ watches p l. none handset watches e p l)

-- the ways in which `explain` ends with a grid that was read
pub explain_ends : (C : Status → Type 0) (cell : RawCell) (tables : Tables) (points : GridValue) (name word : List ℕ)
    → ((IsNamed cell name → ⊥) → C ends.NoSuch)
    → (SomeExceeds cell (Some name) points.frame points.slot → C ends.SlotRefused)
    → EndsAmong cell points name (λ count. count ≤ number_of word) (C ends.NoSuch)
    → EndsAmong cell points name (λ count. number_of word < count) (C ends.Done)
    → C (ended (explained cell tables points name word)).status
unfolding explained
explain_ends C cell tables points name word = asked_status C cell tables points name word (handset_named cell name) refl

-- What is printed of one watch, step by step: the handset, its plan, the watch.
use Rattle.std.proofs.Common.{◌≡◌, ℕ, ◌<◌, ◌≤◌, Option, Some, List, Result, Ok, Err, length, refl, ap}
use Rattle.std.proofs.Common.{sym, subst, ◌∙◌}
use Rattle.rrc_settings.specs.declared.settings.RawCell.{RawCell}
use Rattle.monitor_plan.specs.declared.watch.Watch.{Watch}
use Rattle.monitor_plan.specs.Planned.{planned}
use Rattle.monitor_plan.specs.Watch.{watch_at}
use Rattle.slot_grid.specs.Grid.{GridValue}
use Rattle.table_files.specs.declared.tables.Tables.{Tables}
use Rattle.run_steps.specs.declared.stops.Stop.{Stop}
use Rattle.run_steps.specs.declared.stops.Stop.TheVariants.{OutOfMemory, Ended}
use Rattle.run_steps.specs.Steps.{Ends, IsRead}
use Rattle.run_steps.specs.Outcome.{Outcome, checked, ended}
use Rattle.pdcch_app.specs.Arguments.{number_of}
use Rattle.pdcch_app.specs.Explaining.{explained, explained_among, explained_by, explained_of, printed, unknown_watch, watch_text}
use Rattle.pdcch_app.specs.Reporting.{handset_found, handset_named, watches_found}
use Rattle.pdcch_app.proofs.Listeners.{handset_is, handset_unknown, plan_is, plan_over}
use Rattle.std.proofs.lemmas.Bool.{lt-ltb, le-ltb}

-- the handset with the name, by its plan
pub explained_is : (cell : RawCell) (tables : Tables) (grid : GridValue) (name word : List ℕ) (handset : ℕ)
    → handset_named cell name ≡ Some handset
    → explained cell tables grid name word
    ≡ explained_by cell tables grid word handset (planned cell handset grid.frame grid.slot)
unfolding explained
explained_is cell tables grid name word handset e = ap (explained_of cell tables grid name word) e

-- no handset has the name
pub unnamed_explained : (cell : RawCell) (tables : Tables) (grid : GridValue) (name word : List ℕ) (stop : Stop)
    → IsRead {A = ℕ} (Err stop) (checked (handset_found name (handset_named cell name)))
    → Ends (Err stop) (ended (explained cell tables grid name word))
unfolding explained
unnamed_explained cell tables grid name word (Ended o) h =
    let is = handset_unknown name (handset_named cell name) o h in
    ap (λ (x : Option ℕ). ended (explained_of cell tables grid name word x)) is.0 ∙ sym is.1
unnamed_explained cell tables grid name word OutOfMemory h = tt

-- its slot is refused
pub over_explained : (cell : RawCell) (tables : Tables) (grid : GridValue) (name word : List ℕ) (handset : ℕ) (stop : Stop)
    → checked (handset_found name (handset_named cell name)) ≡ Ok handset
    → IsRead {A = List Watch} (Err stop) (checked (watches_found cell handset (planned cell handset grid.frame grid.slot)))
    → Ends (Err stop) (ended (explained cell tables grid name word))
over_explained cell tables grid name word handset (Ended o) r h =
    let is = plan_over cell handset (planned cell handset grid.frame grid.slot) o h in
    ap ended (explained_is cell tables grid name word handset (handset_is name (handset_named cell name) handset r)
    ∙ ap (explained_by cell tables grid word handset) is.plan_is) ∙ sym is.says
over_explained cell tables grid name word handset OutOfMemory r h = tt

-- it has its watches in the slot
pub watches_explained : (cell : RawCell) (tables : Tables) (grid : GridValue) (name word : List ℕ) (handset : ℕ)
    (watches : List Watch) (result : Result Outcome Stop)
    → checked (handset_found name (handset_named cell name)) ≡ Ok handset
    → checked (watches_found cell handset (planned cell handset grid.frame grid.slot)) ≡ Ok watches
    → Ends result (ended (explained_among tables grid word watches)) → Ends result (ended (explained cell tables grid name word))
watches_explained cell tables grid name word handset watches result r p h =
    subst (λ found. Ends result (ended found))
    (sym (explained_is cell tables grid name word handset (handset_is name (handset_named cell name) handset r)
    ∙ ap (explained_by cell tables grid word handset)
    (plan_is cell handset (planned cell handset grid.frame grid.slot) watches p))) h

-- the watch of a number that is below their number
pub among_is : (tables : Tables) (grid : GridValue) (word : List ℕ) (watches : List Watch) → number_of word < length watches
    → explained_among tables grid word watches
    ≡ printed (watch_text tables grid (watch_at watches (number_of word)) (number_of word))
among_is tables grid word watches l = rw (lt-ltb (number_of word) (length watches) l) refl

-- and one that is not
pub among_none : (tables : Tables) (grid : GridValue) (word : List ℕ) (watches : List Watch) → length watches ≤ number_of word
    → explained_among tables grid word watches ≡ Err (unknown_watch word)
among_none tables grid word watches l = rw (le-ltb (number_of word) (length watches) l) refl

-- Handsets that are reported one after the other.
use Rattle.std.proofs.Common.{◌≡◌, ℕ, ◌+◌, ◌-◌, ◌<◌, ◌≤◌, true, Option, Some, None, List, [], ◌∷◌, ◌++◌, Result, Ok}
use Rattle.std.proofs.Common.{Err, length, take, drop, get_or, refl, ap, sym, subst, ◌∙◌, arith}
use Rattle.std.specs.List.{range_with_len, flat_map}
use Rattle.std.proofs.lemmas.List.{drop_more, take_more, take_all, get_or_default, take-append-drop, append-nil, append_assoc}
use Rattle.std.proofs.lemmas.List.FromFn.{length-range_with_len, get_or-range_with_len}
use Rattle.std.proofs.lemmas.Grind.{flat_map-append}
use Rattle.rrc_settings.specs.declared.settings.RawCell.{RawCell}
use Rattle.rrc_settings.specs.declared.settings.Handset.{Handset}
use Rattle.monitor_budget.specs.declared.allotment.CommonOver.{CommonOver}
use Rattle.monitor_plan.specs.declared.watch.Watch.{Watch}
use Rattle.monitor_plan.specs.Planned.{planned}
use Rattle.slot_grid.specs.Grid.{GridValue}
use Rattle.table_files.specs.declared.tables.Tables.{Tables}
use Rattle.run_steps.specs.declared.stops.Stop.{Stop}
use Rattle.run_steps.specs.declared.stops.Stop.TheVariants.{OutOfMemory, Ended}
use Rattle.run_steps.specs.declared.statuses.Status.TheVariants as ends
use Rattle.run_steps.specs.Steps.{Ends, IsRead, IsStop}
use Rattle.run_steps.specs.Outcome.{Outcome, Printed, Refusal, checked, refused, ended}
use Rattle.dci_codec.specs.declared.codes.Codes.{Codes}
use Rattle.dci_codec.specs.KnownCodes.{AreOf}
use Rattle.dci_codec.specs.declared.heard.Heard.{Heard}
use Rattle.blind_search.specs.Report.{report_of}
use Rattle.report_text.specs.Head.{head_text}
use Rattle.report_text.specs.Report.{report_text}
use Rattle.rrc_settings.specs.HandsetsOfCell.{handset_at, no_handset}
use Rattle.pdcch_app.specs.Lines.{no_such_handset_line, slot_line}
use Rattle.pdcch_app.specs.Reporting.{handset_found, unknown_handset, watches_found}
use Rattle.pdcch_app.specs.Reporting.{Listens, handset_named, only_handset, heard_of_all, searched, Listener}
use Rattle.pdcch_app.specs.Reporting.{listener_before, listeners_of, listener_text, reported_text, over_limits}
use Rattle.pdcch_app.specs.Reporting.{heard_by, Appended, IsOver}

-- some handsets were reported in a text: each has a plan
pub record AreReported (cell : RawCell) (tables : Tables) (grid : GridValue) (handsets : List ℕ) (text : List ℕ) : Type 0 where
  pub listeners : List Listener
  pub are : listeners_of cell grid.frame grid.slot handsets ≡ Ok listeners
  pub text_is : text ≡ reported_text cell tables grid listeners

-- in the head of a report none were
pub none_reported : (cell : RawCell) (tables : Tables) (grid : GridValue) (text : List ℕ) → text ≡ head_text grid.frame grid.slot
    → AreReported cell tables grid [] text
none_reported cell tables grid text e =
    record { listeners = []; are = refl; text_is = e ∙ sym (append-nil (head_text grid.frame grid.slot)) }

abbrev Found : Type 0
Found = Result (List Listener) Refusal

abbrev one : ℕ → List Watch → Listener
one handset watches = record { handset = handset; watches = watches }

-- handsets that all have plans, and one more
before_more : (cell : RawCell) (first : ℕ) (plan : Result (List Watch) CommonOver) (rest more : Found)
    (listeners : List Listener) (last : Listener)
    → listener_before cell first plan rest ≡ Ok listeners
    → ((others : List Listener) → rest ≡ Ok others → more ≡ Ok (others ++ last ∷ []))
    → listener_before cell first plan more ≡ Ok (listeners ++ last ∷ [])
before_more cell first (Ok watches) (Ok others) more listeners last e next =
    let same : one first watches ∷ others ≡ listeners = cc in
    ap (listener_before cell first (Ok watches)) (next others refl) ∙ ap (λ (xs : List Listener). Ok (xs ++ last ∷ [])) same
before_more cell first (Ok watches) (Err refusal) more listeners last e next = absurd (let f : ⊥ = cc in f)
before_more cell first (Err over) (Ok others) more listeners last e next = absurd (let f : ⊥ = cc in f)
before_more cell first (Err over) (Err refusal) more listeners last e next = absurd (let f : ⊥ = cc in f)

listeners_more : (cell : RawCell) (frame slot : ℕ) (handsets : List ℕ) (listeners : List Listener) (handset : ℕ)
    (watches : List Watch)
    → listeners_of cell frame slot handsets ≡ Ok listeners → planned cell handset frame slot ≡ Ok watches
    → listeners_of cell frame slot (handsets ++ handset ∷ []) ≡ Ok (listeners ++ one handset watches ∷ [])
listeners_more cell frame slot [] listeners handset watches e f =
    let none : [] ≡ listeners = cc in
    ap (λ p. listener_before cell handset p (Ok [])) f ∙ ap (λ (xs : List Listener). Ok (xs ++ one handset watches ∷ [])) none
listeners_more cell frame slot (first ∷ others) listeners handset watches e f =
    before_more cell first (planned cell first frame slot) (listeners_of cell frame slot others)
    (listeners_of cell frame slot (others ++ handset ∷ [])) listeners (one handset watches) e
    (λ ls h. listeners_more cell frame slot others ls handset watches h f)

-- handsets that all have plans, and then one that has none
before_refused : (cell : RawCell) (first : ℕ) (plan : Result (List Watch) CommonOver) (rest more : Found)
    (listeners : List Listener) (refusal : Refusal)
    → listener_before cell first plan rest ≡ Ok listeners → ((others : List Listener) → rest ≡ Ok others → more ≡ Err refusal)
    → listener_before cell first plan more ≡ Err refusal
before_refused cell first (Ok watches) (Ok others) more listeners refusal e next =
    ap (listener_before cell first (Ok watches)) (next others refl)
before_refused cell first (Ok watches) (Err other) more listeners refusal e next = absurd (let f : ⊥ = cc in f)
before_refused cell first (Err over) (Ok others) more listeners refusal e next = absurd (let f : ⊥ = cc in f)
before_refused cell first (Err over) (Err other) more listeners refusal e next = absurd (let f : ⊥ = cc in f)

listeners_refused : (cell : RawCell) (frame slot : ℕ) (handsets : List ℕ) (listeners : List Listener) (handset : ℕ)
    (over : CommonOver) (later : List ℕ)
    → listeners_of cell frame slot handsets ≡ Ok listeners → planned cell handset frame slot ≡ Err over
    → listeners_of cell frame slot (handsets ++ handset ∷ later) ≡ Err (over_limits cell handset over)
listeners_refused cell frame slot [] listeners handset over later e f =
    ap (λ p. listener_before cell handset p (listeners_of cell frame slot later)) f
listeners_refused cell frame slot (first ∷ others) listeners handset over later e f =
    before_refused cell first (planned cell first frame slot) (listeners_of cell frame slot others)
    (listeners_of cell frame slot (others ++ handset ∷ later)) listeners
    (over_limits cell handset over) e (λ ls h. listeners_refused cell frame slot others ls handset over later h f)

-- the text with one handset more
text_more : (cell : RawCell) (tables : Tables) (grid : GridValue) (listeners : List Listener) (last : Listener)
    → reported_text cell tables grid listeners
    ++ listener_text cell tables grid last ≡ reported_text cell tables grid (listeners ++ last ∷ [])
text_more cell tables grid listeners last =
    let head = head_text grid.frame grid.slot in
    let each = listener_text cell tables grid in
    append_assoc head (flat_map each listeners) (each last)
    ∙ ap (λ xs. head ++ xs) (ap (λ xs. flat_map each listeners ++ xs) (sym (append-nil (each last)))
    ∙ sym (flat_map-append each listeners (last ∷ [])))

-- the handsets from one place up to another were reported in a text as far as those before this one
abbrev pub ReportedUpTo : RawCell → Tables → GridValue → ℕ → ℕ → ℕ → List ℕ → Type 0
ReportedUpTo cell tables grid first end handset =
    AreReported cell tables grid (take (handset - first) (range_with_len first (end - first)))

-- and the codes that are kept are by the tables
pub record ReportedWith (codes : Codes) (cell : RawCell) (tables : Tables) (grid : GridValue) (first end handset : ℕ)
    (text : List ℕ) : Type 0 where
  pub reported : ReportedUpTo cell tables grid first end handset text
  pub kept : AreOf tables codes

-- a handset of these, where those before it were reported
module _ (cell : RawCell) (tables : Tables) (grid : GridValue) (first end handset : ℕ) (text : List ℕ)
    (least : first ≤ handset) (below : handset < end) (so_far : ReportedUpTo cell tables grid first end handset text) where
  at_range : get_or (range_with_len first (end - first)) (handset - first) 0 ≡ handset
  at_range =
      get_or-range_with_len first (end - first) (handset - first) 0 (omega (arith, least, below)) ∙ omega (arith, least)

  within_range : handset - first < length (range_with_len first (end - first))
  within_range = omega (arith, least, below, length-range_with_len first (end - first))

  -- it is reported too, where its lines were appended
  pub reported_more : (new : List ℕ) → Appended cell tables grid handset text new
      → ReportedUpTo cell tables grid first end (handset + 1) new
  reported_more new a =
      let handsets = range_with_len first (end - first) in
      let n = handset - first in
      let P : List ℕ → Type 0 = λ hs. AreReported cell tables grid hs new in
      let Q : ℕ → Type 0 = λ k. AreReported cell tables grid (take k handsets) new in
      let last = one handset a.watches in
      let next : n + 1 ≡ handset + 1 - first = omega (arith, least) in
      subst Q next
      (subst P (sym (take_more handsets n 0 within_range ∙ ap (λ k. take n handsets ++ k ∷ []) at_range)) (record {
        listeners = so_far.listeners ++ last ∷ [];
        are =
            listeners_more cell grid.frame grid.slot (take n handsets) so_far.listeners handset a.watches so_far.are
            a.planned_is;
        text_is =
            a.text ∙ ap (λ xs. xs ++ listener_text cell tables grid last) so_far.text_is
            ∙ text_more cell tables grid so_far.listeners last;
      }))

  -- or it has no plan
  not_reported : (outcome : Outcome) → IsOver cell grid handset outcome
      → outcome ≡ ended (heard_by cell tables grid (listeners_of cell grid.frame grid.slot (range_with_len first (end - first))))
  not_reported outcome o =
      let handsets = range_with_len first (end - first) in
      let n = handset - first in
      let split : handsets ≡ take n handsets ++ handset ∷ drop (n + 1) handsets =
      sym (take-append-drop n handsets)
      ∙ ap (λ xs. take n handsets ++ xs) (drop_more handsets n 0 within_range ∙ ap (λ k. k ∷ drop (n + 1) handsets) at_range) in
      o.says
      ∙ sym (ap (λ (hs : List ℕ). ended (heard_by cell tables grid (listeners_of cell grid.frame grid.slot hs))) split
      ∙ ap (λ found. ended (heard_by cell tables grid found))
      (listeners_refused cell grid.frame grid.slot (take n handsets) so_far.listeners handset o.over
      (drop (n + 1) handsets) so_far.are o.planned_is))

  -- and the stop at it ends the report
  pub stopped_ends : (new : List ℕ) (stop : Stop) → Listens cell tables grid handset text new (Err stop)
      → Ends (Err stop)
      (ended (heard_by cell tables grid (listeners_of cell grid.frame grid.slot (range_with_len first (end - first)))))
  stopped_ends new (Ended o) k = sym (not_reported o k)
  stopped_ends new OutOfMemory k = tt

-- all handsets were reported
all_reported : (cell : RawCell) (tables : Tables) (grid : GridValue) (handsets : List ℕ) (n : ℕ) (text : List ℕ)
    → length handsets ≤ n
    → AreReported cell tables grid (take n handsets) text
    → heard_by cell tables grid (listeners_of cell grid.frame grid.slot handsets)
    ≡ Ok (record { whole = true; out = text; err = [] })
all_reported cell tables grid handsets n text l h =
    ap (λ (hs : List ℕ). heard_by cell tables grid (listeners_of cell grid.frame grid.slot hs)) (sym (take_all n handsets l))
    ∙ ap (heard_by cell tables grid) h.are ∙ ap (λ (t : List ℕ). printed t) (sym h.text_is)
  where
    printed : List ℕ → Result Printed Refusal
    printed t = Ok (record { whole = true; out = t; err = [] })

-- the end, with all handsets reported
pub all_ended : (cell : RawCell) (tables : Tables) (grid : GridValue) (first end handset : ℕ) (text err : List ℕ)
    (outcome : Outcome) → end ≤ handset → ReportedUpTo cell tables grid first end handset text
    → outcome ≡ record { status = ends.Done; out = text; err = err } → err ≡ []
    → ended (heard_by cell tables grid (listeners_of cell grid.frame grid.slot (range_with_len first (end - first)))) ≡ outcome
all_ended cell tables grid first end handset text err outcome l h e none =
    let past : length (range_with_len first (end - first)) ≤ handset - first =
    omega (arith, l, length-range_with_len first (end - first)) in
    ap ended (all_reported cell tables grid (range_with_len first (end - first)) (handset - first) text past h)
    ∙ sym (e ∙ ap (λ x. done x) none)
  where
    done : List ℕ → Outcome
    done x = record { status = ends.Done; out = text; err = x }

-- the name of a handset at its place
pub name_of : (cell : RawCell) (handsets : List Handset) (handset : ℕ) (d : Handset) → handsets ≡ cell.handsets
    → handset < length cell.handsets
    → (get_or handsets handset d).name ≡ (handset_at cell handset).name
name_of cell handsets handset d e h =
    ap (λ (hs : List Handset). (get_or hs handset d).name) e
    ∙ ap (λ (x : Handset). x.name) (get_or_default cell.handsets handset d no_handset h)

-- the plan of a handset in the slot of a grid
module _ (cell : RawCell) (grid : GridValue) (handset frame slot : ℕ) (f : frame ≡ grid.frame) (s : slot ≡ grid.slot) where
  planned_in : planned cell handset grid.frame grid.slot ≡ planned cell handset frame slot
  planned_in = sym (ap (λ x. planned cell handset x slot) f ∙ ap (planned cell handset grid.frame) s)

  -- it is read
  pub plan_read : (watches : List Watch) → planned cell handset frame slot ≡ Ok watches
      → IsRead {A = List Watch} (Ok watches) (checked (watches_found cell handset (planned cell handset grid.frame grid.slot)))
  plan_read watches e = ap (λ plan. checked (watches_found cell handset plan)) (planned_in ∙ e)

  -- or the slot is refused, with the name of the handset
  pub plan_refused : (name : List ℕ) (over : CommonOver) (stop : Stop) → name ≡ (handset_at cell handset).name
      → planned cell handset frame slot ≡ Err over
      → IsStop (refused ends.SlotRefused (slot_line name over.candidates over.cces)) stop
      → IsRead {A = List Watch} (Err stop) (checked (watches_found cell handset (planned cell handset grid.frame grid.slot)))
  plan_refused name over (Ended o) n e h =
      ap (λ plan. checked (watches_found cell handset plan)) (planned_in ∙ e)
      ∙ ap (λ (x : Outcome). Err x) (sym (h ∙ ap (λ x. refused ends.SlotRefused (slot_line x over.candidates over.cces)) n))
  plan_refused name over OutOfMemory n e h = tt

-- a plan that was read is the one of the slot
pub plan_is : (cell : RawCell) (handset : ℕ) (plan : Result (List Watch) CommonOver) (watches : List Watch)
    → checked (watches_found cell handset plan) ≡ Ok watches
    → plan ≡ Ok watches
plan_is cell handset (Ok others) watches h = let same : others ≡ watches = cc in ap (λ (ws : List Watch). Ok ws) same
plan_is cell handset (Err over) watches h = absurd (let f : ⊥ = cc in f)

-- or the common sets exceed a limit, and the outcome says so
pub record SaysOver (cell : RawCell) (handset : ℕ) (plan : Result (List Watch) CommonOver) (outcome : Outcome) : Type 0 where
  pub over : CommonOver
  pub plan_is : plan ≡ Err over
  pub says : outcome ≡ ended (Err (over_limits cell handset over))

-- a plan that was not read is over a limit
pub plan_over : (cell : RawCell) (handset : ℕ) (plan : Result (List Watch) CommonOver) (outcome : Outcome)
    → checked (watches_found cell handset plan) ≡ Err outcome
    → SaysOver cell handset plan outcome
plan_over cell handset (Ok watches) outcome h = absurd (let f : ⊥ = cc in f)
plan_over cell handset (Err over) outcome h =
    let same : ended (Err (over_limits cell handset over)) ≡ outcome =
    cc in record { over = over; plan_is = refl; says = sym same }

-- a handset that has no plan is refused
pub listens_over : (cell : RawCell) (tables : Tables) (grid : GridValue) (handset : ℕ) (text : List ℕ) (stop : Stop)
    → IsRead {A = List Watch} (Err stop) (checked (watches_found cell handset (planned cell handset grid.frame grid.slot)))
    → Listens cell tables grid handset text text (Err stop)
listens_over cell tables grid handset text (Ended o) h =
    let is = plan_over cell handset (planned cell handset grid.frame grid.slot) o h in
    record { over = is.over; planned_is = is.plan_is; says = is.says }
listens_over cell tables grid handset text OutOfMemory h = tt

-- the parts of the report of a handset with these watches
pub record ReportParts (cell : RawCell) (tables : Tables) (grid : GridValue) (handset : ℕ) (watches : List Watch) : Type 0 where
  pub name : List ℕ
  pub plan : List Watch
  pub found : List Heard
  pub name_is : name ≡ (handset_at cell handset).name
  pub plan_is : plan ≡ watches
  pub found_is : found ≡ report_of tables grid watches

-- the report of a handset with its plan
pub appended_from : (cell : RawCell) (tables : Tables) (grid : GridValue) (handset : ℕ) (watches : List Watch)
    (parts : ReportParts cell tables grid handset watches) (old new : List ℕ)
    → planned cell handset grid.frame grid.slot ≡ Ok watches → new ≡ old ++ report_text parts.name parts.plan parts.found
    → Appended cell tables grid handset old new
unfolding listener_text
appended_from cell tables grid handset watches parts old new e t = record {
  watches = watches;
  planned_is = e;
  text =
      t ∙ ap (λ x. old ++ report_text x parts.plan parts.found) parts.name_is
      ∙ ap (λ x. old ++ report_text (handset_at cell handset).name x parts.found) parts.plan_is
      ∙ ap (λ x. old ++ report_text (handset_at cell handset).name watches x) parts.found_is;
}

-- all handsets of a cell
pub ends_all : (cell : RawCell) (tables : Tables) (grid : GridValue) (n : ℕ) (result : Result Outcome Stop)
    → n ≡ length cell.handsets
    → Ends result (ended (heard_by cell tables grid (listeners_of cell grid.frame grid.slot (range_with_len 0 (n - 0)))))
    → Ends result (ended (searched cell tables grid None))
unfolding searched
ends_all cell tables grid n result e h =
    let P : ℕ → Type 0 = λ k. Ends result
    (ended (heard_by cell tables grid (listeners_of cell grid.frame grid.slot (range_with_len 0 k)))) in
    let count : n - 0 ≡ length cell.handsets = omega (arith, e) in
    subst P count h

-- a handset that was found by its name
pub handset_is : (name : List ℕ) (found : Option ℕ) (handset : ℕ) → checked (handset_found name found) ≡ Ok handset
    → found ≡ Some handset
handset_is name (Some other) handset h = let same : other ≡ handset = cc in ap (λ (n : ℕ). Some n) same
handset_is name None handset h = absurd (let f : ⊥ = cc in f)

-- or that there is none
pub handset_unknown : (name : List ℕ) (found : Option ℕ) (outcome : Outcome) → checked (handset_found name found) ≡ Err outcome
    → (found ≡ None) × (outcome ≡ ended (Err (unknown_handset name)))
handset_unknown name (Some other) outcome h = absurd (let f : ⊥ = cc in f)
handset_unknown name None outcome h = let same : ended (Err (unknown_handset name)) ≡ outcome = cc in (refl, sym same)

-- a name that no handset has is refused
pub handset_refused : (name : List ℕ) (stop : Stop) (found : Option ℕ) → None ≡ found
    → IsStop (refused ends.NoSuch (no_such_handset_line name)) stop
    → IsRead {A = ℕ} (Err stop) (checked (handset_found name found))
handset_refused name (Ended o) found e h =
    sym (ap (λ (x : Option ℕ). checked (handset_found name x)) e) ∙ ap (λ (x : Outcome). Err x) (sym h)
handset_refused name OutOfMemory found e h = tt

-- the named one
pub ends_named : (cell : RawCell) (tables : Tables) (grid : GridValue) (name : List ℕ) (handset : ℕ)
    (result : Result Outcome Stop)
    → IsRead (Ok handset) (checked (handset_found name (handset_named cell name)))
    → Ends result (ended (heard_by cell tables grid
    (listeners_of cell grid.frame grid.slot (range_with_len handset (handset + 1 - handset)))))
    → Ends result (ended (searched cell tables grid (Some name)))
unfolding searched
ends_named cell tables grid name handset result r h =
    let P : ℕ → Type 0 = λ k. Ends result
    (ended (heard_by cell tables grid (listeners_of cell grid.frame grid.slot (range_with_len handset k)))) in
    let Q : Option ℕ → Type 0 = λ o. Ends result (ended (heard_of_all cell tables grid (only_handset name o))) in
    let count : handset + 1 - handset ≡ 1 = omega arith in
    let one : Q (Some handset) = subst P count h in
    subst Q (sym (handset_is name (handset_named cell name) handset r)) one

-- no handset has the name
pub ends_unnamed : (cell : RawCell) (tables : Tables) (grid : GridValue) (name : List ℕ) (stop : Stop)
    → IsRead {A = ℕ} (Err stop) (checked (handset_found name (handset_named cell name)))
    → Ends (Err stop) (ended (searched cell tables grid (Some name)))
unfolding searched
ends_unnamed cell tables grid name (Ended o) h =
    let is = handset_unknown name (handset_named cell name) o h in
    ap (λ (x : Option ℕ). ended (heard_of_all cell tables grid (only_handset name x))) is.0 ∙ sym is.1
ends_unnamed cell tables grid name OutOfMemory h = tt

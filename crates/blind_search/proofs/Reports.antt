-- The report of a list of watches: it is a report, and no other list is one.
use Rattle.std.proofs.Common.{◌≡◌, ℕ, ◌<◌, List, Option, Some, None, Ok, All, length, get_or, option_map, refl, sym}
use Rattle.std.proofs.Common.{subst, ap, ◌∙◌, arith}
use Rattle.std.specs.List.{Contains}
use Rattle.std.proofs.lemmas.Option.{none-some, same_Some}
use Rattle.slot_grid.specs.Grid.{GridValue}
use Rattle.table_files.specs.declared.tables.Tables.{Tables}
use Rattle.monitor_plan.specs.declared.watch.Watch.{Watch}
use Rattle.monitor_plan.specs.Watch.{IsSound, no_watch, watch_at}
use Rattle.dci_codec.specs.declared.heard.Heard.{Heard}
use Rattle.dci_codec.specs.Hearing.{AreTables, IsHeard, heard_of}
use Rattle.dci_codec.specs.Spelling.{Spelling}
use Rattle.dci_codec.specs.TheSpelling.{heard_at, the_spelling}
use Rattle.dci_codec.proofs.Hearings.{spelled_passes, spelled_some}
use Rattle.dci_codec.proofs.Stages.{found_exactly}
use Rattle.blind_search.specs.Report.{AreOfWatches, IsReport, OneReport, heard_in, report_of}
use Rattle.blind_search.proofs.Entries.{AreNumbered, IsGiven, AreGiven, given_of, one_given}

-- what the entry of a watch comes from
record IsOf (tables : Tables) (grid : GridValue) (watch : Watch) (number : ℕ) (entry : Heard) : Type 0 where
  spelling : Spelling
  found : the_spelling tables grid watch ≡ Some spelling
  is : heard_of watch number spelling ≡ entry

of_spelling : (tables : Tables) (grid : GridValue) (watch : Watch) (number : ℕ) (entry : Heard) (found : Option Spelling)
    → the_spelling tables grid watch ≡ found → option_map (heard_of watch number) found ≡ Some entry
    → IsOf tables grid watch number entry
of_spelling tables grid watch number entry None e h = absurd (none-some entry h)
of_spelling tables grid watch number entry (Some s) e h =
    record { spelling = s; found = e; is = same_Some (heard_of watch number s) entry h }

entry_of : (tables : Tables) (grid : GridValue) (watch : Watch) (number : ℕ) (entry : Heard)
    → heard_at tables grid watch number ≡ Some entry
    → IsOf tables grid watch number entry
entry_of tables grid watch number entry h = of_spelling tables grid watch number entry (the_spelling tables grid watch) refl h

numbered : (tables : Tables) (grid : GridValue) (watches : List Watch) → AreNumbered (heard_in tables grid watches)
numbered tables grid watches k h e =
    let from = entry_of tables grid (watch_at watches k) k h e in ap (λ (x : Heard). x.watch) (sym from.is)

-- what is heard at a watch, by the definition and by what the grid spells
pub heard_there : (tables : Tables) (grid : GridValue) (watch : Watch) (number : ℕ) (entry : Heard)
    → heard_at tables grid watch number ≡ Some entry → IsHeard tables grid watch number entry
heard_there tables grid watch number entry h =
    let from = entry_of tables grid watch number entry h in
    subst (IsHeard tables grid watch number) from.is (record {
      number_is = refl;
      values = from.spelling.values;
      spells = spelled_passes tables grid watch from.spelling from.found;
      shows = refl;
    })

-- and the other way
pub heard_from : (tables : Tables) (grid : GridValue) (watch : Watch) (number : ℕ) (entry : Heard) → AreTables tables
    → IsSound watch
    → IsHeard tables grid watch number entry → heard_at tables grid watch number ≡ Some entry
heard_from tables grid watch number entry legal sound h = sym (found_exactly tables grid watch number (Ok entry) legal sound h)

-- the report is what is given for the numbers of the watches
pub report_given : (tables : Tables) (grid : GridValue) (watches : List Watch)
    → AreGiven (heard_in tables grid watches) 0 (length watches) (report_of tables grid watches)
unfolding report_of
report_given tables grid watches =
    given_of (heard_in tables grid watches) (length watches) 0 (length watches) (numbered tables grid watches) (omega arith)

-- a report by its parts, and by what is heard
record IsSearched (tables : Tables) (grid : GridValue) (watches : List Watch) : Type 0 where
  legal : AreTables tables
  sound : All IsSound watches

to_given : (tables : Tables) (grid : GridValue) (watches : List Watch) (entries : List Heard) → IsSearched tables grid watches
    → IsReport tables grid watches entries → AreGiven (heard_in tables grid watches) 0 (length watches) entries
to_given tables grid watches entries known h = record {
  rise = h.rise;
  given = heard;
  each = λ k x l m e.
      let from = entry_of tables grid (watch_at watches k) k x e in
      let there = h.each k from.spelling m (spelled_passes tables grid (watch_at watches k) from.spelling from.found) in
      let y = there.1 in
      let own = heard there.0 y there.2 in
      let is : heard_in tables grid watches y.watch ≡ Some y =
      subst (λ (z : Heard). heard_in tables grid watches z.watch ≡ Some z) there.3 own.is
      in
      let same : y ≡ x = same_Some y x (sym is ∙ ap (heard_in tables grid watches) there.4 ∙ e) in
      subst (Contains entries) same (there.0, there.2, there.3);
}
  where
    heard : All (IsGiven (heard_in tables grid watches) 0 (length watches)) entries
    heard i d m = let own = h.spell i d m in record {
      above = omega arith;
      below = own.within;
      is = heard_from tables grid (watch_at watches (get_or entries i d).watch) (get_or entries i d).watch (get_or entries i d)
          known.legal (known.sound (get_or entries i d).watch no_watch own.within) own.heard;
    }

to_report : (tables : Tables) (grid : GridValue) (watches : List Watch) (entries : List Heard) → IsSearched tables grid watches
    → AreGiven (heard_in tables grid watches) 0 (length watches) entries → IsReport tables grid watches entries
to_report tables grid watches entries known g = record {
  rise = g.rise;
  spell = λ i d m. let own = g.given i d m in record {
    within = own.below;
    heard =
        heard_there tables grid (watch_at watches (get_or entries i d).watch) (get_or entries i d).watch (get_or entries i d)
        own.is;
  };
  each = λ k s m spells.
      let w = watch_at watches k in
      let found = spelled_some tables grid w s known.legal (known.sound k no_watch m) spells in
      let there = g.each k (heard_of w k s) (omega arith) m (ap (option_map (heard_of w k)) found) in
      (there.0, heard_of w k s, there.1, there.2, refl);
}

-- the law
pub one_report : OneReport
one_report tables grid watches entries legal sound =
    let known : IsSearched tables grid watches = record { legal = legal; sound = sound } in
    let report = report_given tables grid watches in (
      λ h. one_given (heard_in tables grid watches) 0 (length watches) entries (report_of tables grid watches)
          (numbered tables grid watches)
          (to_given tables grid watches entries known h) report,
      λ e. to_report tables grid watches entries known
          (subst (AreGiven (heard_in tables grid watches) 0 (length watches)) (sym e) report),
    )

-- the report has what is heard at each watch
pub report_has : (tables : Tables) (grid : GridValue) (watches : List Watch) (number : ℕ) (entry : Heard)
    → number < length watches
    → heard_in tables grid watches number ≡ Some entry → Contains (report_of tables grid watches) entry
report_has tables grid watches number entry l h = (report_given tables grid watches).each number entry (omega arith) l h

-- and nothing else
pub report_heard : (tables : Tables) (grid : GridValue) (watches : List Watch)
    → All (λ entry. heard_in tables grid watches entry.watch ≡ Some entry) (report_of tables grid watches)
report_heard tables grid watches k d m = ((report_given tables grid watches).given k d m).is

-- each entry is of one of the watches
pub report_within : (tables : Tables) (grid : GridValue) (watches : List Watch)
    → AreOfWatches watches (report_of tables grid watches)
report_within tables grid watches k d m = ((report_given tables grid watches).given k d m).below

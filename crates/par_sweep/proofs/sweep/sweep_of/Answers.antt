use Rattle.std.proofs.Common.{◌≡◌, ℕ, ◌*◌, List, Vec, Global, IfOk, length, map, ap, sym, subst, ◌∙◌, arith}
use Rattle.std.specs.List.{range_with_len}
use Rattle.std.proofs.lemmas.List.{length-map}
use Rattle.table_files.specs.declared.tables.Tables.{Tables}
use Rattle.slot_grid.specs.Grid.{GridValue}
use Rattle.par_sweep.specs.declared.jobs.Job.{Job}
use Rattle.par_sweep.specs.declared.slots.Counts.{Counts}
use Rattle.par_sweep.specs.declared.totals.SlotTotals.{SlotTotals}
use Rattle.par_sweep.specs.Jobs.{job_searched}
use Rattle.par_sweep.specs.Slots.{slot_counts}
use Rattle.par_sweep.specs.Sweep.{searched_at, slot_totals}
use Rattle.par_sweep.proofs.Searches.{AreSwept, all_can_search, all_searched, length-swept, swept_all, swept_more, written_back}
use Rattle.par_sweep.proofs.sweep.sweep_of.Goals as goal

pub loop-t-preserved : goal.loop-t-preserved
loop-t-preserved g c =
    let l = c.loop-t in
    record {
      swept = swept_more l.invariant.swept c.in_ok-push_slot.ensures.grids c.in_ok-push_slot.ensures.counts;
      kept = c.in_ok-push_slot.ensures.codes;
    }

pub search_all-requires-after_bounds : goal.search_all-requires-after_bounds
search_all-requires-after_bounds g c =
    let l = c.loop-t in
    let swept : AreSwept c.args.tables.now c.args.number l.grids.items l.counts.items =
    swept_all l.auto.t-end c.loop-t-test.false l.invariant.swept in
    λ κs bounds. all_can_search c.args.tables.now c.args.number c.requires.most
    (c.as_slice.ensures.value ∙ swept.grids_are) (c.deref_mut.ensures.value ∙ c.in_ok-jobs.ensures)

-- the counts are those of the slots that were asked for
counted : {tables : Tables} {n : ℕ} {grids : List GridValue} {counts read : List Counts} → AreSwept tables n grids counts
    → read ≡ counts → length read ≡ n
counted swept e = ap (λ (ks : List Counts). length ks) e ∙ length-swept swept

pub totals_of-requires-clause-slots : goal.totals_of-requires-clause-slots
totals_of-requires-clause-slots g c =
    let l = c.loop-t in
    let swept : AreSwept c.args.tables.now c.args.number l.grids.items l.counts.items =
    swept_all l.auto.t-end c.loop-t-test.false l.invariant.swept in
    omega (arith, counted swept c.as_slice-2.ensures.value, c.requires.most)

pub totals_of-requires-clause-counts : goal.totals_of-requires-clause-counts
totals_of-requires-clause-counts g c =
    let l = c.loop-t in
    let swept : AreSwept c.args.tables.now c.args.number l.grids.items l.counts.items =
    swept_all l.auto.t-end c.loop-t-test.false l.invariant.swept in
    c.as_slice-2.ensures.value ∙ swept.counts_are
    ∙ ap (λ (k : ℕ). map slot_counts (range_with_len 0 k)) (sym (counted swept c.as_slice-2.ensures.value))

pub totals_of-requires-clause-jobs : goal.totals_of-requires-clause-jobs
totals_of-requires-clause-jobs g c =
    let l = c.loop-t in
    let tables = c.args.tables.now in
    let swept : AreSwept tables c.args.number l.grids.items l.counts.items =
    swept_all l.auto.t-end c.loop-t-test.false l.invariant.swept in
    let old = c.in_ok-jobs.jobs.items in
    let new = c.search_all.new.jobs in
    let searched : new ≡ map (job_searched tables c.as_slice.result.now) old =
    c.search_all.ensures ∙ ap (map (job_searched tables c.as_slice.result.now)) c.deref_mut.ensures.value
    in
    let kept : length new ≡ length old = ap (λ (js : List Job). length js) searched
    ∙ length-map old (job_searched tables c.as_slice.result.now) in
    let count : length old ≡ c.in_ok-jobs.jobs.len = sym (ap (λ (js : List Job). length js) c.deref_mut.ensures.value)
    ∙ c.deref_mut.ensures.len in
    c.as_slice-3.ensures.value ∙ written_back c.in_ok-jobs.jobs.len new old kept count
    ∙ all_searched tables c.args.number (c.as_slice.ensures.value ∙ swept.grids_are) c.in_ok-jobs.ensures searched
    ∙ ap (λ (k : ℕ). map (searched_at tables) (range_with_len 0 (32 * k))) (sym (counted swept c.as_slice-2.ensures.value))

pub returns : goal.returns
returns g c =
    let l = c.loop-t in
    let swept : AreSwept c.args.tables.now c.args.number l.grids.items l.counts.items =
    swept_all l.auto.t-end c.loop-t-test.false l.invariant.swept in
    subst (λ (k : ℕ). IfOk c.totals_of.result
    (λ (totals : Vec SlotTotals Global). totals.items ≡ map (slot_totals c.args.tables.now) (range_with_len 0 k)))
    (counted swept c.as_slice-2.ensures.value) c.totals_of.ensures

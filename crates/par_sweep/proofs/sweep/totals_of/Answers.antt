use Rattle.std.proofs.Common.{◌≡◌, ◌*◌, ◌<◌, length, get_or, ap, ◌∙◌, arith}
use Rattle.std.proofs.lemmas.List.FromFn.{length-map-range_with_len, get_or-map-range_with_len}
use Rattle.par_sweep.specs.declared.jobs.Job.{Job}
use Rattle.par_sweep.specs.declared.slots.Counts.{Counts}
use Rattle.par_sweep.specs.Slots.{slot_counts}
use Rattle.par_sweep.specs.Sweep.{searched_at, slot_totals}
use Rattle.par_sweep.proofs.Ranges.{made_more}
use Rattle.par_sweep.proofs.Searches.{all_few, all_found, totals_there}
use Rattle.par_sweep.proofs.sweep.totals_of.Goals as goal
use Rattle.std.proofs.Common.{List}

-- counts of nothing
abbrev no_counts : Counts
no_counts = record { placed = 0; overlapped = 0 }

pub slice_bounds-heard_by-end : goal.slice_bounds-heard_by-end
slice_bounds-heard_by-end c =
    let n = length c.args.counts.now in
    let count : length c.args.jobs.now ≡ 32 * n = ap (λ (js : List Job). length js) c.requires.jobs
    ∙ length-map-range_with_len (searched_at c.args.tables.now) 0 (32 * n) in
    omega (arith, count, c.loop-t-test.true)

pub heard_by-heard-requires-clause-found : goal.heard_by-heard-requires-clause-found
heard_by-heard-requires-clause-found c =
    all_few c.args.tables.now (length c.args.counts.now) c.loop-t.t c.loop-t-test.true c.requires.jobs

pub loop-t-preserved : goal.loop-t-preserved
loop-t-preserved c =
    let tables = c.args.tables.now in
    let n = length c.args.counts.now in
    let t = c.loop-t.t in
    let within : t < n = c.loop-t-test.true in
    let counted : get_or c.args.counts.now t no_counts ≡ slot_counts t =
    ap (λ (ks : List Counts). get_or ks t no_counts) c.requires.counts
    ∙ get_or-map-range_with_len slot_counts 0 n t t no_counts within (omega arith)
    in
    let heard = c.heard_by-heard.ensures ∙ all_found tables n t within c.requires.jobs in
    made_more (slot_totals tables) t c.loop-t.invariant c.in_ok-push_value.ensures (totals_there tables t counted heard)

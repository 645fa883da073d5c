use Rattle.std.proofs.Common.{◌++◌, ap, length}
use Rattle.std.specs.List.{flat_map}
use Rattle.plain_text.proofs.Appending.{appends_last}
use Rattle.par_sweep.specs.declared.summary.Sums.{Sums}
use Rattle.par_sweep.specs.Summary.{slot_line, sums_line, summary_text}
use Rattle.par_sweep.proofs.summary.push_summary.Goals as goal
use Rattle.std.proofs.Common.{sym}

pub returns : goal.returns
unfolding summary_text
returns c =
    appends_last _ c.in_ok-push_slots.ensures.whole c.push_sums.ensures
    (ap (λ (s : Sums). flat_map slot_line c.args.totals.now ++ sums_line (length c.args.totals.now) s) (sym c.sums_of.ensures))

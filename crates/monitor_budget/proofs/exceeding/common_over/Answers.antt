use Rattle.monitor_budget.proofs.Allotments.{are_counts, over_made}
use Rattle.monitor_budget.proofs.exceeding.common_over.Goals as goal

pub returns : goal.returns
returns c =
    let cell = c.args.cell.now in
    let h = c.args.handset.now in
    let sizes = c.args.sizes.now in
    let places = c.args.common.now in
    over_made cell h sizes places c.candidates.result c.cces.result
    (are_counts cell h sizes places c.count_sets.new.tally c.candidates.result c.cces.result c.count_sets.ensures
    c.candidates.ensures c.cces.ensures.value c.cces.ensures.size)

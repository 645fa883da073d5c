use Rattle.std.proofs.Common.{length, ap, arith}
use Rattle.std.proofs.lemmas.List.FromFn.{length-map-range_with_len}
use Rattle.par_sweep.specs.Sweep.{slot_totals}
use Rattle.pdcch_app.proofs.sweeping.sweep_text.Goals as goal

pub append_summary-requires : goal.append_summary-requires
append_summary-requires g c =
    let many = ap length c.in_ok-totals.ensures in
    let count = length-map-range_with_len (slot_totals c.args.tables.now) 0 c.args.slots in
    omega (arith, many, count, c.requires.most, c.as_slice.ensures.len)

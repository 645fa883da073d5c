use Rattle.std.proofs.Common.{arith, ◌∙◌}
use Rattle.par_sweep.proofs.Sums.{sums_more, sums_all}
use Rattle.par_sweep.proofs.summary.sums_of.Goals as goal
use Rattle.std.proofs.lemmas.List.{get_or_default}

pub loop-slot-preserved : goal.loop-slot-preserved
loop-slot-preserved c =
    let l = c.loop-slot in
    record {
      are =
          c.added-sums.ensures.sums
          ∙ sums_more c.args.totals.now l.slot-index l.sums _ c.loop-slot-test.true
          (get_or_default c.args.totals.now l.slot-index _ _ c.loop-slot-test.true) l.invariant.are;
      placed = omega (arith, l.invariant.placed, c.added-sums.ensures.placed);
      overlapped = omega (arith, l.invariant.overlapped, c.added-sums.ensures.overlapped);
      heard = omega (arith, l.invariant.heard, c.added-sums.ensures.heard);
    }

pub returns : goal.returns
returns c = let l = c.loop-slot in sums_all c.args.totals.now l.slot-index l.sums c.loop-slot-test.false l.invariant.are

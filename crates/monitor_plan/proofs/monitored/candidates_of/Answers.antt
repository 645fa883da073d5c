use Rattle.std.proofs.Common.{arith}
use Rattle.monitor_plan.proofs.MonitoredSets.{none_monitored, monitored_more}
use Rattle.monitor_plan.proofs.monitored.candidates_of.Goals as goal

pub loop-at-init : goal.loop-at-init
loop-at-init c =
    none_monitored c.args.sizes.now c.args.sets.now c.new-candidates.result.items c.new-candidates.ensures.items

pub loop-at-preserved : goal.loop-at-preserved
loop-at-preserved c =
    monitored_more c.args.sizes.now c.args.sets.now c.loop-at.at c.index-sets-at.result (omega arith) c.index-sets-at.is
    c.loop-at.candidates.items c.push_candidates.new.candidates.items c.loop-at.invariant
    c.in_ok-push_candidates.ensures.candidates
    c.push_candidates.ensures.placed c.push_candidates.ensures.few

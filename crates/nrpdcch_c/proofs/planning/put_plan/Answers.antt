use Rattle.std.proofs.Common.{arith}
use Rattle.std.proofs.lemmas.Grind.{common_steps}
use Rattle.monitor_plan.specs.Watch.{no_watch}
use Rattle.nrpdcch_c.specs.WatchNumbers.{watch_of}
use Rattle.nrpdcch_c.proofs.Overlays.{overlaid_next}
use Rattle.nrpdcch_c.proofs.planning.put_plan.Goals as goal

pub loop-at-preserved : goal.loop-at-preserved
loop-at-preserved c =
    let at = c.loop-at.at in
    let plan = c.args.plan.now in
    let test = c.loop-at-test.true in
    let size = c.len-at-end.ensures.value in
    let room = c.requires in
    let found = c.watch.ensures.value in
    let written = c.watch_of.ensures in
    let before = c.loop-at.invariant in
    let next = overlaid_next watch_of plan c.args.watches.now at no_watch (watch_of no_watch) (omega arith) (omega arith) in
    grind (arith, common_steps)

use Rattle.std.proofs.Common.{ℕ, ap, ◌∙◌}
use Rattle.rrc_settings.specs.HandsetsOfCell.{handset_at, set_at}
use Rattle.monitor_plan.specs.Monitored.{set_kept}
use Rattle.monitor_plan.proofs.MonitoredSets.{kept_more}
use Rattle.monitor_plan.proofs.monitored.sets_at.Goals as goal

pub loop-place-preserved : goal.loop-place-preserved
loop-place-preserved c =
    let cell = c.args.cell.now in
    let h = handset_at cell c.args.handset in
    let l = c.loop-place in
    kept_more c.args.places.now l.place-index l.sets.items c.push.new.self.items c.set_of.result c.loop-place-test.true l.invariant
    c.in_ok-push.ensures.items
    (c.set_of.ensures.set ∙ ap (λ (place : ℕ). set_kept cell h c.args.sizes.now (set_at h place)) c.from.ensures)
    c.set_of.ensures.legal

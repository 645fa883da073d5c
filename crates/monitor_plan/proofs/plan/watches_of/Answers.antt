use Rattle.std.proofs.Common.{ℕ, ◌++◌, ◌∙◌, ap}
use Rattle.rrc_settings.specs.HandsetsOfCell.{handset_at, set_at}
use Rattle.monitor_plan.specs.Watches.{set_watches}
use Rattle.monitor_plan.proofs.WatchParts.{watches-none, watches_more}
use Rattle.monitor_plan.proofs.plan.watches_of.Goals as goal

pub loop-place-init : goal.loop-place-init
loop-place-init c =
    watches-none c.args.cell.now (handset_at c.args.cell.now c.args.handset) c.args.sizes.now c.in_ok-watches.watches.items
    c.in_ok-watches.ensures.items

pub loop-place-preserved : goal.loop-place-preserved
loop-place-preserved c =
    let h = handset_at c.args.cell.now c.args.handset in
    let l = c.loop-place in
    watches_more c.args.cell.now h c.args.sizes.now c.args.places.now l.place-index l.watches.items
    c.push_set.new.watches.items c.loop-place-test.true l.invariant
    (c.in_ok-push_set.ensures.watches
    ∙ ap (λ (k : ℕ). l.watches.items ++ set_watches c.args.cell.now h c.args.sizes.now (set_at h k)) c.from.ensures)
    c.in_ok-push_set.ensures.few

use Rattle.std.proofs.Common.{◌≡◌, true, ap, subst, ◌∙◌}
use Rattle.dci_fields.specs.declared.formats.Format.{Format}
use Rattle.monitor_plan.specs.declared.watch.Watch.{Watch}
use Rattle.monitor_plan.specs.Watch.{fits, no_watch, watch_at}
use Rattle.monitor_plan.proofs.OrderLists.{order_fits}
use Rattle.monitor_plan.proofs.outline.Outline.list.Goals as goal

pub order_list-requires : goal.order_list-requires
order_list-requires c =
    let w = watch_at c.args.self.now c.args.at in
    order_fits w c.list_at-in-Order.result (c.parts.ensures.plan.sound c.args.at no_watch c.requires.at)
    (subst (λ (f : Format). fits w f ≡ true) c.in-Order.is c.requires.fits)
    (ap (λ (x : Watch). x.down) c.parts.ensures.watch ∙ c.list_at-in-Order.ensures)

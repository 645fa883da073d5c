use Rattle.std.proofs.Common.{◌≤◌, sym, subst}
use Rattle.rrc_settings.specs.declared.settings.RawCell.{RawCell}
use Rattle.monitor_budget.proofs.calendar.is_searched.Goals as goal

pub is_monitored-requires-clause-mu : goal.is_monitored-requires-clause-mu
is_monitored-requires-clause-mu c =
    subst (λ (r : RawCell). r.mu ≤ 3) (sym c.raw.ensures.value) c.raw.ensures.facts.mu_most

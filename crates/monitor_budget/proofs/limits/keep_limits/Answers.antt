use Rattle.std.proofs.Common.{◌≤◌, sym, subst}
use Rattle.rrc_settings.specs.declared.settings.RawCell.{RawCell}
use Rattle.monitor_budget.proofs.limits.keep_limits.Goals as goal

pub are_within-requires : goal.are_within-requires
are_within-requires c = subst (λ (r : RawCell). r.mu ≤ 3) (sym c.raw.ensures.value) c.raw.ensures.facts.mu_most

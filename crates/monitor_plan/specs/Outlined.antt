-- What contracts see of an outline, and what each of them keeps.
use Rattle.std.specs.Prelude.{List, All}
use Rattle.monitor_plan.specs.declared.watch.Watch.{Watch}
use Rattle.monitor_plan.specs.declared.outline.Outline.TheInside.{Inside}
use Rattle.monitor_plan.specs.Watch.{IsPlan}
use Rattle.monitor_plan.specs.Monitored.{watches_monitored, IsMonitored}

-- its watches
abbrev pub watches_outlined : Inside → List Watch
watches_outlined o = watches_monitored o.monitoring.sets.items o.monitoring.candidates.items

-- they are those of a plan, and each candidate is of one of the sets
pub record IsOutline (o : Inside) : Type 0 where
  pub plan : IsPlan (watches_outlined o)
  pub monitored : All (IsMonitored o.monitoring.sets.items) o.monitoring.candidates.items

use Rattle.std.proofs.Common.{◌≡◌, drop}
use Rattle.rrc_settings.specs.HandsetsOfCell.{coreset_numbered}
use Rattle.monitor_budget.proofs.space.coreset_numbered.Given as goal

-- the CORESET is none of those before
abbrev pub invariant-loop-coreset : goal.invariant-loop-coreset
invariant-loop-coreset l =
    coreset_numbered l.number l.coreset-items ≡ coreset_numbered l.number (drop l.coreset-index l.coreset-items)

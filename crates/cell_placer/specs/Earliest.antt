-- Which grant is named as in the way.
use Rattle.std.specs.Prelude.{◌≡◌, ℕ, ◌<◌, ◌≤◌, true, Some, length, slice_index_or}
use Rattle.monitor_plan.specs.declared.watch.Watch.{Watch}
use Rattle.cell_placer.specs.declared.member.Accepted.{Accepted}
use Rattle.cell_placer.specs.Ledger.{LedgerValue, IsLedger}
use Rattle.cell_placer.specs.Fate.{meets, first_meeting}

-- no accepted grant that has a REG of the watch was called before the one that is named
abbrev pub NamesTheEarliest : Type 0
NamesTheEarliest =
    (ledger : LedgerValue) (w : Watch) (call k : ℕ) (d : Accepted) → IsLedger ledger
    → first_meeting ledger.members ledger.accepted w ≡ Some call → k < length ledger.accepted
    → meets ledger.members w (slice_index_or ledger.accepted k d) ≡ true → call ≤ (slice_index_or ledger.accepted k d).call

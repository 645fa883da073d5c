-- What contracts see of a ledger and of a desk, and what each of them keeps.
use Rattle.std.specs.Prelude.{◌≤◌, vec_capacity}
use Rattle.cell_placer.specs.declared.ledger.Ledger.TheInside.{Inside}
use Rattle.cell_placer.specs.Ledger.{LedgerValue, IsLedger}
use Rattle.cell_placer.specs.Owners.{AreOwners}

-- the ledger without the owners
abbrev pub ledger_of : Inside → LedgerValue
ledger_of l = record {
  blocks = l.blocks;
  members = l.members.items;
  room = l.room;
  calls = l.calls;
  accepted = l.accepted.items;
}

-- the owners are those of the accepted grants, and there is memory for as many as there is room for
pub record IsKept (l : Inside) : Type 0 where
  pub ledger : IsLedger (ledger_of l)
  pub owners : AreOwners l.blocks l.members.items l.accepted.items l.owners.items
  pub memory : l.room ≤ vec_capacity l.accepted

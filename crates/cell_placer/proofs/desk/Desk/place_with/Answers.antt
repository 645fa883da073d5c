use Rattle.std.proofs.Common.{sym, subst, ap, ◌∙◌}
use Rattle.cell_placer.specs.Ledger.{LedgerValue, IsLedger}
use Rattle.cell_placer.proofs.Entries.{ledger_after, ledger_counted}
use Rattle.cell_placer.proofs.desk.Desk.place_with.Goals as goal

pub invariant_of-self : goal.invariant_of-self
invariant_of-self c = record {
  ledger =
      subst IsLedger (sym c.accept.ensures)
      (ledger_after c.self.inside.ledger c.in-Ok.entry c.in-Ok.ensures.ready.spot.call c.self.invariant.ledger);
  blocks = ap (λ (l : LedgerValue). l.blocks) c.accept.ensures ∙ c.self.invariant.blocks ∙ sym c.write.ensures.blocks;
}

pub invariant_of-self-in-Err : goal.invariant_of-self-in-Err
invariant_of-self-in-Err c = record {
  ledger = subst IsLedger (sym c.refuse.ensures) (ledger_counted c.self.inside.ledger c.self.invariant.ledger);
  blocks = ap (λ (l : LedgerValue). l.blocks) c.refuse.ensures ∙ c.self.invariant.blocks;
}

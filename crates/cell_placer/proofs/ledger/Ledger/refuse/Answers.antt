use Rattle.cell_placer.proofs.Calls.{calls_more}
use Rattle.cell_placer.proofs.ledger.Ledger.refuse.Goals as goal

pub invariant_of-self : goal.invariant_of-self
invariant_of-self c =
    let kept = c.self.invariant in
    record {
      ledger = record {
        members = kept.ledger.members;
        calls = calls_more 0 c.self.inside.calls c.self.inside.accepted.items kept.ledger.calls;
      };
      owners = kept.owners;
      memory = kept.memory;
    }

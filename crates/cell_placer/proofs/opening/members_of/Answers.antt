use Rattle.std.proofs.Common.{◌+◌, List, sym, subst, arith}
use Rattle.cell_placer.specs.declared.member.Member.{Member}
use Rattle.cell_placer.proofs.Openings.{AreMade, one_made, all_made}
use Rattle.cell_placer.proofs.opening.members_of.Goals as goal

pub loop-handset-preserved : goal.loop-handset-preserved
loop-handset-preserved c =
    subst (λ (xs : List Member). AreMade c.args.cell.now c.args.frame c.args.slot (c.loop-handset.handset + 1) xs)
    (sym c.in-Ok-push.ensures.items) (one_made (omega arith) c.loop-handset.invariant c.member_of.ensures)

pub returns-clause-made : goal.returns-clause-made
returns-clause-made c = all_made (omega arith) c.loop-handset.invariant

use Rattle.std.proofs.Common.{sym, ◌∙◌}
use Rattle.cell_placer.proofs.SuitableWatches.{first_suits}
use Rattle.cell_placer.proofs.deciding.decided_in.Goals as goal

pub decided_among-requires-clause-first : goal.decided_among-requires-clause-first
decided_among-requires-clause-first c =
    (first_suits c.args.grant.now c.index-members-handset.result.plan c.in-Some.first
    (sym c.first_suitable.ensures ∙ c.in-Some.is)).0

pub decided_among-requires-clause-fitting : goal.decided_among-requires-clause-fitting
decided_among-requires-clause-fitting c =
    (first_suits c.args.grant.now c.index-members-handset.result.plan c.in-Some.first
    (sym c.first_suitable.ensures ∙ c.in-Some.is)).1.fitting

pub decided_among-requires-clause-suitable : goal.decided_among-requires-clause-suitable
decided_among-requires-clause-suitable c = sym c.first_suitable.ensures ∙ c.in-Some.is

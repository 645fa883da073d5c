use Rattle.std.proofs.Common.{sym}
use Rattle.dmrs_qpsk.proofs.BlockPlaces.{reference_rank_there, reference_number_small}
use Rattle.dmrs_qpsk.proofs.reference.references_before.Goals as goal

pub returns-clause-value : goal.returns-clause-value
returns-clause-value c = sym (reference_rank_there c.args.k c.requires)

pub returns-clause-small : goal.returns-clause-small
returns-clause-small c = reference_number_small c.args.k c.requires

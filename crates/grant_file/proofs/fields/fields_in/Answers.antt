use Rattle.grant_file.proofs.Lists.{ascending_words}
use Rattle.grant_file.proofs.fields.fields_in.Goals as goal

pub returns-clause-ascending : goal.returns-clause-ascending
returns-clause-ascending c = ascending_words c.args.members.now.entries c.iter-key-items.ensures.ordered

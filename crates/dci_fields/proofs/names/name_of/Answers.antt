use Rattle.std.proofs.Common.{◌∙◌}
use Rattle.dci_fields.specs.Words.{field_named}
use Rattle.dci_fields.proofs.NamesOfWords.{if_field_named}
use Rattle.dci_fields.proofs.names.name_of.Goals as goal

pub returns-clause-named : goal.returns-clause-named
unfolding field_named
returns-clause-named c = c.copied.ensures ∙ c.name_among.ensures

pub returns-clause-exactly : goal.returns-clause-exactly
returns-clause-exactly c = if_field_named c.args.word.now c.copied.result (returns-clause-named c)

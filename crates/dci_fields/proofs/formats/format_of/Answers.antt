use Rattle.std.proofs.Common.{rules}
use Rattle.dci_fields.specs.Formats.{format_named}
use Rattle.dci_fields.proofs.NamesOfWords.{if_format_named}
use Rattle.dci_fields.proofs.formats.format_of.Goals as goal

pub returns-clause-named : goal.returns-clause-named
unfolding format_named
returns-clause-named c = search (rules)

pub returns-clause-exactly : goal.returns-clause-exactly
returns-clause-exactly c = if_format_named c.args.word.now c.copied.result (returns-clause-named c)

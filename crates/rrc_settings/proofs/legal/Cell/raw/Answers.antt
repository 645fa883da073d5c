use Rattle.std.proofs.Common.{rules}
use Rattle.rrc_settings.proofs.LegalCell.{legal_cell}
use Rattle.rrc_settings.proofs.legal.Cell.raw.Goals as goal

pub returns-clause-facts : goal.returns-clause-facts
returns-clause-facts c = legal_cell _ (search rules)

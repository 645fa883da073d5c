use Rattle.cell_placer.proofs.Histories.{grid_after, ledger_of_after, opened_blank}
use Rattle.cell_placer.proofs.laws.writes_the_accepted.Goals as goal

pub returns : goal.returns
returns c = record { grid = grid_after; ledger = ledger_of_after; blank = opened_blank }

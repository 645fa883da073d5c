use Rattle.grid_file.proofs.OneText.{one_text}
use Rattle.grid_file.proofs.laws.one_grid_of_text.Goals as goal

pub returns : goal.returns
returns c = one_text

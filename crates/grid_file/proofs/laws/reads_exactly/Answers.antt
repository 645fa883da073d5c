use Rattle.grid_file.proofs.FoundGrids.{reads_exactly}
use Rattle.grid_file.proofs.laws.reads_exactly.Goals as goal

pub returns : goal.returns
returns c = reads_exactly

use Rattle.polar_kernel.proofs.WordsWithin as words
use Rattle.polar_kernel.proofs.laws.read_within.Goals as goal

pub returns : goal.returns
returns c = words.read_within

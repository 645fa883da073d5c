use Rattle.size_alignment.proofs.SizesDiffer as sizes
use Rattle.size_alignment.proofs.laws.sizes_differ.Goals as goal

pub returns : goal.returns
returns c = sizes.sizes_differ

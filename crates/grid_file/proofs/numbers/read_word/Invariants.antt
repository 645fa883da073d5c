use Rattle.grid_file.proofs.Words.{WordSoFar}
use Rattle.grid_file.proofs.numbers.read_word.Given as goal

abbrev pub invariant-loop-index : goal.invariant-loop-index
invariant-loop-index l = WordSoFar l.bytes l.at l.word l.index

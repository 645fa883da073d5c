use Rattle.polar_kernel.proofs.WordLaws as laws
use Rattle.polar_kernel.proofs.laws.word_word.Goals as goal

pub returns : goal.returns
returns c = laws.word_word

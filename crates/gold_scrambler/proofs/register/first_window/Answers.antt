use Rattle.std.proofs.Common.{◌∙◌, arith}
use Rattle.gold_scrambler.proofs.Windows.{window_of_first}
use Rattle.gold_scrambler.proofs.register.first_window.Goals as goal

pub returns : goal.returns
returns c = λ n is. window_of_first n c.from-known.result (omega arith) (c.from-known.ensures ∙ is)

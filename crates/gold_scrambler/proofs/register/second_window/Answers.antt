use Rattle.std.proofs.Common.{◌∙◌, arith}
use Rattle.gold_scrambler.proofs.Windows.{window_of_second}
use Rattle.gold_scrambler.proofs.register.second_window.Goals as goal

pub returns : goal.returns
returns c = λ start n small is. window_of_second start n c.from-known.result small (omega arith) (c.from-known.ensures ∙ is)

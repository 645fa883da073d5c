use Rattle.std.proofs.Common.{◌≡◌, length, None}
use Rattle.pdcch_app.specs.Arguments.{arguments_after, are_formed}
use Rattle.pdcch_app.proofs.arguments.are_formed.Given as goal

-- the words that are left decide
abbrev pub invariant-loop-argument : goal.invariant-loop-argument
invariant-loop-argument l = are_formed (arguments_after None l.words) ≡ are_formed (arguments_after None l.left)

abbrev pub decreases-loop-argument : goal.decreases-loop-argument
decreases-loop-argument l = length l.left

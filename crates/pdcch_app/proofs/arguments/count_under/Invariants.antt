use Rattle.std.proofs.Common.{◌≡◌, ◌+◌, ◌≤◌, length, None}
use Rattle.pdcch_app.specs.Arguments.{arguments_after, texts_under}
use Rattle.pdcch_app.proofs.arguments.count_under.Given as goal

-- the arguments that were counted and those of the words that are left are all
abbrev pub invariant-loop-argument : goal.invariant-loop-argument
invariant-loop-argument l = record {
  all : l.count + length (texts_under l.wanted (arguments_after None l.left))
      ≡ length (texts_under l.wanted (arguments_after None l.words));
  within : l.count + length l.left ≤ length l.words;
}

abbrev pub decreases-loop-argument : goal.decreases-loop-argument
decreases-loop-argument l = length l.left

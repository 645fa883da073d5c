use Rattle.std.proofs.Common.{◌≡◌, length, None, slice_get}
use Rattle.pdcch_app.specs.Arguments.{arguments_after, texts_under}
use Rattle.pdcch_app.proofs.arguments.text_under.Given as goal

-- the argument is that of the words that are left at the place that is left
abbrev pub invariant-loop-argument : goal.invariant-loop-argument
invariant-loop-argument l =
    slice_get (texts_under l.wanted (arguments_after None l.left)) l.before
    ≡ slice_get (texts_under l.wanted (arguments_after None l.words)) l.place

abbrev pub decreases-loop-argument : goal.decreases-loop-argument
decreases-loop-argument l = length l.left

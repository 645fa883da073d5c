use Rattle.std.proofs.Common.{◌≡◌, ℕ, ◌*◌, ◌%◌, ◌<◌}
use Rattle.bits_core.specs.Row.{word_bit}
use Rattle.rate_match.proofs.shifts.repeat.Given as goal

-- the words so far
abbrev pub invariant-loop-at : goal.invariant-loop-at
invariant-loop-at l = (i : ℕ) → i < 64 * l.at → word_bit l.words i ≡ word_bit l.fn.words (i % l.n)

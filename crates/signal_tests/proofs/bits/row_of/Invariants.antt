use Rattle.std.proofs.Common.{◌≡◌, length}
use Rattle.signal_tests.proofs.bits.row_of.Given as goal

abbrev pub invariant-loop-digit : goal.invariant-loop-digit
invariant-loop-digit g l = length l.bits ≡ l.digit-index

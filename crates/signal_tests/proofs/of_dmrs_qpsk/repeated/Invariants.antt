use Rattle.std.proofs.Common.{◌≡◌, length}
use Rattle.signal_tests.proofs.of_dmrs_qpsk.repeated.Given as goal

abbrev pub invariant-loop-at : goal.invariant-loop-at
invariant-loop-at l = length l.bits ≡ l.at

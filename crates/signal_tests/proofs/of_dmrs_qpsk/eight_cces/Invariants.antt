use Rattle.std.proofs.Common.{◌≡◌, length}
use Rattle.signal_tests.proofs.RegsInARow.{regs_below}
use Rattle.signal_tests.proofs.of_dmrs_qpsk.eight_cces.Given as goal

abbrev pub invariant-loop-block : goal.invariant-loop-block
invariant-loop-block l = record {
  size : length l.regs.items ≡ l.block;
  regs : l.regs.items ≡ regs_below l.block;
}

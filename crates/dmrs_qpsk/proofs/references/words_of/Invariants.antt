use Rattle.std.proofs.Common.{◌≡◌, ◌*◌}
use Rattle.dmrs_qpsk.proofs.KeptBits.{AreBitsBelow}
use Rattle.dmrs_qpsk.proofs.references.words_of.Given as goal

abbrev pub invariant-loop-index : goal.invariant-loop-index
invariant-loop-index l = record {
  same_start : l.gold.c_init ≡ l.start;
  in_place : l.gold.at ≡ 60 * l.index;
  bits : AreBitsBelow l.start l.index l.words;
}

use Rattle.std.proofs.Common.{◌≡◌, ◌*◌, min, length}
use Rattle.gold_scrambler.specs.Stretches.{HaveBits}
use Rattle.dci_codec.specs.Scrambling.{scrambled_bit}
use Rattle.dci_codec.proofs.scrambling.scramble.Given as goal

abbrev pub invariant-loop-at : goal.invariant-loop-at
invariant-loop-at l = record {
  size : length l.words ≡ 27;
  sums : HaveBits (scrambled_bit l.c_init l.bits) 0 (min (64 * l.at) (length l.bits)) l.words;
}

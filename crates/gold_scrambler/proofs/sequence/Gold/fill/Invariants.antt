use Rattle.std.proofs.Common.{◌≡◌, ◌+◌, ◌*◌, min, length}
use Rattle.gold_scrambler.specs.Gold.{gold}
use Rattle.gold_scrambler.specs.Stretches.{HaveBits}
use Rattle.gold_scrambler.proofs.sequence.Gold.fill.Given as goal

abbrev pub invariant-loop-index : goal.invariant-loop-index
invariant-loop-index l = record {
  taken : HaveBits (gold l.initial.self.c_init) l.initial.self.at (min (64 * l.index) l.count) l.words;
  size : length l.words ≡ 27;
  in_place : l.self.at ≡ l.initial.self.at + min (64 * l.index) l.count;
  same_start : l.self.c_init ≡ l.initial.self.c_init;
}

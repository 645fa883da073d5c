use Rattle.std.proofs.Common.{◌≡◌, ◌+◌, ◌*◌}
use Rattle.gold_scrambler.proofs.sequence.Gold.skip.Given as goal

abbrev pub invariant-loop-turn : goal.invariant-loop-turn
invariant-loop-turn l = record {
  in_place : l.self.at ≡ l.initial.self.at + 28 * l._turn;
  same_start : l.self.c_init ≡ l.initial.self.c_init;
}

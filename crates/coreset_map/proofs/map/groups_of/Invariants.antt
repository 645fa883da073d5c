use Rattle.std.proofs.Common.{◌≡◌, ◌≤◌, length}
use Rattle.coreset_map.proofs.Bits.{groups_below}
use Rattle.coreset_map.proofs.map.groups_of.Given as goal

abbrev pub invariant-loop-group : goal.invariant-loop-group
invariant-loop-group l = record {
  items : l.rising.items ≡ groups_below l.fn.groups l.group;
  few : length l.rising.items ≤ l.group;
}

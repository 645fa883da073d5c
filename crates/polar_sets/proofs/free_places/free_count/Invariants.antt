use Rattle.std.proofs.Common.{◌≡◌, ◌≤◌}
use Rattle.list_facts.specs.Counting.{count_below}
use Rattle.polar_sets.specs.FrozenPlaces.{is_free}
use Rattle.polar_sets.proofs.free_places.free_count.Given as goal

-- those so far
abbrev pub invariant-loop-position : goal.invariant-loop-position
invariant-loop-position l = record {
  count : l.count ≡ count_below l.position (is_free l.n l.k l.e);
  few : l.count ≤ l.position;
}

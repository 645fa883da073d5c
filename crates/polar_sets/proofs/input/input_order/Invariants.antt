use Rattle.std.proofs.Common.{◌<◌}
use Rattle.table_files.specs.Permutation.{IsTable}
use Rattle.polar_sets.proofs.Entries.{IsEntered}
use Rattle.polar_sets.proofs.input.input_order.Given as goal

-- what the first entries give
abbrev pub invariant-loop-place : goal.invariant-loop-place
invariant-loop-place l = record {
  entered : IsEntered l.table l.k l.place l.order.items;
  table : 0 < l.place → IsTable 164 l.table;
}

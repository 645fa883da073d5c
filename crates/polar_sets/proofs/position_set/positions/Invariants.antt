use Rattle.std.proofs.Common.{◌≡◌, ◌-◌, ◌<◌, length}
use Rattle.rate_match.specs.MotherCode.{length_of}
use Rattle.table_files.specs.Permutation.{IsTable}
use Rattle.polar_sets.proofs.Taken.{IsTaken}
use Rattle.polar_sets.proofs.position_set.positions.Given as goal

-- the positions of the last entries of the table are taken
abbrev pub invariant-loop-back : goal.invariant-loop-back
invariant-loop-back l = record {
  len : length l.flags ≡ 512;
  taken : IsTable 1024 l.reliability → IsTaken l.reliability (length_of l.k l.e) l.k l.e (1024 - l.back) l.flags l.left;
  table : 0 < l.back → IsTable 1024 l.reliability;
  begun : l.left ≡ 0 → 0 < l.back;
}

use Rattle.std.proofs.Common.{◌≡◌, ◌≢◌, ◌+◌, ◌-◌, ◌*◌, ◌%◌, length, map}
use Rattle.std.specs.List.{range_with_len}
use Rattle.coreset_map.specs.ControlResources.{bundle_size, cce_count}
use Rattle.coreset_map.specs.Numbers.{number_at, placed_reg}
use Rattle.coreset_map.proofs.map.Map.regs_of_candidate.Given as goal

abbrev pub invariant-loop-place : goal.invariant-loop-place
invariant-loop-place l = record {
  size : 6 * l.fn.start + length l.regs.items ≡ l.place;
  items : l.regs.items ≡ map (placed_reg (6 * cce_count l.self) l.self) (range_with_len (6 * l.fn.start) (length l.regs.items));
  number : l.place % bundle_size l.self.interleaver ≢ 0 → l.number ≡ number_at (6 * cce_count l.self) l.self (l.place - 1);
}

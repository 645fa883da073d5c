use Rattle.std.proofs.Common.{◌-◌, length}
use Rattle.grid_file.proofs.NumberSteps.{NumberSoFar}
use Rattle.grid_file.proofs.numbers.read_number.Given as goal

abbrev pub invariant-loop-digit : goal.invariant-loop-digit
invariant-loop-digit l = NumberSoFar l.bytes l.at l.least l.limit l.number.value l.number.next

abbrev pub decreases-loop-digit : goal.decreases-loop-digit
decreases-loop-digit l = length l.bytes - l.number.next

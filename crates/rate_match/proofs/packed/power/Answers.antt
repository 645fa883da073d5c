use Rattle.std.proofs.Common.{arith}
use Rattle.rate_match.proofs.Ordered.{exponent_small}
use Rattle.rate_match.proofs.packed.power.Goals as goal

pub overflow_shl-result : goal.overflow_shl-result
overflow_shl-result c = let small = exponent_small c.args.n c.requires in omega arith

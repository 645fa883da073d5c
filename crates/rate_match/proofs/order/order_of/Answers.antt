use Rattle.std.proofs.Common.{◌*◌, ◌/◌, refl}
use Rattle.std.proofs.Math.Facts.{Fits-of_lt}
use Rattle.rate_match.specs.SubblockOrder.{position_at}
use Rattle.rate_match.proofs.Subblocks.{place_small, position_below}
use Rattle.rate_match.proofs.order.order_of.Goals as goal

pub overflow_mul-result-2 : goal.overflow_mul-result-2
overflow_mul-result-2 c = Fits-of_lt (place_small c.args.n (32 * c.args.at / c.args.n) c.args.at c.requires.length).0

pub overflow_add-result : goal.overflow_add-result
overflow_add-result c = Fits-of_lt (place_small c.args.n (32 * c.args.at / c.args.n) c.args.at c.requires.length).1

pub returns-clause-position : goal.returns-clause-position
unfolding position_at
returns-clause-position c = refl

pub returns-clause-within : goal.returns-clause-within
unfolding position_at
returns-clause-within c = position_below c.args.n c.args.at c.requires.length

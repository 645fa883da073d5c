use Rattle.std.proofs.Common.{◌*◌, ◌/◌, ◌%◌, get_or}
use Rattle.std.proofs.Math.Facts.{Fits-of_lt}
use Rattle.rate_match.proofs.Subblocks.{in_subblocks, small}
use Rattle.rate_match.proofs.Places.{place_below, place_of, position_at-place_of, turn_order}
use Rattle.rate_match.proofs.order.place_of.Goals as goal

pub returns-clause-place : goal.returns-clause-place
unfolding place_of
returns-clause-place c = position_at-place_of c.args.n c.args.position c.requires.length c.requires.below

pub returns-clause-within : goal.returns-clause-within
unfolding place_of
returns-clause-within c = place_below c.args.n c.args.position c.requires.length c.requires.below

pub overflow_mul-result : goal.overflow_mul-result
overflow_mul-result c =
    let w = c.args.n / 32 in
    Fits-of_lt (small (get_or turn_order (c.args.position / w) 0 * w) (c.args.position % w) c.args.n
    (in_subblocks c.args.n c.requires.length).limit (returns-clause-within c)).0

pub overflow_add-result : goal.overflow_add-result
overflow_add-result c =
    let w = c.args.n / 32 in
    Fits-of_lt (small (get_or turn_order (c.args.position / w) 0 * w) (c.args.position % w) c.args.n
    (in_subblocks c.args.n c.requires.length).limit (returns-clause-within c)).1

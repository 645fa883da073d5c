use Rattle.std.proofs.Common.{refl, lit<}
use Rattle.bits_core.specs.Ones.{has_one}
use Rattle.polar_kernel.proofs.Stages.{after_none}
use Rattle.polar_kernel.proofs.StagesInWords.{mask_of, one_more}
use Rattle.polar_kernel.proofs.packed.five_stages.Goals as goal

pub stage-pairs-requires-clause-mask : goal.stage-pairs-requires-clause-mask
stage-pairs-requires-clause-mask c = mask_of 1 _ refl

pub stage-fours-requires-clause-mask : goal.stage-fours-requires-clause-mask
stage-fours-requires-clause-mask c = mask_of 2 _ refl

pub stage-eights-requires-clause-mask : goal.stage-eights-requires-clause-mask
stage-eights-requires-clause-mask c = mask_of 4 _ refl

pub stage-sixteens-requires-clause-mask : goal.stage-sixteens-requires-clause-mask
stage-sixteens-requires-clause-mask c = mask_of 8 _ refl

pub stage-requires-clause-mask : goal.stage-requires-clause-mask
stage-requires-clause-mask c = mask_of 16 _ refl

pub returns : goal.returns
returns c =
    let word = has_one c.args.word in
    let pairs = has_one c.stage-pairs.result in
    let fours = has_one c.stage-fours.result in
    let eights = has_one c.stage-eights.result in
    let sixteens = has_one c.stage-sixteens.result in
    one_more 4 word sixteens (has_one c.stage.result) (lit< tt)
    (one_more 3 word eights sixteens (lit< tt)
    (one_more 2 word fours eights (lit< tt)
    (one_more 1 word pairs fours (lit< tt)
    (one_more 0 word word pairs (lit< tt) (after_none 64 word) c.stage-pairs.ensures)
    c.stage-fours.ensures)
    c.stage-eights.ensures)
    c.stage-sixteens.ensures)
    c.stage.ensures

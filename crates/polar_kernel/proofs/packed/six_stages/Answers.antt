use Rattle.std.proofs.Common.{refl, lit<}
use Rattle.bits_core.specs.Ones.{has_one}
use Rattle.polar_kernel.proofs.Stages.{after_all}
use Rattle.polar_kernel.proofs.StagesInWords.{mask_of, one_more}
use Rattle.polar_kernel.proofs.packed.six_stages.Goals as goal

pub stage-requires-clause-mask : goal.stage-requires-clause-mask
stage-requires-clause-mask c = mask_of 32 _ refl

pub returns : goal.returns
returns c =
    let word = has_one c.args.word in
    let halves = has_one c.five_stages.result in
    after_all 6 word (has_one c.stage.result)
    (one_more 5 word halves (has_one c.stage.result) (lit< tt) c.five_stages.ensures c.stage.ensures)

use Rattle.std.proofs.Common.{refl}
use Rattle.polar_kernel.proofs.StagesInWords.{half_word, mask_of}
use Rattle.polar_kernel.proofs.packed.transform_half.Goals as goal

pub returns : goal.returns
returns c = half_word c.args.words.now c.five_stages.result _ c.requires (mask_of 32 _ refl) c.five_stages.ensures

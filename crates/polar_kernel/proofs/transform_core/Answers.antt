use Rattle.polar_kernel.proofs.StagesOfLists.{none_done, partners_of, one_stage_more, all_done}
use Rattle.polar_kernel.proofs.transform_core.Goals as goal

pub loop-span-init : goal.loop-span-init
loop-span-init c = none_done c.args.word.now c.requires

pub add_partners-requires : goal.add_partners-requires
add_partners-requires c =
    partners_of c.loop-span.span c.args.word.now c.loop-span.word c.requires c.loop-span.invariant c.loop-span-test.true

pub loop-span-preserved : goal.loop-span-preserved
loop-span-preserved c =
    one_stage_more c.loop-span.span c.args.word.now c.loop-span.word c.add_partners.new.word c.requires
    c.loop-span.invariant c.loop-span-test.true c.add_partners.auto.word c.add_partners.ensures

pub returns : goal.returns
returns c = all_done c.loop-span.span c.args.word.now c.loop-span.word c.loop-span.invariant c.loop-span-test.false

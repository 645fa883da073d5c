use Rattle.std.proofs.Common.{ℕ, List, ap, ◌∙◌, arith}
use Rattle.rrc_settings.specs.HandsetsOfCell.{handset_at}
use Rattle.monitor_plan.specs.Planned.{planned}
use Rattle.monitor_plan.specs.Watches.{watches_of}
use Rattle.monitor_plan.proofs.Plans.{IsMade, plan-fits, plan_over, plan-made, made_not_over, memory_not_over, over_exactly}
use Rattle.monitor_plan.proofs.plan.Plan.of.Goals as goal

-- what the watches are
made : (c : goal.In-Ok-watches_of)
    → IsMade c.args.cell.now c.args.handset c.args.frame c.args.slot c.in-Ok-watches_of.watches.items
made c =
    plan-made c.args.cell.now c.args.handset c.args.frame c.args.slot c.sizes-sizes.result c.in-Ok.allotment
    c.in-Ok-watches_of.watches.items
    c.raw-settings.ensures.facts c.requires.handset c.sizes-sizes.ensures c.in-Ok.ensures.allotted
    (c.in-Ok-watches_of.ensures.watches
    ∙ ap (λ (xs : List ℕ). watches_of c.args.cell.now (handset_at c.args.cell.now c.args.handset) c.sizes-sizes.result
    xs) c.as_slice-places.ensures.value)
    (omega (arith, c.in-Ok-watches_of.ensures.few, c.as_slice-places.ensures.fits))

pub invariant_of-result : goal.invariant_of-result
invariant_of-result c = (made c).plan

pub returns-in-Ok-watches_of-clause-planned : goal.returns-in-Ok-watches_of-clause-planned
returns-in-Ok-watches_of-clause-planned c = (made c).planned_is

pub returns-in-Ok-watches_of-clause-over : goal.returns-in-Ok-watches_of-clause-over
returns-in-Ok-watches_of-clause-over c candidates cces =
    made_not_over (planned c.args.cell.now c.args.handset c.args.frame c.args.slot) c.in-Ok-watches_of.watches.items
    candidates cces (made c).planned_is

pub returns-in-Ok-watches_of-clause-inside : goal.returns-in-Ok-watches_of-clause-inside
returns-in-Ok-watches_of-clause-inside c = (made c).inside

pub returns-in-Err-watches_of-clause-over : goal.returns-in-Err-watches_of-clause-over
returns-in-Err-watches_of-clause-over c candidates cces =
    let h = handset_at c.args.cell.now c.args.handset in
    memory_not_over (planned c.args.cell.now c.args.handset c.args.frame c.args.slot)
    (watches_of c.args.cell.now h c.sizes-sizes.result c.in-Ok.allotment.sets.items) candidates cces
    (plan-fits c.args.cell.now c.args.handset c.args.frame c.args.slot c.sizes-sizes.result c.in-Ok.allotment
    c.sizes-sizes.ensures c.in-Ok.ensures.allotted)

pub returns-in-Err-clause-over : goal.returns-in-Err-clause-over
returns-in-Err-clause-over c candidates cces =
    over_exactly (planned c.args.cell.now c.args.handset c.args.frame c.args.slot) c.in-Err.over candidates cces
    (plan_over c.args.cell.now c.args.handset c.args.frame c.args.slot c.sizes-sizes.result c.in-Err.over
    c.sizes-sizes.ensures c.in-Err.ensures.allotted)

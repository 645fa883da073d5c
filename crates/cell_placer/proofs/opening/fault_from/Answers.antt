use Rattle.std.proofs.Common.{sym, ◌∙◌, arith}
use Rattle.monitor_plan.proofs.Plans.{plan-fits, plan_over}
use Rattle.cell_placer.specs.declared.refusal.DeskFault.TheVariants.{CommonOver, NoMemory}
use Rattle.cell_placer.proofs.Openings.{none_over, over_told, told_from}
use Rattle.cell_placer.proofs.opening.fault_from.Goals as goal

pub returns-in-Err : goal.returns-in-Err
returns-in-Err c =
    let n = c.loop-handset.handset in
    let over = c.in-Err.over in
    (c.loop-handset.invariant (CommonOver n over.candidates over.cces) (over_told (omega arith)
    (plan_over c.args.cell.now n c.args.frame c.args.slot c.sizes.result over c.sizes.ensures
    (sym c.in-Err.is ∙ c.allot.ensures.allotted)))).told

pub loop-handset-preserved : goal.loop-handset-preserved
loop-handset-preserved c fault later =
    c.loop-handset.invariant fault (told_from (omega arith)
    (plan-fits c.args.cell.now c.loop-handset.handset c.args.frame c.args.slot c.sizes.result c.in_default.field-0 c.sizes.ensures
    (sym c.in_default.is ∙ c.allot.ensures.allotted)) later)

pub returns : goal.returns
returns c = (c.loop-handset.invariant NoMemory (none_over (omega arith))).told

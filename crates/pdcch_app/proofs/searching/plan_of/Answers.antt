use Rattle.std.proofs.Common.{Err, get_or, ap, ◌∙◌}
use Rattle.rrc_settings.specs.declared.settings.RawCell.{RawCell}
use Rattle.monitor_plan.specs.declared.plan.PlanFault.{PlanFault}
use Rattle.monitor_plan.specs.Planned.{over_by}
use Rattle.pdcch_app.proofs.Listeners.{name_of, plan_read, plan_refused}
use Rattle.pdcch_app.proofs.searching.plan_of.Goals as goal

pub returns-in-Ok-clause-read : goal.returns-in-Ok-clause-read
returns-in-Ok-clause-read c =
    plan_read c.args.cell.now c.args.grid.now c.args.handset c.frame.result c.slot.result c.frame.ensures.value
    c.slot.ensures.value c.in-Ok.plan c.in-Ok.ensures.planned

pub returns-in-Err-CommonOver-clause-read : goal.returns-in-Err-CommonOver-clause-read
returns-in-Err-CommonOver-clause-read c =
    let f = c.in-Err-CommonOver in
    plan_refused c.args.cell.now c.args.grid.now c.args.handset c.frame.result c.slot.result c.frame.ensures.value
    c.slot.ensures.value
    (get_or c.as_slice.result.now c.args.handset c.index-as_slice-handset.result).name (over_by f.candidates f.cces)
    c.slot_refused.result
    (name_of c.args.cell.now c.as_slice.result.now c.args.handset c.index-as_slice-handset.result
    (c.as_slice.ensures ∙ ap (λ (raw : RawCell). raw.handsets) c.raw.ensures.value) c.requires.handset)
    ((f.ensures.over f.candidates f.cces).0 (ap (λ (e : PlanFault). Err e) f.field-0-is)) c.slot_refused.ensures

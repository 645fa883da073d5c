use Rattle.std.proofs.Common.{◌≡◌, Result, Ok, Err, ap, sym, ◌∙◌, ◌/◌, ◌%◌}
use Rattle.rrc_settings.specs.declared.settings.RawCell.{RawCell}
use Rattle.cell_placer.specs.declared.refusal.DeskFault.{DeskFault}
use Rattle.cell_placer.specs.Opened.{SlotOver, opened}
use Rattle.cell_placer.specs.Placing.{DeskValue}
use Rattle.cell_placer.proofs.Histories.{same_desk}
use Rattle.par_sweep.specs.Slots.{slot_desk}
use Rattle.par_sweep.proofs.Plans.{plans_every_slot}
use Rattle.par_sweep.proofs.slots.desk_of.Goals as goal

not_over : (d : DeskValue) (over : SlotOver) → ◌≡◌ {A = Result DeskValue SlotOver} (Ok d) (Err over) → ⊥
not_over d over e = cc

pub unreachable-requires : goal.unreachable-requires
unreachable-requires c =
    let f = c.in-Err-CommonOver in
    let t = c.args.t in
    not_over (slot_desk t) _
    (sym (plans_every_slot t).desk ∙ sym (ap (λ (x : RawCell). opened x (t / 10) (t % 10) 64) c.requires.cell)
    ∙ (f.ensures.over f.field-0-0 f.field-0-1 f.field-0-2).0 (ap (λ (e : DeskFault). Err e) f.field-0-is))

pub returns-in-Ok : goal.returns-in-Ok
returns-in-Ok c =
    let t = c.args.t in
    same_desk c.in-Ok.desk (slot_desk t)
    (sym c.in-Ok.ensures.opened ∙ ap (λ (x : RawCell). opened x (t / 10) (t % 10) 64) c.requires.cell ∙ (plans_every_slot t).desk)

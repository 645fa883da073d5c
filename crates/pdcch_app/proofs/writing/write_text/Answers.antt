use Rattle.std.proofs.Common.{◌≡◌, ◌↔◌, List, Result, Ok, Err, length, ap, subst, ◌∙◌}
use Rattle.cell_placer.specs.declared.refusal.DeskFault.{DeskFault}
use Rattle.cell_placer.specs.declared.refusal.DeskFault.TheVariants.{CommonOver}
use Rattle.cell_placer.specs.Placing.{DeskValue}
use Rattle.grant_file.specs.declared.grants.Grant.{Grant}
use Rattle.cell_placer.specs.Opened.{slot_over, opened}
use Rattle.grid_file.specs.GridText.{grid_text}
use Rattle.pdcch_app.specs.Writing.{ArePlaced}
use Rattle.pdcch_app.proofs.Placings.{fault_named, fault_ends, write_done}
use Rattle.pdcch_app.proofs.writing.write_text.Goals as goal

pub refused_by-requires : goal.refused_by-requires
refused_by-requires c = fault_named c.args.cell.now c.args.list.now c.in-Err.fault
    (λ h k x.
    let P : List Grant → Type 0 = λ gs.
    (◌≡◌ {A = Result DeskValue DeskFault} (Err c.in-Err.fault) (Err (CommonOver h k x)))
    ↔ (opened c.args.cell.now c.args.list.now.frame c.args.list.now.slot (length gs) ≡ Err (slot_over h k x))
    in
    subst P c.as_slice-grants.ensures (c.in-Err.ensures.over h k x))

pub returns-in-Err : goal.returns-in-Err
returns-in-Err c = fault_ends c.args.cell.now c.args.tables.now c.args.list.now c.in-Err.fault c.refused_by.result
    (λ h k x.
    let P : List Grant → Type 0 = λ gs.
    (◌≡◌ {A = Result DeskValue DeskFault} (Err c.in-Err.fault) (Err (CommonOver h k x)))
    ↔ (opened c.args.cell.now c.args.list.now.frame c.args.list.now.slot (length gs) ≡ Err (slot_over h k x))
    in
    subst P c.as_slice-grants.ensures (c.in-Err.ensures.over h k x))
    c.refused_by.ensures

pub returns : goal.returns
returns c =
    let P : List Grant → Type 0 = λ gs. opened c.args.cell.now c.args.list.now.frame c.args.list.now.slot (length gs)
    ≡ Ok c.in-Ok.desk in
    let Q : List Grant → Type 0 = λ gs. ArePlaced c.args.tables.now gs c.in-Ok.desk c.place_all.new.desk
    c.new-lines.result.items c.place_all.new.lines.items c.in_ok-all_placed.all_placed in
    write_done c.args.cell.now c.args.tables.now c.args.list.now
    (record { desk = c.in-Ok.desk; lines = c.new-lines.result.items })
    (record { desk = c.place_all.new.desk; lines = c.place_all.new.lines.items; all = c.in_ok-all_placed.all_placed })
    c.in_ok-text.text.items c.status_by.result c.new.result
    (subst P c.as_slice-grants.ensures c.in-Ok.ensures.opened)
    (subst Q c.as_slice-grants.ensures c.in_ok-all_placed.ensures) c.new-lines.ensures.items
    (c.in_ok-text.ensures ∙ ap grid_text c.grid.ensures.value) c.status_by.ensures c.new.ensures

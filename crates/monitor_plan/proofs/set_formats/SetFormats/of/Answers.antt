use Rattle.std.proofs.Common.{sym, subst}
use Rattle.rrc_settings.specs.HandsetsOfCell.{handset_at}
use Rattle.dci_fields.specs.declared.sizes.Sizes.{Sizes}
use Rattle.size_alignment.proofs.FittingSizes.{SetFit, set_fit}
use Rattle.monitor_plan.proofs.SetFits.{up_cut, down_cut}
use Rattle.monitor_plan.proofs.set_formats.SetFormats.of.Goals as goal

pub sized_list-requires-clause-fits : goal.sized_list-requires-clause-fits
sized_list-requires-clause-fits c size own =
    let cell = c.args.cell.now in
    let h = handset_at cell c.args.handset in
    let legal = c.raw-settings.ensures.facts in
    let fit = set_fit cell h c.args.kind legal (legal.handsets c.args.handset c.requires.handset)
    (record { up = c.requires.up; down = c.requires.down }) in
    up_cut cell h c.args.sizes.now c.args.kind c.up_size.result c.up_format.result c.widths_in-widths.result size
    (subst (λ (x : Sizes). SetFit cell h x c.args.kind) (sym c.requires.sizes) fit) c.up_size.ensures c.up_format.ensures
    c.widths_in-widths.ensures own

pub sized_list-requires-2-clause-fits : goal.sized_list-requires-2-clause-fits
sized_list-requires-2-clause-fits c size own =
    let cell = c.args.cell.now in
    let h = handset_at cell c.args.handset in
    let legal = c.raw-settings.ensures.facts in
    let fit = set_fit cell h c.args.kind legal (legal.handsets c.args.handset c.requires.handset)
    (record { up = c.requires.up; down = c.requires.down }) in
    down_cut cell h c.args.sizes.now c.args.kind c.down_size.result c.down_format.result c.widths_in-widths.result size
    (subst (λ (x : Sizes). SetFit cell h x c.args.kind) (sym c.requires.sizes) fit) c.down_size.ensures
    c.down_format.ensures c.widths_in-widths.ensures own

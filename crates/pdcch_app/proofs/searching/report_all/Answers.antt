use Rattle.std.proofs.Common.{length, ap, ◌∙◌}
use Rattle.rrc_settings.specs.declared.settings.RawCell.{RawCell}
use Rattle.rrc_settings.specs.declared.settings.Handset.{Handset}
use Rattle.std.proofs.Common.{List}
use Rattle.pdcch_app.proofs.Listeners.{ends_all}
use Rattle.pdcch_app.proofs.searching.report_all.Goals as goal

pub returns : goal.returns
returns c =
    ends_all c.args.cell.now c.args.tables.now c.args.grid.now (length c.as_slice.result.now) c.report_of.result
    (ap (λ (hs : List Handset). length hs) (c.as_slice.ensures ∙ ap (λ (raw : RawCell). raw.handsets) c.raw.ensures.value))
    c.report_of.ensures

use Rattle.std.proofs.Common.{◌≡◌, ◌<◌, ℕ, List, length, ap, sym, subst, ◌∙◌, arith}
use Rattle.rrc_settings.specs.declared.settings.RawCell.{RawCell}
use Rattle.rrc_settings.specs.declared.settings.Handset.{Handset}
use Rattle.rrc_settings.specs.HandsetsOfCell.{handset_at}
use Rattle.run_steps.specs.declared.statuses.Status.TheVariants.{SlotRefused}
use Rattle.run_steps.specs.Outcome.{refused}
use Rattle.run_steps.specs.Steps.{IsStop}
use Rattle.pdcch_app.specs.Lines.{slot_line}
use Rattle.pdcch_app.proofs.Listeners.{name_of}
use Rattle.pdcch_app.proofs.writing.over_refused.Goals as goal

pub bounds-as_slice-from : goal.bounds-as_slice-from
bounds-as_slice-from c =
    let same : length c.as_slice.result.now ≡ length c.args.cell.now.handsets =
    ap (λ (hs : List Handset). length hs) (c.as_slice.ensures ∙ ap (λ (raw : RawCell). raw.handsets) c.raw.ensures.value)
    in
    omega (arith, c.requires, same, c.from.ensures)

pub returns : goal.returns
returns c =
    let r = c.index-as_slice-from.result in
    let P : List ℕ → Type 0 = λ name. IsStop (refused SlotRefused (slot_line name c.args.candidates c.args.cces))
    c.slot_refused.result in
    let Q : ℕ → Type 0 = λ h. h < length c.args.cell.now.handsets in
    subst P
    (name_of c.args.cell.now c.as_slice.result.now c.from.result r
    (c.as_slice.ensures ∙ ap (λ (raw : RawCell). raw.handsets) c.raw.ensures.value) (subst Q (sym c.from.ensures) c.requires)
    ∙ ap (λ (h : ℕ). (handset_at c.args.cell.now h).name) c.from.ensures)
    c.slot_refused.ensures

use Rattle.std.proofs.Common.{◌≤◌, sym, subst}
use Rattle.rrc_settings.specs.declared.settings.RawCell.{RawCell}
use Rattle.cell_placer.proofs.desk.open_core.Goals as goal

pub blank-requires-clause-mu : goal.blank-requires-clause-mu
blank-requires-clause-mu c =
    let P : RawCell → Type 0 = λ r. r.mu ≤ 3 in subst P (sym c.raw-settings.ensures.value) c.raw-settings.ensures.facts.mu_most

pub blank-requires-clause-blocks_least : goal.blank-requires-clause-blocks_least
blank-requires-clause-blocks_least c =
    let P : RawCell → Type 0 = λ r. 6 ≤ r.blocks in
    subst P (sym c.raw-settings.ensures.value) c.raw-settings.ensures.facts.blocks_least

pub blank-requires-clause-blocks_most : goal.blank-requires-clause-blocks_most
blank-requires-clause-blocks_most c =
    let P : RawCell → Type 0 = λ r. r.blocks ≤ 275 in
    subst P (sym c.raw-settings.ensures.value) c.raw-settings.ensures.facts.blocks_most

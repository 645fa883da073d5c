use Rattle.std.proofs.Common.{◌≤◌, sym, subst}
use Rattle.rrc_settings.specs.declared.settings.RawCell.{RawCell}
use Rattle.pdcch_app.proofs.files.read_list.Goals as goal

pub read_grants-requires : goal.read_grants-requires
read_grants-requires c =
    let P : RawCell → Type 0 = λ r. r.mu ≤ 3 in subst P (sym c.raw.ensures.value) c.raw.ensures.facts.mu_most

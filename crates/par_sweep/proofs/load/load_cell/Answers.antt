use Rattle.std.proofs.Common.{◌≡◌, None, Some, ap, sym, ◌∙◌}
use Rattle.rrc_settings.specs.declared.place.SettingsFault.{SettingsFault}
use Rattle.rrc_settings.specs.Legal.{first_fault}
use Rattle.par_sweep.proofs.LegalLoad.{legal}
use Rattle.par_sweep.proofs.load.load_cell.Goals as goal

none_some : (fault : SettingsFault) → None ≡ Some fault → ⊥
none_some fault e = cc

pub unreachable-requires : goal.unreachable-requires
unreachable-requires c = none_some c.in-Err.field-0 (sym legal ∙ ap first_fault (sym c.raw_cell.ensures) ∙ c.in-Err.ensures.fault)

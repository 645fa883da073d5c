-- A handset as a desk knows it.
use Rattle.std.specs.Prelude.{◌≡◌, ℕ, Ok}
use Rattle.rrc_settings.specs.declared.settings.RawCell.{RawCell}
use Rattle.rrc_settings.specs.HandsetsOfCell.{handset_at}
use Rattle.monitor_plan.specs.Planned.{planned}
use Rattle.cell_placer.specs.declared.member.Member.{Member}
use Rattle.cell_placer.specs.Ledger.{IsMember}
use Rattle.cell_placer.specs.Opened.{member_of}

-- it is that of the handset at a place of the cell's list, with the watches of its plan
pub record IsMade (cell : RawCell) (handset frame slot : ℕ) (m : Member) : Type 0 where
  pub planned_is : planned cell handset frame slot ≡ Ok m.plan
  pub member : m ≡ member_of (handset_at cell handset) m.plan
  pub known : IsMember cell.blocks m

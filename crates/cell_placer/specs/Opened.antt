-- The desk of a slot before any grant.
use Rattle.std.specs.Prelude.{ℕ, List, [], ◌∷◌, ◌++◌, Result, Ok, Err, length, map}
use Rattle.std.specs.List.{range_with_len}
use Rattle.rrc_settings.specs.declared.settings.RawCell.{RawCell}
use Rattle.rrc_settings.specs.declared.settings.Handset.{Handset}
use Rattle.rrc_settings.specs.declared.settings.SearchSet.{SearchSet}
use Rattle.rrc_settings.specs.HandsetsOfCell.{handset_at}
use Rattle.slot_grid.specs.Image.{blank_grid}
use Rattle.monitor_budget.specs.declared.allotment.CommonOver.{CommonOver as Over}
use Rattle.monitor_plan.specs.declared.watch.Watch.{Watch}
use Rattle.monitor_plan.specs.Planned.{planned}
use Rattle.cell_placer.specs.declared.member.Member.{Member}
use Rattle.cell_placer.specs.Placing.{DeskValue}

-- a slot in which the common sets of a handset exceed a limit: the handset's place in the cell's list, with both counts
pub record SlotOver : Type 0 where
  pub handset : ℕ
  pub over : Over

-- the record of these
abbrev pub slot_over : ℕ → ℕ → ℕ → SlotOver
slot_over handset candidates cces = record { handset = handset; over = record { candidates = candidates; cces = cces } }

-- a handset with its watches
abbrev pub member_of : Handset → List Watch → Member
member_of h watches = record {
  name = h.name;
  sets = record { items = map (λ (s : SearchSet). s.number) h.sets.items };
  plan = watches;
}

-- behind some handsets
abbrev pub behind : List Member → Result (List Member) SlotOver → Result (List Member) SlotOver
behind members (Ok rest) = Ok (members ++ rest)
behind members (Err over) = Err over

-- the handset at a place before the others, by its plan
abbrev pub before : RawCell → ℕ → Result (List Watch) Over → Result (List Member) SlotOver → Result (List Member) SlotOver
before cell handset (Ok watches) rest = behind (member_of (handset_at cell handset) watches ∷ []) rest
before cell handset (Err over) rest = Err (record { handset = handset; over = over })

-- the handsets at some places of the cell's list, or the first of them whose common sets exceed a limit
unfoldable pub members_at : RawCell → ℕ → ℕ → List ℕ → Result (List Member) SlotOver
members_at cell frame slot [] = Ok []
members_at cell frame slot (handset ∷ handsets) =
    before cell handset (planned cell handset frame slot) (members_at cell frame slot handsets)

-- the desk with these handsets, no call and no point
abbrev pub new_desk : RawCell → ℕ → ℕ → ℕ → Result (List Member) SlotOver → Result DeskValue SlotOver
new_desk cell frame slot room (Ok members) =
    Ok (record {
      ledger = record { blocks = cell.blocks; members = members; room = room; calls = 0; accepted = [] };
      grid = blank_grid cell.mu frame slot cell.blocks;
    })
new_desk cell frame slot room (Err over) = Err over

-- the desk of a slot, or the first handset whose common sets exceed a limit
abbrev pub opened : RawCell → ℕ → ℕ → ℕ → Result DeskValue SlotOver
opened cell frame slot room =
    new_desk cell frame slot room (members_at cell frame slot (range_with_len 0 (length cell.handsets)))

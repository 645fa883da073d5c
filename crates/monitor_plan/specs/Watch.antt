-- A watch of a handset: the formats that fit it, their fields, and what each watch of a plan keeps.
use Rattle.std.specs.Prelude.{◌≡◌, ◌↔◌, ◌==◌, ℕ, ◌+◌, ◌*◌, ◌^◌, ◌<◌, ◌≤◌, Bool, true, ◌&&◌, List, [], None, is_some}
use Rattle.std.specs.Prelude.{unwrap_or, length, IfSome, IsTrue, All, slice_index_or}
use Rattle.std.specs.List.{list_any}
use Rattle.rrc_settings.specs.declared.settings.SetKind.TheVariants as kinds
use Rattle.rrc_settings.specs.AggregationLevels.{is_level}
use Rattle.rrc_settings.specs.SetKinds.{is_specific}
use Rattle.dci_fields.specs.declared.formats.Format.{Format}
use Rattle.dci_fields.specs.declared.formats.Format.TheVariants.{F00, F10, Order, F01, F11}
use Rattle.dci_fields.specs.declared.rows.FieldRow.{FieldRow}
use Rattle.dci_fields.specs.FieldLists.{width_of, IsFieldList}
use Rattle.dci_fields.specs.FittedRows.{order_of, HasRoomForOrder}
use Rattle.dci_fields.specs.FormatsOfSets.{is_for_fallback}
use Rattle.coreset_map.specs.declared.places.Reg.{Reg}
use Rattle.coreset_map.specs.RegOrder.{AreInside, AreRegs, reg_at}
use Rattle.monitor_plan.specs.declared.watch.Watch.{Watch}

-- whether a format fits a watch: its set is for the format, and the format has the watch's size there
abbrev pub fits : Watch → Format → Bool
fits w F00 = is_for_fallback w.kind && is_some w.up
fits w F10 = is_for_fallback w.kind && is_some w.down
fits w Order = is_for_fallback w.kind && is_some w.down
fits w F01 = is_specific w.kind && is_some w.up
fits w F11 = is_specific w.kind && is_some w.down

-- the fields of a format at a watch
abbrev pub list_of : Watch → Format → List FieldRow
list_of w F00 = unwrap_or w.up []
list_of w F10 = unwrap_or w.down []
list_of w Order = order_of (unwrap_or w.down [])
list_of w F01 = unwrap_or w.up []
list_of w F11 = unwrap_or w.down []

-- what a watch keeps that carries a payload of any content, of 12 to 128 bits that its CCEs have room for with their parity
pub record IsCarrying (w : Watch) : Type 0 where
  pub level : is_level w.level ≡ true
  pub count : length w.regs.items ≡ 6 * w.level
  pub order : AreRegs w.regs.items
  pub scramble : w.scramble < 2 ^ 31
  pub shortest : 12 ≤ w.size
  pub longest : w.size ≤ 128
  pub room : w.size + 24 ≤ 108 * w.level

-- what each watch of a plan keeps: it carries payloads, and its lists are of formats of downlink control information of its size
pub record IsSound (w : Watch) : Type 0 where
  pub carrying : IsCarrying w
  pub least : 23 ≤ w.size
  pub most : w.size ≤ 84
  pub up : IfSome w.up (λ rows. width_of rows ≤ w.size)
  pub down : IfSome w.down (λ rows. width_of rows ≤ w.size)
  pub up_list : IfSome w.up IsFieldList
  pub down_list : IfSome w.down IsFieldList
  pub fallback : is_for_fallback w.kind ≡ true → IfSome w.down (HasRoomForOrder w.size)

-- the REGs of a watch are in the slot, on a carrier of so many blocks
abbrev pub IsInside : ℕ → Watch → Type 0
IsInside blocks w = AreInside w.symbol blocks w.regs.items

-- whether a watch has the REG of the slot in this symbol and block
abbrev pub has_reg : Watch → ℕ → ℕ → Bool
has_reg w symbol block = list_any (λ (r : Reg). w.symbol + r.symbol == symbol && r.block == block) w.regs.items

-- whether two watches share a REG of the slot
abbrev pub shares_reg : Watch → Watch → Bool
shares_reg a b = list_any (λ (r : Reg). has_reg b (a.symbol + r.symbol) r.block) a.regs.items

-- two watches share a REG of the slot: one of the first stands in the symbol and the block of one of the second
pub record SharesReg (a b : Watch) : Type 0 where
  pub reg : ℕ
  pub other : ℕ
  pub within : reg < length a.regs.items
  pub other_within : other < length b.regs.items
  pub symbol : a.symbol + (reg_at a.regs.items reg).symbol ≡ b.symbol + (reg_at b.regs.items other).symbol
  pub block : (reg_at a.regs.items reg).block ≡ (reg_at b.regs.items other).block

-- the test tells whether they do
abbrev pub TellsSharedRegs : Type 0
TellsSharedRegs = (a b : Watch) → (shares_reg a b ≡ true) ↔ SharesReg a b

-- a watch of nothing
abbrev pub no_watch : Watch
no_watch = record {
  set = 0;
  kind = kinds.Common;
  symbol = 0;
  level = 0;
  candidate = 0;
  size = 0;
  up = None;
  down = None;
  regs = record { items = [] };
  dmrs_id = 0;
  scramble = 0;
  rnti = 0;
}

-- watch i of a list
abbrev pub watch_at : List Watch → ℕ → Watch
watch_at watches i = slice_index_or watches i no_watch

-- the watches of one set that a format fits have one list of its fields, and one size
abbrev pub AreAlike : List Watch → Type 0
AreAlike watches =
    (i j : ℕ) (format : Format) → i < length watches → j < length watches → (watch_at watches i).set ≡ (watch_at watches j).set
    → IsTrue (fits (watch_at watches i) format) → IsTrue (fits (watch_at watches j) format)
    → (list_of (watch_at watches i) format ≡ list_of (watch_at watches j) format)
    × ((watch_at watches i).size ≡ (watch_at watches j).size)

-- what the watches of a plan keep; they are few: of ten sets at most, each with eight candidates at most at each of 14 symbols
-- and five levels, and in two sizes at most
pub record IsPlan (watches : List Watch) : Type 0 where
  pub sound : All IsSound watches
  pub alike : AreAlike watches
  pub few : length watches ≤ 11200

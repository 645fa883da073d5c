-- Of the search, not of the standard: the codes that it keeps for the watches that come next.
use Rattle.std.specs.Prelude.{◌≡◌, ◌+◌, ◌*◌, Option, IfSome, MatchOption, cond}
use Rattle.monitor_plan.specs.declared.watch.Watch.{Watch}
use Rattle.polar_chain.specs.CodeShape.{CodeShape, IsByTables}
use Rattle.table_files.specs.declared.tables.Tables.{Tables}
use Rattle.dci_codec.specs.declared.codes.Codes.{Codes}

-- a code is by two tables, for the numbers of bits that it has
abbrev pub IsBy : Tables → CodeShape → Type 0
IsBy tables s = IsByTables tables.reliability tables.input_order s.block_len s.coded_len s

-- each code that is kept is by these tables
pub record AreOf (tables : Tables) (codes : Codes) : Type 0 where
  pub first : IfSome codes.first (IsBy tables)
  pub second : IfSome codes.second (IsBy tables)

-- the code that was needed last
abbrev pub last_of : Codes → Option CodeShape
last_of codes = cond codes.is_second_last codes.second codes.first

-- a code is for the blocks at a watch
pub record IsFor (watch : Watch) (s : CodeShape) : Type 0 where
  pub block_is : s.block_len ≡ watch.size + 24
  pub coded_is : s.coded_len ≡ 108 * watch.level

-- there is a code, and it is for the blocks at a watch
abbrev pub IsThereFor : Watch → Option CodeShape → Type 0
IsThereFor watch known = MatchOption known ⊥ (IsFor watch)

-- there is a code, and it is that at a watch by these tables
abbrev pub IsAt : Tables → Watch → Option CodeShape → Type 0
IsAt tables watch known =
    MatchOption known ⊥ (IsByTables tables.reliability tables.input_order (watch.size + 24) (108 * watch.level))

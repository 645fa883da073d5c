-- The codes that a search keeps.
use Rattle.std.proofs.Common.{◌≡◌, ℕ, ◌+◌, ◌*◌, true, Option, Some, None, IfSome, is_some, refl, sym, subst}
use Rattle.std.proofs.lemmas.Option.{MatchOption-at_some}
use Rattle.monitor_plan.specs.declared.watch.Watch.{Watch}
use Rattle.polar_chain.specs.CodeShape.{CodeShape, IsByTables}
use Rattle.table_files.specs.declared.tables.Tables.{Tables}
use Rattle.dci_codec.specs.KnownCodes.{IsAt, IsBy, IsFor, IsThereFor}

-- a code by two tables is by them for the numbers of bits that it has
pub by_own : (tables : Tables) (k e : ℕ) (s : CodeShape) → IsByTables tables.reliability tables.input_order k e s → IsBy tables s
by_own tables k e s by =
    subst (λ (m : ℕ). IsByTables tables.reliability tables.input_order m s.coded_len s) (sym by.block_is)
    (subst (λ (m : ℕ). IsByTables tables.reliability tables.input_order k m s) (sym by.coded_is) by)

-- and for those of a watch, where they are the same
by_watch : (tables : Tables) (watch : Watch) (s : CodeShape) → IsBy tables s → IsFor watch s
    → IsByTables tables.reliability tables.input_order (watch.size + 24) (108 * watch.level) s
by_watch tables watch s by at =
    subst (λ (m : ℕ). IsByTables tables.reliability tables.input_order m (108 * watch.level) s) at.block_is
    (subst (λ (m : ℕ). IsByTables tables.reliability tables.input_order s.block_len m s) at.coded_is by)

-- a code that is kept and is for the blocks at a watch is that at the watch
pub kept_at : (tables : Tables) (watch : Watch) (known : Option CodeShape) → IfSome known (IsBy tables) → IsThereFor watch known
    → IsAt tables watch known
kept_at tables watch None kept at = elim at [ ]
kept_at tables watch (Some s) kept at = by_watch tables watch s kept at

-- the code at a watch is by the tables
pub kept_from : (tables : Tables) (watch : Watch) (known : Option CodeShape) → IsAt tables watch known
    → IfSome known (IsBy tables)
kept_from tables watch None at = elim at [ ]
kept_from tables watch (Some s) at = by_own tables (watch.size + 24) (108 * watch.level) s at

-- the code at a watch is there
pub at_some : (tables : Tables) (watch : Watch) (known : Option CodeShape) → IsAt tables watch known → is_some known ≡ true
at_some tables watch None at = elim at [ ]
at_some tables watch (Some s) at = refl

-- and it is that at the watch
pub last_by : (tables : Tables) (watch : Watch) (known : Option CodeShape) (s : CodeShape) → IsAt tables watch known
    → known ≡ Some s → IsByTables tables.reliability tables.input_order (watch.size + 24) (108 * watch.level) s
last_by tables watch known s at is =
    MatchOption-at_some ⊥ (IsByTables tables.reliability tables.input_order (watch.size + 24) (108 * watch.level)) s is at

-- What each file has to be: legal settings, two tables, grants of a slot that the cell has, and a grid of the cell.
use Rattle.std.specs.Prelude.{ℕ, ◌==◌, cond, List, Some, None, Result, Ok, Err, codes}
use Rattle.grant_file.specs.declared.grants.GrantList.{GrantList}
use Rattle.grant_file.specs.Faults as grants
use Rattle.grant_file.specs.First.{first_fault_in as first_grants_fault, grants_in}
use Rattle.grid_file.specs.FoundGrid.{reading_of}
use Rattle.rrc_settings.specs.Faults.{Finding}
use Rattle.rrc_settings.specs.declared.settings.RawCell.{RawCell}
use Rattle.settings_json.specs.First.{first_fault_in, raw_in}
use Rattle.slot_grid.specs.Grid.{GridValue}
use Rattle.table_files.specs.TableText.{read_table}
use Rattle.table_files.specs.declared.fault.TableFault.{TableFault}
use Rattle.run_steps.specs.Outcome.{Refusal, BadSettings, BadTable, BadGrants, BadGrid}
use Rattle.pdcch_app.specs.Lines.{settings_line, reliability_line, input_order_line, grants_line, grid_place_line}
use Rattle.pdcch_app.specs.Lines.{grid_number_line}

-- legal settings, or why they are refused
abbrev pub settings_found : Finding → RawCell → Result RawCell Refusal
settings_found (Some fault) settings = Err (record { cause = BadSettings; line = settings_line fault })
settings_found None settings = Ok settings

-- the settings that bytes give, or their refusal
unfoldable pub settings_of : List ℕ → Result RawCell Refusal
settings_of bytes = settings_found (first_fault_in bytes) (raw_in bytes)

-- the numbers of a table, or why it is refused
abbrev pub table_found : (TableFault → List ℕ) → Result (List ℕ) TableFault → Result (List ℕ) Refusal
table_found line (Ok numbers) = Ok numbers
table_found line (Err fault) = Err (record { cause = BadTable; line = line fault })

-- the 1,024 numbers of a reliability table
unfoldable pub reliability_of : List ℕ → Result (List ℕ) Refusal
reliability_of bytes = table_found reliability_line (read_table 1024 bytes)

-- the 164 numbers of an input order
unfoldable pub input_order_of : List ℕ → Result (List ℕ) Refusal
input_order_of bytes = table_found input_order_line (read_table 164 bytes)

-- the grants of a slot, where a frame has as many slots as the cell's numerology says, or why they are refused
abbrev pub grants_found : grants.Finding → GrantList → Result GrantList Refusal
grants_found (Some fault) list = Err (record { cause = BadGrants; line = grants_line fault })
grants_found None list = Ok list

-- the grants that bytes give for a cell, or their refusal
unfoldable pub grants_of : RawCell → List ℕ → Result GrantList Refusal
grants_of cell bytes = grants_found (first_grants_fault cell.mu bytes) (grants_in bytes)

-- a grid of the cell's numerology and then blocks, or why it is refused
abbrev pub grid_fitting : RawCell → GridValue → Result GridValue Refusal
grid_fitting cell grid =
    cond (grid.mu == cell.mu)
    (cond (grid.blocks == cell.blocks) (Ok grid)
    (Err (record { cause = BadGrid; line = grid_number_line (codes "blocks") grid.blocks cell.blocks })))
    (Err (record { cause = BadGrid; line = grid_number_line (codes "mu") grid.mu cell.mu }))

-- the grid that was read, or the place where the bytes leave every grid's text
abbrev pub grid_read : RawCell → Result GridValue ℕ → Result GridValue Refusal
grid_read cell (Ok grid) = grid_fitting cell grid
grid_read cell (Err at) = Err (record { cause = BadGrid; line = grid_place_line at })

-- the grid that bytes give for a cell, or their refusal
unfoldable pub grid_of : RawCell → List ℕ → Result GridValue Refusal
grid_of cell bytes = grid_read cell (reading_of bytes)

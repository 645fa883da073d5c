-- The promises of a run of the program.
use Rattle.std.proofs.Common.{◌≡◌, ℕ, true, List, [], ◌∷◌, Option, Ok, length, refl, ap, ◌∙◌}
use Rattle.settings_json.specs.First.{raw_in}
use Rattle.rrc_settings.specs.declared.settings.RawCell.{RawCell}
use Rattle.slot_grid.specs.Grid.{GridValue}
use Rattle.table_files.specs.declared.tables.Tables.{Tables}
use Rattle.cell_placer.specs.Opened.{opened}
use Rattle.cell_placer.specs.Placing.{DeskValue}
use Rattle.grant_file.specs.First.{grants_in}
use Rattle.grant_file.specs.declared.grants.GrantList.{GrantList}
use Rattle.run_steps.specs.Outcome.{Fetched, given_of, ended}
use Rattle.pdcch_app.specs.declared.words.Command.TheVariants.{Search}
use Rattle.pdcch_app.specs.Causes.{AreGrants, ReadTables}
use Rattle.pdcch_app.specs.Promises.{WritesEveryList, SearchesEveryGrid}
use Rattle.pdcch_app.specs.Reporting.{Listener, reported, listeners_of, reported_text, heard_by, heard_of_all, searched}
use Rattle.pdcch_app.specs.Words.{handset}
use Rattle.pdcch_app.specs.Writing.{placed_on, written_on, written}
use Rattle.pdcch_app.proofs.InOrder.{grants_on, grid_given, read_within, tables_read}

written_desk : (cell : RawCell) (tables : Tables) (list : GrantList) (desk : DeskValue)
    → opened cell list.frame list.slot (length list.grants) ≡ Ok desk
    → written cell tables list ≡ Ok (placed_on tables list.grants desk)
unfolding written
written_desk cell tables list desk e = ap (written_on cell tables list.grants) e

-- `write` prints the grid of every legal list of grants, and the lines of the refused ones
pub writes_every_list : WritesEveryList
writes_every_list words settings reliability input_order grants tables desk w hs hr hi hg s r i j o =
    let gave : List Fetched = given_of settings ∷ given_of reliability ∷ given_of input_order ∷ given_of grants ∷ [] in
    let cell = raw_in settings in
    let list = grants_in grants in
    let before = tables_read settings reliability input_order cell tables (given_of grants ∷ []) hs hr hi
    (record { sound = s; is = refl }) r i in
    grants_on words gave cell tables list w
    (read_within (AreGrants cell) (ReadTables gave cell tables) list [] grants hg before (record { sound = j; is = refl }))
    ∙ ap ended (written_desk cell tables list desk o)

searched_all : (cell : RawCell) (tables : Tables) (grid : GridValue) (named : Option (List ℕ)) (handsets : List ℕ)
    (listeners : List Listener)
    → reported cell named ≡ Ok handsets → listeners_of cell grid.frame grid.slot handsets ≡ Ok listeners
    → searched cell tables grid named ≡ Ok (record { whole = true; out = reported_text cell tables grid listeners; err = [] })
unfolding searched
searched_all cell tables grid named handsets listeners r l =
    ap (heard_of_all cell tables grid) r ∙ ap (heard_by cell tables grid) l

-- `search` prints the report of every grid of the cell
pub searches_every_grid : SearchesEveryGrid
searches_every_grid words settings reliability input_order grid tables points handsets listeners w hs hr hi hg s r i g mu
    blocks n l =
    let cell = raw_in settings in
    grid_given words settings reliability input_order grid Search cell tables points w refl hs hr hi hg
    (record { sound = s; is = refl }) r i (record { is = g; mu = mu; blocks = blocks })
    ∙ ap ended (searched_all cell tables points (handset words) handsets listeners n l)

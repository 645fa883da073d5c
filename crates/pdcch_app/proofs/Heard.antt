-- What `write` prints, `search` hears.
use Rattle.std.proofs.Common.{◌≡◌, ℕ, zero, suc, ◌*◌, ◌^◌, ◌<◌, ◌≤◌, inl, inr, refl, sym, ap, subst, ◌∙◌, arith}
use Rattle.std.specs.Prelude.{List, [], ◌∷◌, Option, Some, None, Result, Ok, All, length, map, bytes_eq}
use Rattle.std.specs.List.{Contains, range_with_len}
use Rattle.std.proofs.lemmas.List.{get_or-map, length-map}
use Rattle.std.proofs.lemmas.List.Elements.{All-head, All-tail}
use Rattle.std.proofs.lemmas.List.FromFn.{length-range_with_len, get_or-range_with_len}
use Rattle.std.proofs.lemmas.List.Quantifiers.{position-Some}
use Rattle.rrc_settings.specs.declared.settings.RawCell.{RawCell}
use Rattle.rrc_settings.specs.declared.settings.Handset.{Handset}
use Rattle.rrc_settings.specs.Legal.{IsLegal}
use Rattle.rrc_settings.specs.HandsetsOfCell.{no_handset}
use Rattle.settings_json.specs.First.{raw_in}
use Rattle.settings_json.proofs.NoFault.{legal_read}
use Rattle.slot_grid.specs.Grid.{GridValue, IsGrid}
use Rattle.grid_file.specs.GridText.{grid_text}
use Rattle.grid_file.proofs.BlankGrids.{blank_is}
use Rattle.grid_file.proofs.FoundGrids.{reads_written}
use Rattle.grid_file.proofs.TextSizes.{text_fits}
use Rattle.table_files.specs.declared.tables.Tables.{Tables}
use Rattle.table_files.proofs.ReadTables.{read_is_table}
use Rattle.rrc_settings.proofs.LegalCell.{legal_cell}
use Rattle.monitor_plan.specs.Watch.{watch_at}
use Rattle.monitor_plan.specs.Planned.{planned}
use Rattle.dci_codec.specs.Hearing.{heard_of}
use Rattle.dci_codec.specs.Spelled.{spelling_by}
use Rattle.blind_search.proofs.Reports.{report_has}
use Rattle.grant_file.specs.declared.grants.Grant.{Grant}
use Rattle.grant_file.specs.First.{grants_in}
use Rattle.grant_file.proofs.SlotLists.{slot_read}
use Rattle.cell_placer.specs.declared.member.Member.{Member}
use Rattle.cell_placer.specs.declared.refusal.Placed.{Placed}
use Rattle.cell_placer.specs.Ledger.{member_at}
use Rattle.cell_placer.specs.OpenedDesk.{IsOpened}
use Rattle.cell_placer.specs.Placing.{DeskValue, desk_after}
use Rattle.cell_placer.proofs.NamedHandsets.{IsHeardBy, heard_by}
use Rattle.cell_placer.proofs.OpenedDesks.{opens_a_desk}
use Rattle.cell_placer.proofs.WrittenGrids.{all_written}
use Rattle.run_steps.specs.Outcome.{Outcome, given_of, Refusal}
use Rattle.pdcch_app.specs.Hearing.{IsReported, StandsInReport, HearsWhatIsWritten}
use Rattle.pdcch_app.specs.Outcomes.{outcome}
use Rattle.pdcch_app.specs.Reporting.{Listener, handset_named, only_handset, reported, listener_before, listeners_of}
use Rattle.pdcch_app.specs.Words.{handset}
use Rattle.pdcch_app.proofs.RunPromises.{writes_every_list, searches_every_grid}

-- a handset of a cell with its watches on a desk
abbrev listening : List Member → ℕ → Listener
listening members handset = record { handset = handset; watches = (member_at members handset).plan }

-- handsets are some of a cell's
abbrev pub AreHandsets : RawCell → List ℕ → Type 0
AreHandsets cell handsets = All (λ handset. handset < length cell.handsets) handsets

-- handsets of a cell listen with their watches on a desk of the slot
all_listen : (cell : RawCell) (frame slot : ℕ) (desk : DeskValue) (handsets : List ℕ) → IsOpened cell frame slot desk
    → AreHandsets cell handsets
    → listeners_of cell frame slot handsets ≡ Ok (map (listening desk.ledger.members) handsets)
all_listen cell frame slot desk [] known within = refl
all_listen cell frame slot desk (first ∷ others) known within =
    let here : first < length cell.handsets = All-head (λ handset. handset < length cell.handsets) first others within in
    let later = all_listen cell frame slot desk others known
    (All-tail (λ handset. handset < length cell.handsets) first others within) in
    ap (λ (rest : Result (List Listener) Refusal). listener_before cell first (planned cell first frame slot) rest) later
    ∙ ap (λ plan. listener_before cell first plan (Ok (map (listening desk.ledger.members) others)))
    (known.each first here).planned_is

-- the reported handsets are those of the cell, or the named one
same_handsets : (xs ys : List ℕ) → ◌≡◌ {A = Result (List ℕ) Refusal} (Ok xs) (Ok ys) → xs ≡ ys
same_handsets xs ys e = cc

only_within : (cell : RawCell) (word : List ℕ) (found : Option ℕ) (handsets : List ℕ) → handset_named cell word ≡ found
    → only_handset word found ≡ Ok handsets
    → AreHandsets cell handsets
only_within cell word (Some handset) handsets e h =
    let there = position-Some (λ (x : Handset). bytes_eq x.name word) cell.handsets handset no_handset e in
    subst (AreHandsets cell) (same_handsets (handset ∷ []) handsets h) (one there.0)
  where
    one : handset < length cell.handsets → AreHandsets cell (handset ∷ [])
    one l zero d m = l
    one l (suc i) d m = absurd (omega (arith, m))
only_within cell word None handsets e h = absurd (let f : ⊥ = cc in f)

-- the reported handsets are some of the cell's
pub reported_within : (cell : RawCell) (named : Option (List ℕ)) (handsets : List ℕ) → reported cell named ≡ Ok handsets
    → AreHandsets cell handsets
reported_within cell (Some word) handsets h = only_within cell word (handset_named cell word) handsets refl h
reported_within cell None handsets h =
    let n = length cell.handsets in
    subst (AreHandsets cell) (same_handsets (range_with_len 0 n) handsets h)
    (λ i d l.
    let m : i < n = omega (arith, l, length-range_with_len 0 n) in
    omega (arith, m, get_or-range_with_len 0 n i d m))

-- the handset of a reported grant is one of them
reported_has : (cell : RawCell) (named : Option (List ℕ)) (handsets : List ℕ) (grant : Grant) (handset : ℕ)
    → reported cell named ≡ Ok handsets
    → handset_named cell grant.handset ≡ Some handset → handset < length cell.handsets → IsReported named grant
    → Contains handsets handset
reported_has cell named handsets grant handset h e l (inl none) =
    let n = length cell.handsets in
    let all = same_handsets (range_with_len 0 n) handsets (sym (ap (reported cell) none) ∙ h) in
    subst (λ (xs : List ℕ). Contains xs handset) all
    (handset, omega (arith, l, length-range_with_len 0 n), get_or-range_with_len 0 n handset handset l ∙ omega arith)
reported_has cell named handsets grant handset h e l (inr own) =
    let one = same_handsets (handset ∷ []) handsets (sym (ap (reported cell) own ∙ ap (only_handset grant.handset) e) ∙ h) in
    subst (λ (xs : List ℕ). Contains xs handset) one (0, omega arith, refl)

-- so its listener is one of theirs
listener_among : (members : List Member) (handsets : List ℕ) (handset : ℕ) → Contains handsets handset
    → Contains (map (listening members) handsets) (listening members handset)
listener_among members handsets handset (i, l, e) = (
  i,
  omega (arith, l, length-map handsets (listening members)),
  get_or-map (listening members) handsets i handset (listening members handset) l ∙ ap (listening members) e,
)

-- an accepted grant of a reported handset stands in the report
stands : (cell : RawCell) (tables : Tables) (members : List Member) (grid : GridValue) (named : Option (List ℕ))
    (handsets : List ℕ) (grant : Grant) (placed : Placed)
    → reported cell named ≡ Ok handsets → IsHeardBy cell tables members grid grant placed → IsReported named grant
    → StandsInReport cell tables grid (map (listening members) handsets) grant placed
stands cell tables members grid named handsets grant placed r h own =
    let watches = (member_at members h.handset).plan in
    let watch = watch_at watches placed.watch in
    record {
      listener = listening members h.handset;
      among = listener_among members handsets h.handset (reported_has cell named handsets grant h.handset r h.named h.within own);
      name = h.name;
      entry =
          report_has tables grid watches placed.watch
          (heard_of watch placed.watch (spelling_by watch grant.format grant.given)) h.watch h.heard.1;
    }

-- the grid of a new desk of a legal cell is a grid
blank_legal : (cell : RawCell) (frame slot : ℕ) (desk : DeskValue) → IsLegal cell → IsOpened cell frame slot desk
    → frame ≤ 1023 → slot < 10 * 2 ^ cell.mu
    → IsGrid desk.grid
blank_legal cell frame slot desk legal known f s =
    let facts = legal_cell cell legal in
    subst IsGrid (sym known.blank)
    (blank_is cell.mu frame slot cell.blocks facts.mu_most f s facts.blocks_least facts.blocks_most)

-- the output of `write` is the text of the grid that the grants leave, which `search` reads
pub hears_what_is_written : HearsWhatIsWritten
hears_what_is_written to_write to_search settings reliability input_order grants tables desk handsets w s hs hr hi hg none r
    i j o n =
    let cell = raw_in settings in
    let list = grants_in grants in
    let grid = (desk_after tables desk list.grants).grid in
    let legal = legal_read settings none in
    let known = opens_a_desk cell list.frame list.slot (length list.grants) desk legal o in
    let here = slot_read cell.mu grants j in
    let like = all_written tables desk list.grants
    (blank_legal cell list.frame list.slot desk legal known here.frame_most here.slot_below) in
    let frame : grid.frame ≡ list.frame = like.frame ∙ ap (λ (g : GridValue). g.frame) known.blank in
    let slot : grid.slot ≡ list.slot = like.slot ∙ ap (λ (g : GridValue). g.slot) known.blank in
    let listeners = map (listening desk.ledger.members) handsets in
    let listen : listeners_of cell grid.frame grid.slot handsets ≡ Ok listeners =
    ap (λ (k : ℕ). listeners_of cell k grid.slot handsets) frame ∙ ap (λ (k : ℕ). listeners_of cell list.frame k handsets) slot
    ∙ all_listen cell list.frame list.slot desk handsets known (reported_within cell (handset to_search) handsets n) in
    let few = text_fits grid like.grid in
    let printed = ap (λ (x : Outcome). x.out)
    (writes_every_list to_write settings reliability input_order grants tables desk w hs hr hi hg none r i j o) in
    record {
      listeners = listeners;
      are = listen;
      is =
          ap (λ (text : List ℕ). outcome to_search
          (given_of settings ∷ given_of reliability ∷ given_of input_order ∷ given_of text ∷ [])) printed
          ∙ searches_every_grid to_search settings reliability input_order (grid_text grid) tables grid handsets listeners s
          hs hr hi (omega (arith, few))
          none r i (reads_written grid like.grid) (like.mu ∙ ap (λ (g : GridValue). g.mu) known.blank)
          (like.blocks ∙ ap (λ (g : GridValue). g.blocks) known.blank) n listen;
      each = λ k grant placed e f own.
          stands cell tables desk.ledger.members grid (handset to_search) handsets grant placed n
          (heard_by cell list.frame list.slot tables desk list.grants k grant placed
          (read_is_table 1024 reliability tables.reliability r, read_is_table 164 input_order tables.input_order i) known e
          f) own;
    }

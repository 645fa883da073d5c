-- Grants that are placed one after the other.
use Rattle.std.proofs.Common.{◌≡◌, ◌↔◌, ℕ, ◌+◌, ◌<◌, ◌≤◌, Bool, true, false, cond, ◌&&◌, List, [], ◌∷◌, ◌++◌, Result}
use Rattle.std.proofs.Common.{Ok, Err, length, drop, get_or, refl, ap, sym, ◌∙◌, arith}
use Rattle.std.specs.List.{list_all}
use Rattle.std.proofs.lemmas.List.{drop_more, drop_all, append-nil, append_assoc}
use Rattle.grant_file.specs.declared.grants.Grant.{Grant}
use Rattle.table_files.specs.declared.tables.Tables.{Tables}
use Rattle.dci_codec.specs.declared.codes.Codes.{Codes}
use Rattle.dci_codec.specs.KnownCodes.{AreOf}
use Rattle.cell_placer.specs.declared.refusal.Placed.{Placed}
use Rattle.cell_placer.specs.declared.refusal.Refusal.{Refusal}
use Rattle.cell_placer.specs.Fate.{decided, fate}
use Rattle.cell_placer.specs.Placing.{DeskValue, step, fates, desk_after}
use Rattle.report_text.specs.Refusal.{refusal_line}
use Rattle.rrc_settings.specs.declared.settings.RawCell.{RawCell}
use Rattle.rrc_settings.specs.HandsetsOfCell.{handset_at}
use Rattle.grant_file.specs.declared.grants.GrantList.{GrantList}
use Rattle.grid_file.specs.GridText.{grid_text}
use Rattle.cell_placer.specs.declared.refusal.DeskFault.{DeskFault}
use Rattle.cell_placer.specs.declared.refusal.DeskFault.TheVariants.{CommonOver, NoMemory}
use Rattle.cell_placer.specs.Opened.{SlotOver, slot_over, opened}
use Rattle.run_steps.specs.declared.statuses.Status.{Status}
use Rattle.run_steps.specs.declared.statuses.Status.TheVariants as ends
use Rattle.run_steps.specs.declared.stops.Stop.{Stop}
use Rattle.run_steps.specs.declared.stops.Stop.TheVariants.{OutOfMemory, Ended}
use Rattle.run_steps.specs.Outcome.{Outcome, refused, ended}
use Rattle.run_steps.specs.Steps.{Ends, IsStop}
use Rattle.pdcch_app.specs.Lines.{slot_line}
use Rattle.pdcch_app.specs.Writing.{is_placed, answer_line, refusal_lines, written_on, written, ArePlaced, NamesHandset}
use Rattle.pdcch_app.specs.Writing.{IsRefusedBy}
use Rattle.pdcch_app.proofs.Exceeding.{over_within}
use Rattle.list_facts.proofs.Tests.{and_true, and_false, and_grouped}
use Rattle.cell_placer.proofs.GrantByGrant.{calls_more, desk_more, fates_more, desk_none, fates_none}

-- a desk before its first grant, with the lines that stand before those of its grants
pub record Start : Type 0 where
  pub desk : DeskValue
  pub lines : List ℕ

-- a desk with some grants placed, the lines so far, and whether all of these were placed
pub record Now : Type 0 where
  pub desk : DeskValue
  pub lines : List ℕ
  pub all : Bool

-- the first grants were placed: with the others on the desk as it stands, all are
pub record Underway (tables : Tables) (grants : List Grant) (start : Start) (now : Now) (n : ℕ) : Type 0 where
  pub desk : desk_after tables now.desk (drop n grants) ≡ desk_after tables start.desk grants
  pub lines : now.lines ++ refusal_lines n (drop n grants) (fates now.desk.ledger (drop n grants)) ≡ start.lines
      ++ refusal_lines 0 grants (fates start.desk.ledger grants)
  pub all : (now.all && list_all is_placed (fates now.desk.ledger (drop n grants)))
      ≡ list_all is_placed (fates start.desk.ledger grants)
  pub calls : now.desk.ledger.calls ≡ start.desk.ledger.calls + n

-- and the codes that are kept are by the tables
pub record UnderwayWith (codes : Codes) (tables : Tables) (grants : List Grant) (start : Start) (now : Now) (n : ℕ) : Type 0 where
  pub placed : Underway tables grants start now n
  pub kept : AreOf tables codes

-- before the first grant
pub begun : (tables : Tables) (grants : List Grant) (start : Start)
    → Underway tables grants start (record { desk = start.desk; lines = start.lines; all = true }) 0
begun tables grants start = record { desk = refl; lines = refl; all = refl; calls = omega arith }

lines_more : (n : ℕ) (grant : Grant) (rest : List Grant) (answer : Result Placed Refusal) (answers : List (Result Placed Refusal))
    → refusal_lines n (grant ∷ rest) (answer ∷ answers) ≡ answer_line n grant answer ++ refusal_lines (n + 1) rest answers
unfolding refusal_lines
lines_more n grant rest answer answers = refl

-- the grant at a place, where those before it were placed
module _ (tables : Tables) (grants : List Grant) (start : Start) (now : Now) (n : ℕ) (grant : Grant)
    (within : n < length grants) (at : grant ≡ get_or grants n grant) (u : Underway tables grants start now n) where
  -- it is placed too, with its answer
  placed_more : (next : Now) (answer : Result Placed Refusal) → answer ≡ fate now.desk.ledger grant
      → next.desk ≡ step tables now.desk grant → next.lines ≡ now.lines ++ answer_line n grant answer
      → next.all ≡ (now.all && is_placed answer)
      → Underway tables grants start next (n + 1)
  placed_more next answer a s l b =
      let rest = drop (n + 1) grants in
      let left : drop n grants ≡ grant ∷ rest = drop_more grants n grant within ∙ ap (λ x. x ∷ rest) (sym at) in
      let after = step tables now.desk grant in
      let ledger = now.desk.ledger in
      let answers : fates ledger (drop n grants) ≡ answer ∷ fates next.desk.ledger rest =
      ap (fates ledger) left ∙ fates_more tables now.desk grant rest ∙ ap (λ x. x ∷ fates after.ledger rest) (sym a)
      ∙ ap (λ (x : DeskValue). answer ∷ fates x.ledger rest) (sym s) in
      record {
        desk =
            ap (λ x. desk_after tables x rest) s ∙ sym (desk_more tables now.desk grant rest)
            ∙ ap (desk_after tables now.desk) (sym left) ∙ u.desk;
        lines =
            ap (λ x. x ++ refusal_lines (n + 1) rest (fates next.desk.ledger rest)) l
            ∙ append_assoc now.lines (answer_line n grant answer) (refusal_lines (n + 1) rest (fates next.desk.ledger rest))
            ∙ ap (λ x. now.lines ++ x)
            (sym (lines_more n grant rest answer (fates next.desk.ledger rest))
            ∙ ap (refusal_lines n (grant ∷ rest)) (sym answers)
            ∙ ap (λ x. refusal_lines n x (fates ledger (drop n grants))) (sym left))
            ∙ u.lines;
        all =
            ap (λ x. x && list_all is_placed (fates next.desk.ledger rest)) b
            ∙ and_grouped now.all (is_placed answer) (list_all is_placed (fates next.desk.ledger rest))
            ∙ ap (λ x. now.all && list_all is_placed x) (sym answers) ∙ u.all;
        calls =
            ap (λ (x : DeskValue). x.ledger.calls) s ∙ calls_more ledger (decided ledger grant) ∙ omega (arith, u.calls);
      }

  -- where it was placed it has no line
  pub placed_one : (next : Now) (placed : Placed) → Ok placed ≡ fate now.desk.ledger grant
      → next.desk ≡ step tables now.desk grant → next.lines ≡ now.lines → next.all ≡ now.all
      → Underway tables grants start next (n + 1)
  placed_one next placed a s l b =
      placed_more next (Ok placed) a s (l ∙ sym (append-nil now.lines)) (b ∙ sym (and_true now.all))

  -- where it was refused it has one
  pub refused_one : (next : Now) (refusal : Refusal) → Err refusal ≡ fate now.desk.ledger grant
      → next.desk ≡ step tables now.desk grant → next.lines ≡ now.lines ++ refusal_line n grant refusal → next.all ≡ false
      → Underway tables grants start next (n + 1)
  refused_one next refusal a s l b = placed_more next (Err refusal) a s l (b ∙ sym (and_false now.all))

lines_none : (n : ℕ) (answers : List (Result Placed Refusal)) → refusal_lines n [] answers ≡ []
unfolding refusal_lines
lines_none n answers = refl

-- all grants were placed
pub all_placed : (tables : Tables) (grants : List Grant) (start : Start) (now : Now) (n : ℕ) → length grants ≤ n
    → Underway tables grants start now n
    → ArePlaced tables grants start.desk now.desk start.lines now.lines now.all
all_placed tables grants start now n h u =
    let left : drop n grants ≡ [] = drop_all n grants h in
    let ledger = now.desk.ledger in
    record {
      desk = sym (ap (desk_after tables now.desk) left ∙ desk_none tables now.desk) ∙ u.desk;
      lines =
          sym (ap (λ x. now.lines ++ x)
          (ap (λ x. refusal_lines n x (fates ledger (drop n grants))) left ∙ lines_none n (fates ledger (drop n grants)))
          ∙ append-nil now.lines)
          ∙ u.lines;
      all =
          sym (ap (λ x. now.all && list_all is_placed x) (ap (fates ledger) left ∙ fates_none ledger) ∙ and_true now.all)
          ∙ u.all;
    }

-- the slot is refused
pub write_over : (cell : RawCell) (tables : Tables) (list : GrantList) (slot : SlotOver) (stop : Stop)
    → opened cell list.frame list.slot (length list.grants) ≡ Err slot
    → IsStop (refused ends.SlotRefused (slot_line (handset_at cell slot.handset).name slot.over.candidates slot.over.cces))
    stop → Ends (Err stop) (ended (written cell tables list))
unfolding written
write_over cell tables list slot (Ended o) e h = ap ended (ap (written_on cell tables list.grants) e) ∙ sym h
write_over cell tables list slot OutOfMemory e h = tt

-- what opening answers tells of the definition: it is refused exactly where the definition is
abbrev Tells : RawCell → GrantList → DeskFault → Type 0
Tells cell list fault = (handset candidates cces : ℕ)
    → (◌≡◌ {A = Result DeskValue DeskFault} (Err fault) (Err (CommonOver handset candidates cces)))
    ↔ (opened cell list.frame list.slot (length list.grants) ≡ Err (slot_over handset candidates cces))

-- what is told of a desk's fault names a handset of the cell
pub fault_named : (cell : RawCell) (list : GrantList) (fault : DeskFault) → Tells cell list fault → NamesHandset cell fault
fault_named cell list (CommonOver handset candidates cces) told =
    over_within cell list (slot_over handset candidates cces) ((told handset candidates cces).0 refl)
fault_named cell list NoMemory told = tt

short_ends : (wanted : Outcome) (stop : Stop) → stop ≡ OutOfMemory → Ends (Err stop) wanted
short_ends wanted (Ended o) e = absurd (let f : ⊥ = cc in f)
short_ends wanted OutOfMemory e = tt

-- and the stop that says why there is no desk ends the job
pub fault_ends : (cell : RawCell) (tables : Tables) (list : GrantList) (fault : DeskFault) (stop : Stop)
    → Tells cell list fault → IsRefusedBy cell fault stop
    → Ends (Err stop) (ended (written cell tables list))
fault_ends cell tables list (CommonOver handset candidates cces) stop told h =
    write_over cell tables list (slot_over handset candidates cces) stop ((told handset candidates cces).0 refl) h
fault_ends cell tables list NoMemory stop told h = short_ends (ended (written cell tables list)) stop h

-- all grants were judged
pub write_done : (cell : RawCell) (tables : Tables) (list : GrantList) (start : Start) (now : Now) (text : List ℕ)
    (status : Status) (outcome : Outcome)
    → opened cell list.frame list.slot (length list.grants) ≡ Ok start.desk
    → ArePlaced tables list.grants start.desk now.desk start.lines now.lines now.all → start.lines ≡ []
    → text ≡ grid_text now.desk.grid → status ≡ cond now.all ends.Done ends.GrantsRefused
    → outcome ≡ record { status = status; out = text; err = now.lines }
    → ended (written cell tables list) ≡ outcome
unfolding written
write_done cell tables list start now text status outcome e h none t s o =
    ap ended (ap (written_on cell tables list.grants) e)
    ∙ sym (o
    ∙ ap (λ (x : Status). record { status = x; out = text; err = now.lines })
    (s ∙ ap (λ b. cond b ends.Done ends.GrantsRefused) h.all)
    ∙ ap (λ (x : List ℕ). record { status = status_of_all; out = x; err = now.lines })
    (t ∙ ap (λ (x : DeskValue). grid_text x.grid) h.desk)
    ∙ ap (λ (x : List ℕ). record {
      status = status_of_all;
      out = grid_text (desk_after tables start.desk list.grants).grid;
      err =
          x;
    }) (h.lines ∙ ap (λ x. x ++ refusal_lines 0 list.grants (fates start.desk.ledger list.grants)) none))
  where
    status_of_all : Status
    status_of_all = cond (list_all is_placed (fates start.desk.ledger list.grants)) ends.Done ends.GrantsRefused

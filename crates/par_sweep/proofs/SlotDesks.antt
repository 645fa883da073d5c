-- The desk of a slot of the load, and the grid that its grants leave.
use Rattle.std.proofs.Common.{◌≡◌, ℕ, ◌/◌, ◌%◌, ◌*◌, ◌<◌, List, [], ◌∷◌, ◌++◌, Result, Ok, Err, map, length, ap, sym}
use Rattle.std.proofs.Common.{subst, ◌∙◌, arith, length-append}
use Rattle.std.specs.Prelude.{OnOk}
use Rattle.std.specs.List.{range_with_len}
use Rattle.std.proofs.lemmas.List.{length-replicate}
use Rattle.std.proofs.lemmas.List.FromFn.{length-map-range_with_len}
use Rattle.slot_grid.specs.Grid.{GridValue, IsGrid}
use Rattle.slot_grid.specs.Image.{blank_grid}
use Rattle.slot_grid.specs.declared.places.Point.TheVariants.{Empty}
use Rattle.table_files.specs.declared.tables.Tables.{Tables}
use Rattle.rrc_settings.specs.declared.settings.RawCell.{RawCell}
use Rattle.dci_fields.specs.declared.formats.Format.TheVariants.{F00, F10}
use Rattle.grant_file.specs.declared.grants.Grant.{Grant}
use Rattle.cell_placer.specs.declared.member.Member.{Member}
use Rattle.cell_placer.specs.Opened.{SlotOver, new_desk}
use Rattle.cell_placer.specs.Placing.{DeskValue, desk_after, fates}
use Rattle.cell_placer.proofs.Histories.{opened_blank, same_desk}
use Rattle.cell_placer.proofs.WrittenGrids.{all_written}
use Rattle.par_sweep.specs.LoadCell.{load_cell}
use Rattle.par_sweep.specs.LoadGrants.{load_grant, load_grants}
use Rattle.par_sweep.specs.declared.slots.Counts.{Counts}
use Rattle.par_sweep.specs.Slots.{counts_of, slot_counts, slot_desk, slot_grid}
use Rattle.par_sweep.proofs.Plans.{plans_every_slot}

-- a fact without condition holds of an answer
pub always : {T E : Type 0} (r : Result T E) (P : Type 0) → P → OnOk r P
always (Ok x) P p = p
always (Err e) P p = tt

-- one grid more, under another name
pub pushed : (old : List GridValue) {new : List GridValue} {grid other : GridValue} → new ≡ old ++ grid ∷ [] → grid ≡ other → new ≡ old ++ other ∷ []
pushed old {new} {grid} {other} e h = e ∙ ap (λ (g : GridValue). old ++ g ∷ []) h

-- a slot has 64 grants
pub count_of_grants : (t : ℕ) → length (load_grants t).grants ≡ 64
unfolding load_grants
count_of_grants t =
    let down = map (load_grant t F10) (range_with_len 0 32) in
    let up = map (load_grant t F00) (range_with_len 0 32) in
    omega (
      arith,
      length-append down up,
      length-map-range_with_len (load_grant t F10) 0 32,
      length-map-range_with_len
          (load_grant t F00) 0 32,
    )

new_calls : (cell : RawCell) (frame slot room : ℕ) (members : Result (List Member) SlotOver) (desk : DeskValue)
    → new_desk cell frame slot room members ≡ Ok desk → desk.ledger.calls ≡ 0
new_calls cell frame slot room (Ok members) desk e = sym (ap (λ (d : DeskValue). d.ledger.calls) (same_desk _ desk e))
new_calls cell frame slot room (Err over) desk e = absurd (let f : ⊥ = cc in f)

-- its desk has judged none
pub no_calls : (t : ℕ) → (slot_desk t).ledger.calls ≡ 0
no_calls t = new_calls load_cell (t / 10) (t % 10) 64 _ (slot_desk t) (plans_every_slot t).desk

blank_of : (t : ℕ) → (slot_desk t).grid ≡ blank_grid 0 (t / 10) (t % 10) 273
unfolding load_cell
blank_of t = opened_blank load_cell (t / 10) (t % 10) 64 (slot_desk t) (plans_every_slot t).desk

blank_legal : (t : ℕ) → t < 200 → IsGrid (blank_grid 0 (t / 10) (t % 10) 273)
blank_legal t h = record {
  mu_most = omega arith;
  frame_most = omega (arith, h);
  slot_below = omega arith;
  blocks_least = omega arith;
  blocks_most = omega arith;
  size = length-replicate (14 * (12 * 273)) Empty;
}

-- the grid that its grants leave has 273 blocks
pub blocks_of : (tables : Tables) (t : ℕ) → t < 200 → (slot_grid tables t).blocks ≡ 273
unfolding slot_grid
blocks_of tables t h =
    (all_written tables (slot_desk t) (load_grants t).grants (subst IsGrid (sym (blank_of t)) (blank_legal t h))).blocks
    ∙ ap (λ (g : GridValue). g.blocks) (blank_of t)

-- the grid of a slot, where its grants were placed on its desk
pub grid_of : (tables : Tables) (t : ℕ) {desk after : DeskValue} {grants : List Grant} {grid : GridValue}
    → desk ≡ slot_desk t → grants ≡ (load_grants t).grants
    → after ≡ desk_after tables desk grants → grid ≡ after.grid → grid ≡ slot_grid tables t
unfolding slot_grid
grid_of tables t {desk} {after} {grants} {grid} d g a e =
    e ∙ ap (λ (x : DeskValue). x.grid) a ∙ ap (λ (x : DeskValue). (desk_after tables x grants).grid) d
    ∙ ap (λ (gs : List Grant). (desk_after tables (slot_desk t) gs).grid) g

-- what was counted of them
pub counts_there : (t : ℕ) {desk : DeskValue} {grants : List Grant} {counts : Counts} → desk ≡ slot_desk t
    → grants ≡ (load_grants t).grants
    → counts ≡ counts_of (fates desk.ledger grants) → counts ≡ slot_counts t
unfolding slot_counts
counts_there t {desk} {grants} {counts} d g e =
    e ∙ ap (λ (x : DeskValue). counts_of (fates x.ledger grants)) d
    ∙ ap (λ (gs : List Grant). counts_of (fates (slot_desk t).ledger gs)) g

-- An accepted grant is heard by the handset of the cell that has the grant's name.
use Rattle.std.proofs.Common.{◌≡◌, ℕ, zero, suc, ◌<◌, get_or, refl, sym, ap, subst, ◌∙◌, arith}
use Rattle.std.specs.Prelude.{Bool, true, false, nat_lt, cond, List, [], ◌∷◌, Option, Some, None, Ok, length, bytes_eq}
use Rattle.std.specs.Prelude.{position, slice_get, unwrap_or}
use Rattle.std.proofs.lemmas.Bool.Decides.{Decides-ltb}
use Rattle.std.proofs.lemmas.List.Quantifiers.{position-Some}
use Rattle.std.proofs.lemmas.List.Sums.{position_or_len_is}
use Rattle.std.proofs.lemmas.Slice.Eq.{bytes_eq-Decides}
use Rattle.rrc_settings.specs.declared.settings.RawCell.{RawCell}
use Rattle.rrc_settings.specs.declared.settings.Handset.{Handset}
use Rattle.rrc_settings.specs.HandsetsOfCell.{handset_at, no_handset}
use Rattle.slot_grid.specs.Grid.{GridValue}
use Rattle.table_files.specs.declared.tables.Tables.{Tables}
use Rattle.monitor_plan.specs.Watch.{watch_at}
use Rattle.dci_codec.specs.Hearing.{AreTables}
use Rattle.grant_file.specs.declared.grants.Grant.{Grant}
use Rattle.cell_placer.specs.declared.member.Member.{Member}
use Rattle.cell_placer.specs.declared.member.Accepted.{Accepted}
use Rattle.cell_placer.specs.declared.refusal.Placed.{Placed}
use Rattle.cell_placer.specs.Ledger.{LedgerValue, no_member, member_at, IsLedger}
use Rattle.cell_placer.specs.Fate.{decided}
use Rattle.cell_placer.specs.OpenedDesk.{IsOpened}
use Rattle.cell_placer.specs.Placing.{DeskValue, IsDesk, step, fates, desk_after}
use Rattle.cell_placer.specs.Written.{IsHeardAs}
use Rattle.cell_placer.proofs.Decisions.{decided_ok, ready}
use Rattle.cell_placer.proofs.Heard.{accepted_of, same_grant, same_answer, desk_kept, members_kept, heard_among}

-- a grant was placed at a watch of the handset that it names
record IsPlacedFor (members : List Member) (grant : Grant) (placed : Placed) : Type 0 where
  handset : ℕ
  named : position (λ (m : Member). bytes_eq m.name grant.handset) members ≡ Some handset
  within : placed.watch < length (member_at members handset).plan

placed_first : (ledger : LedgerValue) (grant : Grant) (a : Accepted) (placed : Placed) → IsLedger ledger
    → decided ledger grant ≡ Ok a → a.watch ≡ placed.watch
    → IsPlacedFor ledger.members grant placed
placed_first ledger grant a placed keeps e same =
    let d = decided_ok ledger grant a e in
    let known = ready ledger grant a keeps e in
    let within = known.spot.watch in
    record { handset = a.handset; named = d.handset; within = omega (arith, within, same) }

placed_among : (tables : Tables) (desk : DeskValue) (grants : List Grant) (i : ℕ) (grant : Grant) (placed : Placed) → IsDesk desk
    → slice_get grants i ≡ Some grant → slice_get (fates desk.ledger grants) i ≡ Some (Ok placed)
    → IsPlacedFor desk.ledger.members grant placed
unfolding fates
placed_among tables desk [] i grant placed h e f = absurd (let g : ⊥ = cc in g)
placed_among tables desk (first ∷ grants) zero grant placed h e f =
    let (a, ok, same) = accepted_of (decided desk.ledger first) placed (same_answer _ _ f) in
    subst (λ (g : Grant). IsPlacedFor desk.ledger.members g placed) (same_grant first grant e)
    (placed_first desk.ledger first a placed h.ledger ok same)
placed_among tables desk (first ∷ grants) (suc i) grant placed h e f =
    subst (λ (ms : List Member). IsPlacedFor ms grant placed) (members_kept desk.ledger (decided desk.ledger first))
    (placed_among tables (step tables desk first) grants i grant placed
    (desk_kept tables desk first (decided desk.ledger first) refl h) e f)

-- the first element that passes a test is found
position_is : {X : Type 0} (p : X → Bool) (xs : List X) (i : ℕ) (d : X) → i < length xs
    → ((k : ℕ) → k < i → p (get_or xs k d) ≡ false)
    → p (get_or xs i d) ≡ true → position p xs ≡ Some i
position_is p xs i d l earlier here =
    ap (λ (n : ℕ). cond (nat_lt n (length xs)) (Some n) None) (position_or_len_is p xs i d (omega (arith, l)) earlier (λ _. here))
    ∙ ap (λ (b : Bool). cond b (Some i) None) ((Decides-ltb i (length xs)).1 l)

-- an accepted grant is heard at a watch of the plan of the first handset of the cell that has the grant's name
pub record IsHeardBy (cell : RawCell) (tables : Tables) (members : List Member) (grid : GridValue) (grant : Grant)
    (placed : Placed) : Type 0 where
  pub handset : ℕ
  pub within : handset < length cell.handsets
  pub named : position (λ (h : Handset). bytes_eq h.name grant.handset) cell.handsets ≡ Some handset
  pub name : (handset_at cell handset).name ≡ grant.handset
  pub watch : placed.watch < length (member_at members handset).plan
  pub heard : IsHeardAs tables grid (watch_at (member_at members handset).plan placed.watch) grant placed.watch

-- the handset that a desk finds by its name is the one that the cell has under it
record IsNamed (cell : RawCell) (word : List ℕ) (handset : ℕ) : Type 0 where
  within : handset < length cell.handsets
  named : position (λ (h : Handset). bytes_eq h.name word) cell.handsets ≡ Some handset
  name : (handset_at cell handset).name ≡ word

named_alike : (cell : RawCell) (frame slot : ℕ) (desk : DeskValue) (word : List ℕ) (handset : ℕ) → IsOpened cell frame slot desk
    → position (λ (m : Member). bytes_eq m.name word) desk.ledger.members ≡ Some handset → IsNamed cell word handset
named_alike cell frame slot desk word handset known e =
    let members = desk.ledger.members in
    let (l, here, earlier) = position-Some (λ (m : Member). bytes_eq m.name word) members handset no_member e in
    let within : handset < length cell.handsets = let n = known.count in omega (arith, l, n) in
    let alike : (k : ℕ) → k < length cell.handsets
    → bytes_eq (member_at members k).name word ≡ bytes_eq (handset_at cell k).name word =
    λ k m. ap (λ (x : Member). bytes_eq x.name word) (known.each k m).member in
    let there : bytes_eq (handset_at cell handset).name word ≡ true = sym (alike handset within) ∙ here in
    record {
      within = within;
      named =
          position_is (λ (h : Handset). bytes_eq h.name word) cell.handsets handset no_handset within
          (λ k m. sym (alike k (omega (arith, m, within))) ∙ earlier k m) there;
      name = (bytes_eq-Decides (handset_at cell handset).name word).0 there;
    }

-- each accepted grant is heard so
pub heard_by : (cell : RawCell) (frame slot : ℕ) (tables : Tables) (desk : DeskValue) (grants : List Grant) (i : ℕ)
    (grant : Grant) (placed : Placed)
    → AreTables tables → IsOpened cell frame slot desk → slice_get grants i ≡ Some grant
    → slice_get (fates desk.ledger grants) i ≡ Some (Ok placed)
    → IsHeardBy cell tables desk.ledger.members (desk_after tables desk grants).grid grant placed
heard_by cell frame slot tables desk grants i grant placed legal known e f =
    let members = desk.ledger.members in
    let p = placed_among tables desk grants i grant placed known.keeps e f in
    let n = named_alike cell frame slot desk grant.handset p.handset known p.named in
    let P : Option ℕ → Type 0 = λ o.
    IsHeardAs tables (desk_after tables desk grants).grid (watch_at (member_at members (unwrap_or o 0)).plan placed.watch)
    grant placed.watch in
    record {
      handset = p.handset;
      within = n.within;
      named = n.named;
      name = n.name;
      watch = p.within;
      heard = subst P p.named (heard_among tables desk grants i grant placed legal known.keeps e f);
    }

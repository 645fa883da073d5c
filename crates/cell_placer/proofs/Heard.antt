-- Each accepted grant is heard on the grid that all grants leave.
use Rattle.std.proofs.Common.{◌≡◌, ℕ, zero, suc, Bool, true, false, cond, List, [], ◌∷◌, ◌++◌, Option, Some, None}
use Rattle.std.proofs.Common.{option_map, find, Result, Ok, Err, refl, ap, sym, subst, ◌∙◌}
use Rattle.std.specs.Prelude.{unwrap_or}
use Rattle.std.specs.Option.{option_or}
use Rattle.std.proofs.lemmas.List.Folds.{find-append}
use Rattle.crc_mask.specs.Parity.{masked}
use Rattle.slot_grid.specs.Image.{Image, overwritten, Agrees}
use Rattle.slot_grid.proofs.Images.{AreCompatible, agrees_after, agrees_overwritten}
use Rattle.slot_grid.proofs.Images.{blocks-overwritten, slot-overwritten}
use Rattle.table_files.specs.declared.tables.Tables.{Tables}
use Rattle.dmrs_qpsk.proofs.ImagesOnGrid.{images_compatible}
use Rattle.dmrs_qpsk.specs.PointsOnGrid.{image_of}
use Rattle.monitor_plan.specs.declared.watch.Watch.{Watch}
use Rattle.monitor_plan.specs.Watch.{fits, list_of, shares_reg, watch_at, IsSound, IsInside, SharesReg}
use Rattle.monitor_plan.proofs.SharedRegs.{tells_shared_regs}
use Rattle.dci_codec.specs.BlockImage.{block_image}
use Rattle.dci_codec.specs.Scrambling.{scrambled}
use Rattle.dci_codec.specs.Hearing.{AreTables, Spells, heard_of}
use Rattle.dci_codec.specs.Spelled.{spelling_by}
use Rattle.dci_codec.proofs.Carriers.{code, image_is, image_on}
use Rattle.dci_codec.proofs.Hearings.{spelled_some}
use Rattle.grant_file.specs.declared.grants.Grant.{Grant}
use Rattle.cell_placer.specs.declared.member.Member.{Member}
use Rattle.cell_placer.specs.declared.member.Accepted.{Accepted}
use Rattle.cell_placer.specs.declared.refusal.Placed.{Placed}
use Rattle.cell_placer.specs.declared.refusal.Refusal.{Refusal}
use Rattle.cell_placer.specs.Ledger.{LedgerValue, member_at, watch_of}
use Rattle.cell_placer.specs.Fate.{meets, first_meeting, decided, answer_of}
use Rattle.cell_placer.specs.Placing.{DeskValue, IsDesk, payload_at, payload_image, grant_image, booked, written, step}
use Rattle.cell_placer.specs.Placing.{fates, desk_after}
use Rattle.cell_placer.specs.Written.{watches_for, IsHeardAs, HearsEachAccepted}
use Rattle.cell_placer.proofs.Decisions.{ready, decided_ok}
use Rattle.cell_placer.proofs.Entries.{ledger_after, ledger_counted}
use Rattle.cell_placer.proofs.Faultless.{payload_there, list_is}

module _ (tables : Tables) (slot : ℕ) (w : Watch) (block : List Bool) where
  -- the images of two watches that share no REG are alike wherever both have a point
  blocks_compatible : (other_slot : ℕ) (v : Watch) (other : List Bool) → shares_reg v w ≡ false
      → AreCompatible (block_image tables slot w block) (block_image tables other_slot v other)
  blocks_compatible other_slot v other apart =
      let P : Image → Type 0 = λ i. AreCompatible i (block_image tables other_slot v other) in
      let one = scrambled w.scramble (code tables w block) in
      let two = scrambled v.scramble (code tables v other) in
      let Q : Image → Type 0 = λ i. AreCompatible (image_of slot w.symbol w.dmrs_id w.regs.items one) i in
      subst P (sym (image_is tables slot w block))
      (subst Q (sym (image_is tables other_slot v other))
      (images_compatible slot w.symbol w.dmrs_id w.regs.items one other_slot v.symbol v.dmrs_id v.regs.items two
      (λ i j h k e f.
      let shared : SharesReg v w = record { reg = j; other = i; within = k; other_within = h; symbol = sym e; block = sym f } in
      let clash : false ≡ true = sym apart ∙ (tells_shared_regs v w).1 shared in cc)))

  -- and so is the image of a payload there, where there is one
  payload_compatible : (other_slot : ℕ) (v : Watch) (payload : Option (List Bool)) → shares_reg v w ≡ false
      → AreCompatible (block_image tables slot w block) (payload_image tables other_slot v payload)
  payload_compatible other_slot v None apart s c p q e f = absurd (let g : ⊥ = cc in g)
  payload_compatible other_slot v (Some payload) apart s c p q e f =
      blocks_compatible other_slot v (masked payload v.rnti) apart s c p q e f

-- a block stands on the grid at a watch that no later grant may touch
record Stands (tables : Tables) (slot : ℕ) (w : Watch) (block : List Bool) (desk : DeskValue) : Type 0 where
  agrees : Agrees desk.grid (block_image tables slot w block)
  inside : IsInside desk.grid.blocks w
  slot_is : desk.grid.slot ≡ slot
  guarded : (v : Watch) → first_meeting desk.ledger.members desk.ledger.accepted v ≡ None → shares_reg v w ≡ false

-- a search of a longer list that finds nothing finds nothing in its front
front_none : (o p : Option Accepted) → option_map (λ (a : Accepted). a.call) (option_or o p) ≡ None → o ≡ None
front_none None p e = refl
front_none (Some a) p e = absurd (let f : ⊥ = cc in f)

call_none : (o : Option Accepted) → o ≡ None → option_map (λ (a : Accepted). a.call) o ≡ None
call_none o e = ap (option_map (λ (a : Accepted). a.call)) e

meeting_append : (members : List Member) (accepted : List Accepted) (a : Accepted) (v : Watch)
    → first_meeting members (accepted ++ a ∷ []) v
    ≡ option_map (λ (x : Accepted). x.call) (option_or (find (meets members v) accepted) (find (meets members v) (a ∷ [])))
meeting_append members accepted a v = ap (option_map (λ (x : Accepted). x.call)) (find-append (meets members v) accepted (a ∷ []))

meeting_before : (members : List Member) (accepted : List Accepted) (a : Accepted) (v : Watch)
    → first_meeting members (accepted ++ a ∷ []) v ≡ None
    → first_meeting members accepted v ≡ None
meeting_before members accepted a v e =
    call_none (find (meets members v) accepted)
    (front_none (find (meets members v) accepted) (find (meets members v) (a ∷ []))
    (sym (meeting_append members accepted a v) ∙ e))

last_none : (o : Option Accepted) (a : Accepted) (b : Bool)
    → option_map (λ (x : Accepted). x.call) (option_or o (cond b (Some a) None)) ≡ None → b ≡ false
last_none o a false e = refl
last_none None a true e = absurd (let f : ⊥ = cc in f)
last_none (Some x) a true e = absurd (let f : ⊥ = cc in f)

meeting_last : (members : List Member) (accepted : List Accepted) (a : Accepted) (v : Watch)
    → first_meeting members (accepted ++ a ∷ []) v ≡ None
    → shares_reg v (watch_of members a) ≡ false
meeting_last members accepted a v e =
    last_none (find (meets members v) accepted) a (meets members v a) (sym (meeting_append members accepted a v) ∙ e)

-- the desk after a grant, by what was decided of it
abbrev pub desk_by : Tables → DeskValue → Grant → Result Accepted Refusal → DeskValue
desk_by tables desk grant r = record { ledger = booked desk.ledger r; grid = written tables desk.ledger grant desk.grid r }

-- a desk stays one
pub desk_kept : (tables : Tables) (desk : DeskValue) (grant : Grant) (r : Result Accepted Refusal)
    → decided desk.ledger grant ≡ r → IsDesk desk
    → IsDesk (desk_by tables desk grant r)
desk_kept tables desk grant (Ok a) e h = record {
  ledger = let known = ready desk.ledger grant a h.ledger e in ledger_after desk.ledger a known.spot.call h.ledger;
  blocks =
      h.blocks ∙ sym (blocks-overwritten (grant_image tables desk.grid.slot (watch_of desk.ledger.members a) grant) desk.grid);
}
desk_kept tables desk grant (Err refusal) e h = record { ledger = ledger_counted desk.ledger h.ledger; blocks = h.blocks }

-- what stands stays after one grant
stands_kept : {tables : Tables} {slot : ℕ} {w : Watch} {block : List Bool} {desk : DeskValue} (grant : Grant)
    {r : Result Accepted Refusal}
    → decided desk.ledger grant ≡ r → IsDesk desk → Stands tables slot w block desk
    → Stands tables slot w block (desk_by tables desk grant r)
stands_kept {tables} {slot} {w} {block} {desk} grant {r = Err refusal} e h stands =
    record { agrees = stands.agrees; inside = stands.inside; slot_is = stands.slot_is; guarded = stands.guarded }
stands_kept {tables} {slot} {w} {block} {desk} grant {r = Ok a} e h stands =
    let members = desk.ledger.members in
    let v = watch_of members a in
    let image = grant_image tables desk.grid.slot v grant in
    let known = ready desk.ledger grant a h.ledger e in
    let apart : shares_reg v w ≡ false = stands.guarded v known.spot.free in
    record {
      agrees =
          agrees_after (block_image tables slot w block) image desk.grid (image_on tables desk.grid slot w block stands.inside)
          (payload_compatible tables slot w block desk.grid.slot v (payload_at v grant) apart) stands.agrees;
      inside = subst (λ (n : ℕ). IsInside n w) (sym (blocks-overwritten image desk.grid)) stands.inside;
      slot_is = slot-overwritten image desk.grid ∙ stands.slot_is;
      guarded = λ x none. stands.guarded x (meeting_before members desk.ledger.accepted a x none);
    }

-- and after all
stands_after : {tables : Tables} {slot : ℕ} {w : Watch} {block : List Bool} (grants : List Grant) (desk : DeskValue) → IsDesk desk
    → Stands tables slot w block desk → Stands tables slot w block (desk_after tables desk grants)
unfolding desk_after
stands_after [] desk h stands = stands
stands_after {tables = tables} (grant ∷ grants) desk h stands =
    stands_after grants (step tables desk grant) (desk_kept tables desk grant (decided desk.ledger grant) refl h)
    (stands_kept grant refl h stands)

-- an accepted grant stands
stands_first : (tables : Tables) (desk : DeskValue) (grant : Grant) (a : Accepted) (payload : List Bool) → IsDesk desk
    → decided desk.ledger grant ≡ Ok a
    → payload_at (watch_of desk.ledger.members a) grant ≡ Some payload
    → Stands tables desk.grid.slot (watch_of desk.ledger.members a) (masked payload (watch_of desk.ledger.members a).rnti)
    (desk_by tables desk grant (Ok a))
stands_first tables desk grant a payload h e packs =
    let w = watch_of desk.ledger.members a in
    let block = masked payload w.rnti in
    let slot = desk.grid.slot in
    let image = grant_image tables slot w grant in
    let known = ready desk.ledger grant a h.ledger e in
    let inside : IsInside desk.grid.blocks w = subst (λ (n : ℕ). IsInside n w) h.blocks known.spot.inside in
    let P : Option (List Bool)
    → Type 0 = λ o. Agrees (overwritten (payload_image tables slot w o) desk.grid) (block_image tables slot w block) in
    record {
      agrees =
          subst P (sym packs) (agrees_overwritten (block_image tables slot w block) desk.grid
          (image_on tables desk.grid slot w block inside));
      inside = subst (λ (n : ℕ). IsInside n w) (sym (blocks-overwritten image desk.grid)) inside;
      slot_is = slot-overwritten image desk.grid;
      guarded = λ v none. meeting_last desk.ledger.members desk.ledger.accepted a v none;
    }

-- the watch of an entry is that of the handset that the grant names
watch_named : (ledger : LedgerValue) (grant : Grant) (a : Accepted) → decided ledger grant ≡ Ok a
    → watch_of ledger.members a ≡ watch_at (watches_for ledger.members grant) a.watch
watch_named ledger grant a e =
    let d = decided_ok ledger grant a e in
    ap (λ (o : Option ℕ). watch_at (member_at ledger.members (unwrap_or o 0)).plan a.watch) (sym d.handset)

-- what stands is heard
heard_standing : {tables : Tables} {slot : ℕ} {w : Watch} (grant : Grant) {payload : List Bool} {desk : DeskValue}
    (number : ℕ) → AreTables tables
    → IsSound w → fits w grant.format ≡ true → payload_at w grant ≡ Some payload
    → Stands tables slot w (masked payload w.rnti) desk
    → IsHeardAs tables desk.grid w grant number
heard_standing {tables} {slot} {w} grant {payload} {desk} number legal sound fitting packs stands =
    let P : ℕ → Type 0 = λ s. Agrees desk.grid (block_image tables s w (masked payload w.rnti)) in
    let spelling = spelling_by w grant.format grant.given in
    let spells : Spells tables desk.grid w spelling =
    record { fitting = fitting; payload = payload; packs = packs; agrees = subst P (sym stands.slot_is) stands.agrees } in
    (spells, ap (option_map (heard_of w number)) (spelled_some tables desk.grid w spelling legal sound spells))

-- a grant that is accepted is heard on the grid after it and after the others
heard_first : (tables : Tables) (desk : DeskValue) (grant : Grant) (grants : List Grant) (a : Accepted) → AreTables tables
    → IsDesk desk
    → decided desk.ledger grant ≡ Ok a
    → IsHeardAs tables (desk_after tables (step tables desk grant) grants).grid (watch_of desk.ledger.members a) grant a.watch
heard_first tables desk grant grants a legal h e =
    let w = watch_of desk.ledger.members a in
    let known = ready desk.ledger grant a h.ledger e in
    let (payload, packs) = payload_there (list_of w grant.format) grant.format grant.given w.size
    (list_is w grant.format known.spot.sound known.fitting) known.faultless in
    let P : Result Accepted Refusal
    → Type 0 = λ r. Stands tables desk.grid.slot w (masked payload w.rnti) (desk_by tables desk grant r) in
    let stands = subst P (sym e) (stands_first tables desk grant a payload h e packs) in
    let last = stands_after grants (step tables desk grant) (desk_kept tables desk grant (decided desk.ledger grant) refl h) stands in
    heard_standing grant a.watch legal known.spot.sound known.fitting packs last

-- an answer that tells a place is that of an entry
pub accepted_of : (r : Result Accepted Refusal) (placed : Placed) → answer_of r ≡ Ok placed
    → (a : Accepted) × (r ≡ Ok a) × (a.watch ≡ placed.watch)
accepted_of (Ok a) placed e = (a, refl, ap (λ (p : Placed). p.watch) (same_place _ placed e))
  where
    same_place : (p q : Placed) → ◌≡◌ {A = Result Placed Refusal} (Ok p) (Ok q) → p ≡ q
    same_place p q f = cc
accepted_of (Err refusal) placed e = absurd (let f : ⊥ = cc in f)

-- the handsets stay
pub members_kept : (ledger : LedgerValue) (r : Result Accepted Refusal) → (booked ledger r).members ≡ ledger.members
members_kept ledger (Ok a) = refl
members_kept ledger (Err refusal) = refl

-- one place of a list has one grant
pub same_grant : (a b : Grant) → Some a ≡ Some b → a ≡ b
same_grant a b e = cc

-- and one place of the answers one answer
pub same_answer : (a b : Result Placed Refusal) → Some a ≡ Some b → a ≡ b
same_answer a b e = cc

-- the law: each accepted grant is heard on the grid that all leave
pub heard_among : HearsEachAccepted
unfolding fates desk_after
heard_among tables desk [] i grant placed legal h e f = absurd (let g : ⊥ = cc in g)
heard_among tables desk (first ∷ grants) zero grant placed legal h e f =
    let (a, ok, same) = accepted_of (decided desk.ledger first) placed (same_answer _ _ f) in
    let heard = heard_first tables desk first grants a legal h ok in
    let grid = (desk_after tables (step tables desk first) grants).grid in
    let P : Watch → Type 0 = λ w. IsHeardAs tables grid w first a.watch in
    let Q : ℕ → Type 0 = λ n. IsHeardAs tables grid (watch_at (watches_for desk.ledger.members first) n) first n in
    let R : Grant → Type 0 = λ g. IsHeardAs tables grid (watch_at (watches_for desk.ledger.members g) placed.watch) g
    placed.watch in
    subst R (same_grant first grant e) (subst Q same (subst P (watch_named desk.ledger first a ok) heard))
heard_among tables desk (first ∷ grants) (suc i) grant placed legal h e f =
    let P : List Member → Type 0 = λ ms.
    IsHeardAs tables (desk_after tables (step tables desk first) grants).grid (watch_at (watches_for ms grant) placed.watch)
    grant placed.watch in
    subst P (members_kept desk.ledger (decided desk.ledger first))
    (heard_among tables (step tables desk first) grants i grant placed legal
    (desk_kept tables desk first (decided desk.ledger first) refl h) e f)

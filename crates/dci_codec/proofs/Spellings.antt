-- What is spelled at a watch, stage by stage, and that it is heard there.
use Rattle.std.proofs.Common.{◌≡◌, ◌↔◌, ℕ, ◌*◌, Bool, true, List, Some, Result, Ok, Err, length, option_map, ap, sym}
use Rattle.std.proofs.Common.{subst, ◌∙◌, arith}
use Rattle.crc_mask.specs.Parity.{masked}
use Rattle.dci_fields.specs.declared.fault.FieldFault.{FieldFault}
use Rattle.dci_fields.specs.declared.fault.Given.{Given}
use Rattle.dci_fields.specs.declared.formats.Format.{Format}
use Rattle.dci_fields.specs.declared.rows.FieldRow.{FieldRow}
use Rattle.dci_fields.specs.GivenValues.{settled, IsFieldFault, IsPayloadOf}
use Rattle.dci_fields.specs.Payloads.{payload_of}
use Rattle.dmrs_qpsk.specs.PointsOnGrid.{image_of}
use Rattle.monitor_plan.specs.declared.watch.Watch.{Watch}
use Rattle.monitor_plan.specs.Watch.{fits, list_of, IsCarrying, IsInside}
use Rattle.polar_chain.specs.CodeShape.{CodeShape}
use Rattle.slot_grid.specs.Grid.{GridValue}
use Rattle.slot_grid.specs.Image.{Agrees, overwritten}
use Rattle.slot_grid.proofs.Images.{agrees_overwritten, slot-overwritten}
use Rattle.table_files.specs.declared.tables.Tables.{Tables}
use Rattle.dci_codec.specs.BlockImage.{block_image}
use Rattle.dci_codec.specs.Hearing.{Spells, heard_of}
use Rattle.dci_codec.specs.Scrambling.{scrambled}
use Rattle.dci_codec.specs.Spelled.{HearsWhatWasSpelled, IsSpelled, spelling_by}
use Rattle.dci_codec.proofs.Carriers.{code, image_is, image_on}
use Rattle.dci_codec.proofs.Hearings.{spelled_some}
use Rattle.dci_codec.proofs.Scrambles.{length-scrambled}
use Rattle.dci_codec.proofs.Stages.{IsShapeAt}

-- as many bits are sent as the REGs have places for
pub bits_fit : (tables : Tables) (w : Watch) (s : CodeShape) (coded bits : List Bool) → IsCarrying w → IsShapeAt tables w s
    → length coded ≡ s.coded_len
    → bits ≡ scrambled w.scramble coded → length bits ≡ 18 * length w.regs.items
bits_fit tables w s coded bits keeps by c e =
    ap length e ∙ length-scrambled w.scramble coded ∙ c ∙ by.coded_is ∙ omega (arith, keeps.count)

-- the grid overwritten with the bits is overwritten with the block's image
written_over : (tables : Tables) (w : Watch) (block coded bits : List Bool) (grid : GridValue) → coded ≡ code tables w block
    → bits ≡ scrambled w.scramble coded
    → overwritten (image_of grid.slot w.symbol w.dmrs_id w.regs.items bits) grid
    ≡ overwritten (block_image tables grid.slot w block) grid
written_over tables w block coded bits grid c e =
    ap (λ (x : List Bool). overwritten (image_of grid.slot w.symbol w.dmrs_id w.regs.items x) grid)
    (e ∙ ap (scrambled w.scramble) c)
    ∙ sym (ap (λ image. overwritten image grid) (image_is tables grid.slot w block))

-- what the stages leave is what the payload writes
pub payload_written : (tables : Tables) (w : Watch) (payload block coded bits : List Bool) (old new : GridValue)
    → block ≡ masked payload w.rnti
    → coded ≡ code tables w block → bits ≡ scrambled w.scramble coded
    → new ≡ overwritten (image_of old.slot w.symbol w.dmrs_id w.regs.items bits) old
    → new ≡ overwritten (block_image tables old.slot w (masked payload w.rnti)) old
payload_written tables w payload block coded bits old new b c e n =
    n ∙ written_over tables w block coded bits old c e
    ∙ ap (λ (x : List Bool). overwritten (block_image tables old.slot w x) old) b

-- and where it is that of the values that are given, these are spelled
pub spelled_from : (tables : Tables) (w : Watch) (format : Format) (given : List Given) (rows : List FieldRow) (size : ℕ)
    (payload : List Bool) (old new : GridValue)
    → rows ≡ list_of w format → size ≡ w.size → IsPayloadOf rows format given size payload
    → new ≡ overwritten (block_image tables old.slot w (masked payload w.rnti)) old
    → IsSpelled tables w format given old new
spelled_from tables w format given rows size payload old new r s p n =
    let P : List FieldRow → Type 0 = λ x. payload_of x format (settled x format given) w.size ≡ Some payload in
    let Q : ℕ → Type 0 = λ x. payload_of rows format (settled rows format given) x ≡ Some payload in
    record { payload = payload; packs = subst P r (subst Q s p.packs); written = n }

err_once : {A : Type 0} (e f : FieldFault) → ◌≡◌ {A = Result A FieldFault} (Err e) (Err f) → e ≡ f
err_once e f h = cc

ok_not_err : {A : Type 0} (x : A) (f : FieldFault) → ◌≡◌ {A = Result A FieldFault} (Ok x) (Err f) → ⊥
ok_not_err x f h = cc

-- the fault of packing is the fault of spelling, for the rows of the format
pub fault_refused : {A : Type 0} (w : Watch) (format : Format) (given : List Given) (rows : List FieldRow) (e : FieldFault)
    (result : Result A FieldFault)
    → rows ≡ list_of w format → result ≡ Err e
    → ((f : FieldFault) → ◌≡◌ {A = Result (List Bool) FieldFault} (Err e) (Err f) ↔ IsFieldFault rows format given f)
    → (f : FieldFault) → (result ≡ Err f) ↔ IsFieldFault (list_of w format) format given f
fault_refused w format given rows e result r is packed f =
    let P : List FieldRow → Type 0 = λ x. IsFieldFault x format given f in (
      (λ h. subst P r ((packed f).0 (ap (λ (x : FieldFault). Err x) (err_once e f (sym is ∙ h))))),
      (λ k. is ∙ ap (λ (x : FieldFault). Err x) (err_once e f ((packed f).1 (subst P (sym r) k)))),
    )

-- where packing tells none, spelling tells none
pub fault_passed : {A : Type 0} (w : Watch) (format : Format) (given : List Given) (rows : List FieldRow)
    (payload : List Bool) (x : A)
    → rows ≡ list_of w format
    → ((f : FieldFault) → ◌≡◌ {A = Result (List Bool) FieldFault} (Ok payload) (Err f) ↔ IsFieldFault rows format given f)
    → (f : FieldFault) → ◌≡◌ {A = Result A FieldFault} (Ok x) (Err f) ↔ IsFieldFault (list_of w format) format given f
fault_passed w format given rows payload x r packed f =
    let P : List FieldRow → Type 0 = λ rs. IsFieldFault rs format given f in (
      (λ h. absurd (ok_not_err x f h)),
      (λ k. absurd (ok_not_err payload f ((packed f).1 (subst P (sym r) k)))),
    )

-- what was spelled is spelled
pub spells_after : (tables : Tables) (w : Watch) (format : Format) (given : List Given) (old new : GridValue)
    → fits w format ≡ true
    → IsInside old.blocks w → IsSpelled tables w format given old new → Spells tables new w (spelling_by w format given)
spells_after tables w format given old new fit inside h =
    let image = block_image tables old.slot w (masked h.payload w.rnti) in
    let slot : new.slot ≡ old.slot = ap (λ (g : GridValue). g.slot) h.written ∙ slot-overwritten image old in
    let P : GridValue → Type 0 = λ g. Agrees g image in
    let Q : ℕ → Type 0 = λ s. Agrees new (block_image tables s w (masked h.payload w.rnti)) in
    record {
      fitting = fit;
      payload = h.payload;
      packs = h.packs;
      agrees = subst Q (sym slot)
          (subst P (sym h.written)
          (agrees_overwritten image old (image_on tables old old.slot w (masked h.payload w.rnti) inside)));
    }

-- and it is heard
pub hears_what_was_spelled : HearsWhatWasSpelled
hears_what_was_spelled tables w format given old new number legal keeps fit inside h =
    let g = spells_after tables w format given old new fit inside h in (
      g,
      ap (option_map (heard_of w number)) (spelled_some tables new w (spelling_by w format given) legal keeps g),
    )

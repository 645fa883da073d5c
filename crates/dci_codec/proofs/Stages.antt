-- What is told at a watch, stage by stage: one answer at most.
use Rattle.std.proofs.Common.{◌≡◌, ◌↔◌, ℕ, ◌*◌, Bool, List, Some, None, Result, Ok, Err, length, option_map, refl, ap}
use Rattle.std.proofs.Common.{sym, subst, ◌∙◌, arith}
use Rattle.std.specs.Result.{result_ok}
use Rattle.std.proofs.lemmas.Option.{none-some}
use Rattle.crc_mask.specs.Parity.{masked}
use Rattle.dci_fields.specs.declared.values.FieldValue.{FieldValue}
use Rattle.dmrs_qpsk.specs.declared.taking.BadPlace.{BadPlace}
use Rattle.dmrs_qpsk.specs.Held.{IsFirstBad}
use Rattle.dmrs_qpsk.proofs.Takes.{bad_apart, one_first}
use Rattle.monitor_plan.specs.declared.watch.Watch.{Watch}
use Rattle.monitor_plan.specs.Watch.{IsCarrying, IsSound}
use Rattle.polar_chain.specs.CodeShape.{CodeShape, IsByTables, word_len}
use Rattle.polar_chain.specs.Decoding.{HasNoBlock, IsBlockOf}
use Rattle.polar_chain.proofs.CodesByTables.{block_by_tables, block_of_tables, code_by_repeats, length-code_by}
use Rattle.rate_match.proofs.Repeating.{none_differs, one_differing}
use Rattle.rate_match.specs.MotherCode.{length_of}
use Rattle.rate_match.specs.Repeats.{IsFirstDiffering, RepeatsBelow}
use Rattle.slot_grid.specs.Grid.{GridValue}
use Rattle.table_files.specs.declared.tables.Tables.{Tables}
use Rattle.dci_codec.specs.declared.heard.Heard.{Heard}
use Rattle.dci_codec.specs.declared.silence.Silence.{Silence}
use Rattle.dci_codec.specs.declared.silence.Silence.TheVariants as silence
use Rattle.dci_codec.specs.Hearing.{AreTables, IsCarried, IsHeard, IsReadAs, Spells, heard_of}
use Rattle.dci_codec.specs.Scrambling.{scrambled}
use Rattle.dci_codec.specs.Silences.{HasDifferingRepeat, HasNoCode, HasNoFormat, HasOtherParity, IsAnswer, IsCodeAt}
use Rattle.dci_codec.specs.Silences.{IsReceived, IsSilence, word_length}
use Rattle.dci_codec.specs.Spelling.{Spelling}
use Rattle.dci_codec.specs.TheSpelling.{heard_at, the_spelling}
use Rattle.dci_codec.proofs.Carriers.{block_len, sent_len, code, length_block, received_sent, one_received}
use Rattle.dci_codec.proofs.Carriers.{carried_from, one_block, carried_once}
use Rattle.dci_codec.proofs.Hearings.{carried_of, spells_once, spelled_none, spelled_some, spelling_of}
use Rattle.dci_codec.proofs.Readings.{heard_with}
use Rattle.dci_codec.proofs.Scrambles.{length-scrambled}

-- a shape is the code's at a watch, by two tables
abbrev pub IsShapeAt : Tables → Watch → CodeShape → Type 0
IsShapeAt tables w s = IsByTables tables.reliability tables.input_order (block_len w) (sent_len w) s

word_is : (tables : Tables) (w : Watch) (s : CodeShape) → IsShapeAt tables w s → word_len s ≡ word_length w
word_is tables w s by =
    ap (λ (k : ℕ). length_of k s.coded_len) by.block_is ∙ ap (λ (e : ℕ). length_of (block_len w) e) by.coded_is

-- so many bits are received as are sent
pub all_received : (tables : Tables) (w : Watch) (s : CodeShape) (bits held : List Bool) → IsCarrying w
    → IsShapeAt tables w s → bits ≡ scrambled w.scramble held
    → length held ≡ 18 * length w.regs.items → length bits ≡ s.coded_len
all_received tables w s bits held keeps by e h =
    ap length e ∙ length-scrambled w.scramble held ∙ h ∙ omega (arith, keeps.count) ∙ sym by.coded_is

-- a differing repeat that the decoder tells is the first of the received bits
pub repeat_told : (tables : Tables) (grid : GridValue) (w : Watch) (s : CodeShape) (bits : List Bool) (at : ℕ)
    → IsShapeAt tables w s
    → IsReceived grid w bits → IsFirstDiffering (word_len s) bits at → HasDifferingRepeat grid w at
repeat_told tables grid w s bits at by h d =
    record { bits = bits; received = h; differs = subst (λ (n : ℕ). IsFirstDiffering n bits at) (word_is tables w s by) d }

-- where it tells that there is no block, the received bits are the code of none
pub code_told : (tables : Tables) (grid : GridValue) (w : Watch) (s : CodeShape) (bits : List Bool) → IsShapeAt tables w s
    → IsReceived grid w bits → RepeatsBelow (word_len s) bits (length bits) → HasNoBlock s bits → HasNoCode tables grid w
code_told tables grid w s bits by h same none =
    record {
      bits = bits;
      received = h;
      repeats = subst (λ (n : ℕ). RepeatsBelow n bits (length bits)) (word_is tables w s by) same;
      none =
          λ block c. none block (block_of_tables tables.reliability tables.input_order (block_len w) (sent_len w) s bits
          block by c);
    }

-- a block that is no masked payload has another parity
pub parity_told : (tables : Tables) (grid : GridValue) (w : Watch) (s : CodeShape) (bits block : List Bool) → IsShapeAt tables w s
    → IsReceived grid w bits → IsBlockOf s bits block → ((p : List Bool) → (None ≡ Some p) ↔ (masked p w.rnti ≡ block))
    → HasOtherParity tables grid w
parity_told tables grid w s bits block by h c strips =
    record {
      bits = bits;
      block = block;
      received = h;
      code = block_by_tables tables.reliability tables.input_order (block_len w) (sent_len w) s bits block by c;
      none = λ p e. none-some p ((strips p).1 e);
    }

-- a payload of which the block is the masked one is carried
pub payload_told : (tables : Tables) (grid : GridValue) (w : Watch) (s : CodeShape) (bits block payload : List Bool)
    → IsShapeAt tables w s
    → IsReceived grid w bits → IsBlockOf s bits block → masked payload w.rnti ≡ block → IsCarried tables grid w payload
payload_told tables grid w s bits block payload by h c e =
    carried_from tables grid w bits block payload h
    (block_by_tables tables.reliability tables.input_order (block_len w) (sent_len w) s bits block by c) e

-- where nothing is read of the payload, nothing is spelled
pub format_told : (tables : Tables) (grid : GridValue) (w : Watch) (number : ℕ) (payload : List Bool) → AreTables tables
    → IsSound w
    → IsCarried tables grid w payload → ((h : Heard) → IsReadAs w number payload h → ⊥) → HasNoFormat tables grid w
format_told tables grid w number payload legal keeps carried none =
    record {
      payload = payload;
      carried = carried;
      none = λ s g.
          let same : g.payload ≡ payload = carried_once tables grid w g.payload payload legal keeps.carrying
          (carried_of tables grid w s keeps g) carried in
          none (heard_of w number s)
          (record {
            number_is = refl;
            fitting = g.fitting;
            carries = record { values = s.values; packs = g.packs ∙ ap (λ (p : List Bool). Some p) same; shows = refl };
          });
    }

-- the grid holds bits at a watch; bits whose repeats agree; the code of a block
record Receives (grid : GridValue) (w : Watch) : Type 0 where
  bits : List Bool
  received : IsReceived grid w bits

record Repeats (grid : GridValue) (w : Watch) : Type 0 where
  bits : List Bool
  received : IsReceived grid w bits
  repeats : RepeatsBelow (word_length w) bits (length bits)

record Decodes (tables : Tables) (grid : GridValue) (w : Watch) : Type 0 where
  bits : List Bool
  block : List Bool
  received : IsReceived grid w bits
  code_is : IsCodeAt tables w bits block

repeats_of_bits : (tables : Tables) (w : Watch) (bits block : List Bool) → IsCodeAt tables w bits block
    → RepeatsBelow (word_length w) bits (length bits)
repeats_of_bits tables w bits block c =
    let P : List Bool → Type 0 = λ b. RepeatsBelow (word_length w) b (sent_len w) in
    let long : sent_len w ≡ length bits =
    sym (length-code_by tables.reliability tables.input_order (block_len w) (sent_len w) block) ∙ ap length c.1
    in
    subst (λ (n : ℕ). RepeatsBelow (word_length w) bits n) long
    (subst P c.1 (code_by_repeats tables.reliability tables.input_order (block_len w) (sent_len w) block))

-- each later stage has what the earlier ones ask for
repeats_decodes : (tables : Tables) (grid : GridValue) (w : Watch) → Decodes tables grid w → Repeats grid w
repeats_decodes tables grid w h =
    record { bits = h.bits; received = h.received; repeats = repeats_of_bits tables w h.bits h.block h.code_is }

receives_repeats : (grid : GridValue) (w : Watch) → Repeats grid w → Receives grid w
receives_repeats grid w h = record { bits = h.bits; received = h.received }

receives_repeat : (grid : GridValue) (w : Watch) (at : ℕ) → HasDifferingRepeat grid w at → Receives grid w
receives_repeat grid w at h = record { bits = h.bits; received = h.received }

repeats_code : (tables : Tables) (grid : GridValue) (w : Watch) → HasNoCode tables grid w → Repeats grid w
repeats_code tables grid w h = record { bits = h.bits; received = h.received; repeats = h.repeats }

decodes_crc : (tables : Tables) (grid : GridValue) (w : Watch) → HasOtherParity tables grid w → Decodes tables grid w
decodes_crc tables grid w h = record { bits = h.bits; block = h.block; received = h.received; code_is = h.code }

decodes_carried : (tables : Tables) (grid : GridValue) (w : Watch) (payload : List Bool) → IsCarrying w
    → IsCarried tables grid w payload → Decodes tables grid w
decodes_carried tables grid w payload keeps h =
    record {
      bits = code tables w (masked payload w.rnti);
      block = masked payload w.rnti;
      received = received_sent tables grid w payload keeps h;
      code_is = (length_block w payload h.0, refl);
    }

decodes_format : (tables : Tables) (grid : GridValue) (w : Watch) → IsCarrying w → HasNoFormat tables grid w
    → Decodes tables grid w
decodes_format tables grid w keeps h = decodes_carried tables grid w h.payload keeps h.carried

carried_heard : (tables : Tables) (grid : GridValue) (w : Watch) (number : ℕ) (h : Heard) → IsSound w
    → (a : IsHeard tables grid w number h)
    → IsCarried tables grid w a.spells.payload
carried_heard tables grid w number h keeps a = carried_of tables grid w (spelling_of h.format a.values) keeps a.spells

decodes_ok : (tables : Tables) (grid : GridValue) (w : Watch) (number : ℕ) (h : Heard) → IsSound w
    → IsHeard tables grid w number h → Decodes tables grid w
decodes_ok tables grid w number h keeps a =
    decodes_carried tables grid w a.spells.payload keeps.carrying (carried_heard tables grid w number h keeps a)

-- no stage fails where a later one is reached
spot_apart : (grid : GridValue) (w : Watch) (bad : BadPlace) → IsCarrying w
    → IsFirstBad grid w.symbol w.dmrs_id w.regs.items bad → Receives grid w → ⊥
spot_apart grid w bad keeps h g =
    bad_apart grid w.symbol w.dmrs_id w.regs.items (scrambled w.scramble g.bits) bad keeps.order g.received h.is_bad

repeat_apart : (grid : GridValue) (w : Watch) (at : ℕ) → IsCarrying w → HasDifferingRepeat grid w at → Repeats grid w → ⊥
repeat_apart grid w at keeps h g =
    let same : h.bits ≡ g.bits = one_received grid w h.bits g.bits keeps h.received g.received in
    none_differs (word_length w) g.bits at g.repeats
    (subst (λ (b : List Bool). IsFirstDiffering (word_length w) b at) same h.differs)

code_apart : (tables : Tables) (grid : GridValue) (w : Watch) → IsCarrying w → HasNoCode tables grid w → Decodes tables grid w → ⊥
code_apart tables grid w keeps h g =
    let same : g.bits ≡ h.bits = one_received grid w g.bits h.bits keeps g.received h.received in
    h.none g.block (subst (λ (b : List Bool). IsCodeAt tables w b g.block) same g.code_is)

parity_apart : (tables : Tables) (grid : GridValue) (w : Watch) (payload : List Bool) → AreTables tables → IsCarrying w
    → HasOtherParity tables grid w
    → IsCarried tables grid w payload → ⊥
parity_apart tables grid w payload legal keeps h g =
    let block = masked payload w.rnti in
    let same : code tables w block
    ≡ h.bits =
    one_received grid w (code tables w block) h.bits keeps (received_sent tables grid w payload keeps g) h.received in
    h.none payload (one_block tables w block h.block legal keeps (length_block w payload g.0) h.code.0 (same ∙ sym h.code.1))

one_repeat : (grid : GridValue) (w : Watch) (at other : ℕ) → IsCarrying w → HasDifferingRepeat grid w at
    → HasDifferingRepeat grid w other → at ≡ other
one_repeat grid w at other keeps h g =
    let same : h.bits ≡ g.bits = one_received grid w h.bits g.bits keeps h.received g.received in
    one_differing (word_length w) g.bits at other
    (subst (λ (b : List Bool). IsFirstDiffering (word_length w) b at) same h.differs) g.differs

one_heard : (tables : Tables) (grid : GridValue) (w : Watch) (number : ℕ) (h g : Heard) → AreTables tables → IsSound w
    → IsHeard tables grid w number h → IsHeard tables grid w number g → h ≡ g
one_heard tables grid w number h g legal keeps a b =
    let same : spelling_of h.format a.values ≡ spelling_of g.format b.values =
    spells_once tables grid w (spelling_of h.format a.values) (spelling_of g.format b.values) legal keeps a.spells b.spells
    in
    ap (λ (n : ℕ). heard_with n h.format h.values) a.number_is
    ∙ ap (λ (v : List FieldValue). heard_with number h.format v) (sym a.shows)
    ∙ ap (heard_of w number) same
    ∙ ap (λ (v : List FieldValue). heard_with number g.format v) b.shows
    ∙ ap (λ (n : ℕ). heard_with n g.format g.values) (sym b.number_is)

-- at most one answer is told at a watch
pub one_answer : (tables : Tables) (grid : GridValue) (w : Watch) (number : ℕ) (x y : Result Heard Silence)
    → AreTables tables → IsSound w
    → IsAnswer tables grid w number x → IsAnswer tables grid w number y → x ≡ y
one_answer tables grid w number (Ok x) (Ok y) legal keeps h g =
    ap (λ (z : Heard). Ok z) (one_heard tables grid w number x y legal keeps h g)
one_answer tables grid w number (Ok x) (Err (silence.Spot worse)) legal keeps h g =
    absurd (spot_apart grid w worse keeps.carrying g
    (receives_repeats grid w (repeats_decodes tables grid w (decodes_ok tables grid w number x keeps h))))
one_answer tables grid w number (Ok x) (Err (silence.Repeat other)) legal keeps h g =
    absurd (repeat_apart grid w other keeps.carrying g
    (repeats_decodes tables grid w (decodes_ok tables grid w number x keeps h)))
one_answer tables grid w number (Ok x) (Err silence.Code) legal keeps h g =
    absurd (code_apart tables grid w keeps.carrying g (decodes_ok tables grid w number x keeps h))
one_answer tables grid w number (Ok x) (Err silence.Crc) legal keeps h g =
    absurd (parity_apart tables grid w h.spells.payload legal keeps.carrying g (carried_heard tables grid w number x keeps h))
one_answer tables grid w number (Ok x) (Err silence.Format) legal keeps h g =
    absurd (g.none (spelling_of x.format h.values) h.spells)
one_answer tables grid w number (Err (silence.Spot bad)) (Ok y) legal keeps h g =
    absurd (spot_apart grid w bad keeps.carrying h
    (receives_repeats grid w (repeats_decodes tables grid w (decodes_ok tables grid w number y keeps g))))
one_answer tables grid w number (Err (silence.Spot bad)) (Err (silence.Spot worse)) legal keeps h g =
    ap (λ (z : BadPlace). Err (silence.Spot z)) (one_first grid w.symbol w.dmrs_id w.regs.items bad worse h g)
one_answer tables grid w number (Err (silence.Spot bad)) (Err (silence.Repeat other)) legal keeps h g =
    absurd (spot_apart grid w bad keeps.carrying h (receives_repeat grid w other g))
one_answer tables grid w number (Err (silence.Spot bad)) (Err silence.Code) legal keeps h g =
    absurd (spot_apart grid w bad keeps.carrying h (receives_repeats grid w (repeats_code tables grid w g)))
one_answer tables grid w number (Err (silence.Spot bad)) (Err silence.Crc) legal keeps h g =
    absurd (spot_apart grid w bad keeps.carrying h
    (receives_repeats grid w (repeats_decodes tables grid w (decodes_crc tables grid w g))))
one_answer tables grid w number (Err (silence.Spot bad)) (Err silence.Format) legal keeps h g =
    absurd (spot_apart grid w bad keeps.carrying h
    (receives_repeats grid w (repeats_decodes tables grid w (decodes_format tables grid w keeps.carrying g))))
one_answer tables grid w number (Err (silence.Repeat at)) (Ok y) legal keeps h g =
    absurd (repeat_apart grid w at keeps.carrying h (repeats_decodes tables grid w (decodes_ok tables grid w number y keeps g)))
one_answer tables grid w number (Err (silence.Repeat at)) (Err (silence.Spot worse)) legal keeps h g =
    absurd (spot_apart grid w worse keeps.carrying g (receives_repeat grid w at h))
one_answer tables grid w number (Err (silence.Repeat at)) (Err (silence.Repeat other)) legal keeps h g =
    ap (λ (z : ℕ). Err (silence.Repeat z)) (one_repeat grid w at other keeps.carrying h g)
one_answer tables grid w number (Err (silence.Repeat at)) (Err silence.Code) legal keeps h g =
    absurd (repeat_apart grid w at keeps.carrying h (repeats_code tables grid w g))
one_answer tables grid w number (Err (silence.Repeat at)) (Err silence.Crc) legal keeps h g =
    absurd (repeat_apart grid w at keeps.carrying h (repeats_decodes tables grid w (decodes_crc tables grid w g)))
one_answer tables grid w number (Err (silence.Repeat at)) (Err silence.Format) legal keeps h g =
    absurd (repeat_apart grid w at keeps.carrying h
    (repeats_decodes tables grid w (decodes_format tables grid w keeps.carrying g)))
one_answer tables grid w number (Err silence.Code) (Ok y) legal keeps h g =
    absurd (code_apart tables grid w keeps.carrying h (decodes_ok tables grid w number y keeps g))
one_answer tables grid w number (Err silence.Code) (Err (silence.Spot worse)) legal keeps h g =
    absurd (spot_apart grid w worse keeps.carrying g (receives_repeats grid w (repeats_code tables grid w h)))
one_answer tables grid w number (Err silence.Code) (Err (silence.Repeat other)) legal keeps h g =
    absurd (repeat_apart grid w other keeps.carrying g (repeats_code tables grid w h))
one_answer tables grid w number (Err silence.Code) (Err silence.Code) legal keeps h g = refl
one_answer tables grid w number (Err silence.Code) (Err silence.Crc) legal keeps h g =
    absurd (code_apart tables grid w keeps.carrying h (decodes_crc tables grid w g))
one_answer tables grid w number (Err silence.Code) (Err silence.Format) legal keeps h g =
    absurd (code_apart tables grid w keeps.carrying h (decodes_format tables grid w keeps.carrying g))
one_answer tables grid w number (Err silence.Crc) (Ok y) legal keeps h g =
    absurd (parity_apart tables grid w g.spells.payload legal keeps.carrying h (carried_heard tables grid w number y keeps g))
one_answer tables grid w number (Err silence.Crc) (Err (silence.Spot worse)) legal keeps h g =
    absurd (spot_apart grid w worse keeps.carrying g
    (receives_repeats grid w (repeats_decodes tables grid w (decodes_crc tables grid w h))))
one_answer tables grid w number (Err silence.Crc) (Err (silence.Repeat other)) legal keeps h g =
    absurd (repeat_apart grid w other keeps.carrying g (repeats_decodes tables grid w (decodes_crc tables grid w h)))
one_answer tables grid w number (Err silence.Crc) (Err silence.Code) legal keeps h g =
    absurd (code_apart tables grid w keeps.carrying g (decodes_crc tables grid w h))
one_answer tables grid w number (Err silence.Crc) (Err silence.Crc) legal keeps h g = refl
one_answer tables grid w number (Err silence.Crc) (Err silence.Format) legal keeps h g =
    absurd (parity_apart tables grid w g.payload legal keeps.carrying h g.carried)
one_answer tables grid w number (Err silence.Format) (Ok y) legal keeps h g =
    absurd (h.none (spelling_of y.format g.values) g.spells)
one_answer tables grid w number (Err silence.Format) (Err (silence.Spot worse)) legal keeps h g =
    absurd (spot_apart grid w worse keeps.carrying g
    (receives_repeats grid w (repeats_decodes tables grid w (decodes_format tables grid w keeps.carrying h))))
one_answer tables grid w number (Err silence.Format) (Err (silence.Repeat other)) legal keeps h g =
    absurd (repeat_apart grid w other keeps.carrying g
    (repeats_decodes tables grid w (decodes_format tables grid w keeps.carrying h)))
one_answer tables grid w number (Err silence.Format) (Err silence.Code) legal keeps h g =
    absurd (code_apart tables grid w keeps.carrying g (decodes_format tables grid w keeps.carrying h))
one_answer tables grid w number (Err silence.Format) (Err silence.Crc) legal keeps h g =
    absurd (parity_apart tables grid w h.payload legal keeps.carrying g h.carried)
one_answer tables grid w number (Err silence.Format) (Err silence.Format) legal keeps h g = refl

-- so an answer that is told is the answer exactly where it is told
pub heard_exactly : (tables : Tables) (grid : GridValue) (w : Watch) (number : ℕ) (result : Result Heard Silence)
    → AreTables tables → IsSound w
    → IsAnswer tables grid w number result → (h : Heard) → (result ≡ Ok h) ↔ IsHeard tables grid w number h
heard_exactly tables grid w number result legal keeps told h = (
  (λ e. subst (IsAnswer tables grid w number) e told),
  (λ k. one_answer tables grid w number result (Ok h) legal keeps told k),
)

-- and a stage exactly where it is the first that fails
pub silent_exactly : (tables : Tables) (grid : GridValue) (w : Watch) (number : ℕ) (result : Result Heard Silence)
    → AreTables tables → IsSound w
    → IsAnswer tables grid w number result → (s : Silence) → (result ≡ Err s) ↔ IsSilence tables grid w s
silent_exactly tables grid w number result legal keeps told s = (
  (λ e. subst (IsAnswer tables grid w number) e told),
  (λ k. one_answer tables grid w number result (Err s) legal keeps told k),
)

-- what is spelled is heard
pub heard_from : (tables : Tables) (grid : GridValue) (w : Watch) (number : ℕ) (s : Spelling) → Spells tables grid w s
    → IsHeard tables grid w number (heard_of w number s)
heard_from tables grid w number s g = record { number_is = refl; values = s.values; spells = g; shows = refl }

err_not_ok : (s : Silence) (h : Heard) → ◌≡◌ {A = Result Heard Silence} (Err s) (Ok h) → ⊥
err_not_ok s h e = cc

-- and the entry that is told is that of what is found among all spellings
pub found_exactly : (tables : Tables) (grid : GridValue) (w : Watch) (number : ℕ) (result : Result Heard Silence)
    → AreTables tables → IsSound w
    → IsAnswer tables grid w number result → result_ok result ≡ heard_at tables grid w number
found_exactly tables grid w number (Ok h) legal keeps told =
    let is : the_spelling tables grid w ≡ Some (spelling_of h.format told.values) =
    spelled_some tables grid w (spelling_of h.format told.values) legal keeps told.spells
    in
    ap (λ (n : ℕ). Some (heard_with n h.format h.values)) told.number_is
    ∙ ap (λ (v : List FieldValue). Some (heard_with number h.format v)) (sym told.shows)
    ∙ sym (ap (option_map (heard_of w number)) is)
found_exactly tables grid w number (Err s) legal keeps told =
    sym
    (ap (option_map (heard_of w number))
    (spelled_none tables grid w
    (λ spelling g.
    err_not_ok s (heard_of w number spelling)
    (one_answer tables grid w number (Err s) (Ok (heard_of w number spelling)) legal keeps told
    (heard_from tables grid w number spelling g)))))

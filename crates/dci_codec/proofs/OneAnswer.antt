-- The answer at a watch as a function is the one that its stages tell.
use Rattle.std.proofs.Common.{◌≡◌, ℕ, ◌-◌, ◌%◌, Bool, true, false, not, List, Option, Some, None, option_map, Result}
use Rattle.std.proofs.Common.{length, refl, ap, sym, subst, ◌∙◌, arith}
use Rattle.std.specs.Bool.{beq}
use Rattle.std.specs.Cmp.{booleans_Decides}
use Rattle.std.specs.Cmp.Lexicographic.{pointwise}
use Rattle.std.specs.List.{find, range_with_len, All}
use Rattle.std.specs.Option.{ok_or}
use Rattle.std.proofs.lemmas.List.Elements.{All-contains}
use Rattle.std.proofs.lemmas.Option.{none-some}
use Rattle.list_facts.proofs.Tests.{true_not_false}
use Rattle.bits_core.specs.Bits.{bit_of}
use Rattle.crc_mask.specs.Parity.{masked}
use Rattle.crc_mask.proofs.Masks.{length-masked}
use Rattle.dmrs_qpsk.specs.declared.taking.BadPlace.{BadPlace}
use Rattle.monitor_plan.specs.declared.watch.Watch.{Watch}
use Rattle.monitor_plan.specs.Watch.{IsSound}
use Rattle.rate_match.specs.Repeats.{IsFirstDiffering, RepeatsBelow}
use Rattle.rrc_settings.specs.Equality.{decides_list}
use Rattle.slot_grid.specs.Grid.{GridValue}
use Rattle.table_files.specs.declared.tables.Tables.{Tables}
use Rattle.dci_codec.specs.declared.heard.Heard.{Heard}
use Rattle.dci_codec.specs.declared.silence.Silence.{Silence}
use Rattle.dci_codec.specs.declared.silence.Silence.TheVariants as silence
use Rattle.dci_codec.specs.Answer.{TellsTheAnswer, all_bits, answer_at, block_with, differs, first_bad, first_differing}
use Rattle.dci_codec.specs.Answer.{payload_in, received, unless_found, where_found}
use Rattle.dci_codec.specs.Hearing.{AreTables, IsCarried, heard_of}
use Rattle.dci_codec.specs.Silences.{IsAnswer, IsCodeAt, IsReceived, word_length}
use Rattle.dci_codec.specs.Spelling.{Spelling}
use Rattle.dci_codec.specs.TheSpelling.{heard_at, the_spelling}
use Rattle.dci_codec.proofs.Carriers.{block_len, carried_from, code}
use Rattle.dci_codec.proofs.Hearings.{spelled_passes, spelled_some}
use Rattle.dci_codec.proofs.Searches.{IsFound, IsSearched, bits_among, found, length-all_bits, searched}
use Rattle.dci_codec.proofs.Stages.{heard_from, one_answer}
use Rattle.dci_codec.proofs.WatchPlaces.{IsRead, bad_told}

-- two bits differ, or are one
they_differ : (a b : Bool) → not (beq a b) ≡ true → a ≡ b → ⊥
they_differ true true e f = cc
they_differ true false e f = cc
they_differ false true e f = cc
they_differ false false e f = cc

they_are_one : (a b : Bool) → not (beq a b) ≡ false → a ≡ b
they_are_one true true e = refl
they_are_one true false e = cc
they_are_one false true e = cc
they_are_one false false e = refl

-- the first differing repeat, where there is one
abbrev IsRepeat : ℕ → List Bool → Option ℕ → Type 0
IsRepeat n bits None = RepeatsBelow n bits (length bits)
IsRepeat n bits (Some at) = IsFirstDiffering n bits at

repeat_by : (n : ℕ) (bits : List Bool) (at : Option ℕ) → IsSearched (differs n bits) n (length bits - n) at → IsRepeat n bits at
repeat_by n bits None h = λ i l m. they_are_one (bit_of bits i) (bit_of bits (i % n)) (h i l (omega (arith, l, m)))
repeat_by n bits (Some at) h = record {
  repeats = h.least;
  within = omega (arith, h.below, h.least);
  differs = they_differ (bit_of bits at) (bit_of bits (at % n)) h.passes;
  before = λ i l m. they_are_one (bit_of bits i) (bit_of bits (i % n)) (h.before i l m);
}

repeat_told : (n : ℕ) (bits : List Bool) → IsRepeat n bits (first_differing n bits)
unfolding first_differing
repeat_told n bits =
    repeat_by n bits (find (differs n bits) (range_with_len n (length bits - n))) (searched (differs n bits) n (length bits - n))

-- a test of lists of bits
abbrev is_same : List Bool → List Bool → Bool
is_same a b = pointwise beq a b

-- among all lists of n bits none passes, where none is found
none_same : (f : List Bool → List Bool) (n : ℕ) (bits list : List Bool) → All (λ x. is_same (f x) bits ≡ false) (all_bits n)
    → length list ≡ n
    → f list ≡ bits → ⊥
none_same f n bits list h e same =
    true_not_false (is_same (f list) bits)
    ((decides_list booleans_Decides (f list) bits).1 same)
    (All-contains (λ x. is_same (f x) bits ≡ false) (all_bits n) list h (bits_among n list e))

-- the block whose code the bits are, where there is one
abbrev IsBlock : Tables → Watch → List Bool → Option (List Bool) → Type 0
IsBlock tables w bits None = (block : List Bool) → IsCodeAt tables w bits block → ⊥
IsBlock tables w bits (Some block) = IsCodeAt tables w bits block

block_by : (tables : Tables) (w : Watch) (bits : List Bool) (block : Option (List Bool))
    → IsFound (λ b. is_same (code tables w b) bits) (all_bits (block_len w)) block → IsBlock tables w bits block
block_by tables w bits None h = λ block c. none_same (code tables w) (block_len w) bits block h c.0 c.1
block_by tables w bits (Some block) h = (
  All-contains (λ (b : List Bool). length b ≡ block_len w) (all_bits (block_len w)) block (length-all_bits (block_len w)) h.among,
  (decides_list booleans_Decides (code tables w block) bits).0 h.passes,
)

block_told : (tables : Tables) (w : Watch) (bits : List Bool) → IsBlock tables w bits (block_with tables w bits)
unfolding block_with
block_told tables w bits =
    let test : List Bool → Bool = λ b. is_same (code tables w b) bits in
    block_by tables w bits (find test (all_bits (block_len w))) (found test (all_bits (block_len w)))

-- the payload of a block, where there is one
abbrev IsPayload : Watch → List Bool → Option (List Bool) → Type 0
IsPayload w block None = (payload : List Bool) → masked payload w.rnti ≡ block → ⊥
IsPayload w block (Some payload) = masked payload w.rnti ≡ block

payload_by : (w : Watch) (block : List Bool) (payload : Option (List Bool)) → length block ≡ block_len w
    → IsFound (λ p. is_same (masked p w.rnti) block) (all_bits w.size) payload → IsPayload w block payload
payload_by w block None size h = λ payload e.
    none_same (λ p. masked p w.rnti) w.size block payload h (omega (arith, length-masked payload w.rnti, ap length e, size)) e
payload_by w block (Some payload) size h = (decides_list booleans_Decides (masked payload w.rnti) block).0 h.passes

payload_told : (w : Watch) (block : List Bool) → length block ≡ block_len w → IsPayload w block (payload_in w block)
unfolding payload_in
payload_told w block size =
    let test : List Bool → Bool = λ p. is_same (masked p w.rnti) block in
    payload_by w block (find test (all_bits w.size)) size (found test (all_bits w.size))

-- each stage ends the work with its silence, or hands over what it found
spot_or : (tables : Tables) (grid : GridValue) (w : Watch) (number : ℕ) (bad : Option BadPlace)
    (next : Result Heard Silence) → IsRead grid w bad
    → (IsReceived grid w (received grid w) → IsAnswer tables grid w number next)
    → IsAnswer tables grid w number (unless_found silence.Spot bad next)
spot_or tables grid w number None next h later = later h
spot_or tables grid w number (Some bad) next h later = h

repeat_or : (tables : Tables) (grid : GridValue) (w : Watch) (number : ℕ) (bits : List Bool) (at : Option ℕ)
    (next : Result Heard Silence)
    → IsReceived grid w bits → IsRepeat (word_length w) bits at
    → (RepeatsBelow (word_length w) bits (length bits) → IsAnswer tables grid w number next)
    → IsAnswer tables grid w number (unless_found silence.Repeat at next)
repeat_or tables grid w number bits None next r h later = later h
repeat_or tables grid w number bits (Some at) next r h later = record { bits = bits; received = r; differs = h }

code_or : (tables : Tables) (grid : GridValue) (w : Watch) (number : ℕ) (bits : List Bool) (block : Option (List Bool))
    (next : List Bool → Result Heard Silence)
    → IsReceived grid w bits → RepeatsBelow (word_length w) bits (length bits) → IsBlock tables w bits block
    → ((b : List Bool) → IsCodeAt tables w bits b → IsAnswer tables grid w number (next b))
    → IsAnswer tables grid w number (where_found silence.Code block next)
code_or tables grid w number bits None next r same h later = record { bits = bits; received = r; repeats = same; none = h }
code_or tables grid w number bits (Some block) next r same h later = later block h

parity_or : (tables : Tables) (grid : GridValue) (w : Watch) (number : ℕ) (bits block : List Bool)
    (payload : Option (List Bool)) (next : List Bool → Result Heard Silence)
    → IsReceived grid w bits → IsCodeAt tables w bits block → IsPayload w block payload
    → ((p : List Bool) → IsCarried tables grid w p → IsAnswer tables grid w number (next p))
    → IsAnswer tables grid w number (where_found silence.Crc payload next)
parity_or tables grid w number bits block None next r c h later =
    record { bits = bits; block = block; received = r; code = c; none = h }
parity_or tables grid w number bits block (Some payload) next r c h later =
    later payload (carried_from tables grid w bits block payload r c h)

format_by : (tables : Tables) (grid : GridValue) (w : Watch) (number : ℕ) (payload : List Bool) (spelling : Option Spelling)
    → AreTables tables
    → IsSound w → IsCarried tables grid w payload → the_spelling tables grid w ≡ spelling
    → IsAnswer tables grid w number (ok_or (option_map (heard_of w number) spelling) silence.Format)
format_by tables grid w number payload None legal keeps h e = record {
  payload = payload;
  carried = h;
  none = λ s g. none-some s (sym e ∙ spelled_some tables grid w s legal keeps g);
}
format_by tables grid w number payload (Some s) legal keeps h e =
    heard_from tables grid w number s (spelled_passes tables grid w s e)

-- so the answer is that of the stages
pub answer_told : (tables : Tables) (grid : GridValue) (w : Watch) (number : ℕ) → AreTables tables → IsSound w
    → IsAnswer tables grid w number (answer_at tables grid w number)
unfolding answer_at
answer_told tables grid w number legal keeps =
    let bits = received grid w in
    let last : Result Heard Silence = ok_or (heard_at tables grid w number) silence.Format in
    let of_block : List Bool → Result Heard Silence = λ block. where_found silence.Crc (payload_in w block) (λ payload. last) in
    let of_bits : Result Heard Silence = where_found silence.Code (block_with tables w bits) of_block in
    spot_or tables grid w number (first_bad grid w)
    (unless_found silence.Repeat (first_differing (word_length w) bits) of_bits) (bad_told grid w keeps.carrying)
    (λ r. repeat_or tables grid w number bits (first_differing (word_length w) bits) of_bits r (repeat_told (word_length w) bits)
    (λ same. code_or tables grid w number bits (block_with tables w bits) of_block r same (block_told tables w bits)
    (λ block c. parity_or tables grid w number bits block (payload_in w block) (λ payload. last) r c (payload_told w block c.0)
    (λ payload h. format_by tables grid w number payload (the_spelling tables grid w) legal keeps h refl))))

-- and the only one
pub answer_is : (tables : Tables) (grid : GridValue) (w : Watch) (number : ℕ) (answer : Result Heard Silence)
    → AreTables tables → IsSound w
    → IsAnswer tables grid w number answer → answer ≡ answer_at tables grid w number
answer_is tables grid w number answer legal keeps told =
    one_answer tables grid w number answer (answer_at tables grid w number) legal keeps told
    (answer_told tables grid w number legal keeps)

-- the law
pub tells_the_answer : TellsTheAnswer
tells_the_answer tables grid w number answer legal keeps = (
  (λ e. subst (IsAnswer tables grid w number) e (answer_told tables grid w number legal keeps)),
  (λ told. sym (answer_is tables grid w number answer legal keeps told)),
)

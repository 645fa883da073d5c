-- The answer at a watch, stage by stage (3GPP TS 38.211, 7.3.2 and 7.4.1.3.2; 3GPP TS 38.212, 7.3): what is heard, or the stage
-- that fails first.
use Rattle.std.specs.Prelude.{◌≡◌, ◌↔◌, ℕ, zero, suc, ◌+◌, ◌-◌, ◌*◌, ◌/◌, ◌%◌, Bool, true, false, not, cond, List, [], ◌∷◌}
use Rattle.std.specs.Prelude.{length, map, Option, Some, None, option_map, Result, Err}
use Rattle.std.specs.Bool.{beq}
use Rattle.std.specs.Cmp.Lexicographic.{pointwise}
use Rattle.std.specs.List.{find, flat_map, range_with_len}
use Rattle.std.specs.Option.{ok_or}
use Rattle.bits_core.specs.Bits.{bit_of}
use Rattle.coreset_map.specs.declared.places.Spot.{Spot}
use Rattle.coreset_map.specs.DataPlaces.{is_reference}
use Rattle.crc_mask.specs.Parity.{masked}
use Rattle.dmrs_qpsk.specs.declared.taking.BadPlace.{BadPlace}
use Rattle.dmrs_qpsk.specs.declared.taking.Flaw.TheVariants as flaw
use Rattle.dmrs_qpsk.specs.PointsOnGrid.{reference_rank}
use Rattle.dmrs_qpsk.specs.ReferencePoints.{reference}
use Rattle.monitor_plan.specs.declared.watch.Watch.{Watch}
use Rattle.monitor_plan.specs.Watch.{IsSound}
use Rattle.polar_chain.specs.CodeOfBlock.{code_by}
use Rattle.slot_grid.specs.declared.places.Point.{Point}
use Rattle.slot_grid.specs.declared.places.Point.TheVariants.{Empty, P00, P01, P10, P11}
use Rattle.slot_grid.specs.Grid.{GridValue, point_at}
use Rattle.slot_grid.specs.Image.{is_point}
use Rattle.table_files.specs.declared.tables.Tables.{Tables}
use Rattle.dci_codec.specs.declared.heard.Heard.{Heard}
use Rattle.dci_codec.specs.declared.silence.Silence.{Silence}
use Rattle.dci_codec.specs.declared.silence.Silence.TheVariants as silence
use Rattle.dci_codec.specs.Hearing.{AreTables}
use Rattle.dci_codec.specs.Scrambling.{scrambled}
use Rattle.dci_codec.specs.Silences.{IsAnswer, word_length}
use Rattle.dci_codec.specs.TheSpelling.{heard_at}
use Rattle.dci_codec.specs.WatchPlaces.{places}

-- whether a place is for a reference point
abbrev pub has_reference : Spot → Bool
has_reference place = is_reference (place.subcarrier % 12)

-- the reference point of a place
abbrev pub reference_at : GridValue → Watch → Spot → Point
reference_at grid watch place =
    reference grid.slot place.symbol watch.dmrs_id (place.subcarrier / 12) (reference_rank (place.subcarrier % 12))

-- whether a place is bad: one for a reference point has not this point, or one for data has no point
abbrev pub is_bad : GridValue → Watch → Spot → Bool
is_bad grid watch place =
    let point = point_at grid place.symbol place.subcarrier in
    cond (has_reference place) (not (is_point (reference_at grid watch place) point)) (is_point Empty point)

-- what is told of a bad place: where it is, and what is wrong there
abbrev pub bad_place : Spot → BadPlace
bad_place place = record {
  symbol = place.symbol;
  subcarrier = place.subcarrier;
  flaw = cond (has_reference place) flaw.Reference flaw.Empty;
}

-- the first place of a watch that is bad
unfoldable pub first_bad : GridValue → Watch → Option BadPlace
first_bad grid watch = option_map bad_place (find (is_bad grid watch) (places watch))

-- the two bits of a point
abbrev pub bits_of_point : Point → List Bool
bits_of_point Empty = []
bits_of_point P00 = false ∷ false ∷ []
bits_of_point P01 = false ∷ true ∷ []
bits_of_point P10 = true ∷ false ∷ []
bits_of_point P11 = true ∷ true ∷ []

-- the bits at a place: those of its point, and none where it is for a reference point
abbrev pub bits_at : GridValue → Spot → List Bool
bits_at grid place = cond (has_reference place) [] (bits_of_point (point_at grid place.symbol place.subcarrier))

-- the bits that are received at a watch: those at its places, each added to the scrambling sequence's
unfoldable pub received : GridValue → Watch → List Bool
received grid watch = scrambled watch.scramble (flat_map (bits_at grid) (places watch))

-- whether a bit differs from the one of the first n that it repeats
abbrev pub differs : ℕ → List Bool → ℕ → Bool
differs n bits i = not (beq (bit_of bits i) (bit_of bits (i % n)))

-- the place of the first bit behind the first n that does
unfoldable pub first_differing : ℕ → List Bool → Option ℕ
first_differing n bits = find (differs n bits) (range_with_len n (length bits - n))

-- all lists of n bits
unfoldable pub all_bits : ℕ → List (List Bool)
all_bits zero = [] ∷ []
all_bits (suc n) = flat_map (λ bit. map (λ bits. bit ∷ bits) (all_bits n)) (false ∷ true ∷ [])

-- the block, of a payload's bits and 24 more, that has these bits as its code at a watch
unfoldable pub block_with : Tables → Watch → List Bool → Option (List Bool)
block_with tables watch bits =
    find (λ block. pointwise beq (code_by tables.reliability tables.input_order (watch.size + 24) (108 * watch.level) block) bits)
    (all_bits (watch.size + 24))

-- the payload that is this block with its parity, masked by the watch's RNTI
unfoldable pub payload_in : Watch → List Bool → Option (List Bool)
payload_in watch block = find (λ payload. pointwise beq (masked payload watch.rnti) block) (all_bits watch.size)

-- a stage at which something is wrong ends the work, and else this goes on
abbrev pub unless_found : {X : Type 0} → (X → Silence) → Option X → Result Heard Silence → Result Heard Silence
unless_found silent None next = next
unless_found silent (Some wrong) next = Err (silent wrong)

-- a stage that finds nothing ends the work, and else this goes on with what it found
abbrev pub where_found : {X : Type 0} → Silence → Option X → (X → Result Heard Silence) → Result Heard Silence
where_found silent None next = Err silent
where_found silent (Some found) next = next found

-- what is told of a grid at the watch of a number: the first bad place; else the first of the received bits that differs from
-- the one that it repeats; else that they are no block's code; else that the block is no masked payload; else what is spelled,
-- or that nothing is. It is never computed: `hear` meets it
unfoldable pub answer_at : Tables → GridValue → Watch → ℕ → Result Heard Silence
answer_at tables grid watch number =
    let bits = received grid watch in
    unless_found silence.Spot (first_bad grid watch)
    (unless_found silence.Repeat (first_differing (word_length watch) bits)
    (where_found silence.Code (block_with tables watch bits) (λ block.
    where_found silence.Crc (payload_in watch block) (λ payload.
    ok_or (heard_at tables grid watch number) silence.Format))))

-- this is the answer that the stages tell, and the only one
abbrev pub TellsTheAnswer : Type 0
TellsTheAnswer =
    (tables : Tables) (grid : GridValue) (watch : Watch) (number : ℕ) (answer : Result Heard Silence) → AreTables tables →
    IsSound watch →
    (answer_at tables grid watch number ≡ answer) ↔ IsAnswer tables grid watch number answer

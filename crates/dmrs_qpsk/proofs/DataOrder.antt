-- The data places of REGs have the points of the bits, two by two, and subcarrier 4k + 1 of each has reference point k.
use Rattle.std.proofs.Common.{◌≡◌, ℕ, ◌+◌, ◌*◌, ◌/◌, ◌%◌, ◌<◌, Bool, true, List, Some, length, sym, ◌∙◌, ap, arith}
use Rattle.std.proofs.lemmas.Bool.Decides.{nat_tests}
use Rattle.std.proofs.lemmas.Option.{slice_get_within, same_Some}
use Rattle.bits_core.specs.Bits.{bit_of}
use Rattle.coreset_map.specs.declared.places.Spot.{Spot}
use Rattle.coreset_map.specs.RegOrder.{reg_at}
use Rattle.coreset_map.specs.DataPlaces.{data_places, is_reference}
use Rattle.coreset_map.proofs.Spots.{spot_of, data_place_is, length-data_places, no_reference}
use Rattle.dmrs_qpsk.specs.Modulation.{point_of}
use Rattle.dmrs_qpsk.specs.PointLaws.{DataInOrder, ReferencesInOrder}
use Rattle.dmrs_qpsk.specs.PointsOnGrid.{data_rank, image_of}
use Rattle.dmrs_qpsk.specs.ReferencePoints.{reference}
use Rattle.dmrs_qpsk.proofs.BlockPlaces.{data_rank_back, reference_rank_there}
use Rattle.dmrs_qpsk.proofs.ImagesOnGrid.{image_at}
use Rattle.dmrs_qpsk.proofs.RegPoints.{data_there, reference_there}

bits_of_place : (bits : List Bool) (i j d rank : ℕ) → rank ≡ d → i ≡ 9 * j + d
    → point_of (bit_of bits (18 * j + 2 * rank)) (bit_of bits (18 * j + 2 * rank + 1))
    ≡ point_of (bit_of bits (2 * i)) (bit_of bits (2 * i + 1))
bits_of_place bits i j d rank e f =
    let g : 18 * j + 2 * rank ≡ 2 * i = omega (arith, e, f) in
    ap (λ n. point_of (bit_of bits n) (bit_of bits (n + 1))) g

-- data place i of the REGs has the point of bits 2i and 2i + 1
pub data_are_in_order : DataInOrder
data_are_in_order slot first id symbols blocks regs bits i spot r w e =
    let l = slice_get_within (data_places symbols blocks regs) i spot e in
    let n = length-data_places symbols blocks regs r w in
    let few : i < 9 * length regs = omega (arith, l, n) in
    let j = i / 9 in
    let d = i % 9 in
    let k = d + (d + 2) / 3 in
    let reg = reg_at regs j in
    let low : d < 9 = omega arith in
    let same : spot_of reg d ≡ spot = same_Some _ _ (sym (data_place_is symbols blocks regs i r w few) ∙ e) in
    let place : 12 * reg.block + k ≡ (spot_of reg d).subcarrier = omega arith in
    ap (λ (x : Spot). image_of slot first id regs bits (first + x.symbol) x.subcarrier) (sym same)
    ∙ ap (λ c. image_of slot first id regs bits (first + reg.symbol) c) (sym place)
    ∙ image_at slot first id regs bits j k r (omega (arith, few)) (omega (arith, low))
    ∙ ap (λ p. Some p)
    (data_there slot (first + reg.symbol) id reg.block bits j k (no_reference d low)
    ∙ bits_of_place bits i j d (data_rank k) (data_rank_back d low) (omega arith))

reference_at_4k : (k : ℕ) → k < 3 → is_reference (4 * k + 1) ≡ true
reference_at_4k k h = grind (arith, nat_tests)

-- subcarrier 4k + 1 of each REG has reference point k
pub references_are_in_order : ReferencesInOrder
references_are_in_order slot first id regs bits j k r l h =
    let reg = reg_at regs j in
    let at = 4 * k + 1 in
    let is : is_reference at ≡ true = reference_at_4k k h in
    let rank = reference_rank_there at is in
    image_at slot first id regs bits j at r l (omega (arith, h))
    ∙ ap (λ p. Some p)
    (reference_there slot (first + reg.symbol) id reg.block bits j at is
    ∙ ap (reference slot (first + reg.symbol) id reg.block) (omega (arith, rank)))

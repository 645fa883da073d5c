-- The point at a subcarrier of a REG: its reference point, or the point of the two bits of its place.
use Rattle.std.proofs.Common.{◌≡◌, ℕ, ◌+◌, ◌*◌, ◌<◌, Bool, true, false, List, [], ◌∷◌, ◌++◌, length, sym, ◌∙◌, ap, arith}
use Rattle.std.proofs.lemmas.Bool.{cond-true, cond-false}
use Rattle.std.proofs.lemmas.List.{get_or_append_left, get_or-append-add}
use Rattle.bits_core.specs.Bits.{bit_of}
use Rattle.slot_grid.specs.declared.places.Point.{Point}
use Rattle.coreset_map.specs.DataPlaces.{is_reference}
use Rattle.dmrs_qpsk.specs.Modulation.{point_of}
use Rattle.dmrs_qpsk.specs.PointsOnGrid.{data_rank, reference_rank, reg_point}
use Rattle.dmrs_qpsk.specs.ReferencePoints.{reference}

-- the point of the bits that a REG has at a data place
abbrev data_point : List Bool → ℕ → ℕ → Point
data_point bits j k = point_of (bit_of bits (18 * j + 2 * data_rank k)) (bit_of bits (18 * j + 2 * data_rank k + 1))

-- where a REG has its reference points
pub reference_there : (slot symbol id block : ℕ) (bits : List Bool) (j k : ℕ) → is_reference k ≡ true
    → reg_point slot symbol id block bits j k ≡ reference slot symbol id block (reference_rank k)
unfolding reg_point
reference_there slot symbol id block bits j k e =
    cond-true (is_reference k) (reference slot symbol id block (reference_rank k)) (data_point bits j k) e

-- where a REG has the points of its bits
pub data_there : (slot symbol id block : ℕ) (bits : List Bool) (j k : ℕ) → is_reference k ≡ false
    → reg_point slot symbol id block bits j k
    ≡ point_of (bit_of bits (18 * j + 2 * data_rank k)) (bit_of bits (18 * j + 2 * data_rank k + 1))
unfolding reg_point
data_there slot symbol id block bits j k e =
    cond-false (is_reference k) (reference slot symbol id block (reference_rank k)) (data_point bits j k) e

-- more bits change no earlier point
pub kept_by : (slot symbol id block : ℕ) (bits more : List Bool) (j k : ℕ) (t : Bool) → is_reference k ≡ t
    → (is_reference k ≡ false → 18 * j + 2 * data_rank k + 1 < length bits)
    → reg_point slot symbol id block bits j k ≡ reg_point slot symbol id block (bits ++ more) j k
kept_by slot symbol id block bits more j k true e h =
    reference_there slot symbol id block bits j k e ∙ sym (reference_there slot symbol id block (bits ++ more) j k e)
kept_by slot symbol id block bits more j k false e h =
    let at = 18 * j + 2 * data_rank k in
    let l : at + 1 < length bits = h e in
    data_there slot symbol id block bits j k e
    ∙ ap (λ x. point_of x (bit_of bits (at + 1))) (sym (get_or_append_left bits more false at (omega arith)))
    ∙ ap (λ x. point_of (bit_of (bits ++ more) at) x) (sym (get_or_append_left bits more false (at + 1) l))
    ∙ sym (data_there slot symbol id block (bits ++ more) j k e)

-- the two bits that come last are those of their place
pub last_bits : (bits : List Bool) (a b : Bool) (at : ℕ) → length bits ≡ at
    → point_of a b ≡ point_of (bit_of (bits ++ a ∷ b ∷ []) at) (bit_of (bits ++ a ∷ b ∷ []) (at + 1))
last_bits bits a b at e =
    let all = bits ++ a ∷ b ∷ [] in
    let first : bit_of all at ≡ a = ap (bit_of all) (omega arith) ∙ get_or-append-add bits (a ∷ b ∷ []) 0 false in
    let second : bit_of all (at + 1) ≡ b = ap (bit_of all) (omega arith) ∙ get_or-append-add bits (a ∷ b ∷ []) 1 false in
    ap (λ x. point_of x b) (sym first) ∙ ap (point_of (bit_of all at)) (sym second)

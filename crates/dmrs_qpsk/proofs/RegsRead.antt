-- The points of whole REGs are read, one REG after another.
use Rattle.std.proofs.Common.{◌≡◌, ℕ, ◌+◌, ◌*◌, ◌/◌, ◌%◌, ◌<◌, Bool, true, false, List, length, inl, inr}
use Rattle.std.proofs.Common.{refl, sym, ◌∙◌, ap, subst, arith}
use Rattle.std.proofs.lemmas.Bool.{cases_lt}
use Rattle.bits_core.specs.Bits.{bit_of}
use Rattle.bits_core.specs.Ones.{has_one}
use Rattle.bits_core.specs.Row.{word_bit, row_bits}
use Rattle.bits_core.proofs.Rows.{length-row}
use Rattle.bits_core.proofs.RowWords.{bit_of-row}
use Rattle.gold_scrambler.specs.Gold.{gold}
use Rattle.gold_scrambler.specs.Stretches.{HasBits}
use Rattle.slot_grid.specs.Block.{point_in}
use Rattle.slot_grid.specs.Grid.{GridValue, point_at}
use Rattle.coreset_map.specs.declared.places.Reg.{Reg}
use Rattle.coreset_map.specs.DataPlaces.{is_reference}
use Rattle.coreset_map.specs.RegOrder.{reg_at}
use Rattle.dmrs_qpsk.specs.Held.{Holds}
use Rattle.dmrs_qpsk.specs.Modulation.{point_of}
use Rattle.dmrs_qpsk.specs.PointsOnGrid.{data_rank, reg_point}
use Rattle.dmrs_qpsk.specs.ReferencePoints.{reference_start}
use Rattle.dmrs_qpsk.specs.Taken.{HasPoint, ArePointsTaken}
use Rattle.dmrs_qpsk.specs.WholeRegs.{IsRegRead}
use Rattle.dmrs_qpsk.proofs.BlockPlaces.{data_is, data_rank_is}
use Rattle.dmrs_qpsk.proofs.PointsRead.{all_taken}
use Rattle.dmrs_qpsk.proofs.RegPoints.{reference_there, data_there}
use Rattle.dmrs_qpsk.proofs.RegWords.{point_in_reg}

-- a REG has the points of its bits in the row
pub reg_has_points : (grid : GridValue) (first id : ℕ) (regs : List Reg) (j word references packed : ℕ) (words : List ℕ)
    → ((k : ℕ) → k < 12
    → point_at grid (first + (reg_at regs j).symbol) (12 * (reg_at regs j).block + k) ≡ point_in word k)
    → HasBits (gold (reference_start grid.slot (first + (reg_at regs j).symbol) id)) (6 * (reg_at regs j).block) 6 references
    → IsRegRead word references packed → ((i : ℕ) → i < 18 → word_bit words (18 * j + i) ≡ has_one packed i)
    → (k : ℕ) → k < 12 → HasPoint grid first id regs (row_bits words (18 * (j + 1))) j k
reg_has_points grid first id regs j word references packed words points wanted h behind k l =
    let reg = reg_at regs j in
    let bits = row_bits words (18 * (j + 1)) in
    let row : HasBits (bit_of bits) (18 * j) 18 packed =
    record { bit = λ i m. sym (bit_of-row words (18 * (j + 1)) (18 * j + i) (omega arith) ∙ behind i m) } in
    points k l ∙ point_in_reg grid.slot (first + reg.symbol) id reg.block word references packed j bits wanted h row k l

-- the point of an earlier REG is by earlier bits
same_by : (slot symbol id block : ℕ) (old new : List Bool) (j k : ℕ) (t : Bool) → is_reference k ≡ t → k < 12
    → ((i : ℕ) → i < 18 * (j + 1) → bit_of new i ≡ bit_of old i)
    → reg_point slot symbol id block old j k ≡ reg_point slot symbol id block new j k
same_by slot symbol id block old new j k true e l same =
    reference_there slot symbol id block old j k e ∙ sym (reference_there slot symbol id block new j k e)
same_by slot symbol id block old new j k false e l same =
    let d = data_is k e in
    let rank = data_rank_is k (omega arith) in
    let at = 18 * j + 2 * data_rank k in
    data_there slot symbol id block old j k e
    ∙ ap (λ x. point_of x (bit_of old (at + 1))) (sym (same at (omega (arith, rank, d))))
    ∙ ap (point_of (bit_of new at)) (sym (same (at + 1) (omega (arith, rank, d))))
    ∙ sym (data_there slot symbol id block new j k e)

-- an earlier bit of the longer row
earlier_bit : (old new : List ℕ) (j i : ℕ) → i < 18 * j → ((i : ℕ) → i < 18 * j → word_bit new i ≡ word_bit old i)
    → bit_of (row_bits new (18 * (j + 1))) i ≡ bit_of (row_bits old (18 * j)) i
earlier_bit old new j i l before =
    bit_of-row new (18 * (j + 1)) i (omega arith) ∙ before i l ∙ sym (bit_of-row old (18 * j) i l)

-- one more REG is read
pub one_reg_more : (grid : GridValue) (first id : ℕ) (regs : List Reg) (j : ℕ) (old new : List ℕ)
    → ArePointsTaken grid first id regs (row_bits old (18 * j)) (12 * j)
    → ((i : ℕ) → i < 18 * j → word_bit new i ≡ word_bit old i)
    → ((k : ℕ) → k < 12 → HasPoint grid first id regs (row_bits new (18 * (j + 1))) j k)
    → ArePointsTaken grid first id regs (row_bits new (18 * (j + 1))) (12 * (j + 1))
one_reg_more grid first id regs j old new h before points =
    let bits = row_bits new (18 * (j + 1)) in
    record {
      size = length-row new (18 * (j + 1)) ∙ omega (arith, data_rank_is (12 * (j + 1) % 12) (omega arith));
      there = λ m l. elim (cases_lt m (12 * j)) [
        | inl n ↦
            let reg = reg_at regs (m / 12) in
            h.there m n
            ∙ same_by grid.slot (first + reg.symbol) id reg.block (row_bits old (18 * j)) bits (m / 12) (m % 12)
            (is_reference (m % 12)) refl (omega arith)
            (λ i k. earlier_bit old new j i (omega arith) before)
        | inr n ↦
            let reg : j ≡ m / 12 = omega arith in
            let P : ℕ → Type 0 = λ i. HasPoint grid first id regs bits i (m % 12) in
            subst P reg (points (m % 12) (omega arith))
      ];
    }

-- where all REGs are read, the grid holds the row
pub all_regs_read : (grid : GridValue) (first id : ℕ) (regs : List Reg) (j : ℕ) (words : List ℕ) → j ≡ length regs
    → ArePointsTaken grid first id regs (row_bits words (18 * j)) (12 * j)
    → Holds grid first id regs (row_bits words (18 * length regs))
all_regs_read grid first id regs j words e h =
    let P : ℕ → Type 0 = λ n. Holds grid first id regs (row_bits words (18 * n)) in
    subst P e (all_taken grid first id regs (row_bits words (18 * j)) (12 * j) (omega (arith, e)) h)

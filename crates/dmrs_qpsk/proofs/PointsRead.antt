-- The points at the places of REGs are read one after another, 12 a REG.
use Rattle.std.proofs.Common.{◌≡◌, ℕ, ◌+◌, ◌*◌, ◌/◌, ◌%◌, ◌<◌, ◌≤◌, Bool, true, false, List, [], ◌∷◌, ◌++◌, length}
use Rattle.std.proofs.Common.{inl, inr, refl, sym, ◌∙◌, ap, subst, arith, below_more, length-append}
use Rattle.slot_grid.specs.Grid.{GridValue, point_at}
use Rattle.coreset_map.specs.declared.places.Reg.{Reg}
use Rattle.coreset_map.specs.DataPlaces.{is_reference}
use Rattle.coreset_map.specs.RegOrder.{reg_at}
use Rattle.dmrs_qpsk.specs.Modulation.{point_of}
use Rattle.dmrs_qpsk.specs.PointsOnGrid.{data_rank, reference_rank}
use Rattle.dmrs_qpsk.specs.ReferencePoints.{reference}
use Rattle.dmrs_qpsk.specs.Held.{Holds}
use Rattle.dmrs_qpsk.specs.Taken.{HasPoint, ArePointsTaken, IsPointTaken}
use Rattle.dmrs_qpsk.proofs.BlockPlaces.{IsData, data_is, data_rank_is, which_reference}
use Rattle.dmrs_qpsk.proofs.ImagesOnGrid.{of_reg}
use Rattle.dmrs_qpsk.proofs.RegPoints.{reference_there, data_there, kept_by, last_bits}

-- before the first place, none is read
pub none_taken : (grid : GridValue) (first id : ℕ) (regs : List Reg) (bits : List Bool) → bits ≡ []
    → ArePointsTaken grid first id regs bits 0
none_taken grid first id regs bits e = record {
  size = ap length e ∙ omega (arith, data_rank_is 0 (omega arith));
  there = λ m l. absurd (omega (arith, l));
}

-- before the last place, there is room for two bits more
pub room_left : (grid : GridValue) (first id : ℕ) (regs : List Reg) (bits : List Bool) (n : ℕ)
    → ArePointsTaken grid first id regs bits n → n < 12 * length regs → length regs ≤ 96 → length bits + 2 ≤ 1728
room_left grid first id regs bits n h l few = omega (arith, h.size, data_rank_is (n % 12) (omega arith))

-- how many bits the places below have, at the place after a reference place and after a data place
size_after_reference : (n : ℕ) → is_reference (n % 12) ≡ true
    → 18 * (n / 12) + 2 * data_rank (n % 12) ≡ 18 * ((n + 1) / 12) + 2 * data_rank ((n + 1) % 12)
size_after_reference n e =
    let here = data_rank_is (n % 12) (omega arith) in
    let next = data_rank_is ((n + 1) % 12) (omega arith) in
    elim (which_reference (n % 12) e) [
      | inl a ↦ omega arith
      | inr r ↦ elim r [ inl a ↦ omega arith | inr a ↦ omega arith ]
    ]

size_after_data : (n : ℕ) → IsData (n % 12)
    → 18 * (n / 12) + 2 * data_rank (n % 12) + 2 ≡ 18 * ((n + 1) / 12) + 2 * data_rank ((n + 1) % 12)
size_after_data n d =
    let here = data_rank_is (n % 12) (omega arith) in
    let next = data_rank_is ((n + 1) % 12) (omega arith) in
    omega (arith, d)

-- the bits of an earlier data place are among those of the places below
earlier_bits : (m n : ℕ) → m < n → IsData (m % 12)
    → 18 * (m / 12) + 2 * data_rank (m % 12) + 1 < 18 * (n / 12) + 2 * data_rank (n % 12)
earlier_bits m n h d =
    let here = data_rank_is (m % 12) (omega arith) in
    let there = data_rank_is (n % 12) (omega arith) in
    omega (arith, d)

-- a reference place is read
reference_taken : (grid : GridValue) (first id : ℕ) (regs : List Reg) (bits : List Bool) (n : ℕ)
    → ArePointsTaken grid first id regs bits n
    → is_reference (n % 12) ≡ true
    → point_at grid (first + (reg_at regs (n / 12)).symbol) (12 * (reg_at regs (n / 12)).block + n % 12)
    ≡ reference grid.slot (first + (reg_at regs (n / 12)).symbol) id (reg_at regs (n / 12)).block (reference_rank (n % 12))
    → ArePointsTaken grid first id regs bits (n + 1)
reference_taken grid first id regs bits n h e p =
    let reg = reg_at regs (n / 12) in
    record {
      size = h.size ∙ size_after_reference n e;
      there = below_more (λ m. HasPoint grid first id regs bits (m / 12) (m % 12)) n h.there
          (p ∙ sym (reference_there grid.slot (first + reg.symbol) id reg.block bits (n / 12) (n % 12) e));
    }

-- a data place is read
data_taken : (grid : GridValue) (first id : ℕ) (regs : List Reg) (bits : List Bool) (n : ℕ) (a b : Bool)
    → ArePointsTaken grid first id regs bits n
    → is_reference (n % 12) ≡ false
    → point_at grid (first + (reg_at regs (n / 12)).symbol) (12 * (reg_at regs (n / 12)).block + n % 12) ≡ point_of a b
    → ArePointsTaken grid first id regs (bits ++ a ∷ b ∷ []) (n + 1)
data_taken grid first id regs bits n a b h e p =
    let reg = reg_at regs (n / 12) in
    let all = bits ++ a ∷ b ∷ [] in
    record {
      size =
          length-append bits (a ∷ b ∷ []) ∙ ap (λ l. l + 2) h.size
          ∙ size_after_data n (data_is (n % 12) e);
      there = below_more (λ m. HasPoint grid first id regs all (m / 12) (m % 12)) n
          (λ m l.
          h.there m l
          ∙ kept_by grid.slot (first + (reg_at regs (m / 12)).symbol) id (reg_at regs (m / 12)).block bits (a ∷ b ∷ [])
          (m / 12) (m % 12) (is_reference (m % 12)) refl
          (λ f. omega (arith, h.size, earlier_bits m n l (data_is (m % 12) f))))
          (p ∙ last_bits bits a b (18 * (n / 12) + 2 * data_rank (n % 12)) h.size
          ∙ sym (data_there grid.slot (first + reg.symbol) id reg.block all (n / 12) (n % 12) e));
    }

more_by : (grid : GridValue) (first id : ℕ) (regs : List Reg) (old new : List Bool) (n : ℕ) (t : Bool) → is_reference (n % 12) ≡ t
    → ArePointsTaken grid first id regs old n
    → IsPointTaken grid (first + (reg_at regs (n / 12)).symbol) id (reg_at regs (n / 12)).block (n % 12) old new
    → ArePointsTaken grid first id regs new (n + 1)
more_by grid first id regs old new n true e h taken =
    let (p, same) = taken.reference_is e in
    let P : List Bool → Type 0 = λ bits. ArePointsTaken grid first id regs bits (n + 1) in
    subst P (sym same) (reference_taken grid first id regs old n h e p)
more_by grid first id regs old new n false e h taken =
    let (a, b, p, same) = taken.data_is e in
    let P : List Bool → Type 0 = λ bits. ArePointsTaken grid first id regs bits (n + 1) in
    subst P (sym same) (data_taken grid first id regs old n a b h e p)

-- one more place is read
pub one_taken_more : (grid : GridValue) (first id : ℕ) (regs : List Reg) (old new : List Bool) (n : ℕ)
    → ArePointsTaken grid first id regs old n
    → IsPointTaken grid (first + (reg_at regs (n / 12)).symbol) id (reg_at regs (n / 12)).block (n % 12) old new
    → ArePointsTaken grid first id regs new (n + 1)
one_taken_more grid first id regs old new n h taken = more_by grid first id regs old new n (is_reference (n % 12)) refl h taken

-- each place that is read has its point
pub taken_at : (grid : GridValue) (first id : ℕ) (regs : List Reg) (bits : List Bool) (n j k : ℕ)
    → ArePointsTaken grid first id regs bits n → k < 12
    → 12 * j + k < n → HasPoint grid first id regs bits j k
taken_at grid first id regs bits n j k h l m =
    let reg : (12 * j + k) / 12 ≡ j = omega arith in
    let within : (12 * j + k) % 12 ≡ k = omega arith in
    let P : ℕ → Type 0 = λ i. HasPoint grid first id regs bits i ((12 * j + k) % 12) in
    let Q : ℕ → Type 0 = λ i. HasPoint grid first id regs bits j i in
    subst Q within (subst P reg (h.there (12 * j + k) m))

-- where all places are read, the grid holds the bits
pub all_taken : (grid : GridValue) (first id : ℕ) (regs : List Reg) (bits : List Bool) (n : ℕ) → n ≡ 12 * length regs
    → ArePointsTaken grid first id regs bits n → Holds grid first id regs bits
all_taken grid first id regs bits n whole h = (
  omega (arith, h.size, data_rank_is (n % 12) (omega (arith, whole))),
  λ s c p e.
      let o = of_reg grid.slot first id regs bits s c p e in
      ap (λ symbol. point_at grid symbol c) (sym o.symbol_is)
      ∙ ap (point_at grid (first + (reg_at regs o.reg).symbol)) (sym o.place_is)
      ∙ taken_at grid first id regs bits n o.reg (c % 12) h (omega arith) (omega (arith, o.within))
      ∙ o.point_is,
)

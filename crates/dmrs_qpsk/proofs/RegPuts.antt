-- The points of REGs are written one after another.
use Rattle.std.proofs.Common.{◌≡◌, ℕ, ◌+◌, ◌*◌, ◌<◌, Bool, List, length, sym, ◌∙◌, arith, below_more}
use Rattle.slot_grid.specs.Block.{point_in}
use Rattle.slot_grid.specs.Grid.{GridValue, IsBlockPut, point_at}
use Rattle.slot_grid.proofs.Numbers.{numbers_on}
use Rattle.coreset_map.specs.declared.places.Reg.{Reg}
use Rattle.coreset_map.specs.RegOrder.{reg_at, AreRegs}
use Rattle.dmrs_qpsk.specs.PointsOnGrid.{reg_point}
use Rattle.dmrs_qpsk.specs.Placed.{AreRegsPut}

-- two REGs of a list are apart
pub reg_apart : (regs : List Reg) (i j : ℕ) → AreRegs regs → i < j → j < length regs
    → (reg_at regs i).symbol ≡ (reg_at regs j).symbol → (reg_at regs i).block ≡ (reg_at regs j).block → ⊥
reg_apart regs i j apart h l e f = omega (arith, (apart i j h l).1 e)

-- one more REG is written
pub one_reg_more : (first id : ℕ) (regs : List Reg) (bits : List Bool) (n word : ℕ) (old mid new : GridValue) → AreRegs regs
    → n < length regs → AreRegsPut first id regs bits n old mid
    → IsBlockPut (first + (reg_at regs n).symbol) (reg_at regs n).block word mid new
    → ((k : ℕ) → k < 12
    → point_in word k ≡ reg_point old.slot (first + (reg_at regs n).symbol) id (reg_at regs n).block bits n k)
    → AreRegsPut first id regs bits (n + 1) old new
one_reg_more first id regs bits n word old mid new apart l h put points = record {
  numbers = numbers_on h.numbers put.numbers;
  there = λ j i m k.
      below_more
      (λ j. point_at new (first + (reg_at regs j).symbol) (12 * (reg_at regs j).block + i)
      ≡ reg_point old.slot (first + (reg_at regs j).symbol) id (reg_at regs j).block bits j i)
      n
      (λ j m.
      put.others (first + (reg_at regs j).symbol) (12 * (reg_at regs j).block + i)
      (λ e b. reg_apart regs j n apart m l (omega (arith, e)) (omega (arith, b, k)))
      ∙ h.there j i m k)
      (put.there i k ∙ points i k)
      j m;
  others = λ s c other.
      put.others s c (λ e b. other n (omega arith) (sym e) (sym b))
      ∙ h.others s c (λ j m. other j (omega arith));
}

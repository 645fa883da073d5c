-- REGs of blocks in a row.
use Rattle.std.proofs.Common.{◌≡◌, ℕ, ◌<◌, List, map, length, ap, arith}
use Rattle.std.specs.List.{range_with_len}
use Rattle.std.proofs.lemmas.List.FromFn.{get_or-map-range_with_len, length-map-range_with_len}
use Rattle.coreset_map.specs.declared.places.Reg.{Reg}
use Rattle.coreset_map.specs.RegOrder.{reg_at, AreRegs}

-- the REG of a block in symbol 0
abbrev pub reg_of_block : ℕ → Reg
reg_of_block block = record { symbol = 0; block = block }

abbrev pub regs_below : ℕ → List Reg
regs_below n = map reg_of_block (range_with_len 0 n)

at : (n j : ℕ) → j < n → reg_at (regs_below n) j ≡ reg_of_block j
at n j h = get_or-map-range_with_len reg_of_block 0 n j j (record { symbol = 0; block = 0 }) h (omega arith)

size : (n : ℕ) → length (regs_below n) ≡ n
size n = length-map-range_with_len reg_of_block 0 n

-- a list of the REGs of the first n blocks
pub record ListsBlocks (n : ℕ) (items : List Reg) : Type 0 where
  pub order : AreRegs items
  pub size : length items ≡ n
  pub places : (j : ℕ) → j < length items → ((reg_at items j).symbol ≡ 0) × ((reg_at items j).block < n)

pub lists : (n : ℕ) → ListsBlocks n (regs_below n)
lists n = record {
  order = λ i j h l.
      let s = size n in
      let a = ap (λ (r : Reg). r.symbol) (at n i (omega arith)) in
      let b = ap (λ (r : Reg). r.symbol) (at n j (omega arith)) in
      let x = ap (λ (r : Reg). r.block) (at n i (omega arith)) in
      let y = ap (λ (r : Reg). r.block) (at n j (omega arith)) in
      (omega arith, λ _. omega arith);
  size = size n;
  places = λ j h.
      let s = size n in
      let x = ap (λ (r : Reg). r.block) (at n j (omega arith)) in
      (ap (λ (r : Reg). r.symbol) (at n j (omega arith)), omega arith);
}

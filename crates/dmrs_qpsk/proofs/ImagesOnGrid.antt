-- Which places the image of bits on REGs has.
use Rattle.std.proofs.Common.{◌≡◌, ℕ, ◌+◌, ◌*◌, ◌/◌, ◌%◌, ◌<◌, Bool, List, Some, option_map, length, inl, inr, refl}
use Rattle.std.proofs.Common.{sym, ◌∙◌, ap, arith}
use Rattle.std.proofs.lemmas.Bool.{cases_lt}
use Rattle.std.proofs.lemmas.Option.{none-some, same_Some}
use Rattle.slot_grid.specs.declared.places.Point.{Point}
use Rattle.slot_grid.specs.Grid.{GridValue}
use Rattle.slot_grid.proofs.Images.{IsWithin, AreCompatible}
use Rattle.coreset_map.specs.declared.places.Reg.{Reg}
use Rattle.coreset_map.specs.RegOrder.{AreInside, AreRegs, reg_at}
use Rattle.dmrs_qpsk.specs.PointsOnGrid.{reg_point, which_reg, image_of}
use Rattle.dmrs_qpsk.proofs.RegPuts.{reg_apart}
use Rattle.dmrs_qpsk.proofs.RegNumbers.{reg_cases}

same_reg : (regs : List Reg) (i j : ℕ) → AreRegs regs → i < length regs → j < length regs
    → (reg_at regs i).symbol ≡ (reg_at regs j).symbol → (reg_at regs i).block ≡ (reg_at regs j).block → i ≡ j
same_reg regs i j apart h l e f =
    elim (cases_lt i j) [
      | inl m ↦ absurd (reg_apart regs i j apart m l e f)
      | inr m ↦ elim (cases_lt j i) [
        | inl n ↦ absurd (reg_apart regs j i apart n h (sym e) (sym f))
        | inr n ↦ omega arith
      ]
    ]

-- REG j is the only one of the list in its symbol and block
pub one_at : (first : ℕ) (regs : List Reg) (j : ℕ) → AreRegs regs → j < length regs
    → which_reg first regs (first + (reg_at regs j).symbol) (reg_at regs j).block ≡ Some j
one_at first regs j apart h =
    elim (reg_cases first regs (first + (reg_at regs j).symbol) (reg_at regs j).block) [
      | inl n ↦ absurd (n.apart j h refl refl)
      | inr (i, r) ↦
          let same : i ≡ j = same_reg regs i j apart r.below h (omega (arith, r.symbol_is)) r.block_is in
          r.some ∙ ap (λ k. Some k) same
    ]

-- the image has at subcarrier k of REG j the point of that place
pub image_at : (slot first id : ℕ) (regs : List Reg) (bits : List Bool) (j k : ℕ) → AreRegs regs → j < length regs → k < 12
    → image_of slot first id regs bits (first + (reg_at regs j).symbol) (12 * (reg_at regs j).block + k)
    ≡ Some (reg_point slot (first + (reg_at regs j).symbol) id (reg_at regs j).block bits j k)
unfolding image_of
image_at slot first id regs bits j k apart h l =
    let reg = reg_at regs j in
    let s = first + reg.symbol in
    let c = 12 * reg.block + k in
    let block : c / 12 ≡ reg.block = omega arith in
    let place : c % 12 ≡ k = omega arith in
    let point : ℕ → ℕ → ℕ → Point = λ b i m. reg_point slot s id b bits i m in
    ap (option_map (λ i. point (c / 12) i (c % 12))) (ap (which_reg first regs s) block ∙ one_at first regs j apart h)
    ∙ ap (λ b. Some (point b j (c % 12))) block
    ∙ ap (λ m. Some (point reg.block j m)) place

-- where the REGs are on the grid, so is the image
pub image_within : (grid : GridValue) (slot first id : ℕ) (regs : List Reg) (bits : List Bool) → AreInside first grid.blocks regs
    → IsWithin grid (image_of slot first id regs bits)
unfolding image_of
image_within grid slot first id regs bits inside s c p e =
    elim (reg_cases first regs s (c / 12)) [
      | inl n ↦ absurd (none-some p (sym (ap (option_map (λ j. reg_point slot s id (c / 12) bits j (c % 12))) n.none) ∙ e))
      | inr (j, r) ↦
          let (row, column) = inside j r.below in
          (omega (arith, r.symbol_is), omega (arith, r.block_is))
    ]

-- a point of an image is that of a subcarrier of one of its REGs
pub record IsOfReg (slot first id : ℕ) (regs : List Reg) (bits : List Bool) (s c : ℕ) (p : Point) : Type 0 where
  pub reg : ℕ
  pub within : reg < length regs
  pub symbol_is : first + (reg_at regs reg).symbol ≡ s
  pub place_is : 12 * (reg_at regs reg).block + c % 12 ≡ c
  pub point_is : reg_point slot (first + (reg_at regs reg).symbol) id (reg_at regs reg).block bits reg (c % 12) ≡ p

-- each point of an image is such a point
pub of_reg : (slot first id : ℕ) (regs : List Reg) (bits : List Bool) (s c : ℕ) (p : Point)
    → image_of slot first id regs bits s c ≡ Some p
    → IsOfReg slot first id regs bits s c p
unfolding image_of
of_reg slot first id regs bits s c p e =
    let point : ℕ → ℕ → ℕ → Point = λ symbol block j. reg_point slot symbol id block bits j (c % 12) in
    elim (reg_cases first regs s (c / 12)) [
      | inl n ↦ absurd (none-some p (sym (ap (option_map (point s (c / 12))) n.none) ∙ e))
      | inr (j, r) ↦ record {
        reg = j;
        within = r.below;
        symbol_is = r.symbol_is;
        place_is = omega (arith, r.block_is);
        point_is =
            ap (λ symbol. point symbol (reg_at regs j).block j) r.symbol_is
            ∙ ap (λ block. point s block j) r.block_is
            ∙ same_Some (point s (c / 12) j) p (sym (ap (option_map (point s (c / 12))) r.some) ∙ e);
      }
    ]

-- where two lists of REGs share no symbol and block, their images are alike wherever both have a point: nowhere
pub images_compatible : (slot first id : ℕ) (regs : List Reg) (bits : List Bool) (slot' first' id' : ℕ) (regs' : List Reg)
    (bits' : List Bool)
    → ((i j : ℕ) → i < length regs → j < length regs' → first + (reg_at regs i).symbol ≡ first' + (reg_at regs' j).symbol
    → (reg_at regs i).block ≡ (reg_at regs' j).block → ⊥)
    → AreCompatible (image_of slot first id regs bits) (image_of slot' first' id' regs' bits')
images_compatible slot first id regs bits slot' first' id' regs' bits' apart s c p q e f =
    let a = of_reg slot first id regs bits s c p e in
    let b = of_reg slot' first' id' regs' bits' s c q f in
    absurd (apart a.reg b.reg a.within b.within (a.symbol_is ∙ sym b.symbol_is) (omega (arith, a.place_is, b.place_is)))

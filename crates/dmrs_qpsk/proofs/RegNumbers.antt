-- Which REG a place is in, and the grid on which all REGs are written.
use Rattle.std.proofs.Common.{◌≡◌, ℕ, zero, suc, ◌+◌, ◌*◌, ◌/◌, ◌%◌, ◌<◌, Bool, true, false, ◌&&◌, ◌==◌, cond, List, []}
use Rattle.std.proofs.Common.{◌∷◌, Some, None, option_map, unwrap_or, length, ◌⊎◌, inl, inr, refl, sym, ◌∙◌, ap, arith}
use Rattle.std.proofs.lemmas.Bool.Decides.{nat_tests}
use Rattle.slot_grid.specs.declared.places.Point.{Point}
use Rattle.slot_grid.specs.Grid.{GridValue, point_at}
use Rattle.coreset_map.specs.declared.places.Reg.{Reg}
use Rattle.coreset_map.specs.RegOrder.{reg_at}
use Rattle.dmrs_qpsk.specs.PointsOnGrid.{reg_point, which_reg, image_of}
use Rattle.dmrs_qpsk.specs.Placed.{AreRegsPut}

-- no REG of a list is in a symbol and a block
pub record IsNowhere (first : ℕ) (regs : List Reg) (symbol block : ℕ) : Type 0 where
  pub none : which_reg first regs symbol block ≡ None
  pub apart : (j : ℕ) → j < length regs → first + (reg_at regs j).symbol ≡ symbol → (reg_at regs j).block ≡ block → ⊥

-- REG j of a list is the one in a symbol and a block
pub record IsNumber (first : ℕ) (regs : List Reg) (symbol block j : ℕ) : Type 0 where
  pub some : which_reg first regs symbol block ≡ Some j
  pub below : j < length regs
  pub symbol_is : first + (reg_at regs j).symbol ≡ symbol
  pub block_is : (reg_at regs j).block ≡ block

apart_each : (first : ℕ) (reg : Reg) (regs : List Reg) (symbol block : ℕ) → (first + reg.symbol ≡ symbol → reg.block ≡ block → ⊥)
    → ((j : ℕ) → j < length regs → first + (reg_at regs j).symbol ≡ symbol → (reg_at regs j).block ≡ block → ⊥)
    → (j : ℕ) → j < length (reg ∷ regs) → first + (reg_at (reg ∷ regs) j).symbol ≡ symbol
    → (reg_at (reg ∷ regs) j).block ≡ block → ⊥
apart_each first reg regs symbol block here later zero l e f = here e f
apart_each first reg regs symbol block here later (suc j) l e f = later j (omega arith) e f

both_true : (a b c d : ℕ) → (a == b && c == d) ≡ true → (a ≡ b) × (c ≡ d)
both_true a b c d e = grind (arith, nat_tests)

not_both : (a b c d : ℕ) → (a == b && c == d) ≡ false → a ≡ b → c ≡ d → ⊥
not_both a b c d e f g = grind (arith, nat_tests)

-- the first REG is the one
first_is : (first : ℕ) (reg : Reg) (regs : List Reg) (symbol block : ℕ)
    → (first + reg.symbol == symbol && reg.block == block) ≡ true → IsNumber first (reg ∷ regs) symbol block 0
unfolding which_reg
first_is first reg regs symbol block e =
    let (f, g) = both_true (first + reg.symbol) symbol reg.block block e in
    record {
      some = ap (λ t. cond t (Some 0) (option_map suc (which_reg first regs symbol block))) e;
      below = omega arith;
      symbol_is = f;
      block_is = g;
    }

-- the first REG is not the one, and a later one is
later_is : (first : ℕ) (reg : Reg) (regs : List Reg) (symbol block j : ℕ)
    → (first + reg.symbol == symbol && reg.block == block) ≡ false → IsNumber first regs symbol block j
    → IsNumber first (reg ∷ regs) symbol block (suc j)
unfolding which_reg
later_is first reg regs symbol block j e h = record {
  some = ap (λ t. cond t (Some 0) (option_map suc (which_reg first regs symbol block))) e ∙ ap (option_map suc) h.some;
  below = omega (arith, h.below);
  symbol_is = h.symbol_is;
  block_is = h.block_is;
}

-- neither the first REG nor a later one is the one
none_is : (first : ℕ) (reg : Reg) (regs : List Reg) (symbol block : ℕ)
    → (first + reg.symbol == symbol && reg.block == block) ≡ false → IsNowhere first regs symbol block
    → IsNowhere first (reg ∷ regs) symbol block
unfolding which_reg
none_is first reg regs symbol block e h = record {
  none = ap (λ t. cond t (Some 0) (option_map suc (which_reg first regs symbol block))) e ∙ ap (option_map suc) h.none;
  apart = apart_each first reg regs symbol block (not_both (first + reg.symbol) symbol reg.block block e) h.apart;
}

-- no REG, or one, is in a symbol and a block
abbrev pub RegCases : ℕ → List Reg → ℕ → ℕ → Type 0
RegCases first regs symbol block = IsNowhere first regs symbol block ⊎ ((j : ℕ) × IsNumber first regs symbol block j)

cases_more : (first : ℕ) (reg : Reg) (regs : List Reg) (symbol block : ℕ) (t : Bool)
    → (first + reg.symbol == symbol && reg.block == block) ≡ t → RegCases first regs symbol block
    → RegCases first (reg ∷ regs) symbol block
cases_more first reg regs symbol block true e h = inr (0, first_is first reg regs symbol block e)
cases_more first reg regs symbol block false e (inl h) = inl (none_is first reg regs symbol block e h)
cases_more first reg regs symbol block false e (inr (j, h)) = inr (suc j, later_is first reg regs symbol block j e h)

-- a symbol and a block are in one REG of a list, or in none
pub reg_cases : (first : ℕ) (regs : List Reg) (symbol block : ℕ) → RegCases first regs symbol block
unfolding which_reg
reg_cases first [] symbol block = inl (record { none = refl; apart = λ j h. absurd (omega arith) })
reg_cases first (reg ∷ regs) symbol block =
    cases_more first reg regs symbol block (first + reg.symbol == symbol && reg.block == block) refl
    (reg_cases first regs symbol block)

-- where every REG is written, each place has the image's point, or else the old one
pub regs_done : (first id : ℕ) (regs : List Reg) (bits : List Bool) (old new : GridValue)
    → AreRegsPut first id regs bits (length regs) old new
    → (s c : ℕ) → point_at new s c ≡ unwrap_or (image_of old.slot first id regs bits s c) (point_at old s c)
unfolding image_of
regs_done first id regs bits old new h s c =
    let here : 12 * (c / 12) + c % 12 ≡ c = omega arith in
    let point : ℕ → Point = λ j. reg_point old.slot s id (c / 12) bits j (c % 12) in
    let was = point_at old s c in
    elim (reg_cases first regs s (c / 12)) [
      | inl n ↦ h.others s c n.apart ∙ sym (ap (λ o. unwrap_or (option_map point o) was) n.none)
      | inr (j, r) ↦
          ap (λ m. point_at new s m) (sym here)
          ∙ ap (λ b. point_at new s (12 * b + c % 12)) (sym r.block_is)
          ∙ ap (λ m. point_at new m (12 * (reg_at regs j).block + c % 12)) (sym r.symbol_is)
          ∙ h.there j (c % 12) r.below (omega arith)
          ∙ ap (λ m. reg_point old.slot m id (reg_at regs j).block bits j (c % 12)) r.symbol_is
          ∙ ap (λ b. reg_point old.slot s id b bits j (c % 12)) r.block_is
          ∙ sym (ap (λ o. unwrap_or (option_map point o) was) r.some)
    ]

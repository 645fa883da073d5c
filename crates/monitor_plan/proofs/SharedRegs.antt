-- The test of shared REGs tells whether two watches share one.
use Rattle.std.proofs.Common.{◌≡◌, ℕ, ◌+◌, ◌<◌, Bool, true, ◌&&◌, List, length, get_or, sym, subst, ◌∙◌}
use Rattle.std.specs.Prelude.{◌==◌}
use Rattle.std.proofs.lemmas.Bool.{and_parts, and_from, eqb-true, eq-eqb}
use Rattle.std.proofs.lemmas.List.{get_or_default}
use Rattle.std.proofs.lemmas.List.Folds.{Any-from_list_any, list_any_at}
use Rattle.coreset_map.specs.declared.places.Reg.{Reg}
use Rattle.coreset_map.specs.RegOrder.{reg_at}
use Rattle.monitor_plan.specs.declared.watch.Watch.{Watch}
use Rattle.monitor_plan.specs.Watch.{has_reg, shares_reg, SharesReg, TellsSharedRegs}

-- the default of `reg_at`
abbrev nowhere : Reg
nowhere = record { symbol = 0; block = 0 }

-- an element that a search finds is the one at its place
at_place : (regs : List Reg) (k : ℕ) (r : Reg) → k < length regs → get_or regs k r ≡ r → r ≡ reg_at regs k
at_place regs k r h e = sym e ∙ get_or_default regs k r nowhere h

-- whether a REG is in a symbol and a block
abbrev stands : ℕ → ℕ → ℕ → Reg → Bool
stands first symbol block r = first + r.symbol == symbol && r.block == block

has_from : (w : Watch) (symbol block : ℕ) → has_reg w symbol block ≡ true
    → (k : ℕ) × (k < length w.regs.items) × (w.symbol + (reg_at w.regs.items k).symbol ≡ symbol)
    × ((reg_at w.regs.items k).block ≡ block)
has_from w symbol block e =
    let (k, r, within, here, is) = Any-from_list_any (stands w.symbol symbol block) w.regs.items e in
    let parts = and_parts (w.symbol + r.symbol == symbol) (r.block == block) is in
    let P : Reg → Type 0 = λ x. w.symbol + x.symbol ≡ symbol in
    let Q : Reg → Type 0 = λ x. x.block ≡ block in
    let at = at_place w.regs.items k r within here in
    (k, within, subst P at (eqb-true (w.symbol + r.symbol) symbol parts.0), subst Q at (eqb-true r.block block parts.1))

has_to : (w : Watch) (symbol block k : ℕ) → k < length w.regs.items → w.symbol + (reg_at w.regs.items k).symbol ≡ symbol
    → (reg_at w.regs.items k).block ≡ block → has_reg w symbol block ≡ true
has_to w symbol block k h e f =
    let r = reg_at w.regs.items k in
    list_any_at (stands w.symbol symbol block) w.regs.items k nowhere h
    (and_from (w.symbol + r.symbol == symbol) (r.block == block) (eq-eqb (w.symbol + r.symbol) symbol e) (eq-eqb r.block block f))

shares_from : (a b : Watch) → shares_reg a b ≡ true → SharesReg a b
shares_from a b e =
    let (k, r, within, here, is) = Any-from_list_any (λ (x : Reg). has_reg b (a.symbol + x.symbol) x.block) a.regs.items e in
    let P : Reg → Type 0 = λ x. has_reg b (a.symbol + x.symbol) x.block ≡ true in
    let one = reg_at a.regs.items k in
    let (j, inside, symbol_is, block_is) = has_from b (a.symbol + one.symbol) one.block
    (subst P (at_place a.regs.items k r within here) is) in
    record { reg = k; other = j; within = within; other_within = inside; symbol = sym symbol_is; block = sym block_is }

shares_to : (a b : Watch) → SharesReg a b → shares_reg a b ≡ true
shares_to a b h =
    let one = reg_at a.regs.items h.reg in
    list_any_at (λ (x : Reg). has_reg b (a.symbol + x.symbol) x.block) a.regs.items h.reg nowhere h.within
    (has_to b (a.symbol + one.symbol) one.block h.other h.other_within (sym h.symbol) (sym h.block))

-- the test tells whether two watches share a REG
pub tells_shared_regs : TellsSharedRegs
tells_shared_regs a b = (shares_from a b, shares_to a b)

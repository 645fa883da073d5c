use Rattle.std.proofs.Common.{◌≡◌, ℕ, List, Option, Some, drop}
use Rattle.std.specs.Prelude.{fold, slice_set}
use Rattle.coreset_map.specs.declared.places.Reg.{Reg}
use Rattle.cell_placer.specs.Owners.{owner_place}
use Rattle.cell_placer.proofs.owners.own.Given as goal

abbrev pub invariant-loop-reg : goal.invariant-loop-reg
invariant-loop-reg l =
    fold (λ (table : List (Option ℕ)) (r : Reg). slice_set table (owner_place l.blocks l.symbol r) (Some l.call)) l.owners
    (drop l.reg-index l.regs)
    ≡ fold (λ (table : List (Option ℕ)) (r : Reg). slice_set table (owner_place l.blocks l.symbol r) (Some l.call))
    l.initial.owners l.regs

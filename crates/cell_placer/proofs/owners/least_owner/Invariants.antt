use Rattle.std.proofs.Common.{◌≡◌, ℕ, Option, None, drop}
use Rattle.std.specs.Prelude.{fold, slice_index_or}
use Rattle.coreset_map.specs.declared.places.Reg.{Reg}
use Rattle.cell_placer.specs.Owners.{least, owner_place}
use Rattle.cell_placer.proofs.owners.least_owner.Given as goal

abbrev pub invariant-loop-reg : goal.invariant-loop-reg
invariant-loop-reg l =
    fold (λ (best : Option ℕ) (r : Reg). least best (slice_index_or l.owners (owner_place l.blocks l.symbol r) None)) l.best
    (drop l.reg-index l.regs)
    ≡ fold (λ (best : Option ℕ) (r : Reg). least best (slice_index_or l.owners (owner_place l.blocks l.symbol r) None)) None
    l.regs

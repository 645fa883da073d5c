use Rattle.std.proofs.Common.{◌≡◌, drop}
use Rattle.std.specs.List.{list_any}
use Rattle.rrc_settings.specs.declared.settings.SearchSet.{SearchSet}
use Rattle.dci_fields.specs.Alignment.{same_kind}
use Rattle.size_alignment.proofs.monitored.is_one_of_kind.Given as goal

-- the sets that are left decide
abbrev pub invariant-loop-set : goal.invariant-loop-set
invariant-loop-set l =
    list_any (λ (set : SearchSet). same_kind set.kind l.kind) l.sets
    ≡ list_any (λ (set : SearchSet). same_kind set.kind l.kind) (drop l.set-index l.sets)

use Rattle.cell_placer.specs.declared.refusal.DeskFault.{DeskFault}
use Rattle.cell_placer.proofs.Openings.{TellsFrom}
use Rattle.cell_placer.proofs.opening.fault_from.Given as goal

-- what tells of the handsets from this one on tells of all from the first one on
abbrev pub invariant-loop-handset : goal.invariant-loop-handset
invariant-loop-handset l =
    (fault : DeskFault) → TellsFrom l.cell l.frame l.slot l.handset fault → TellsFrom l.cell l.frame l.slot l.from fault

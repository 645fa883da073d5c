use Rattle.cell_placer.proofs.Openings.{AreMade}
use Rattle.cell_placer.proofs.opening.members_of.Given as goal

-- the handsets so far are made
abbrev pub invariant-loop-handset : goal.invariant-loop-handset
invariant-loop-handset l = AreMade l.cell l.frame l.slot l.handset l.members.items

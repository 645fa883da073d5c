use Rattle.par_sweep.proofs.Placing.{UnderwayWith}
use Rattle.par_sweep.proofs.slots.place_all.Given as goal

-- the grants before this one were placed
abbrev pub invariant-loop-grant : goal.invariant-loop-grant
invariant-loop-grant l = UnderwayWith l.codes l.tables l.grants l.grant-index l.initial.desk l.desk l.counts

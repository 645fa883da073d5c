use Rattle.std.proofs.Common.{◌≡◌, ◌++◌, map}
use Rattle.std.specs.List.{range_with_len}
use Rattle.par_sweep.specs.LoadGrants.{load_grant}
use Rattle.par_sweep.proofs.grants.push_grants.Given as goal

-- the grants so far follow those that were there
abbrev pub invariant-loop-handset : goal.invariant-loop-handset
invariant-loop-handset l = l.grants.items ≡ l.initial.grants.items ++ map (load_grant l.t l.format) (range_with_len 0 l.handset)

use Rattle.std.proofs.Common.{◌≡◌, ◌++◌, drop, map, take}
use Rattle.nrpdcch_c.specs.HeardNumbers.{heard_of}
use Rattle.nrpdcch_c.proofs.searching.put_report.Given as goal

-- the entries so far are written, and behind them is what was there
abbrev pub invariant-loop-index : goal.invariant-loop-index
invariant-loop-index l = l.found ≡ map heard_of (take l.index l.report) ++ drop l.index l.initial.found

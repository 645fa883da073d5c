use Rattle.std.proofs.Common.{vec_capacity}
use Rattle.blind_search.proofs.SoFar.{IsSearchedBelow}
use Rattle.blind_search.proofs.searcher.push_heard.Given as goal

abbrev pub invariant-loop-number : goal.invariant-loop-number
invariant-loop-number l =
    IsSearchedBelow l.tables l.grid l.watches l.number (vec_capacity l.initial.heard) l.heard l.codes

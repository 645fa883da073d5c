use Rattle.pdcch_app.proofs.Placings.{UnderwayWith}
use Rattle.pdcch_app.proofs.writing.place_all.Given as goal

-- the grants before this one were placed
abbrev pub invariant-loop-number : goal.invariant-loop-number
invariant-loop-number l =
    UnderwayWith l.codes l.tables l.grants (record { desk = l.initial.desk; lines = l.initial.lines.items })
    (record { desk = l.desk; lines = l.lines.items; all = l.all_placed }) l.number

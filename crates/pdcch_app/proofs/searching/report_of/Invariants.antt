use Rattle.pdcch_app.proofs.Listeners.{ReportedWith}
use Rattle.pdcch_app.proofs.searching.report_of.Given as goal

-- the handsets before this one were reported
abbrev pub invariant-loop-handset : goal.invariant-loop-handset
invariant-loop-handset l = ReportedWith l.codes l.cell l.tables l.grid l.first l.end l.handset l.text.items

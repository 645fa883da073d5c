use Rattle.std.proofs.Common.{◌≡◌, ◌++◌, take}
use Rattle.std.specs.List.{flat_map}
use Rattle.report_text.specs.Report.{entry_line}
use Rattle.report_text.proofs.report.push_entries.Given as goal

-- the lines of the entries so far follow the text
abbrev pub invariant-loop-entry : goal.invariant-loop-entry
invariant-loop-entry l =
    l.out.items ≡ l.initial.out.items ++ flat_map (entry_line l.initial.watches) (take l.entry-index l.initial.heard)

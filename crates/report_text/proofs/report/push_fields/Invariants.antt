use Rattle.std.proofs.Common.{◌≡◌, ◌++◌, take}
use Rattle.std.specs.List.{flat_map}
use Rattle.report_text.specs.Report.{field_text}
use Rattle.report_text.proofs.report.push_fields.Given as goal

-- the texts of the fields so far follow the text
abbrev pub invariant-loop-field : goal.invariant-loop-field
invariant-loop-field l = l.out.items ≡ l.initial.out.items ++ flat_map field_text (take l.field-index l.initial.fields)

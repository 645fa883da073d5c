use Rattle.std.proofs.Common.{◌∙◌, ap}
use Rattle.std.proofs.lemmas.List.{append-nil}
use Rattle.plain_text.proofs.Appending.{appends_same}
use Rattle.report_text.specs.Explain.{silent_text}
use Rattle.report_text.proofs.explain.push_silent.Goals as goal

pub returns-in-Repeat : goal.returns-in-Repeat
returns-in-Repeat c = appends_same c.push_pieces.ensures (ap silent_text c.in-Repeat.is ∙ simp append-nil)

pub returns-in-Code : goal.returns-in-Code
returns-in-Code c = appends_same c.push_text.ensures (ap silent_text c.in-Code.is)

pub returns-in-Format : goal.returns-in-Format
returns-in-Format c = appends_same c.push_text-in-Format.ensures (ap silent_text c.in-Format.is)

use Rattle.std.proofs.Common.{append_assoc}
use Rattle.std.proofs.lemmas.List.{append-nil}
use Rattle.plain_text.proofs.Appending.{appends_same}
use Rattle.report_text.specs.Explain.{spot_text}
use Rattle.report_text.proofs.explain.push_spot.Goals as goal

pub returns : goal.returns
unfolding spot_text
returns c =
    appends_same c.push_pieces.ensures
    (simp (append_assoc, append-nil, c.flaw_word.ensures, c.from.ensures, c.from-2.ensures))

use Rattle.std.proofs.Common.{append_assoc}
use Rattle.std.proofs.lemmas.List.{append-nil}
use Rattle.plain_text.proofs.Appending.{appends_same}
use Rattle.par_sweep.specs.Summary.{slot_line}
use Rattle.par_sweep.proofs.summary.push_slot.Goals as goal

pub returns : goal.returns
unfolding slot_line
returns c =
    appends_same c.push_pieces.ensures
    (simp (append_assoc, append-nil, c.from.ensures, c.from-2.ensures, c.from-3.ensures, c.from-4.ensures, c.from-5.ensures))

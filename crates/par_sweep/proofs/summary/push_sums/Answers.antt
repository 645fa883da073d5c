use Rattle.std.proofs.Common.{append_assoc}
use Rattle.std.proofs.lemmas.List.{append-nil}
use Rattle.plain_text.proofs.Appending.{appends_same}
use Rattle.par_sweep.specs.Summary.{sums_line}
use Rattle.par_sweep.proofs.summary.push_sums.Goals as goal

pub returns : goal.returns
unfolding sums_line
returns c = appends_same c.push_pieces.ensures (simp (append_assoc, append-nil))

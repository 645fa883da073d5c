use Rattle.coreset_map.specs.ControlResources.{interleaved}
use Rattle.coreset_map.proofs.interleaver.Interleaver.bundle_at.Goals as goal

pub returns : goal.returns
unfolding interleaved
returns c = cc (c.from.ensures, c.from-columns.ensures, c.from-2.ensures, c.from-3.ensures, c.from-bundles.ensures)

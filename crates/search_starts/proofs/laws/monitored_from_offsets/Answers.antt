use Rattle.search_starts.proofs.Periods.{from_offsets}
use Rattle.search_starts.proofs.laws.monitored_from_offsets.Goals as goal

pub returns : goal.returns
returns c = from_offsets

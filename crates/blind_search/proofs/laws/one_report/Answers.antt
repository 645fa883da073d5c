use Rattle.blind_search.proofs.Reports.{one_report}
use Rattle.blind_search.proofs.laws.one_report.Goals as goal

pub returns : goal.returns
returns c = one_report

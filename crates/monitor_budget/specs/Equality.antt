-- `==` of candidates and allotments holds exactly of equal values.
use Rattle.std.specs.Prelude.{◌≡◌, Decides}
use Rattle.std.specs.Cmp.{unsigned_Decides}
use Rattle.std.proofs.Common.{rules}
use Rattle.std.proofs.lemmas.Grind.{common_steps}
use Rattle.rrc_settings.specs.Equality.{decides_array_vec}
use Rattle.monitor_budget.specs.declared.counted.Counted.{Counted}
use Rattle.monitor_budget.specs.declared.candidates.Candidate.{Candidate}
use Rattle.monitor_budget.specs.declared.allotment.CommonOver.{CommonOver}
use Rattle.monitor_budget.specs.declared.allotment.Allotment.{Allotment}
use Rattle.monitor_budget.specs.contracts.counted.CountedPartialEq.TheImpl as counted
use Rattle.monitor_budget.specs.contracts.candidates.CandidatePartialEq.TheImpl as candidate
use Rattle.monitor_budget.specs.contracts.allotment.CommonOverPartialEq.TheImpl as common_over
use Rattle.monitor_budget.specs.contracts.allotment.AllotmentPartialEq.TheImpl as allotment

-- candidates as they count
pub decides_counted : (a b : Counted) → Decides (counted.ghosts.eq a b) (a ≡ b)
decides_counted a b = search (rules, common_steps)

-- candidates
pub decides_candidate : (a b : Candidate) → Decides (candidate.ghosts.eq a b) (a ≡ b)
decides_candidate a b = search (rules, common_steps)

-- counts of common sets
pub decides_common_over : (a b : CommonOver) → Decides (common_over.ghosts.eq a b) (a ≡ b)
decides_common_over a b = search (rules, common_steps)

-- allotments
pub decides_allotment : (a b : Allotment) → Decides (allotment.ghosts.eq a b) (a ≡ b)
decides_allotment a b = let s = decides_array_vec unsigned_Decides a.sets b.sets in search (rules, common_steps)

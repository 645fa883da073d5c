use Rattle.std.proofs.Common.{◌≡◌, drop}
use Rattle.std.specs.List.{list_all}
use Rattle.rrc_settings.specs.Table.{is_candidate_count}
use Rattle.rrc_settings.proofs.ranges.are_candidate_counts.Given as goal

-- the numbers are all good where those left are
abbrev pub invariant-loop-count : goal.invariant-loop-count
invariant-loop-count l =
    list_all is_candidate_count l.candidates ≡ list_all is_candidate_count (drop l.count-index l.candidates)

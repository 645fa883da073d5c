-- What the code appends, as the candidates that it makes.
use Rattle.std.proofs.Common.{◌≡◌, ℕ, List, ◌++◌, map, ap, ◌∙◌, slice_index}
use Rattle.rrc_settings.specs.declared.settings.SearchSet.{SearchSet}
use Rattle.search_starts.specs.Starts.{start_of}
use Rattle.monitor_budget.specs.declared.candidates.Candidate.{Candidate}
use Rattle.rrc_settings.specs.AggregationLevels.{level_at}
use Rattle.monitor_budget.specs.SetCandidates.{sized, numbered_candidates}

-- a candidate from its parts, at each size
pub numbered_made : (cces : ℕ) (sizes : List ℕ) (s : SearchSet) (symbol i m start level : ℕ) (now next : List Candidate)
    → start ≡ start_of s.base (level_at i) m (slice_index s.candidates i) cces → level ≡ level_at i
    → next ≡ now ++ map (sized (record { symbol = symbol; level = level; candidate = m; start = start; size = 0 })) sizes
    → next ≡ now ++ numbered_candidates cces sizes s symbol i m
unfolding numbered_candidates
numbered_made cces sizes s symbol i m start level now next e f h =
    h ∙ ap (λ st. now ++ map (sized (record { symbol = symbol; level = level; candidate = m; start = st; size = 0 })) sizes) e
    ∙ ap (λ lv. now ++ map (sized
    (record {
      symbol = symbol;
      level = lv;
      candidate = m;
      start = start_of s.base (level_at i) m
          (slice_index s.candidates i) cces;
      size = 0;
    })) sizes) f

-- How many candidates and CCEs a handset looks at in a slot (3GPP TS 38.213, 10.1): each counts once, however many sets have it.
use Rattle.std.specs.Prelude.{ℕ, Bool, ◌&&◌, ◌==◌, List, map}
use Rattle.std.specs.List.{range_with_len, flat_map}
use Rattle.std.specs.Set.{distinct_count}
use Rattle.rrc_settings.specs.declared.settings.RawCell.{RawCell}
use Rattle.rrc_settings.specs.declared.settings.Handset.{Handset}
use Rattle.rrc_settings.specs.declared.settings.SearchSet.{SearchSet}
use Rattle.rrc_settings.specs.HandsetsOfCell.{set_at, coreset_of}
use Rattle.dci_fields.specs.declared.sizes.Sizes.{Sizes}
use Rattle.coreset_map.specs.ControlResources.{cce_count}
use Rattle.coreset_map.specs.ResourcesOfCell.{resources_in}
use Rattle.monitor_budget.specs.declared.candidates.Candidate.{Candidate}
use Rattle.monitor_budget.specs.declared.counted.Counted.{Counted}
use Rattle.monitor_budget.specs.SetCandidates.{sizes_in, set_candidates}
use Rattle.monitor_budget.specs.Scrambling.{scrambling_start}

-- how many CCEs the CORESET of a set has
abbrev pub cces_under : RawCell → Handset → SearchSet → ℕ
cces_under cell h s = cce_count (resources_in cell.cell h.downlink.start (coreset_of h s))

-- the candidates of a set, in search order
abbrev pub candidates_of : RawCell → Handset → Sizes → SearchSet → List Candidate
candidates_of cell h sizes s = set_candidates (cces_under cell h s) (sizes_in sizes s.kind) s

-- what the scrambling of a set's candidates begins with
abbrev pub scrambling_of : RawCell → Handset → SearchSet → ℕ
scrambling_of cell h s = scrambling_start s.kind cell.cell h.rnti (coreset_of h s).dmrs_id

-- what a candidate counts as: candidates with all of this in common count once
abbrev pub counted_as : SearchSet → ℕ → Candidate → Counted
counted_as s scramble c = record {
  coreset = s.coreset;
  symbol = c.symbol;
  start = c.start;
  level = c.level;
  scramble = scramble;
  size = c.size;
}

-- the candidates of a set as they count
unfoldable pub counted_of : RawCell → Handset → Sizes → SearchSet → List Counted
counted_of cell h sizes s = map (counted_as s (scrambling_of cell h s)) (candidates_of cell h sizes s)

-- those of several sets of the handset, by their places
unfoldable pub all_counted : RawCell → Handset → Sizes → List ℕ → List Counted
all_counted cell h sizes places = flat_map (λ place. counted_of cell h sizes (set_at h place)) places

-- whether two candidates count as one
abbrev pub count_as_one : Counted → Counted → Bool
count_as_one a b =
    a.coreset == b.coreset && (a.symbol == b.symbol
    && (a.start == b.start && (a.level == b.level && (a.scramble == b.scramble && a.size == b.size))))

-- how many candidates count
unfoldable pub candidate_count : RawCell → Handset → Sizes → List ℕ → ℕ
candidate_count cell h sizes places = distinct_count count_as_one (all_counted cell h sizes places)

-- a CCE as it counts: one of a CORESET that begins at a symbol
pub record Cce : Type 0 where
  pub coreset : ℕ
  pub symbol : ℕ
  pub cce : ℕ

-- so many CCEs from a first one on
abbrev pub cces_from : ℕ → ℕ → ℕ → ℕ → List Cce
cces_from coreset symbol start level =
    map (λ k. record { coreset = coreset; symbol = symbol; cce = k }) (range_with_len start level)

-- the CCEs of a candidate of a set
abbrev pub cces_of_candidate : SearchSet → Candidate → List Cce
cces_of_candidate s c = cces_from s.coreset c.symbol c.start c.level

-- the CCEs of a set's candidates
unfoldable pub cces_of : RawCell → Handset → Sizes → SearchSet → List Cce
cces_of cell h sizes s = flat_map (cces_of_candidate s) (candidates_of cell h sizes s)

-- those of several sets of the handset, by their places
unfoldable pub all_cces : RawCell → Handset → Sizes → List ℕ → List Cce
all_cces cell h sizes places = flat_map (λ place. cces_of cell h sizes (set_at h place)) places

-- whether two CCEs are one
abbrev pub are_one_cce : Cce → Cce → Bool
are_one_cce a b = a.coreset == b.coreset && (a.symbol == b.symbol && a.cce == b.cce)

-- how many CCEs count
unfoldable pub different_cces : RawCell → Handset → Sizes → List ℕ → ℕ
different_cces cell h sizes places = distinct_count are_one_cce (all_cces cell h sizes places)

-- What counting leaves: the candidates that were seen, each once, and a mark for each CCE.
use Rattle.std.specs.Prelude.{◌≡◌, ℕ, ◌+◌, ◌*◌, ◌<◌, ◌≤◌, Bool, true, false, replicate, [], ◌++◌, ◌||◌, List, All}
use Rattle.std.specs.Prelude.{length, slice_index_or}
use Rattle.std.specs.List.{IsDistinct}
use Rattle.std.specs.Set.{is_member}
use Rattle.monitor_budget.specs.declared.counted.Counted.{Counted}
use Rattle.monitor_budget.specs.declared.candidates.Candidate.{Candidate}
use Rattle.rrc_settings.specs.declared.settings.RawCell.{RawCell}
use Rattle.rrc_settings.specs.declared.settings.Handset.{Handset}
use Rattle.dci_fields.specs.declared.sizes.Sizes.{Sizes}
use Rattle.monitor_budget.specs.declared.tally.Tally.{Tally}
use Rattle.monitor_budget.specs.Counts.{count_as_one, Cce, are_one_cce, all_counted, all_cces}

-- how many CCEs of a CORESET have marks: as many as a CORESET has at most
abbrev pub marks_each : ℕ
marks_each = 192

-- how many marks there are: for each number of a CORESET, 0 to 11, and each of 14 symbols
abbrev pub mark_count : ℕ
mark_count = 12 * 14 * marks_each

-- the place of a CCE's mark
abbrev pub mark_of : ℕ → ℕ → ℕ → ℕ
mark_of coreset symbol cce = (coreset * 14 + symbol) * marks_each + cce

-- a CCE that has a mark
pub record HasMark (q : Cce) : Type 0 where
  pub coreset : q.coreset ≤ 11
  pub symbol : q.symbol < 14
  pub cce : q.cce < marks_each

-- the mark of a CCE
abbrev pub is_marked : List Bool → Cce → Bool
is_marked marks q = slice_index_or marks (mark_of q.coreset q.symbol q.cce) false

-- a candidate whose CCEs have marks
abbrev pub AreMarkable : List Candidate → Type 0
AreMarkable candidates = All (λ (c : Candidate). (c.symbol < 14) × (c.start + c.level ≤ marks_each)) candidates

-- some candidates were added to those that were seen
pub record AddsCounted (old new : List Counted) (more : List Counted) : Type 0 where
  pub distinct : IsDistinct count_as_one old → IsDistinct count_as_one new
  pub members : (q : Counted) → is_member count_as_one new q ≡ (is_member count_as_one old q || is_member count_as_one more q)

-- so many of the first of some candidates were added that a room is full
pub record FillsRoom (room : ℕ) (old new : List Counted) (more : List Counted) : Type 0 where
  pub front : List Counted
  pub rest : List Counted
  pub are : more ≡ front ++ rest
  pub counted : AddsCounted old new front
  pub full : room ≤ length new

-- some CCEs, which have marks, were marked
pub record AddsCces (old new : List Bool) (more : List Cce) : Type 0 where
  pub known : (q : Cce) → is_member are_one_cce more q ≡ true → HasMark q
  pub marked : (q : Cce) → HasMark q → is_marked new q ≡ (is_marked old q || is_member are_one_cce more q)

-- a tally counts the candidates of the sets at some places, and their CCEs
pub record Tallies {room : ℕ} (cell : RawCell) (h : Handset) (sizes : Sizes) (places : List ℕ) (tally : Tally room) : Type 0 where
  pub counted : AddsCounted [] tally.seen.items (all_counted cell h sizes places)
  pub cces : AddsCces (replicate mark_count false) tally.marks (all_cces cell h sizes places)

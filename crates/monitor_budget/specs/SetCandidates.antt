-- The candidates of a search space set in a slot (3GPP TS 38.213, 10.1), in the order in which they are searched: by first
-- symbol, aggregation level, number and size.
use Rattle.std.specs.Prelude.{◌≡◌, ℕ, ◌+◌, ◌<◌, ◌≤◌, ◌==◌, cond, min, max, true, List, [], ◌∷◌, Option, Some, None, map}
use Rattle.std.specs.Prelude.{slice_index}
use Rattle.std.specs.List.{range_with_len, flat_map, filter}
use Rattle.std.specs.Option.{option_to_list}
use Rattle.rrc_settings.specs.declared.settings.SearchSet.{SearchSet}
use Rattle.rrc_settings.specs.declared.settings.SetKind.{SetKind}
use Rattle.rrc_settings.specs.declared.settings.SetKind.TheVariants.{Common, Fallback, Specific}
use Rattle.rrc_settings.specs.BitSets.{has_bit}
use Rattle.rrc_settings.specs.AggregationLevels.{level_at, is_level}
use Rattle.dci_fields.specs.declared.sizes.Sizes.{Sizes}
use Rattle.search_starts.specs.Starts.{start_of}
use Rattle.monitor_budget.specs.declared.candidates.Candidate.{Candidate}

-- the different ones of two sizes, rising
abbrev pub rising : ℕ → ℕ → List ℕ
rising a b = cond (a == b) (a ∷ []) (min a b ∷ max a b ∷ [])

-- the sizes of formats 0_1 and 1_1, rising, and one where they are equal
abbrev pub rising_sizes : Option ℕ → Option ℕ → List ℕ
rising_sizes None None = []
rising_sizes (Some up) None = up ∷ []
rising_sizes None (Some down) = down ∷ []
rising_sizes (Some up) (Some down) = rising up down

-- the sizes that a set of a kind monitors, rising
abbrev pub sizes_in : Sizes → SetKind → List ℕ
sizes_in sizes Common = option_to_list sizes.common
sizes_in sizes Fallback = option_to_list sizes.fallback
sizes_in sizes Specific = rising_sizes sizes.up sizes.down

-- the symbols of a slot at which a set begins, rising
abbrev pub symbols_of : SearchSet → List ℕ
symbols_of s = filter (has_bit s.symbols) (range_with_len 0 14)

-- candidate m at level i of the list, of a set on a CORESET with so many CCEs, at a symbol and a size
abbrev pub candidate_at : ℕ → SearchSet → ℕ → ℕ → ℕ → ℕ → Candidate
candidate_at cces s symbol i m size = record {
  symbol = symbol;
  level = level_at i;
  candidate = m;
  start = start_of s.base (level_at i) m (slice_index s.candidates i) cces;
  size = size;
}

-- a candidate at a size
abbrev pub sized : Candidate → ℕ → Candidate
sized c size = record c { size = size }

-- those of one number, by size
unfoldable pub numbered_candidates : ℕ → List ℕ → SearchSet → ℕ → ℕ → ℕ → List Candidate
numbered_candidates cces sizes s symbol i m = map (candidate_at cces s symbol i m) sizes

-- those of one level, by number
unfoldable pub level_candidates : ℕ → List ℕ → SearchSet → ℕ → ℕ → List Candidate
level_candidates cces sizes s symbol i =
    flat_map (numbered_candidates cces sizes s symbol i) (range_with_len 0 (slice_index s.candidates i))

-- those of one symbol, by level
unfoldable pub symbol_candidates : ℕ → List ℕ → SearchSet → ℕ → List Candidate
symbol_candidates cces sizes s symbol = flat_map (level_candidates cces sizes s symbol) (range_with_len 0 5)

-- all candidates of a set, by symbol
unfoldable pub set_candidates : ℕ → List ℕ → SearchSet → List Candidate
set_candidates cces sizes s = flat_map (symbol_candidates cces sizes s) (symbols_of s)

-- those of the symbols among some at which the set begins
abbrev pub candidates_among : ℕ → List ℕ → SearchSet → List ℕ → List Candidate
candidates_among cces sizes s symbols = flat_map (symbol_candidates cces sizes s) (filter (has_bit s.symbols) symbols)

-- a set asks for at most eight candidates at each level, and for none at a level above the number of CCEs
abbrev pub AreAsked : ℕ → List ℕ → Type 0
AreAsked cces candidates =
    (i : ℕ) → i < 5 → (slice_index candidates i ≤ 8) × (0 < slice_index candidates i → level_at i ≤ cces)

-- a candidate of a set on a CORESET with so many CCEs begins at a symbol of the set, and its CCEs are some of the CORESET
pub record IsPlaced (cces : ℕ) (s : SearchSet) (c : Candidate) : Type 0 where
  pub symbol : c.symbol < 14
  pub begins : has_bit s.symbols c.symbol ≡ true
  pub level : is_level c.level ≡ true
  pub within : c.start + c.level ≤ cces

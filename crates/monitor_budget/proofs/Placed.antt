-- Where the candidates of a set stand.
use Rattle.std.proofs.Common.{◌≡◌, ℕ, zero, suc, ◌+◌, ◌*◌, ◌/◌, ◌%◌, ◌<◌, ◌≤◌, true, List, All, slice_index, refl, sym}
use Rattle.std.proofs.Common.{subst, arith}
use Rattle.std.specs.List.{range_with_len}
use Rattle.std.proofs.Math.Nat.{mod-lt, div-add-mod, mul-le-mul_left}
use Rattle.rrc_settings.specs.declared.settings.SearchSet.{SearchSet}
use Rattle.rrc_settings.specs.AggregationLevels.{level_at, is_level}
use Rattle.rrc_settings.specs.BitSets.{has_bit}
use Rattle.search_starts.specs.Starts.{start_of}
use Rattle.list_facts.proofs.Members.{IsIn, in_map, in_range, in_flat_map, in_filter, at_in, flat_map_in, filter_in}
use Rattle.list_facts.proofs.Members.{range_in}
use Rattle.monitor_budget.specs.declared.candidates.Candidate.{Candidate}
use Rattle.monitor_budget.specs.SetCandidates.{symbols_of, candidate_at, numbered_candidates, level_candidates}
use Rattle.monitor_budget.specs.SetCandidates.{symbol_candidates, set_candidates, AreAsked, IsPlaced}

-- a candidate of a set, by its symbol, level, number and size
pub record IsOf (cces : ℕ) (sizes : List ℕ) (s : SearchSet) (c : Candidate) : Type 0 where
  pub symbol : ℕ
  pub i : ℕ
  pub m : ℕ
  pub size : ℕ
  pub begins : IsIn symbol (symbols_of s)
  pub level : i < 5
  pub number : m < slice_index s.candidates i
  pub sized : IsIn size sizes
  pub is : c ≡ candidate_at cces s symbol i m size

-- a candidate of a set is of one symbol, level, number and size
pub in_set : (cces : ℕ) (sizes : List ℕ) (s : SearchSet) (c : Candidate) → IsIn c (set_candidates cces sizes s)
    → IsOf cces sizes s c
unfolding numbered_candidates level_candidates symbol_candidates set_candidates
in_set cces sizes s c h =
    let (symbol, b, k) = in_flat_map (symbol_candidates cces sizes s) c (symbols_of s) h in
    let (i, l, n) = in_flat_map (level_candidates cces sizes s symbol) c (range_with_len 0 5) k in
    let (m, r, o) = in_flat_map (numbered_candidates cces sizes s symbol i) c (range_with_len 0 (slice_index s.candidates i)) n in
    let (size, z, e) = in_map (candidate_at cces s symbol i m) c sizes o in
    record {
      symbol = symbol;
      i = i;
      m = m;
      size = size;
      begins = b;
      level = let x = in_range i 0 5 l in let y = x.1 in omega (arith, y);
      number = let x = in_range m 0 (slice_index s.candidates i) r in let y = x.1 in omega (arith, y);
      sized = z;
      is = e;
    }

is_level-at : (i : ℕ) → i < 5 → is_level (level_at i) ≡ true
is_level-at zero h = refl
is_level-at (suc zero) h = refl
is_level-at (suc (suc zero)) h = refl
is_level-at (suc (suc (suc zero))) h = refl
is_level-at (suc (suc (suc (suc zero)))) h = refl
is_level-at (suc (suc (suc (suc (suc n))))) h = absurd (omega arith)

some_level : (i : ℕ) → i < 5 → 1 ≤ level_at i
some_level zero h = omega arith
some_level (suc zero) h = omega arith
some_level (suc (suc zero)) h = omega arith
some_level (suc (suc (suc zero))) h = omega arith
some_level (suc (suc (suc (suc zero)))) h = omega arith
some_level (suc (suc (suc (suc (suc n))))) h = absurd (omega arith)

-- a candidate ends in the CORESET
multiple_within : (level x quotient rest cces : ℕ) → level * quotient + rest ≡ cces → x < quotient → level * x + level ≤ cces
multiple_within level x quotient rest cces e h =
    let m : level * suc x ≤ level * quotient = mul-le-mul_left level (let k : suc x ≤ quotient = omega arith in k) in
    let n : level * suc x ≡ level * x + level = grind arith in
    omega (arith, e, m, n)

quotient_some : (level quotient rest cces : ℕ) → level * quotient + rest ≡ cces → rest < level → level ≤ cces → 0 < quotient
quotient_some level zero rest cces e r h = absurd (let z : level * zero ≡ 0 = grind arith in omega (arith, e, r, h, z))
quotient_some level (suc q) rest cces e r h = omega arith

-- the CCEs of a candidate end in the CORESET
pub start_within : (y level m count cces : ℕ) → 1 ≤ level → level ≤ cces → start_of y level m count cces + level ≤ cces
start_within y level m count cces some h =
    let e = div-add-mod cces level in
    let q = quotient_some level (cces / level) (cces % level) cces e (mod-lt cces some) h in
    multiple_within level ((y + m * cces / (level * count)) % (cces / level)) (cces / level) (cces % level) cces e
    (mod-lt (y + m * cces / (level * count)) q)

-- a candidate of a set stands in its CORESET
pub is_placed : (cces : ℕ) (sizes : List ℕ) (s : SearchSet) (c : Candidate) → AreAsked cces s.candidates
    → IsIn c (set_candidates cces sizes s) → IsPlaced cces s c
is_placed cces sizes s c asked h =
    let o = in_set cces sizes s c h in
    let b = in_filter (has_bit s.symbols) o.symbol (range_with_len 0 14) o.begins in
    let r = in_range o.symbol 0 14 b.0 in
    let fits : level_at o.i ≤ cces = (asked o.i o.level).1 (let n = o.number in omega (arith, n)) in
    subst (λ (x : Candidate). IsPlaced cces s x) (sym o.is) (record {
      symbol = let k = r.1 in omega (arith, k);
      begins = b.1;
      level = is_level-at o.i o.level;
      within = start_within s.base (level_at o.i) o.m (slice_index s.candidates o.i) cces (some_level o.i o.level) fits;
    })

-- and so do all of them
pub all_placed : (cces : ℕ) (sizes : List ℕ) (s : SearchSet) → AreAsked cces s.candidates
    → All (IsPlaced cces s) (set_candidates cces sizes s)
all_placed cces sizes s asked k d l = is_placed cces sizes s _ asked (at_in (set_candidates cces sizes s) k d l)

-- the same, of those at a symbol
pub symbol_placed : (cces : ℕ) (sizes : List ℕ) (s : SearchSet) (symbol : ℕ) → AreAsked cces s.candidates → symbol < 14
    → has_bit s.symbols symbol ≡ true
    → All (IsPlaced cces s) (symbol_candidates cces sizes s symbol)
unfolding set_candidates
symbol_placed cces sizes s symbol asked l b k d m =
    is_placed cces sizes s _ asked
    (flat_map_in (symbol_candidates cces sizes s) symbol _ (symbols_of s)
    (filter_in (has_bit s.symbols) symbol (range_with_len 0 14) (range_in symbol 0 14 (omega arith) (omega (arith, l))) b)
    (at_in (symbol_candidates cces sizes s symbol) k d m))

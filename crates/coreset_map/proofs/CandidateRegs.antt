-- The REGs of a candidate: six for each CCE, in order, and inside the set.
use Rattle.std.proofs.Common.{◌≡◌, ℕ, zero, suc, ◌+◌, ◌*◌, ◌/◌, ◌%◌, ◌<◌, ◌≤◌, ◌⊎◌, inl, inr, true, false}
use Rattle.std.proofs.Common.{◌==◌, List, [], ◌∷◌, map, length, get_or, IsPermutation, Decides, refl, sym, ◌∙◌, ap}
use Rattle.std.proofs.Common.{subst, arith}
use Rattle.std.proofs.Math.Nat.{mod-lt, eq-or-lt_of_le}
use Rattle.std.proofs.lemmas.Bool.{or_cases, or_left, or_right, false_from_ne_true}
use Rattle.std.proofs.lemmas.Bool.Decides.{Decides-and, Decides-eqb, same_from_decides}
use Rattle.std.proofs.lemmas.List.FromFn.{length-map-range_with_len, get_or-map-range_with_len}
use Rattle.std.proofs.lemmas.List.Sorted.{Contains-permutation, IsPermutation-sym}
use Rattle.std.proofs.lemmas.Map.Keys.{IsDistinct-from_apart, IsDistinct-IsPermutation, apart_from_distinct}
use Rattle.std.proofs.lemmas.Map.Made.{length-from_same_keys}
use Rattle.std.specs.List.{range_with_len, list_any, IsDistinct}
use Rattle.rrc_settings.specs.Equality.{equivalence_from_decides}
use Rattle.coreset_map.specs.declared.places.Reg.{Reg}
use Rattle.coreset_map.specs.ControlResources.{Resources, blocks_of, cce_count, reg_of, AreBelow, AreResources}
use Rattle.coreset_map.specs.Candidates.{cces_regs, all_regs, those_among, candidate_regs}
use Rattle.coreset_map.specs.Numbers.{number_at, placed_reg}
use Rattle.coreset_map.specs.RegOrder.{reg_at, are_one_reg, Precedes, AreRegs, AreWithin}
use Rattle.list_facts.proofs.Members.{IsIn, in_map, in_range, in_flat_map, flat_map_in, in_filter, filter_in, range_in}
use Rattle.list_facts.proofs.Members.{map_in, at_in, in_contains, contains_in}
use Rattle.list_facts.proofs.Rising.{Rising, IsStrict, rising-flat_map, rising-map, rising-filter, rising-range}
use Rattle.list_facts.proofs.Rising.{rising-at, rising-from, one_rising}
use Rattle.coreset_map.proofs.Blocks.{blocks-rising, block_below, length-blocks_of}
use Rattle.coreset_map.proofs.Cces.{reg_in, rank_is_below, in_cce, in_cces, placed_once, cces_regs_mapped}
use Rattle.coreset_map.proofs.Numbered.{number_below}

-- the order of REGs
pub strict : IsStrict Precedes
strict = record {
  itself = λ a h. let k = h.1 refl in omega (arith, k);
  turned =
      λ a b h k. let e : a.symbol ≡ b.symbol =
      let x = h.0 in let y = k.0 in omega (arith, x, y) in let l = h.1 e in let m = k.1 (sym e) in omega (arith, l, m);
}

reg_same : (a b : Reg) → (a.symbol ≡ b.symbol) × (a.block ≡ b.block) → a ≡ b
reg_same a b (e, f) = ap (λ s. reg_in s a.block) e ∙ ap (λ k. reg_in b.symbol k) f

-- the test of REGs that are one decides that they are equal
pub decides_reg : (a b : Reg) → Decides (are_one_reg a b) (a ≡ b)
decides_reg a b =
    let d = Decides-and (a.symbol == b.symbol) (a.block == b.block) (Decides-eqb a.symbol b.symbol)
    (Decides-eqb a.block b.block) in
    (λ h. reg_same a b (d.0 h), λ e. d.1 (ap (λ (r : Reg). r.symbol) e, ap (λ (r : Reg). r.block) e))

-- whether a REG is in a list
pub any_in : (a : Reg) (regs : List Reg) → list_any (are_one_reg a) regs ≡ true → IsIn a regs
any_in a [] h = absurd (cc)
any_in a (x ∷ xs) h =
    elim (or_cases (are_one_reg a x) (list_any (are_one_reg a) xs) h) as (λ _. IsIn a (x ∷ xs)) [
      | inl e ↦ inl ((decides_reg a x).0 e)
      | inr e ↦ inr (any_in a xs e)
    ]

-- a REG of a list is found there
pub in_any : (a : Reg) (regs : List Reg) → IsIn a regs → list_any (are_one_reg a) regs ≡ true
in_any a [] h = absurd h
in_any a (x ∷ xs) (inl e) = or_left (are_one_reg a x) (list_any (are_one_reg a) xs) ((decides_reg a x).1 e)
in_any a (x ∷ xs) (inr h) = or_right (are_one_reg a x) (list_any (are_one_reg a) xs) (in_any a xs h)

-- the REGs of a symbol
abbrev in_symbol : List ℕ → ℕ → List Reg
in_symbol blocks symbol = map (λ block. reg_in symbol block) blocks

-- every REG of the set
pub in_all : (resources : Resources) (a : Reg) → IsIn a (all_regs resources)
    → (a.symbol < resources.duration) × IsIn a.block (blocks_of resources)
unfolding all_regs
in_all resources a i =
    let (s, m, k) = in_flat_map (in_symbol (blocks_of resources)) a (range_with_len 0 resources.duration) i in
    let (b, n, e) = in_map (λ block. reg_in s block) a (blocks_of resources) k in
    let r = in_range s 0 resources.duration m in
    let f = ap (λ (x : Reg). x.symbol) e in
    let g = ap (λ (x : Reg). x.block) e in
    (omega (arith, f, r.1), subst (λ x. IsIn x (blocks_of resources)) (sym g) n)

-- a REG in a symbol and a block of the set is one of the set
pub all_in : (resources : Resources) (symbol block : ℕ) → symbol < resources.duration → IsIn block (blocks_of resources)
    → IsIn (reg_in symbol block) (all_regs resources)
unfolding all_regs
all_in resources symbol block h i =
    flat_map_in (in_symbol (blocks_of resources)) symbol (reg_in symbol block) (range_with_len 0 resources.duration)
    (range_in symbol 0 resources.duration (omega arith) (omega (arith, h)))
    (map_in (λ b. reg_in symbol b) block (blocks_of resources) i)

-- the REGs of the set are in order
pub all_rising : (resources : Resources) → AreResources resources → Rising Precedes (all_regs resources)
unfolding all_regs
all_rising resources r =
    rising-flat_map (λ a b. a < b) Precedes (in_symbol (blocks_of resources)) (range_with_len 0 resources.duration)
    (rising-range 0 resources.duration)
    (λ s i. rising-map (λ a b. a < b) Precedes (λ block. reg_in s block) (blocks_of resources)
    (λ a b h. (omega arith, λ e. h)) (blocks-rising resources r))
    (λ s t x y i j h u v.
    let (b, m, e) = in_map (λ block. reg_in s block) x (blocks_of resources) u in
    let (c, n, f) = in_map (λ block. reg_in t block) y (blocks_of resources) v in
    let p = ap (λ (z : Reg). z.symbol) e in
    let q = ap (λ (z : Reg). z.symbol) f in
    (omega (arith, h, p, q), λ same. absurd (omega (arith, h, p, q, same))))

-- the REG at a place is one of the set
pub reg_of_all : (resources : Resources) (i : ℕ) → AreResources resources → i < 6 * cce_count resources
    → IsIn (reg_of resources i) (all_regs resources)
unfolding reg_of
reg_of_all resources i r h =
    let k = i / resources.duration in
    let l = length-blocks_of resources in
    let b = rank_is_below resources i r h in
    all_in resources (i % resources.duration) (get_or (blocks_of resources) k 0) (mod-lt i r.least)
    (at_in (blocks_of resources) k 0 (omega (arith, l, b)))

-- so is the REG at a place of the CCEs
pub placed_all : (resources : Resources) (q : ℕ) → AreResources resources → q < 6 * cce_count resources
    → IsIn (placed_reg (6 * cce_count resources) resources q) (all_regs resources)
unfolding placed_reg
placed_all resources q r h =
    reg_of_all resources (number_at (6 * cce_count resources) resources q) r (number_below resources q r h)

-- the REGs of CCEs are REGs of the set
pub cces_all : (resources : Resources) (start level : ℕ) (a : Reg) → AreResources resources → start + level ≤ cce_count resources
    → IsIn a (cces_regs resources start level) → IsIn a (all_regs resources)
cces_all resources start level a r h i =
    let (j, low, high, m) = in_cces resources start level a i in
    let (q, least, most, e) = in_cce resources j a r m in
    subst (λ x. IsIn x (all_regs resources)) (sym e) (placed_all resources q r (omega (arith, most, high, h)))

-- a REG is in the candidate where it is in one of its CCEs
pub in_candidate : (resources : Resources) (start level : ℕ) (a : Reg) → IsIn a (candidate_regs resources start level)
    → IsIn a (cces_regs resources start level) × IsIn a (all_regs resources)
unfolding candidate_regs those_among
in_candidate resources start level a i =
    let (m, e) = in_filter (λ reg. list_any (are_one_reg reg) (cces_regs resources start level)) a (all_regs resources) i in
    (any_in a (cces_regs resources start level) e, m)

-- the REGs of its CCEs are in the candidate
pub candidate_in : (resources : Resources) (start level : ℕ) (a : Reg) → AreResources resources
    → start + level ≤ cce_count resources
    → IsIn a (cces_regs resources start level) → IsIn a (candidate_regs resources start level)
unfolding candidate_regs those_among
candidate_in resources start level a r h i =
    filter_in (λ reg. list_any (are_one_reg reg) (cces_regs resources start level)) a (all_regs resources)
    (cces_all resources start level a r h i) (in_any a (cces_regs resources start level) i)

-- the REGs of a candidate are in order
pub candidate-rising : (resources : Resources) (start level : ℕ) → AreResources resources
    → Rising Precedes (candidate_regs resources start level)
unfolding candidate_regs those_among
candidate-rising resources start level r =
    rising-filter Precedes (λ reg. list_any (are_one_reg reg) (cces_regs resources start level)) (all_regs resources)
    (all_rising resources r)

not_below_cases : (m n : ℕ) → (m ≡ n → ⊥) → (m ≡ n) ⊎ (m < n) → m < n
not_below_cases m n apart (inl e) = absurd (apart e)
not_below_cases m n apart (inr h) = h

not_below : {m n : ℕ} → m ≤ n → (m ≡ n → ⊥) → m < n
not_below {m = m} {n = n} h apart = not_below_cases m n apart (eq-or-lt_of_le h)

-- what makes a list the candidate's REGs: those of its CCEs, each once, none after a later one
abbrev pub AtMost : Reg → Reg → Type 0
AtMost a b = (a.symbol ≤ b.symbol) × (a.symbol ≡ b.symbol → a.block ≤ b.block)

at_most_along : (a b c : Reg) → AtMost a b → AtMost b c → AtMost a c
at_most_along a b c (h, k) (l, m) = (
  omega (arith, h, l),
  λ e.
      let f : a.symbol ≡ b.symbol = omega (arith, h, l, e) in
      let g : b.symbol ≡ c.symbol = omega (arith, h, l, e) in
      let x = k f in let y = m g in omega (arith, x, y),
)

at_most_itself : (a : Reg) → AtMost a a
at_most_itself a = (omega arith, λ e. omega arith)

-- from neighbours to all
at_most_far_cases : (regs : List Reg) (d : Reg) (i j : ℕ)
    → ((k : ℕ) → k + 1 < length regs → AtMost (get_or regs k d) (get_or regs (k + 1) d))
    → (i ≤ j → j < length regs → AtMost (get_or regs i d) (get_or regs j d)) → j + 1 < length regs → (i ≡ j + 1) ⊎ (i < j + 1)
    → AtMost (get_or regs i d) (get_or regs (j + 1) d)
at_most_far_cases regs d i j next before l (inl e) =
    subst (λ k. AtMost (get_or regs k d) (get_or regs (j + 1) d)) (sym e) (at_most_itself (get_or regs (j + 1) d))
at_most_far_cases regs d i j next before l (inr h) =
    at_most_along (get_or regs i d) (get_or regs j d) (get_or regs (j + 1) d) (before (omega (arith, h)) (omega (arith, l)))
    (next j l)

at_most_far : (regs : List Reg) (d : Reg) (i j : ℕ)
    → ((k : ℕ) → k + 1 < length regs → AtMost (get_or regs k d) (get_or regs (k + 1) d))
    → i ≤ j → j < length regs → AtMost (get_or regs i d) (get_or regs j d)
at_most_far regs d i zero next h l =
    let e : i ≡ 0 = omega (arith, h) in
    subst (λ k. AtMost (get_or regs k d) (get_or regs 0 d)) (sym e) (at_most_itself (get_or regs 0 d))
at_most_far regs d i (suc j) next h l =
    let e : j + 1 ≡ suc j = omega arith in
    subst (λ k. AtMost (get_or regs i d) (get_or regs k d)) e
    (at_most_far_cases regs d i j next (at_most_far regs d i j next) (omega (arith, l)) (eq-or-lt_of_le (omega (arith, h))))

-- in order, and no two the same: rising
precedes_from : (a b : Reg) → AtMost a b → are_one_reg a b ≡ false → Precedes a b
precedes_from a b (h, k) f = (
  h,
  λ e. not_below (k e)
      (λ g. let t = (decides_reg a b).1 (reg_same a b (e, g)) in absurd (let z : true ≡ false = sym t ∙ f in cc)),
)

-- REGs that are sorted and differ rise
pub rising_sorted : (regs : List Reg)
    → ((k : ℕ) (d : Reg) → k + 1 < length regs → AtMost (get_or regs k d) (get_or regs (k + 1) d))
    → IsDistinct are_one_reg regs → Rising Precedes regs
rising_sorted regs next distinct =
    rising-from Precedes regs (λ i j d h l.
    precedes_from (get_or regs i d) (get_or regs j d) (at_most_far regs d i j (λ k. next k d) (omega (arith, h)) l)
    (apart_from_distinct are_one_reg regs i j d distinct h l))

-- the REGs of CCEs differ
pub placed_distinct : (resources : Resources) (start level : ℕ) → AreResources resources → start + level ≤ cce_count resources
    → IsDistinct are_one_reg (cces_regs resources start level)
placed_distinct resources start level r h =
    let place = placed_reg (6 * cce_count resources) resources in
    let places = map place (range_with_len (6 * start) (6 * level)) in
    let long : length places ≡ 6 * level = length-map-range_with_len place (6 * start) (6 * level) in
    let distinct : IsDistinct are_one_reg places = IsDistinct-from_apart are_one_reg places (λ i j d k l.
    let a = get_or-map-range_with_len place (6 * start) (6 * level) i (6 * start + i) d (omega (arith, k, l, long)) refl in
    let b = get_or-map-range_with_len place (6 * start) (6 * level) j (6 * start + j) d (omega (arith, l, long)) refl in
    false_from_ne_true (are_one_reg (get_or places i d) (get_or places j d)) (λ e.
    let same = placed_once resources (6 * start + i) (6 * start + j) r (omega (arith, k, l, long, h)) (omega (arith, l, long, h))
    (sym a ∙ ((decides_reg (get_or places i d) (get_or places j d)).0 e ∙ b)) in
    omega (arith, same, k))) in
    subst (λ regs. IsDistinct are_one_reg regs) (sym (cces_regs_mapped resources start level r)) distinct

-- the REGs of the CCEs, in order, are the candidate's
pub sorted_candidate : (resources : Resources) (start level : ℕ) (regs : List Reg) → AreResources resources
    → start + level ≤ cce_count resources
    → IsPermutation (cces_regs resources start level) regs
    → ((k : ℕ) (d : Reg) → k + 1 < length regs → AtMost (get_or regs k d) (get_or regs (k + 1) d))
    → regs ≡ candidate_regs resources start level
sorted_candidate resources start level regs r h p next =
    let cces = cces_regs resources start level in
    let distinct = IsDistinct-IsPermutation are_one_reg (equivalence_from_decides decides_reg).symm cces regs p
    (placed_distinct resources start level r h) in
    one_rising Precedes strict regs (candidate_regs resources start level) (rising_sorted regs next distinct)
    (candidate-rising resources start level r)
    (λ a i. candidate_in resources start level a r h
    (in_contains a cces (Contains-permutation regs cces a (IsPermutation-sym cces regs p) (contains_in a regs i))))
    (λ a i. in_contains a regs
    (Contains-permutation cces regs a p (contains_in a cces (in_candidate resources start level a i).0)))

-- how many REGs, in what order, and where
length-cces : (resources : Resources) (start level : ℕ) → AreResources resources
    → length (cces_regs resources start level) ≡ 6 * level
length-cces resources start level r =
    ap length (cces_regs_mapped resources start level r)
    ∙ length-map-range_with_len (placed_reg (6 * cce_count resources) resources) (6 * start) (6 * level)

-- REGs that precede others are distinct
precedes_apart : (a b : Reg) → Precedes a b → are_one_reg a b ≡ false
precedes_apart a b h =
    false_from_ne_true (are_one_reg a b) (λ e. strict.itself b (subst (λ x. Precedes x b) ((decides_reg a b).0 e) h))

candidate_distinct : (resources : Resources) (start level : ℕ) → AreResources resources
    → IsDistinct are_one_reg (candidate_regs resources start level)
candidate_distinct resources start level r =
    let regs = candidate_regs resources start level in
    IsDistinct-from_apart are_one_reg regs (λ i j d h l.
    precedes_apart (get_or regs i d) (get_or regs j d)
    (rising-at Precedes regs (candidate-rising resources start level r) i j d h l))

-- a candidate has six REGs for each CCE
pub length-candidate : (resources : Resources) (start level : ℕ) → AreResources resources → start + level ≤ cce_count resources
    → length (candidate_regs resources start level) ≡ 6 * level
length-candidate resources start level r h =
    let cces = cces_regs resources start level in
    let regs = candidate_regs resources start level in
    let one : length regs ≡ length cces =
    length-from_same_keys (equivalence_from_decides decides_reg) regs cces (candidate_distinct resources start level r)
    (placed_distinct resources start level r h)
    (λ a. same_from_decides (list_any (are_one_reg a) regs) (list_any (are_one_reg a) cces)
    (any_in a regs, in_any a regs) (
      λ e. candidate_in resources start level a r h (any_in a cces e),
      λ i. in_any a cces
          (in_candidate resources start level a i).0,
    )) in
    one ∙ length-cces resources start level r

-- each REG is in the set
pub candidate-placed : (resources : Resources) (start level : ℕ) (a : Reg) → IsIn a (candidate_regs resources start level)
    → (a.symbol < resources.duration) × IsIn a.block (blocks_of resources)
candidate-placed resources start level a i = in_all resources a (in_candidate resources start level a i).1

-- they are listed by symbol, and in a symbol by block, each once
pub candidate_order : (resources : Resources) (start level : ℕ) → AreResources resources
    → AreRegs (candidate_regs resources start level)
candidate_order resources start level r i j h l =
    rising-at Precedes (candidate_regs resources start level) (candidate-rising resources start level r) i j (reg_in 0 0) h l

-- they are in the symbols of the set, and below a block at or before which all groups end
pub candidate_within : (resources : Resources) (start level blocks : ℕ) → AreBelow blocks resources
    → AreWithin resources.duration blocks (candidate_regs resources start level)
candidate_within resources start level blocks b j h =
    let regs = candidate_regs resources start level in
    let (s, m) = candidate-placed resources start level (reg_at regs j) (at_in regs j (reg_in 0 0) h) in
    (s, block_below resources blocks (reg_at regs j).block b m)

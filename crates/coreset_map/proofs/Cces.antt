-- The REGs of CCEs: six for each, place by place, and no two the same.
use Rattle.std.proofs.Common.{◌≡◌, ℕ, zero, suc, ◌+◌, ◌*◌, ◌/◌, ◌%◌, ◌<◌, ◌≤◌, inl, inr, List, [], ◌∷◌, ◌++◌, map}
use Rattle.std.proofs.Common.{length, slice_index, refl, sym, ◌∙◌, ap, subst, arith}
use Rattle.std.proofs.lemmas.List.{map-append}
use Rattle.std.proofs.Math.Nat.{div-lt_iff_lt-mul}
use Rattle.std.specs.List.{range_with_len, flat_map}
use Rattle.coreset_map.specs.declared.places.Reg.{Reg}
use Rattle.coreset_map.specs.ControlResources.{Resources, blocks_of, bundle_size, bundle_of, interleaved, cce_regs}
use Rattle.coreset_map.specs.ControlResources.{cce_count, reg_count, reg_of, AreResources}
use Rattle.coreset_map.specs.Candidates.{cces_regs}
use Rattle.coreset_map.specs.Numbers.{number_at, placed_reg}
use Rattle.list_facts.proofs.Members.{IsIn, in_map, in_range, in_flat_map}
use Rattle.coreset_map.proofs.Interleaving.{IsSize, bundle_size_is}
use Rattle.coreset_map.proofs.Blocks.{length-blocks_of, one_rank}
use Rattle.coreset_map.proofs.Parts.{same_parts}
use Rattle.coreset_map.proofs.Numbered.{number_below, number_once}

-- a REG is its symbol and its block
abbrev pub reg_in : ℕ → ℕ → Reg
reg_in symbol block = record { symbol = symbol; block = block }

-- the REGs fill the CCEs
pub reg_count_is : (resources : Resources) → reg_count resources ≡ 6 * cce_count resources
reg_count_is resources = let e = ap (λ n. n * resources.duration) (length-blocks_of resources) in omega (arith, e)

-- a REG has one number
rank_below : (i cces groups duration : ℕ) → 0 < duration → cces ≡ groups * duration → i < 6 * cces → i / duration < 6 * groups
rank_below i cces groups duration h e k = (div-lt_iff_lt-mul h).1 (omega (arith, e, k))

-- the rank of a REG's block is below the number of blocks
pub rank_is_below : (resources : Resources) (i : ℕ) → AreResources resources → i < 6 * cce_count resources
    → i / resources.duration < 6 * length resources.groups
rank_is_below resources i r h = rank_below i (cce_count resources) (length resources.groups) resources.duration r.least refl h

-- different numbers have different REGs
pub reg_of_once : (resources : Resources) (i j : ℕ) → AreResources resources → i < 6 * cce_count resources
    → j < 6 * cce_count resources
    → reg_of resources i ≡ reg_of resources j → i ≡ j
unfolding reg_of
reg_of_once resources i j r h k e =
    let l = length-blocks_of resources in
    let a = rank_is_below resources i r h in
    let b = rank_is_below resources j r k in
    same_parts i j resources.duration
    (one_rank resources (i / resources.duration) (j / resources.duration) r (omega (arith, l, a)) (omega (arith, l, b))
    (ap (λ (g : Reg). g.block) e))
    (ap (λ (g : Reg). g.symbol) e)

-- a place has one REG, and a REG one place
pub placed_once : (resources : Resources) (p q : ℕ) → AreResources resources → p < 6 * cce_count resources
    → q < 6 * cce_count resources
    → placed_reg (6 * cce_count resources) resources p ≡ placed_reg (6 * cce_count resources) resources q → p ≡ q
unfolding placed_reg
placed_once resources p q r h k e =
    let count = 6 * cce_count resources in
    number_once resources p q r h k
    (reg_of_once resources (number_at count resources p) (number_at count resources q) r (number_below resources p r h)
    (number_below resources q r k) e)

-- six REGs
six : {A : Type 0} (a b c d e f a' b' c' d' e' f' : A) → a ≡ a' → b ≡ b' → c ≡ c' → d ≡ d' → e ≡ e' → f ≡ f'
    → a ∷ b ∷ c ∷ d ∷ e ∷ f ∷ [] ≡ a' ∷ b' ∷ c' ∷ d' ∷ e' ∷ f' ∷ []
six a b c d e f a' b' c' d' e' f' p q r s t u = cc

-- the REGs of a CCE's bundles of a size, for an interleaver f and REGs g by number
abbrev by_bundles : (ℕ → ℕ) → (ℕ → Reg) → ℕ → ℕ → List Reg
by_bundles f g j size = flat_map (λ k. map g (range_with_len (f (6 * j / size + k) * size) size)) (range_with_len 0 (6 / size))

-- the REG at a place
abbrev by_place : (ℕ → ℕ) → (ℕ → Reg) → ℕ → ℕ → Reg
by_place f g size q = g (f (q / size) * size + q % size)

abbrev six_places : (ℕ → ℕ) → (ℕ → Reg) → ℕ → ℕ → List Reg
six_places f g j size =
    by_place f g size (6 * j) ∷ by_place f g size (6 * j + 1) ∷ by_place f g size (6 * j + 2)
    ∷ by_place f g size (6 * j + 3) ∷ by_place f g size (6 * j + 4) ∷ by_place f g size (6 * j + 5) ∷ []

by_twos : (f : ℕ → ℕ) (g : ℕ → Reg) (j : ℕ) → by_bundles f g j 2 ≡ six_places f g j 2
by_twos f g j = six _ _ _ _ _ _ _ _ _ _ _ _
    (ap g (let h = ap (λ x. f x * 2) (let e : 6 * j / 2 + 0 ≡ 6 * j / 2 = omega arith in e) in omega (arith, h)))
    (ap g (let h = ap (λ x. f x * 2) (let e : 6 * j / 2 + 0 ≡ (6 * j + 1) / 2 = omega arith in e) in omega (arith, h)))
    (ap g (let h = ap (λ x. f x * 2) (let e : 6 * j / 2 + 1 ≡ (6 * j + 2) / 2 = omega arith in e) in omega (arith, h)))
    (ap g (let h = ap (λ x. f x * 2) (let e : 6 * j / 2 + 1 ≡ (6 * j + 3) / 2 = omega arith in e) in omega (arith, h)))
    (ap g (let h = ap (λ x. f x * 2) (let e : 6 * j / 2 + 2 ≡ (6 * j + 4) / 2 = omega arith in e) in omega (arith, h)))
    (ap g (let h = ap (λ x. f x * 2) (let e : 6 * j / 2 + 2 ≡ (6 * j + 5) / 2 = omega arith in e) in omega (arith, h)))

by_threes : (f : ℕ → ℕ) (g : ℕ → Reg) (j : ℕ) → by_bundles f g j 3 ≡ six_places f g j 3
by_threes f g j = six _ _ _ _ _ _ _ _ _ _ _ _
    (ap g (let h = ap (λ x. f x * 3) (let e : 6 * j / 3 + 0 ≡ 6 * j / 3 = omega arith in e) in omega (arith, h)))
    (ap g (let h = ap (λ x. f x * 3) (let e : 6 * j / 3 + 0 ≡ (6 * j + 1) / 3 = omega arith in e) in omega (arith, h)))
    (ap g (let h = ap (λ x. f x * 3) (let e : 6 * j / 3 + 0 ≡ (6 * j + 2) / 3 = omega arith in e) in omega (arith, h)))
    (ap g (let h = ap (λ x. f x * 3) (let e : 6 * j / 3 + 1 ≡ (6 * j + 3) / 3 = omega arith in e) in omega (arith, h)))
    (ap g (let h = ap (λ x. f x * 3) (let e : 6 * j / 3 + 1 ≡ (6 * j + 4) / 3 = omega arith in e) in omega (arith, h)))
    (ap g (let h = ap (λ x. f x * 3) (let e : 6 * j / 3 + 1 ≡ (6 * j + 5) / 3 = omega arith in e) in omega (arith, h)))

by_sixes : (f : ℕ → ℕ) (g : ℕ → Reg) (j : ℕ) → by_bundles f g j 6 ≡ six_places f g j 6
by_sixes f g j = six _ _ _ _ _ _ _ _ _ _ _ _
    (ap g (let h = ap (λ x. f x * 6) (let e : 6 * j / 6 + 0 ≡ 6 * j / 6 = omega arith in e) in omega (arith, h)))
    (ap g (let h = ap (λ x. f x * 6) (let e : 6 * j / 6 + 0 ≡ (6 * j + 1) / 6 = omega arith in e) in omega (arith, h)))
    (ap g (let h = ap (λ x. f x * 6) (let e : 6 * j / 6 + 0 ≡ (6 * j + 2) / 6 = omega arith in e) in omega (arith, h)))
    (ap g (let h = ap (λ x. f x * 6) (let e : 6 * j / 6 + 0 ≡ (6 * j + 3) / 6 = omega arith in e) in omega (arith, h)))
    (ap g (let h = ap (λ x. f x * 6) (let e : 6 * j / 6 + 0 ≡ (6 * j + 4) / 6 = omega arith in e) in omega (arith, h)))
    (ap g (let h = ap (λ x. f x * 6) (let e : 6 * j / 6 + 0 ≡ (6 * j + 5) / 6 = omega arith in e) in omega (arith, h)))

by_size : (f : ℕ → ℕ) (g : ℕ → Reg) (j size : ℕ) → IsSize size → by_bundles f g j size ≡ six_places f g j size
by_size f g j size (inl e) = subst (λ n. by_bundles f g j n ≡ six_places f g j n) (sym e) (by_twos f g j)
by_size f g j size (inr (inl e)) = subst (λ n. by_bundles f g j n ≡ six_places f g j n) (sym e) (by_threes f g j)
by_size f g j size (inr (inr e)) = subst (λ n. by_bundles f g j n ≡ six_places f g j n) (sym e) (by_sixes f g j)

-- the six REGs from a place on
abbrev pub six_from : ℕ → Resources → ℕ → List Reg
six_from count resources q =
    placed_reg count resources q ∷ placed_reg count resources (q + 1) ∷ placed_reg count resources (q + 2)
    ∷ placed_reg count resources (q + 3) ∷ placed_reg count resources (q + 4) ∷ placed_reg count resources (q + 5) ∷ []

-- the REGs of a CCE are those at its six places
pub cce_regs_are : (resources : Resources) (j : ℕ) → AreResources resources
    → cce_regs resources j ≡ six_from (6 * cce_count resources) resources (6 * j)
unfolding cce_regs bundle_of placed_reg
cce_regs_are resources j r =
    let f = λ (count x : ℕ). interleaved resources.interleaver count x in
    let size = bundle_size resources.interleaver in
    ap (λ count. by_bundles (f count) (reg_of resources) j size) (reg_count_is resources)
    ∙ by_size (f (6 * cce_count resources)) (reg_of resources) j size
    (bundle_size_is resources.interleaver (6 * cce_count resources) r.interleaver)

-- a range and the one that follows it
pub range-append : (a m n : ℕ) → range_with_len a m ++ range_with_len (a + m) n ≡ range_with_len a (m + n)
range-append a zero n =
    ap (λ k. range_with_len k n) (let e : a + 0 ≡ a = omega arith in e)
    ∙ ap (λ k. range_with_len a k) (let e : n ≡ 0 + n = omega arith in e)
range-append a (suc m) n =
    ap (λ k. a ∷ (range_with_len (a + 1) m ++ range_with_len k n)) (let e : a + suc m ≡ a + 1 + m = omega arith in e)
    ∙ ap (λ ks. a ∷ ks) (range-append (a + 1) m n)
    ∙ ap (λ k. range_with_len a k) (let e : suc (m + n) ≡ suc m + n = omega arith in e)

six_mapped : (count : ℕ) (resources : Resources) (q : ℕ)
    → six_from count resources q ≡ map (placed_reg count resources) (range_with_len q 6)
six_mapped count resources q =
    let h = placed_reg count resources in
    six _ _ _ _ _ _ _ _ _ _ _ _ refl (ap h refl) (ap h (omega arith)) (ap h (omega arith)) (ap h (omega arith))
    (ap h (omega arith))

-- the REGs of a CCE, place by place
pub cce_regs_mapped : (resources : Resources) (j : ℕ) → AreResources resources
    → cce_regs resources j ≡ map (placed_reg (6 * cce_count resources) resources) (range_with_len (6 * j) 6)
cce_regs_mapped resources j r = cce_regs_are resources j r ∙ six_mapped (6 * cce_count resources) resources (6 * j)

-- the REGs of CCEs that follow one another, place by place
pub cces_regs_mapped : (resources : Resources) (start level : ℕ) → AreResources resources
    → cces_regs resources start level
    ≡ map (placed_reg (6 * cce_count resources) resources) (range_with_len (6 * start) (6 * level))
unfolding cces_regs
cces_regs_mapped resources start zero r = refl
cces_regs_mapped resources start (suc level) r =
    let h = placed_reg (6 * cce_count resources) resources in
    let later = cces_regs_mapped resources (start + 1) level r in
    ap (λ regs. regs ++ cces_regs resources (start + 1) level) (cce_regs_mapped resources start r)
    ∙ ap (λ regs. map h (range_with_len (6 * start) 6) ++ regs) later
    ∙ sym (map-append h (range_with_len (6 * start) 6) (range_with_len (6 * (start + 1)) (6 * level)))
    ∙ ap (λ k. map h (range_with_len (6 * start) 6 ++ range_with_len k (6 * level)))
    (let e : 6 * (start + 1) ≡ 6 * start + 6 = omega arith in e)
    ∙ ap (λ ks. map h ks) (range-append (6 * start) 6 (6 * level))
    ∙ ap (λ k. map h (range_with_len (6 * start) k)) (let e : 6 + 6 * level ≡ 6 * suc level = omega arith in e)

-- a REG of a CCE is at one of its six places
pub in_cce : (resources : Resources) (j : ℕ) (reg : Reg) → AreResources resources → IsIn reg (cce_regs resources j)
    → (q : ℕ) × (6 * j ≤ q) × (q < 6 * j + 6) × (reg ≡ placed_reg (6 * cce_count resources) resources q)
in_cce resources j reg r i =
    let h = placed_reg (6 * cce_count resources) resources in
    let (q, m, e) = in_map h reg (range_with_len (6 * j) 6) (subst (λ regs. IsIn reg regs) (cce_regs_mapped resources j r) i) in
    let (low, high) = in_range q (6 * j) 6 m in
    (q, low, high, e)

-- a REG is in one CCE
pub one_cce : (resources : Resources) (j k : ℕ) (reg : Reg) → AreResources resources → j < cce_count resources
    → k < cce_count resources
    → IsIn reg (cce_regs resources j) → IsIn reg (cce_regs resources k) → j ≡ k
one_cce resources j k reg r h l i m =
    let (p, a, b, e) = in_cce resources j reg r i in
    let (q, c, d, f) = in_cce resources k reg r m in
    let same = placed_once resources p q r (omega (arith, b, h)) (omega (arith, d, l)) (sym e ∙ f) in
    omega (arith, a, b, c, d, same)

-- the CCEs of a candidate
pub in_cces : (resources : Resources) (start level : ℕ) (reg : Reg) → IsIn reg (cces_regs resources start level)
    → (j : ℕ) × (start ≤ j) × (j < start + level) × IsIn reg (cce_regs resources j)
unfolding cces_regs
in_cces resources start level reg i =
    let (j, m, k) = in_flat_map (cce_regs resources) reg (range_with_len start level) i in
    let (low, high) = in_range j start level m in
    (j, low, high, k)

-- the REG of a number from its parts, as the code makes it
pub reg-from : (resources : Resources) (number duration block : ℕ)
    → duration ≡ resources.duration → block ≡ slice_index (blocks_of resources) (number / duration)
    → reg_in (number % duration) block ≡ reg_of resources number
unfolding reg_of
reg-from resources number duration block f g = cc

-- the REG at a place by its number
pub placed-from : (resources : Resources) (number q : ℕ) → number ≡ number_at (6 * cce_count resources) resources q
    → reg_of resources number ≡ placed_reg (6 * cce_count resources) resources q
unfolding placed_reg
placed-from resources number q e = ap (reg_of resources) e

-- the REGs of a CCE, as the code makes them
pub cce_from : (resources : Resources) (j : ℕ) (a b c d e f : Reg) → AreResources resources
    → a ≡ placed_reg (6 * cce_count resources) resources (6 * j) → b ≡ placed_reg (6 * cce_count resources) resources (6 * j + 1)
    → c ≡ placed_reg (6 * cce_count resources) resources (6 * j + 2)
    → d ≡ placed_reg (6 * cce_count resources) resources (6 * j + 3)
    → e ≡ placed_reg (6 * cce_count resources) resources (6 * j + 4)
    → f ≡ placed_reg (6 * cce_count resources) resources (6 * j + 5)
    → a ∷ b ∷ c ∷ d ∷ e ∷ f ∷ [] ≡ cce_regs resources j
cce_from resources j a b c d e f r p q s t u v = six _ _ _ _ _ _ _ _ _ _ _ _ p q s t u v ∙ sym (cce_regs_are resources j r)

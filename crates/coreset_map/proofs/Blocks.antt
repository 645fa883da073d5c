-- The blocks of a control resource set: six for each group, rising.
use Rattle.std.proofs.Common.{◌≡◌, ℕ, suc, ◌+◌, ◌-◌, ◌*◌, ◌/◌, ◌%◌, ◌<◌, ◌≤◌, ◌⊎◌, inl, inr, List, [], ◌∷◌, ◌++◌}
use Rattle.std.proofs.Common.{length, get_or, refl, sym, ◌∙◌, ap, arith, length-append}
use Rattle.std.proofs.lemmas.Bool.{cases_lt, cases_order}
use Rattle.std.proofs.lemmas.List.{get_or_append_left, get_or-append_right}
use Rattle.std.proofs.lemmas.List.FromFn.{length-range_with_len, get_or-range_with_len}
use Rattle.std.specs.List.{range_with_len, flat_map}
use Rattle.rrc_settings.specs.ControlGroups.{group_block}
use Rattle.coreset_map.specs.ControlResources.{Resources, blocks_of, AreBelow, AreResources}
use Rattle.list_facts.proofs.Members.{IsIn, in_flat_map, in_range, in_at, at_in}
use Rattle.list_facts.proofs.Rising.{Rising, rising-flat_map, rising-range, rising-from, rising-at}

-- the blocks of groups
abbrev six_each : ℕ → List ℕ → List ℕ
six_each start groups = flat_map (λ group. range_with_len (group_block start group) 6) groups

length_six : (start : ℕ) (groups : List ℕ) → length (six_each start groups) ≡ 6 * length groups
length_six start [] = refl
length_six start (g ∷ gs) =
    let a = length-append (range_with_len (group_block start g) 6) (six_each start gs) in
    let b = length-range_with_len (group_block start g) 6 in
    let h = length_six start gs in
    omega (arith, a, b, h)

-- six blocks for each group
pub length-blocks_of : (resources : Resources) → length (blocks_of resources) ≡ 6 * length resources.groups
unfolding blocks_of
length-blocks_of resources = length_six resources.start resources.groups

six_rising : (start : ℕ) (groups : List ℕ) → Rising (λ a b. a < b) groups → Rising (λ a b. a < b) (six_each start groups)
six_rising start groups r =
    rising-flat_map (λ a b. a < b) (λ a b. a < b) (λ group. range_with_len (group_block start group) 6) groups r
    (λ a i. rising-range (group_block start a) 6)
    (λ a b x y i j h u v. let k = in_range x (group_block start a) 6 u in let l = in_range y (group_block start b) 6 v in
    omega (arith, k.1, l.0, h))

-- the blocks rise
pub blocks-rising : (resources : Resources) → AreResources resources → Rising (λ a b. a < b) (blocks_of resources)
unfolding blocks_of
blocks-rising resources r =
    six_rising resources.start resources.groups
    (rising-from (λ a b. a < b) resources.groups (λ i j d h l. r.rising i j d h l))

-- each is below a block at or before which all groups end
pub block_below : (resources : Resources) (blocks b : ℕ) → AreBelow blocks resources → IsIn b (blocks_of resources) → b < blocks
unfolding blocks_of
block_below resources blocks b h i =
    let (g, m, k) = in_flat_map (λ group. range_with_len (group_block resources.start group) 6) b resources.groups i in
    let (j, l, e) = in_at g resources.groups 0 m in
    let s = h j 0 l in
    let t = in_range b (group_block resources.start g) 6 k in
    let f = ap (λ x. group_block resources.start x) e in
    omega (arith, s, t.1, f)

-- block k is of the group whose rank is a sixth of k
six_at_cases : (start g : ℕ) (gs : List ℕ) (k : ℕ) → k < 6 * suc (length gs)
    → ((j : ℕ) → j < 6 * length gs → get_or (six_each start gs) j 0 ≡ group_block start (get_or gs (j / 6) 0) + j % 6)
    → (k < 6) ⊎ (6 ≤ k)
    → get_or (range_with_len (group_block start g) 6 ++ six_each start gs) k 0
    ≡ group_block start (get_or (g ∷ gs) (k / 6) 0) + k % 6
six_at_cases start g gs k h later (inl few) =
    let front = range_with_len (group_block start g) 6 in
    let a = get_or_append_left front (six_each start gs) 0 k
    (let l = length-range_with_len (group_block start g) 6 in omega (arith, l)) in
    let b = get_or-range_with_len (group_block start g) 6 k 0 few in
    let z : 0 ≡ k / 6 = omega arith in
    let c = ap (λ n. group_block start (get_or (g ∷ gs) n 0)) z in
    omega (arith, a, b, c)
six_at_cases start g gs k h later (inr more) =
    let front = range_with_len (group_block start g) 6 in
    let a = get_or-append_right front (six_each start gs) 6 k 0 (length-range_with_len (group_block start g) 6) more in
    let b = later (k - 6) (omega arith) in
    let z : suc ((k - 6) / 6) ≡ k / 6 = omega arith in
    let c = ap (λ n. group_block start (get_or (g ∷ gs) n 0)) z in
    omega (arith, a, b, c)

six_at : (start : ℕ) (groups : List ℕ) (k : ℕ) → k < 6 * length groups
    → get_or (six_each start groups) k 0 ≡ group_block start (get_or groups (k / 6) 0) + k % 6
six_at start [] k h = absurd (omega arith)
six_at start (g ∷ gs) k h = six_at_cases start g gs k (omega arith) (six_at start gs) (cases_lt k 6)

-- the block of a rank
pub block_at : (resources : Resources) (k : ℕ) → k < 6 * length resources.groups
    → get_or (blocks_of resources) k 0 ≡ group_block resources.start (get_or resources.groups (k / 6) 0) + k % 6
unfolding blocks_of
block_at resources k h = six_at resources.start resources.groups k h

-- a block has one rank
apart : (resources : Resources) (i j : ℕ) → AreResources resources → i < length (blocks_of resources)
    → j < length (blocks_of resources)
    → get_or (blocks_of resources) i 0 ≡ get_or (blocks_of resources) j 0 → (i ≡ j) ⊎ ((i < j) ⊎ (j < i)) → i ≡ j
apart resources i j r h k e (inl same) = same
apart resources i j r h k e (inr (inl less)) =
    let l = rising-at (λ a b. a < b) (blocks_of resources) (blocks-rising resources r) i j 0 less k in
    absurd (omega (arith, l, e))
apart resources i j r h k e (inr (inr more)) =
    let l = rising-at (λ a b. a < b) (blocks_of resources) (blocks-rising resources r) j i 0 more h in
    absurd (omega (arith, l, e))

-- a block has one rank
pub one_rank : (resources : Resources) (i j : ℕ) → AreResources resources → i < length (blocks_of resources)
    → j < length (blocks_of resources)
    → get_or (blocks_of resources) i 0 ≡ get_or (blocks_of resources) j 0 → i ≡ j
one_rank resources i j r h k e = apart resources i j r h k e (cases_order i j)

-- the block from its parts, as the code makes it
block_parts : (resources : Resources) (rank g sixth start : ℕ) → rank < 6 * length resources.groups
    → start ≡ resources.start → g ≡ get_or resources.groups (rank / 6) 0 → sixth ≡ rank % 6
    → group_block start g + sixth ≡ get_or (blocks_of resources) rank 0
block_parts resources rank g sixth start h e f k =
    let b = block_at resources rank h in
    let same : group_block start g + sixth ≡ group_block resources.start (get_or resources.groups (rank / 6) 0) + rank % 6 = cc in
    same ∙ sym b

-- what the code knows of a block
pub record IsBlock (resources : Resources) (rank g sixth start : ℕ) : Type 0 where
  pub is : group_block start g + sixth ≡ get_or (blocks_of resources) rank 0
  pub below : group_block start g + sixth < 275

-- the code makes the block of a rank from its group
pub block_from : (resources : Resources) (rank g sixth start : ℕ) → AreResources resources → rank < 6 * length resources.groups
    → start ≡ resources.start → g ≡ get_or resources.groups (rank / 6) 0 → sixth ≡ rank % 6 → IsBlock resources rank g sixth start
block_from resources rank g sixth start r h e f k =
    let is = block_parts resources rank g sixth start h e f k in
    let low = block_below resources 275 (get_or (blocks_of resources) rank 0) r.below
    (at_in (blocks_of resources) rank 0 (let l = length-blocks_of resources in omega (arith, h, l))) in
    record { is = is; below = omega (arith, is, low) }

-- How many groups of blocks there are.
use Rattle.std.proofs.Common.{◌≡◌, ℕ, ◌+◌, ◌-◌, ◌*◌, ◌/◌, ◌%◌, ◌<◌, ◌≤◌, Bool, true, false, cond, nat_eq, nat_le, arith, refl}
use Rattle.std.proofs.lemmas.Bool.{leb-true, cond_both}
use Rattle.std.proofs.lemmas.Nat.{mod_below, div_below, le-div}
use Rattle.alloc_fields.specs.Groups.{group_size, rbg_count}

-- what the size of a group may be
pub record IsGroupSize (size blocks : ℕ) : Type 0 where
  pub least : 2 ≤ blocks
  pub most : blocks ≤ 16
  pub fits : size ≤ 18 * blocks

-- the size of a group is one that may be
pub group_size_is : (size config : ℕ) → size ≤ 275 → IsGroupSize size (group_size size config)
unfolding group_size
group_size_is size config h =
    let P : ℕ → Type 0 = λ blocks. IsGroupSize size blocks in
    let one : Bool = nat_eq config 1 in
    let by : (x y : ℕ) → P x → P y → P (cond one x y) = λ x y p q. cond_both one x y P (λ _. p) (λ _. q) in
    let is : (blocks : ℕ) → 2 ≤ blocks → blocks ≤ 16 → size ≤ 18 * blocks → P blocks =
    λ blocks a b c. record { least = a; most = b; fits = c } in
    cond_both (nat_le size 36) _ _ P
    (λ e. let s : size ≤ 36 = leb-true size 36 e in by 2 4 (is 2 (omega arith) (omega arith) (omega arith)) (is 4 (omega
    arith) (omega arith) (omega arith)))
    (λ _. cond_both (nat_le size 72) _ _ P
    (λ e. let s : size ≤ 72 = leb-true size 72 e in by 4 8 (is 4 (omega arith) (omega arith) (omega arith)) (is 8 (omega
    arith) (omega arith) (omega arith)))
    (λ _. cond_both (nat_le size 144) _ _ P
    (λ e. let s : size ≤ 144 = leb-true size 144 e in by 8 16 (is 8 (omega arith) (omega arith) (omega arith)) (is 16 (omega
    arith) (omega arith) (omega arith)))
    (λ _. is 16 (omega arith) (omega arith) (omega arith))))

-- so many blocks in groups, the first of which may begin before them
quotient_le : (size rest blocks : ℕ) → 2 ≤ blocks → size ≤ 18 * blocks → rest < blocks
    → (size + rest + (blocks - 1)) / blocks ≤ 19
quotient_le size rest blocks two fits below =
    let positive : 0 < blocks = omega arith in
    let small : size + rest + (blocks - 1) < 20 * blocks = grind arith in
    omega (arith, div_below (size + rest + (blocks - 1)) blocks 20 positive small)

-- there are at most 19 groups
pub rbg_count_le : (size start config : ℕ) → size ≤ 275 → rbg_count size start config ≤ 19
unfolding rbg_count
rbg_count_le size start config h =
    let is : IsGroupSize size (group_size size config) = group_size_is size config h in
    let positive : 0 < group_size size config = omega (arith, is.least) in
    quotient_le size (start % group_size size config) (group_size size config) is.least is.fits
    (mod_below start (group_size size config) positive)

-- as many as a block takes, and more
at_least : (a blocks : ℕ) → 0 < blocks → 1 ≤ a → 1 ≤ (a + (blocks - 1)) / blocks
at_least a blocks positive some = le-div 1 (a + (blocks - 1)) blocks positive (omega arith)

-- there is a group
pub rbg_count-some : (size start config : ℕ) → 1 ≤ size → size ≤ 275 → 1 ≤ rbg_count size start config
unfolding rbg_count
rbg_count-some size start config some h =
    let is : IsGroupSize size (group_size size config) = group_size_is size config h in
    at_least (size + start % group_size size config) (group_size size config) (omega (arith, is.least)) (omega (arith, some))

-- The groups whose bit is one, found one after the other.
use Rattle.std.proofs.Common.{◌≡◌, ℕ, ◌+◌, true, false, List, [], ◌∷◌, ◌++◌, refl, ap}
use Rattle.std.specs.List.{range_with_len, filter}
use Rattle.rrc_settings.specs.BitSets.{has_bit}
use Rattle.rrc_settings.specs.ControlGroups.{groups_of}
use Rattle.list_facts.proofs.Ranges.{filter_range_more, filter_range_same}

-- the groups below n whose bit is one
unfoldable pub groups_below : ℕ → ℕ → List ℕ
groups_below groups n = filter (has_bit groups) (range_with_len 0 n)

-- there is none below 0
pub groups_none : (groups : ℕ) → groups_below groups 0 ≡ []
unfolding groups_below
groups_none groups = refl

-- all are below 64
pub groups_all : (groups n : ℕ) → n ≡ 64 → groups_below groups n ≡ groups_of groups
unfolding groups_below groups_of
groups_all groups n e = ap (λ k. filter (has_bit groups) (range_with_len 0 k)) e

-- one group more
pub groups_more : (groups n : ℕ) → has_bit groups n ≡ true → groups_below groups (n + 1) ≡ groups_below groups n ++ n ∷ []
unfolding groups_below
groups_more groups n e = filter_range_more (has_bit groups) n e

-- one number more that is no group
pub groups_same : (groups n : ℕ) → has_bit groups n ≡ false → groups_below groups (n + 1) ≡ groups_below groups n
unfolding groups_below
groups_same groups n e = filter_range_same (has_bit groups) n e

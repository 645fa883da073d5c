-- Groups of resource blocks (3GPP TS 38.214, 5.1.2.2.1).
use Rattle.std.specs.Prelude.{ℕ, ◌+◌, ◌-◌, ◌/◌, ◌%◌, cond, nat_eq, nat_le}

-- how many blocks a group has, by the size of the bandwidth part and the configuration
unfoldable pub group_size : ℕ → ℕ → ℕ
group_size size config =
    cond (nat_le size 36) (cond (nat_eq config 1) 2 4)
    (cond (nat_le size 72) (cond (nat_eq config 1) 4 8)
    (cond (nat_le size 144) (cond (nat_eq config 1) 8 16) 16))

-- a number divided by another, rounded up
abbrev pub quotient_up : ℕ → ℕ → ℕ
quotient_up a b = (a + (b - 1)) / b

-- how many groups there are: the first one begins at a multiple of the group size, before the bandwidth part where that is none
unfoldable pub rbg_count : ℕ → ℕ → ℕ → ℕ
rbg_count size start config = quotient_up (size + start % group_size size config) (group_size size config)

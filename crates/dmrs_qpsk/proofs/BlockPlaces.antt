-- The subcarriers of a block that have reference points and those that have data, and how many come before each.
use Rattle.std.proofs.Common.{◌≡◌, ◌≢◌, ℕ, zero, suc, ◌+◌, ◌-◌, ◌/◌, ◌<◌, ◌≤◌, Bool, true, false}
use Rattle.std.proofs.Common.{◌⊎◌, inl, inr, refl, arith}
use Rattle.std.proofs.lemmas.Bool.Decides.{nat_tests}
use Rattle.list_facts.proofs.Counting.{count_none, count_yes, count_no, count_split}
use Rattle.coreset_map.specs.DataPlaces.{is_reference}
use Rattle.dmrs_qpsk.specs.PointsOnGrid.{data_rank, reference_rank}

-- the subcarriers with reference points are 1, 5 and 9
pub which_reference : (k : ℕ) → is_reference k ≡ true → (k ≡ 1) ⊎ ((k ≡ 5) ⊎ (k ≡ 9))
which_reference k e = grind (arith, nat_tests)

-- a subcarrier is none of them
pub record IsData (k : ℕ) : Type 0 where
  pub first : k ≢ 1
  pub second : k ≢ 5
  pub third : k ≢ 9

not_first : (k : ℕ) → is_reference k ≡ false → k ≢ 1
not_first k e f = grind (arith, nat_tests)

not_second : (k : ℕ) → is_reference k ≡ false → k ≢ 5
not_second k e f = grind (arith, nat_tests)

not_third : (k : ℕ) → is_reference k ≡ false → k ≢ 9
not_third k e f = grind (arith, nat_tests)

-- a subcarrier with data is none of them
pub data_is : (k : ℕ) → is_reference k ≡ false → IsData k
data_is k e = record { first = not_first k e; second = not_second k e; third = not_third k e }

-- one that is none of them has data
pub is_data : (k : ℕ) → k ≢ 1 → k ≢ 5 → k ≢ 9 → is_reference k ≡ false
is_data k a b c = grind (arith, nat_tests)

rank_after : (k : ℕ) (t : Bool) → is_reference k ≡ t → suc k ≤ 13 → reference_rank k ≡ (k + 2) / 4
    → reference_rank (suc k) ≡ (suc k + 2) / 4
rank_after k true e h rank =
    elim (which_reference k e) [
      | inl a ↦ omega (arith, count_yes k is_reference e, rank, a)
      | inr r ↦ elim r [
        | inl a ↦ omega (arith, count_yes k is_reference e, rank, a)
        | inr a ↦ omega (arith, count_yes k is_reference e, rank, a)
      ]
    ]
rank_after k false e h rank = let d = data_is k e in omega (arith, count_no k is_reference e, rank, d)

-- how many reference points come before a subcarrier of a block
pub reference_rank_is : (k : ℕ) → k ≤ 13 → reference_rank k ≡ (k + 2) / 4
reference_rank_is zero h = count_none is_reference
reference_rank_is (suc k) h = rank_after k (is_reference k) refl h (reference_rank_is k (omega (arith, h)))

-- and how many come before one of them
pub reference_rank_there : (k : ℕ) → is_reference k ≡ true → reference_rank k ≡ k / 4
reference_rank_there k e =
    elim (which_reference k e) [
      | inl a ↦ omega (arith, reference_rank_is k (omega (arith, a)), a)
      | inr r ↦ elim r [
        | inl a ↦ omega (arith, reference_rank_is k (omega (arith, a)), a)
        | inr a ↦ omega (arith, reference_rank_is k (omega (arith, a)), a)
      ]
    ]

-- a block has three reference points
pub reference_number_small : (k : ℕ) → is_reference k ≡ true → k / 4 ≤ 2
reference_number_small k e =
    elim (which_reference k e) [
      | inl a ↦ omega (arith, a)
      | inr r ↦ elim r [ inl a ↦ omega (arith, a) | inr a ↦ omega (arith, a) ]
    ]

-- how many data places come before a subcarrier of a block
pub data_rank_is : (k : ℕ) → k ≤ 13 → data_rank k ≡ k - (k + 2) / 4
data_rank_is k h = omega (arith, count_split k is_reference, reference_rank_is k h)

-- data place d of a block is at this subcarrier
pub data_rank_back : (d : ℕ) → d < 9 → data_rank (d + (d + 2) / 3) ≡ d
data_rank_back d h = omega (arith, h, data_rank_is (d + (d + 2) / 3) (omega (arith, h)))

-- A word in its 32 sub-blocks: each place in the order of sending has a position below the length of the word.
use Rattle.std.proofs.Common.{ℕ, ◌≡◌, ◌+◌, ◌*◌, ◌/◌, ◌%◌, ◌^◌, ◌<◌, ◌≤◌, zero, suc, true, List, [], ◌∷◌}
use Rattle.std.proofs.Common.{get_or, leb, refl, arith, lit<, lit≤}
use Rattle.std.specs.Prelude.{IsTrue}
use Rattle.std.specs.List.{list_all}
use Rattle.std.proofs.lemmas.Nat.{mul-add-lt}
use Rattle.std.proofs.lemmas.Bool.{and_parts, leb-true}
use Rattle.std.proofs.Math.Nat.{mod-lt}
use Rattle.bits_core.specs.CodeLengths.{is_code_length}
use Rattle.bits_core.proofs.CodeLengths.{by_lengths}
use Rattle.rate_match.specs.SubblockOrder.{subblock_order, position_at}

at_most : (xs : List ℕ) (m i : ℕ) → list_all (λ x. leb x m) xs ≡ true → get_or xs i 0 ≤ m
at_most [] m i h = omega arith
at_most (x ∷ xs) m zero h = leb-true x m (and_parts (leb x m) (list_all (λ x. leb x m) xs) h).0
at_most (x ∷ xs) m (suc i) h = at_most xs m i (and_parts (leb x m) (list_all (λ x. leb x m) xs) h).1

-- no sub-block is above the last of 32
pub subblock_at_most : (i : ℕ) → get_or subblock_order i 0 ≤ 31
subblock_at_most i = at_most subblock_order 31 i refl

-- a code length is 32 sub-blocks of one bit and more, and 512 at most
pub record IsInSubblocks (n : ℕ) : Type 0 where
  pub whole : n / 32 * 32 ≡ n
  pub some : 0 < n / 32
  pub limit : n ≤ 512

-- each code length is such a length
pub in_subblocks : (n : ℕ) → IsTrue (is_code_length n) → IsInSubblocks n
in_subblocks =
    by_lengths IsInSubblocks
    (record { whole = refl; some = lit< tt; limit = lit≤ tt })
    (record { whole = refl; some = lit< tt; limit = lit≤ tt })
    (record { whole = refl; some = lit< tt; limit = lit≤ tt })
    (record { whole = refl; some = lit< tt; limit = lit≤ tt })
    (record { whole = refl; some = lit< tt; limit = lit≤ tt })

place_below : (n b m : ℕ) → IsInSubblocks n → b ≤ 31 → b * (n / 32) + m % (n / 32) < n
place_below n b m h l =
    let below : b * (n / 32) + m % (n / 32)
    < n / 32 * 32 = mul-add-lt b (n / 32) (m % (n / 32)) 32 (omega arith) (mod-lt m h.some) in
    rw h.whole at below

-- each place has a position below the length of the word
pub position_below : (n m : ℕ) → IsTrue (is_code_length n) → position_at n m < n
unfolding position_at
position_below n m h = place_below n (get_or subblock_order (32 * m / n) 0) m (in_subblocks n h) (subblock_at_most (32 * m / n))

-- the product and the sum by which a position is found stay small
pub small : (a b n : ℕ) → n ≤ 512 → a + b < n → (a < 2 ^ 64) × (a + b < 2 ^ 64)
small a b n h l = (omega arith, omega arith)

-- the same for the product and the sum of a place
pub place_small : (n i m : ℕ) → IsTrue (is_code_length n) →
    (get_or subblock_order i 0 * (n / 32) < 2 ^ 64) × (get_or subblock_order i 0 * (n / 32) + m % (n / 32) < 2 ^ 64)
place_small n i m h =
    small (get_or subblock_order i 0 * (n / 32)) (m % (n / 32)) n (in_subblocks n h).limit
    (place_below n (get_or subblock_order i 0) m (in_subblocks n h) (subblock_at_most i))

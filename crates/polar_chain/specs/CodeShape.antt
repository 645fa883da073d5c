-- A code as it is seen: how many bits a block has and how many are sent, and where and in which order they stand
-- (3GPP TS 38.212, 5.3.1 and 5.4.1).
use Rattle.std.specs.Prelude.{◌≡◌, ℕ, ◌≤◌, Bool, List}
use Rattle.bits_core.specs.Bits.{bit_of}
use Rattle.polar_sets.specs.CodeSets.{IsInformation}
use Rattle.polar_sets.specs.InformationPositions.{information, is_in}
use Rattle.polar_sets.specs.InputOrder.{order_from}
use Rattle.rate_match.specs.MotherCode.{length_of}
use Rattle.table_files.specs.Permutation.{IsTable}
use Rattle.polar_chain.specs.CodeOfBlock.{code_of}

-- the numbers of bits of a block and of its code, the input order, and whether each position carries a bit
pub record CodeShape : Type 0 where
  pub block_len : ℕ
  pub coded_len : ℕ
  pub order : List ℕ
  pub positions : List Bool

-- the code of these numbers, in this order, at these positions
abbrev pub shape : ℕ → ℕ → List ℕ → List Bool → CodeShape
shape k e order positions = record { block_len = k; coded_len = e; order = order; positions = positions }

-- the bits of the word
abbrev pub word_len : CodeShape → ℕ
word_len s = length_of s.block_len s.coded_len

-- the code of the block c
unfoldable pub coded : CodeShape → List Bool → List Bool
coded s c = code_of (word_len s) s.block_len s.coded_len s.order (bit_of s.positions) c

-- a code has legal numbers of bits, an order of those of a block, and a position that is sent for each
pub record IsCode (s : CodeShape) : Type 0 where
  pub some : 1 ≤ s.block_len
  pub few : s.block_len ≤ 164
  pub sent : 1 ≤ s.coded_len
  pub most : s.coded_len ≤ 1728
  pub order_is : IsTable s.block_len s.order
  pub positions_are : IsInformation (word_len s) s.block_len s.coded_len (bit_of s.positions)

-- s is the code by two tables: the reliability of the positions, and the input order of 164 bits
pub record IsByTables (reliability input_order : List ℕ) (k e : ℕ) (s : CodeShape) : Type 0 where
  pub block_is : s.block_len ≡ k
  pub coded_is : s.coded_len ≡ e
  pub order_by : s.order ≡ order_from input_order k
  pub positions_by : (at : ℕ) → bit_of s.positions at ≡ is_in (information reliability (length_of k e) k e) at

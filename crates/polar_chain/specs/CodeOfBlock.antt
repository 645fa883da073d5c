-- The code of a block: its bits in the input order, at the information positions, times the matrix, and of that word the
-- bits that are sent (3GPP TS 38.212, 5.3.1 and 5.4.1).
use Rattle.std.specs.Prelude.{ℕ, Bool, ◌&&◌, List}
use Rattle.bits_core.specs.Bits.{bit_of}
use Rattle.polar_kernel.specs.MatrixWord.{word_at}
use Rattle.list_facts.specs.Counting.{count_below}
use Rattle.polar_sets.specs.InformationPositions.{is_in, information}
use Rattle.polar_sets.specs.InputOrder.{in_input_order, order_from}
use Rattle.rate_match.specs.MotherCode.{length_of}
use Rattle.rate_match.specs.RateMatching.{selected}

-- the input bit at position i: the bits in ascending order at the information positions, 0 elsewhere
unfoldable pub laid : (ℕ → Bool) → List Bool → ℕ → Bool
laid info bits i = info i && bit_of bits (count_below i info)

-- the e coded bits of the block c of k bits, with a word of n bits, an input order and the information positions
unfoldable pub code_of : ℕ → ℕ → ℕ → List ℕ → (ℕ → Bool) → List Bool → List Bool
code_of n k e order info c = selected n k e (word_at n (laid info (in_input_order order c)))

-- the same by the two tables: the reliability of the positions, and the input order of 164 bits
unfoldable pub code_by : List ℕ → List ℕ → ℕ → ℕ → List Bool → List Bool
code_by reliability input_order k e c =
    let n = length_of k e in
    code_of n k e (order_from input_order k) (is_in (information reliability n k e)) c

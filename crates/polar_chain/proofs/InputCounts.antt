-- The bits of a block at the positions that a test picks, in ascending order.
use Rattle.std.proofs.Common.{ℕ, ◌≡◌, ◌<◌, Bool, true, false, List, length, refl}
use Rattle.std.specs.Prelude.{slice_index}
use Rattle.std.proofs.lemmas.List.{get_or-map}
use Rattle.bits_core.specs.Bits.{bit_of}
use Rattle.list_facts.specs.Counting.{count_below}
use Rattle.polar_sets.specs.InputOrder.{in_input_order}
use Rattle.polar_chain.specs.CodeOfBlock.{laid}

-- the input bit at a position that passes is the block's bit of that turn in the input order
pub laid_picked : (info : ℕ → Bool) (order : List ℕ) (c : List Bool) (i : ℕ) → info i ≡ true → count_below i info < length order →
    laid info (in_input_order order c) i ≡ bit_of c (slice_index order (count_below i info))
unfolding laid in_input_order
laid_picked info order c i t l = rw t (get_or-map (bit_of c) order (count_below i info) 0 false l)

-- and 0 at one that doesn't
pub laid-none : (info : ℕ → Bool) (bits : List Bool) (i : ℕ) → info i ≡ false → laid info bits i ≡ false
unfolding laid
laid-none info bits i f = rw f refl

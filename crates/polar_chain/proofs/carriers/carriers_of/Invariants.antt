use Rattle.std.proofs.Common.{ℕ, ◌≡◌, ◌<◌, ◌≤◌, length}
use Rattle.std.specs.Prelude.{IsTrue, slice_index}
use Rattle.bits_core.specs.Bits.{bit_of}
use Rattle.list_facts.specs.Counting.{count_below}
use Rattle.polar_chain.proofs.carriers.carriers_of.Given as goal

-- the positions so far are kept for their bits
abbrev pub invariant-loop-at : goal.invariant-loop-at
invariant-loop-at l = record {
  len : length l.carriers ≡ 164;
  behind : l.turn ≤ l.at;
  turn_is : l.turn ≡ count_below l.at (bit_of l.positions);
  kept_so_far :
      (p : ℕ) → p < l.at → IsTrue (bit_of l.positions p) →
      slice_index l.carriers (slice_index l.order (count_below p (bit_of l.positions))) ≡ p;
}

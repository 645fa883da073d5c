use Rattle.std.proofs.Common.{ℕ, ◌≡◌, ◌<◌, ◌≤◌}
use Rattle.bits_core.specs.Bits.{bit_of}
use Rattle.polar_kernel.specs.Stages.{staged}
use Rattle.polar_kernel.proofs.add_partners.Given as goal

-- the places that the loop has passed are done, and the others wait
abbrev pub invariant-loop-place : goal.invariant-loop-place
invariant-loop-place l = record {
  done : (j : ℕ) → j < l.place → bit_of l.word j ≡ staged l.span (bit_of l.initial.word) j;
  waiting : (j : ℕ) → l.place ≤ j → bit_of l.word j ≡ bit_of l.initial.word j;
}

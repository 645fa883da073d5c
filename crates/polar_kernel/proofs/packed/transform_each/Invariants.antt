use Rattle.std.proofs.Common.{ℕ, ◌≡◌, ◌<◌, ◌≤◌, slice_index}
use Rattle.bits_core.specs.Ones.{has_one}
use Rattle.polar_kernel.specs.MatrixWord.{word_at}
use Rattle.polar_kernel.proofs.packed.transform_each.Given as goal

-- the words that the loop has passed are done, and the others wait
abbrev pub invariant-loop-at : goal.invariant-loop-at
invariant-loop-at l = record {
  done :
      (q k : ℕ) → q < l.at → k < 64 →
      has_one (slice_index l.words q) k ≡ word_at 64 (has_one (slice_index l.initial.words q)) k;
  waiting : (q : ℕ) → l.at ≤ q → slice_index l.words q ≡ slice_index l.initial.words q;
}

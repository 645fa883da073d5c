use Rattle.std.proofs.Common.{ℕ, ◌≡◌, ◌<◌, ◌≤◌, slice_index}
use Rattle.polar_kernel.specs.PackedStages.{staged_word}
use Rattle.polar_kernel.proofs.packed.add_words.Given as goal

-- the words that the loop has passed are done, and the others wait
abbrev pub invariant-loop-at : goal.invariant-loop-at
invariant-loop-at l = record {
  done : (q : ℕ) → q < l.at → slice_index l.words q ≡ staged_word l.span l.initial.words q;
  waiting : (q : ℕ) → l.at ≤ q → slice_index l.words q ≡ slice_index l.initial.words q;
}

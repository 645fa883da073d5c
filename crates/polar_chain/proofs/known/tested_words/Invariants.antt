use Rattle.std.proofs.Common.{ℕ, ◌≡◌, ◌*◌, ◌<◌, ◌&&◌, length, not}
use Rattle.bits_core.specs.Row.{word_bit}
use Rattle.polar_chain.proofs.known.tested_words.Given as goal

-- the words so far hold their flags
abbrev pub invariant-loop-at : goal.invariant-loop-at
invariant-loop-at l = record {
  len : length l.words ≡ 8;
  held : (i : ℕ) → i < 64 * l.at → word_bit l.words i ≡ (word_bit l.known i && not (word_bit l.carrying i));
}

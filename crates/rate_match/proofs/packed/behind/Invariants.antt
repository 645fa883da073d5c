use Rattle.std.proofs.Common.{◌≡◌, ℕ, ◌+◌, ◌-◌, ◌*◌, ◌<◌, length}
use Rattle.bits_core.specs.Row.{word_bit}
use Rattle.rate_match.proofs.packed.behind.Given as goal

-- the words so far
abbrev pub invariant-loop-at : goal.invariant-loop-at
invariant-loop-at l =
    (length l.moved ≡ 8) × ((i : ℕ) → i < 64 * l.at → word_bit l.moved i ≡ word_bit l.words (512 - l.count + i))

-- What holds of every code: how long it is, that its repeats agree, that it is the code of one block, and that received bits
-- have one answer.
use Rattle.std.proofs.Common.{ℕ, ◌≡◌, Bool, List, Result, Ok, Err, length, ap, subst, sym, ◌∙◌, arith}
use Rattle.bits_core.specs.Bits.{bit_of}
use Rattle.rate_match.specs.Repeats.{RepeatsBelow}
use Rattle.rate_match.proofs.Lengths.{length_legal}
use Rattle.rate_match.proofs.Repeating.{none_differs}
use Rattle.rate_match.proofs.Unselected.{positive}
use Rattle.polar_chain.specs.CodeShape.{CodeShape, IsCode, coded, word_len}
use Rattle.polar_chain.specs.Decoding.{IsBlockOf, IsOutcome}
use Rattle.polar_chain.specs.declared.no_word.NoWord.{NoWord}
use Rattle.polar_chain.specs.declared.no_word.NoWord.TheVariants.{Repeat, Frozen}
use Rattle.polar_chain.proofs.CodeBlocks.{code_of_once, code_of_repeats, length-code_of}
-- one repeat at most is the first that differs
pub use Rattle.rate_match.proofs.Repeating.{one_differing}

-- the code of a block has as many bits as are sent
pub length-code : (s : CodeShape) (c : List Bool) → length (coded s c) ≡ s.coded_len
unfolding coded
length-code s c = length-code_of (word_len s) s.block_len s.coded_len s.order (bit_of s.positions) c

-- a code has no repeat that differs
pub code_repeats : (s : CodeShape) (c : List Bool) → RepeatsBelow (word_len s) (coded s c) s.coded_len
unfolding coded
code_repeats s c =
    code_of_repeats (word_len s) s.block_len s.coded_len s.order (bit_of s.positions) c
    (positive (word_len s) (length_legal s.block_len s.coded_len))

-- no two blocks have one code
pub code_once : (s : CodeShape) (c other : List Bool) → IsCode s → length c ≡ s.block_len → length other ≡ s.block_len →
    coded s c ≡ coded s other → c ≡ other
unfolding coded
code_once s c other q h g e =
    code_of_once (word_len s) s.block_len s.coded_len s.order (bit_of s.positions) c other (length_legal s.block_len s.coded_len)
    q.order_is q.positions_are h g e

-- received bits are the code of one block at most
pub block_of : (s : CodeShape) (bits c other : List Bool) → IsCode s → IsBlockOf s bits c → IsBlockOf s bits other → c ≡ other
block_of s bits c other q h g = code_once s c other q h.0 g.0 (h.1 ∙ sym g.1)

-- and the repeats of those that are agree
pub block_repeats : (s : CodeShape) (bits c : List Bool) → IsBlockOf s bits c → RepeatsBelow (word_len s) bits (length bits)
block_repeats s bits c h i g l =
    let long : length bits ≡ s.coded_len = ap (λ (b : List Bool). length b) (sym h.1) ∙ length-code s c in
    subst (λ (b : List Bool). RepeatsBelow (word_len s) b s.coded_len) h.1 (code_repeats s c) i g (omega arith)

-- received bits have one answer
pub one_outcome : (s : CodeShape) (bits : List Bool) (x y : Result (List Bool) NoWord) → IsCode s → IsOutcome s bits x
    → IsOutcome s bits y → x ≡ y
one_outcome s bits (Ok c) (Ok other) q h g = ap (λ (b : List Bool). Ok b) (block_of s bits c other q h g)
one_outcome s bits (Ok c) (Err (Repeat at)) q h g = absurd (none_differs (word_len s) bits at (block_repeats s bits c h) g)
one_outcome s bits (Ok c) (Err Frozen) q h g = absurd (g.1 c h)
one_outcome s bits (Err (Repeat at)) (Ok c) q h g = absurd (none_differs (word_len s) bits at (block_repeats s bits c g) h)
one_outcome s bits (Err (Repeat at)) (Err (Repeat other)) q h g =
    ap (λ (i : ℕ). Err (Repeat i)) (one_differing (word_len s) bits at other h g)
one_outcome s bits (Err (Repeat at)) (Err Frozen) q h g = absurd (none_differs (word_len s) bits at g.0 h)
one_outcome s bits (Err Frozen) (Ok c) q h g = absurd (h.1 c g)
one_outcome s bits (Err Frozen) (Err (Repeat at)) q h g = absurd (none_differs (word_len s) bits at h.0 g)
one_outcome s bits (Err Frozen) (Err Frozen) q h g =
    let e : ◌≡◌ {A = Result (List Bool) NoWord} (Err Frozen) (Err Frozen) = cc in e

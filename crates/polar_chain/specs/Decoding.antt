-- What received bits say of a block: that they are its code, or why they are no block's (3GPP TS 38.212, 5.3.1 and 5.4.1).
use Rattle.std.specs.Prelude.{◌≡◌, ℕ, Bool, List, Result, Ok, Err, length}
use Rattle.rate_match.specs.Repeats.{IsFirstDiffering, RepeatsBelow}
use Rattle.polar_chain.specs.CodeOfBlock.{code_by}
use Rattle.polar_chain.specs.CodeShape.{CodeShape, coded, word_len}
use Rattle.polar_chain.specs.declared.no_word.NoWord.{NoWord}
use Rattle.polar_chain.specs.declared.no_word.NoWord.TheVariants.{Repeat, Frozen}

-- the received bits are the code of the block c
abbrev pub IsBlockOf : CodeShape → List Bool → List Bool → Type 0
IsBlockOf s bits c = (length c ≡ s.block_len) × (coded s c ≡ bits)

-- the same by the two tables, where a block has k bits and e are sent
abbrev pub IsBlockBy : List ℕ → List ℕ → ℕ → ℕ → List Bool → List Bool → Type 0
IsBlockBy reliability input_order k e bits c = (length c ≡ k) × (code_by reliability input_order k e c ≡ bits)

-- they are the code of no block
abbrev pub HasNoBlock : CodeShape → List Bool → Type 0
HasNoBlock s bits = (c : List Bool) → IsBlockOf s bits c → ⊥

-- the answer to the received bits
abbrev pub IsOutcome : CodeShape → List Bool → Result (List Bool) NoWord → Type 0
IsOutcome s bits (Ok c) = IsBlockOf s bits c
IsOutcome s bits (Err (Repeat at)) = IsFirstDiffering (word_len s) bits at
IsOutcome s bits (Err Frozen) = RepeatsBelow (word_len s) bits (length bits) × HasNoBlock s bits

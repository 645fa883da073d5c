-- The reference bits of a symbol, ten blocks a word.
use Rattle.std.proofs.Common.{◌≡◌, ℕ, ◌+◌, ◌*◌, ◌/◌, ◌%◌, ◌^◌, ◌<◌, Bool, false, List, [], length, get_or, set}
use Rattle.std.proofs.Common.{inl, inr, sym, ap, ◌∙◌, arith}
use Rattle.std.proofs.Common.{get_or-set_same, get_or-set_other, length-set}
use Rattle.std.proofs.lemmas.Bool.{cases_eq}
use Rattle.bits_core.specs.Bits.{bit_of}
use Rattle.bits_core.specs.Ones.{has_one}
use Rattle.gold_scrambler.specs.Gold.{gold, gold_bits}
use Rattle.gold_scrambler.specs.Stretches.{HasBits}
use Rattle.gold_scrambler.proofs.Fills.{get_or-gold_bits}
use Rattle.gold_scrambler.proofs.Stretches.{one_shr}
use Rattle.dmrs_qpsk.specs.KeptReferences.{AreBitsOf, AreKept}

-- the first n words are made
pub record AreBitsBelow (start n : ℕ) (words : List ℕ) : Type 0 where
  pub size : length words ≡ 28
  pub bit : (index i : ℕ) → index < n → i < 60 → has_one (get_or words index 0) i ≡ gold start (60 * index + i)

-- one more word is made
pub one_word_more : (start n : ℕ) (words : List ℕ) (word : ℕ) → n < 28 → AreBitsBelow start n words
    → ((i : ℕ) → i < 60 → has_one word i ≡ gold start (60 * n + i))
    → AreBitsBelow start (n + 1) (set words n word)
one_word_more start n words word l h made = record {
  size = length-set words n word ∙ h.size;
  bit = λ index i m k. elim (cases_eq index n) as
      (λ _. has_one (get_or (set words n word) index 0) i ≡ gold start (60 * index + i)) [
        | inl e ↦
            ap (λ q. has_one (get_or (set words n word) q 0) i) e
            ∙ ap (λ w. has_one w i) (get_or-set_same words n word 0 (omega (arith, h.size)))
            ∙ made i k
            ∙ ap (λ q. gold start (60 * q + i)) (sym e)
        | inr ne ↦ ap (λ w. has_one w i) (get_or-set_other words n index word 0 ne) ∙ h.bit index i (omega arith) k
      ];
}

-- a word of a row of 60 bits of the sequence
pub word_of_row : (start place n word : ℕ) (row : List Bool) → row ≡ gold_bits start place 60 → place ≡ 60 * n
    → ((i : ℕ) → i < 64 → has_one word i ≡ bit_of row (64 * 0 + i))
    → (i : ℕ) → i < 60 → has_one word i ≡ gold start (60 * n + i)
word_of_row start place n word row e here read i l =
    read i (omega arith)
    ∙ ap (bit_of row) (omega arith)
    ∙ ap (λ (bits : List Bool). bit_of bits i) e
    ∙ get_or-gold_bits start place 60 i false l
    ∙ ap (λ p. gold start (p + i)) here

-- the six bits of a block
pub six_bits : (start block word : ℕ) (words : List ℕ) → AreBitsOf start words → block < 275
    → word ≡ get_or words (block / 10) 0
    → HasBits (gold start) (6 * block) 6 (word / 2 ^ (6 * (block % 10)))
six_bits start block word words h l e = record {
  bit = λ i m.
      let place : 60 * (block / 10) + (6 * (block % 10) + i) ≡ 6 * block + i = omega arith in
      one_shr word (6 * (block % 10)) i
      ∙ ap (λ w. has_one w (6 * (block % 10) + i)) e
      ∙ h.bit (block / 10) (6 * (block % 10) + i) (omega arith) (omega arith)
      ∙ ap (gold start) place;
}

-- one symbol has another sequence
pub symbol_made : (starts : List ℕ) (words : List (List ℕ)) (at start : ℕ) (made : List ℕ) → at < 14 → AreKept starts words
    → AreBitsOf start made → AreKept (set starts at start) (set words at made)
symbol_made starts words at start made l h bits = record {
  starts_size = length-set starts at start ∙ h.starts_size;
  words_size = length-set words at made ∙ h.words_size;
  kept = λ symbol m small.
      elim (cases_eq symbol at) as
      (λ _. AreBitsOf (get_or (set starts at start) symbol 0) (get_or (set words at made) symbol [])) [
        | inl e ↦
            rw (
              e,
              get_or-set_same starts at start 0 (omega (arith, h.starts_size)),
              get_or-set_same words at made [] (omega (arith, h.words_size)),
            ) bits
        | inr ne ↦
            let start_is = get_or-set_other starts at symbol start 0 ne in
            rw (start_is, get_or-set_other words at symbol made [] ne) (h.kept symbol m (rw start_is at small))
      ];
}

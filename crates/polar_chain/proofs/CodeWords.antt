-- The three ways of sending meet here: received bits are a code exactly where the word of what is known of it has, at each
-- known place, the input bits of a block.
use Rattle.std.proofs.Common.{ℕ, ◌≡◌, ◌<◌, Bool, false, List, length, leb, ap, subst, sym, ◌∙◌, arith, inl, inr}
use Rattle.std.specs.Prelude.{IsTrue}
use Rattle.std.proofs.lemmas.Bool.{cases_Bool, le-leb, leb-true}
use Rattle.bits_core.specs.Bits.{bit_of}
use Rattle.bits_core.specs.CodeLengths.{is_code_length}
use Rattle.polar_kernel.specs.MatrixWord.{word_at}
use Rattle.polar_kernel.specs.Upward.{IsUpward}
use Rattle.polar_kernel.proofs.WordsWithin.{word_at-own, word_at_within, word_at-zero}
use Rattle.polar_sets.specs.CodeSets.{IsInformation}
use Rattle.polar_sets.specs.InputOrder.{in_input_order}
use Rattle.rate_match.specs.SubblockOrder.{position_at}
use Rattle.rate_match.specs.RateMatching.{selected, sent_place}
use Rattle.rate_match.proofs.Subblocks.{position_below}
use Rattle.rate_match.proofs.Places.{place_below, place_of, place_of-position_at, position_at-place_of}
use Rattle.rate_match.proofs.Rises.{place_rises}
use Rattle.rate_match.proofs.Selected.{bit_of-selected, selected_by_each}
use Rattle.rate_match.proofs.Unselected.{positive}
use Rattle.polar_chain.specs.CodeOfBlock.{code_of, laid}
use Rattle.polar_chain.specs.KnownPlaces.{IsKnown, first_known}
use Rattle.polar_chain.proofs.InputCounts.{laid-none}
use Rattle.polar_chain.proofs.SentPlaces.{IsUnsentFrom, known_of_sent, sent_or_not}

-- the positions sent from a place on are closed upwards
upward_from : (n m : ℕ) → IsTrue (is_code_length n) → IsUpward n (λ p. leb m (place_of n p))
upward_from n m h i j b d t c =
    let from = leb-true m (place_of n i) t in
    let rises = place_rises n j i h d b c in
    le-leb m (place_of n j) (omega arith)

-- d holds the received bits at the positions that are sent, and 0 at those that are known but not sent
pub record IsWordOf (n k e : ℕ) (bits : List Bool) (d : ℕ → Bool) : Type 0 where
  pub sent : (i : ℕ) → i < e → d (position_at n (sent_place n k e i)) ≡ bit_of bits i
  pub quiet : (m : ℕ) → IsKnown n k e m → IsUnsentFrom n k e m → d (position_at n m) ≡ false

-- f and g agree at each known position
pub record Agrees (n k e : ℕ) (f g : ℕ → Bool) : Type 0 where
  pub each : (m : ℕ) → IsKnown n k e m → f (position_at n m) ≡ g (position_at n m)

-- agreement in the other direction
pub agrees_back : (n k e : ℕ) (f g : ℕ → Bool) → Agrees n k e f g → Agrees n k e g f
agrees_back n k e f g a = record { each = λ m q. sym (a.each m q) }

-- agreement through a third
pub agrees_through : (n k e : ℕ) (f g h : ℕ → Bool) → Agrees n k e f g → Agrees n k e g h → Agrees n k e f h
agrees_through n k e f g h a b = record { each = λ m q. a.each m q ∙ b.each m q }

-- the received bits leave one word
pub one_word : (n k e : ℕ) (bits : List Bool) (d g : ℕ → Bool) → IsWordOf n k e bits d → IsWordOf n k e bits g → Agrees n k e d g
one_word n k e bits d g p q = record {
  each =
      λ m known. elim (sent_or_not n k e m known) [
        | inl s ↦
            subst (λ (x : ℕ). d (position_at n x) ≡ g (position_at n x)) s.place_is
            (p.sent s.bit s.within ∙ sym (q.sent s.bit s.within))
        | inr none ↦ p.quiet m known none ∙ sym (q.quiet m known none)
      ];
}

known_at : (n k e m : ℕ) → IsTrue (is_code_length n) → IsKnown n k e m →
    IsTrue (leb (first_known n k e) (place_of n (position_at n m)))
known_at n k e m h q =
    let e' = place_of-position_at n m h q.below in
    let from = q.from in
    le-leb (first_known n k e) (place_of n (position_at n m)) (omega arith)

-- so do the words of two that agree
pub words_agree : (n k e : ℕ) (f g : ℕ → Bool) → IsTrue (is_code_length n) → Agrees n k e f g →
    Agrees n k e (word_at n f) (word_at n g)
words_agree n k e f g h a = record {
  each =
      λ m q.
      word_at_within n (λ p. leb (first_known n k e) (place_of n p)) f g (upward_from n (first_known n k e) h)
      (λ i b t.
      let known : IsKnown n k e (place_of n i) =
      record { from = leb-true (first_known n k e) (place_of n i) t; below = place_below n i h b } in
      subst (λ (x : ℕ). f x ≡ g x) (position_at-place_of n i h b) (a.each (place_of n i) known))
      (position_at n m) (position_below n m h) (known_at n k e m h q);
}

-- the word of the word is the input
pub word_agrees : (n k e : ℕ) (u : ℕ → Bool) → IsTrue (is_code_length n) → Agrees n k e (word_at n (word_at n u)) u
word_agrees n k e u h = record { each = λ m q. word_at-own n u (position_at n m) h (position_below n m h) }

-- no information position is one from which on nothing is sent
none_laid : (n k e m i : ℕ) (info : ℕ → Bool) (bits : List Bool) → IsTrue (is_code_length n) → IsInformation n k e info →
    IsUnsentFrom n k e m → i < n → IsTrue (leb m (place_of n i)) → laid info bits i ≡ false
none_laid n k e m i info bits h q none b t =
    elim (cases_Bool (info i)) [
      | inl f ↦
          let (j, l, at) = q.is_sent i f in
          let known = known_of_sent n k e j (positive n h) l in
          let is : sent_place n k e j ≡ place_of n i = sym (place_of-position_at n (sent_place n k e j) h known.below)
          ∙ ap (place_of n) at in
          let le = leb-true m (place_of n i) t in
          absurd (none.none j l (omega arith))
      | inr f ↦ laid-none info bits i f
    ]

-- the bits that are sent of the word of laid bits leave that word
pub word_of_sent : (n k e : ℕ) (info : ℕ → Bool) (bits : List Bool) → IsTrue (is_code_length n) → IsInformation n k e info →
    IsWordOf n k e (selected n k e (word_at n (laid info bits))) (word_at n (laid info bits))
word_of_sent n k e info bits h q = record {
  sent = λ i l. sym (bit_of-selected n k e (word_at n (laid info bits)) i l);
  quiet =
      λ m known none.
      word_at-zero n (λ p. leb m (place_of n p)) (laid info bits) (upward_from n m h)
      (λ i b t. none_laid n k e m i info bits h q none b t)
      (position_at n m) (position_below n m h)
      (let is = place_of-position_at n m h known.below in le-leb m (place_of n (position_at n m)) (omega arith));
}

-- bits of that length are what is sent of each word that agrees with what they leave
pub sent_of_word : (n k e : ℕ) (bits : List Bool) (d w : ℕ → Bool) → 0 < n → length bits ≡ e → IsWordOf n k e bits d
    → Agrees n k e w d →
    selected n k e w ≡ bits
sent_of_word n k e bits d w z long q a =
    sym
    (selected_by_each n k e w bits long
    (λ i l. sym (q.sent i l) ∙ sym (a.each (sent_place n k e i) (known_of_sent n k e i z l))))

-- where the received bits are the code of a block, the word of what they leave has the block's input bits
pub input_of_code : (n k e : ℕ) (order : List ℕ) (info : ℕ → Bool) (bits c : List Bool) (d : ℕ → Bool) →
    IsTrue (is_code_length n) → IsInformation n k e info → IsWordOf n k e bits d →
    code_of n k e order info c ≡ bits → Agrees n k e (word_at n d) (laid info (in_input_order order c))
unfolding code_of
input_of_code n k e order info bits c d h q r same =
    let u = laid info (in_input_order order c) in
    let sent : IsWordOf n k e bits (word_at n u) =
    subst (λ (b : List Bool). IsWordOf n k e b (word_at n u)) same (word_of_sent n k e info (in_input_order order c) h q) in
    agrees_through n k e (word_at n d) (word_at n (word_at n u)) u
    (words_agree n k e d (word_at n u) h (one_word n k e bits d (word_at n u) r sent))
    (word_agrees n k e u h)

-- and where it has those, they are its code
pub code_of_input : (n k e : ℕ) (order : List ℕ) (info : ℕ → Bool) (bits c : List Bool) (d : ℕ → Bool) →
    IsTrue (is_code_length n) → length bits ≡ e → IsWordOf n k e bits d →
    Agrees n k e (word_at n d) (laid info (in_input_order order c)) → code_of n k e order info c ≡ bits
unfolding code_of
code_of_input n k e order info bits c d h long r a =
    let u = laid info (in_input_order order c) in
    sent_of_word n k e bits d (word_at n u) (positive n h) long r
    (agrees_through n k e (word_at n u) (word_at n (word_at n d)) d
    (words_agree n k e u (word_at n d) h (agrees_back n k e (word_at n d) u a))
    (word_agrees n k e d h))

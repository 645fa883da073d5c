-- What the steps of coding and decoding leave.
use Rattle.std.proofs.Common.{ℕ, ◌≡◌, ◌^◌, ◌<◌, Bool, List, length, ap, subst, sym, ◌∙◌, arith}
use Rattle.std.specs.Prelude.{IsTrue}
use Rattle.bits_core.specs.Bits.{bit_of}
use Rattle.bits_core.specs.Row.{row_bits, word_bit}
use Rattle.bits_core.proofs.RowWords.{bit_of-row}
use Rattle.bits_core.proofs.Rows.{length-row}
use Rattle.bits_core.specs.CodeLengths.{is_code_length}
use Rattle.polar_kernel.specs.MatrixWord.{matrix_word, word_at}
use Rattle.polar_kernel.proofs.Words.{bit_of-matrix_word, length-matrix_word, word_at_same}
use Rattle.polar_sets.specs.CodeSets.{IsInformation}
use Rattle.polar_sets.specs.InputOrder.{in_input_order}
use Rattle.rate_match.specs.SubblockOrder.{position_at}
use Rattle.rate_match.specs.RateMatching.{selected, sent_place}
use Rattle.rate_match.specs.Received.{IsUnselected}
use Rattle.rate_match.proofs.Subblocks.{position_below}
use Rattle.rate_match.proofs.Places.{position_once}
use Rattle.rate_match.proofs.Selected.{selected_same}
use Rattle.rate_match.proofs.Unselected.{positive}
use Rattle.polar_chain.specs.CodeOfBlock.{code_of, laid}
use Rattle.polar_chain.specs.CodeShape.{CodeShape, IsCode, coded, word_len}
use Rattle.polar_chain.specs.Decoding.{HasNoBlock, IsBlockOf}
use Rattle.polar_chain.specs.Reading.{IsRead, OthersAreZero}
use Rattle.polar_chain.proofs.CodeBlocks.{code_of_read, others_of_code}
use Rattle.polar_chain.proofs.CodeWords.{IsWordOf}
use Rattle.polar_chain.proofs.SentPlaces.{known_of_sent}

-- a bit of the word of a list of n bits
bit_of_word : (n : ℕ) (u : List Bool) (j : ℕ) → length u ≡ n → j < n → bit_of (matrix_word u) j ≡ word_at n (bit_of u) j
bit_of_word n u j long l =
    bit_of-matrix_word u j (omega arith) ∙ ap (λ (x : ℕ). word_at x (bit_of u) j) long

coded_unfolded : (s : CodeShape) (n : ℕ) (c : List Bool) → n ≡ word_len s →
    code_of n s.block_len s.coded_len s.order (bit_of s.positions) c ≡ coded s c
unfolding coded
coded_unfolded s n c size = ap (λ (x : ℕ). code_of x s.block_len s.coded_len s.order (bit_of s.positions) c) size

-- the bits sent of the word of the laid bits are the code
coded_is : (s : CodeShape) (n : ℕ) (c word moved out : List Bool) → IsTrue (is_code_length n) → n ≡ word_len s
    → length word ≡ n →
    ((i : ℕ) → i < length word → bit_of word i ≡ laid (bit_of s.positions) (in_input_order s.order c) i)
    → moved ≡ matrix_word word →
    out ≡ selected n s.block_len s.coded_len (bit_of moved) → out ≡ coded s c
unfolding code_of
coded_is s n c word moved out legal size long bits moved_is out_is =
    let u = laid (bit_of s.positions) (in_input_order s.order c) in
    out_is
    ∙ selected_same n s.block_len s.coded_len (bit_of moved) (word_at n u)
    (λ i l.
    let p = position_at n (sent_place n s.block_len s.coded_len i) in
    let below : p < n = position_below n (sent_place n s.block_len s.coded_len i) legal in
    ap (λ (w : List Bool). bit_of w p) moved_is
    ∙ bit_of_word n word p long below
    ∙ word_at_same n (bit_of word) u p (λ j b. bits j (omega arith)))
    ∙ coded_unfolded s n c size

-- the same with the words in packed words, where the length is a power of two
pub coded_of_words : (s : CodeShape) (n exponent : ℕ) (c : List Bool) (word moved : List ℕ) (out : List Bool)
    → IsTrue (is_code_length n) → n ≡ word_len s → 2 ^ exponent ≡ n
    → ((i : ℕ) → i < n → bit_of (row_bits word n) i ≡ laid (bit_of s.positions) (in_input_order s.order c) i)
    → row_bits moved (2 ^ exponent) ≡ matrix_word (row_bits word (2 ^ exponent))
    → out ≡ selected (2 ^ exponent) s.block_len s.coded_len (word_bit moved) → out ≡ coded s c
coded_of_words s n exponent c word moved out legal size power bits moved_is out_is =
    let k = s.block_len in
    let e = s.coded_len in
    let long = length-row word n in
    let all : row_bits moved n ≡ matrix_word (row_bits word n) =
    subst (λ (x : ℕ). row_bits moved x ≡ matrix_word (row_bits word x)) power moved_is in
    let sent : out ≡ selected n k e (word_bit moved) =
    subst (λ (x : ℕ). out ≡ selected x k e (word_bit moved)) power out_is in
    coded_is s n c (row_bits word n) (row_bits moved n) out legal size long (λ i l. bits i (omega (arith, l, long))) all
    (sent
    ∙ selected_same n k e (word_bit moved) (bit_of (row_bits moved n))
    (λ i l.
    let p = position_at n (sent_place n k e i) in
    sym (bit_of-row moved n p (position_below n (sent_place n k e i) legal))))

-- what `unselect` leaves is the word of the received bits
pub word_received : (n k : ℕ) (bits d : List Bool) → IsTrue (is_code_length n) → IsUnselected n k bits d
    → IsWordOf n k (length bits) bits (bit_of d)
word_received n k bits d legal q = record {
  sent = q.received;
  quiet =
      λ m known none. q.empty (position_at n m)
      (λ i l same.
      let sent = known_of_sent n k (length bits) i (positive n legal) l in
      let once : sent_place n k (length bits) i
      ≡ m = position_once n (sent_place n k (length bits) i) m legal sent.below known.below same in
      none.none i l (omega arith));
}

-- the received bits of a code leave a word, and that word its input
pub record IsInput (n k : ℕ) (bits word : List Bool) : Type 0 where
  pub received : List Bool
  pub unselected : IsUnselected n k bits received
  pub word_is : word ≡ matrix_word received

-- the same in packed words, where the length is a power of two
pub input_of_words : (n exponent k : ℕ) (bits input : List Bool) (received word : List ℕ) → 2 ^ exponent ≡ n
    → IsUnselected (2 ^ exponent) k bits (row_bits received (2 ^ exponent))
    → row_bits word (2 ^ exponent) ≡ matrix_word (row_bits received (2 ^ exponent))
    → input ≡ row_bits word n → IsInput n k bits input
input_of_words n exponent k bits input received word power unselected word_is same = record {
  received = row_bits received n;
  unselected = subst (λ (x : ℕ). IsUnselected x k bits (row_bits received x)) power unselected;
  word_is = same ∙ subst (λ (x : ℕ). row_bits word x ≡ matrix_word (row_bits received x)) power word_is;
}

input_long : (n k : ℕ) (bits word : List Bool) → IsInput n k bits word → length word ≡ n
input_long n k bits word q =
    ap (λ (w : List Bool). length w) q.word_is ∙ length-matrix_word q.received ∙ q.unselected.length_is

input_at : (n k : ℕ) (bits word : List Bool) (q : IsInput n k bits word) (p : ℕ) → p < n
    → bit_of word p ≡ word_at n (bit_of q.received) p
input_at n k bits word q p l =
    ap (λ (w : List Bool). bit_of w p) q.word_is ∙ bit_of_word n q.received p q.unselected.length_is l

information_at : (s : CodeShape) (n : ℕ) → IsCode s → n ≡ word_len s
    → IsInformation n s.block_len s.coded_len (bit_of s.positions)
information_at s n q size =
    subst (λ (x : ℕ). IsInformation x s.block_len s.coded_len (bit_of s.positions)) (sym size) q.positions_are

received_at : (s : CodeShape) (n : ℕ) (bits word : List Bool) → IsTrue (is_code_length n) → length bits ≡ s.coded_len →
    (input : IsInput n s.block_len bits word) → IsWordOf n s.block_len s.coded_len bits (bit_of input.received)
received_at s n bits word legal long input =
    subst (λ (x : ℕ). IsWordOf n s.block_len x bits (bit_of input.received)) long
    (word_received n s.block_len bits input.received legal input.unselected)

-- where some known position that carries no bit is not 0, they are no block's code
pub none_of_others : (s : CodeShape) (n : ℕ) (bits word : List Bool) → IsCode s → IsTrue (is_code_length n) → n ≡ word_len s →
    length bits ≡ s.coded_len → IsInput n s.block_len bits word →
    (OthersAreZero (length word) s.block_len s.coded_len (bit_of s.positions) (bit_of word) → ⊥) → HasNoBlock s bits
none_of_others s n bits word q legal size long input not_zero c h =
    let info = bit_of s.positions in
    let zeros =
    others_of_code n s.block_len s.coded_len s.order info bits c (bit_of input.received) legal
    (information_at s n q size) (received_at s n bits word legal long input)
    (coded_unfolded s n c size ∙ h.1) in
    let inside : (m : ℕ) → position_at n m < n = λ m. position_below n m legal in
    not_zero
    (subst (λ (x : ℕ). OthersAreZero x s.block_len s.coded_len info (bit_of word))
    (sym (input_long n s.block_len bits word input))
    (record { each = λ m known f. input_at n s.block_len bits word input (position_at n m) (inside m) ∙ zeros.each m known f }))

-- and where each is 0, they are the code of the block that is read
pub block_is_read : (s : CodeShape) (n : ℕ) (bits word c : List Bool) → IsCode s → IsTrue (is_code_length n) → n ≡ word_len s →
    length bits ≡ s.coded_len → IsInput n s.block_len bits word →
    OthersAreZero (length word) s.block_len s.coded_len (bit_of s.positions) (bit_of word) → length c ≡ length s.order →
    IsRead (length word) s.order (bit_of s.positions) (bit_of word) c → IsBlockOf s bits c
block_is_read s n bits word c q legal size long input zeros wide is =
    let info = bit_of s.positions in
    let k = s.block_len in
    let e = s.coded_len in
    let d = bit_of input.received in
    let all = input_long n k bits word input in
    let inside : (m : ℕ) → position_at n m < n = λ m. position_below n m legal in
    let others : OthersAreZero n k e info (bit_of word) = subst (λ (x : ℕ). OthersAreZero x k e info (bit_of word)) all zeros in
    let read : IsRead n s.order info (bit_of word) c = subst (λ (x : ℕ). IsRead x s.order info (bit_of word) c) all is in (
      wide ∙ q.order_is.long,
      sym (coded_unfolded s n c size)
          ∙ code_of_read n k e s.order info bits c d legal q.order_is (information_at s n q size) long
          (received_at s n bits word legal long input)
          (record { each = λ m known f. sym (input_at n k bits word input (position_at n m) (inside m)) ∙ others.each m known f })
          (record { each = λ p l t. read.each p l t ∙ input_at n k bits word input p l }),
    )

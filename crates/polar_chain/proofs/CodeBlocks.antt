-- A block and its code: which block received bits are the code of, that there is one at most, and what a code repeats.
use Rattle.std.proofs.Common.{ℕ, ◌≡◌, ◌<◌, Bool, true, false, List, length, refl, ap, subst, sym, ◌∙◌, arith, inl, inr}
use Rattle.std.specs.Prelude.{IsTrue, slice_index}
use Rattle.std.proofs.lemmas.Bool.{cases_Bool}
use Rattle.std.proofs.lemmas.List.FromFn.{fill_by_all}
use Rattle.bits_core.specs.Bits.{bit_of}
use Rattle.bits_core.specs.CodeLengths.{is_code_length}
use Rattle.polar_kernel.specs.MatrixWord.{word_at}
use Rattle.polar_sets.specs.CodeSets.{IsInformation}
use Rattle.list_facts.specs.Counting.{count_below}
use Rattle.polar_sets.specs.InputOrder.{in_input_order}
use Rattle.rate_match.specs.SubblockOrder.{position_at}
use Rattle.rate_match.specs.RateMatching.{sent_place}
use Rattle.rate_match.proofs.Subblocks.{position_below}
use Rattle.rate_match.proofs.Repeating.{selected_repeats}
use Rattle.rate_match.proofs.Selected.{length-selected}
use Rattle.rate_match.proofs.Unselected.{positive}
use Rattle.rate_match.specs.Repeats.{RepeatsBelow}
use Rattle.polar_chain.specs.CodeOfBlock.{code_of, laid}
use Rattle.polar_chain.specs.KnownPlaces.{IsKnown}
use Rattle.polar_chain.specs.Reading.{IsRead, OthersAreZero}
use Rattle.polar_chain.proofs.CodeWords.{IsWordOf, code_of_input, input_of_code, word_of_sent}
use Rattle.polar_chain.proofs.InputCounts.{laid-none, laid_picked}
use Rattle.table_files.specs.Permutation.{IsTable}
use Rattle.table_files.proofs.Places.{table_place}
use Rattle.list_facts.proofs.Counting.{IsPicked, count_before, picked_at}
use Rattle.polar_chain.proofs.SentPlaces.{known_of_sent}

-- a position that carries a bit has a turn in the input order
pub count_within : (n k e p : ℕ) (order : List ℕ) (info : ℕ → Bool) → IsTable k order → IsInformation n k e info → p < n
    → info p ≡ true →
    count_below p info < length order
count_within n k e p order info o q l t =
    let before = count_before n p info l t in
    let a = o.long in
    let b = q.count_is in
    omega arith

-- the word of a code has only zeros beside the bits of the block
pub others_of_code : (n k e : ℕ) (order : List ℕ) (info : ℕ → Bool) (bits c : List Bool) (d : ℕ → Bool) →
    IsTrue (is_code_length n) → IsInformation n k e info → IsWordOf n k e bits d →
    code_of n k e order info c ≡ bits → OthersAreZero n k e info (word_at n d)
others_of_code n k e order info bits c d h q r same = record {
  each =
      λ m known f.
      (input_of_code n k e order info bits c d h q r same).each m known
      ∙ laid-none info (in_input_order order c) (position_at n m) f;
}

-- and where a word has only those, the received bits are the code of the block that is read from it
pub code_of_read : (n k e : ℕ) (order : List ℕ) (info : ℕ → Bool) (bits c : List Bool) (d : ℕ → Bool) →
    IsTrue (is_code_length n) → IsTable k order → IsInformation n k e info → length bits ≡ e →
    IsWordOf n k e bits d → OthersAreZero n k e info (word_at n d) → IsRead n order info (word_at n d) c →
    code_of n k e order info c ≡ bits
code_of_read n k e order info bits c d h o q long r zeros is =
    code_of_input n k e order info bits c d h long r
    (record {
      each =
          λ m known.
          let p = position_at n m in
          let below : p < n = position_below n m h in
          elim (cases_Bool (info p)) [
            | inl t ↦ sym (laid_picked info order c p t (count_within n k e p order info o q below t) ∙ is.each p below t)
            | inr f ↦ zeros.each m known f ∙ sym (laid-none info (in_input_order order c) p f)
          ];
    })

same_bits : (n : ℕ) (xs ys : List Bool) → length xs ≡ n → length ys ≡ n → ((i : ℕ) → i < n → bit_of xs i ≡ bit_of ys i) → xs ≡ ys
same_bits n xs ys h g e = fill_by_all (bit_of ys) xs n false h e ∙ sym (fill_by_all (bit_of ys) ys n false g (λ i l. refl))

same_input : (n k e : ℕ) (order : List ℕ) (info : ℕ → Bool) (c other : List Bool) → IsTrue (is_code_length n)
    → IsInformation n k e info → code_of n k e order info c ≡ code_of n k e order info other → (m : ℕ) → IsKnown n k e m →
    laid info (in_input_order order c) (position_at n m) ≡ laid info (in_input_order order other) (position_at n m)
unfolding code_of
same_input n k e order info c other h q same m known =
    let w = word_at n (laid info (in_input_order order c)) in
    let r = word_of_sent n k e info (in_input_order order c) h q in
    let bits = code_of n k e order info c in
    sym ((input_of_code n k e order info bits c w h q r refl).each m known)
    ∙ (input_of_code n k e order info bits other w h q r (sym same)).each m known

-- no two blocks of k bits have one code
pub code_of_once : (n k e : ℕ) (order : List ℕ) (info : ℕ → Bool) (c other : List Bool) → IsTrue (is_code_length n)
    → IsTable k order → IsInformation n k e info → length c ≡ k → length other ≡ k →
    code_of n k e order info c ≡ code_of n k e order info other → c ≡ other
code_of_once n k e order info c other h o q long wide same =
    same_bits k c other long wide
    (λ bit l.
    let (i, below, at) = table_place k order bit o l in
    let picked : IsPicked n i info = picked_at n i info (let e' = q.count_is in omega arith) in
    let p = picked.place in
    let (j, sent, is) = q.is_sent p picked.passes in
    let input : laid info (in_input_order order c) p ≡ laid info (in_input_order order other) p =
    subst (λ (x : ℕ). laid info (in_input_order order c) x ≡ laid info (in_input_order order other) x) is
    (same_input n k e order info c other h q same (sent_place n k e j) (known_of_sent n k e j (positive n h) sent)) in
    let counted = count_within n k e p order info o q picked.within picked.passes in
    let order_is : slice_index order (count_below p info) ≡ bit = ap (slice_index order) picked.count_is ∙ at in
    ap (bit_of c) (sym order_is) ∙ sym (laid_picked info order c p picked.passes counted) ∙ input
    ∙ laid_picked info order other p picked.passes counted ∙ ap (bit_of other) order_is)

-- a code has as many bits as are sent
pub length-code_of : (n k e : ℕ) (order : List ℕ) (info : ℕ → Bool) (c : List Bool) → length (code_of n k e order info c) ≡ e
unfolding code_of
length-code_of n k e order info c = length-selected n k e (word_at n (laid info (in_input_order order c)))

-- a code has no repeat that differs
pub code_of_repeats : (n k e : ℕ) (order : List ℕ) (info : ℕ → Bool) (c : List Bool) → 0 < n →
    RepeatsBelow n (code_of n k e order info c) e
unfolding code_of
code_of_repeats n k e order info c = selected_repeats n k e (word_at n (laid info (in_input_order order c)))

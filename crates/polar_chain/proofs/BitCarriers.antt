-- The positions that carry the bits of a block: each of them is an information position, and none carries two bits.
use Rattle.std.proofs.Common.{ℕ, ◌≡◌, ◌≢◌, ◌<◌, Bool, true, false, List, ap, subst, sym, ◌∙◌, arith, inl, inr}
use Rattle.std.specs.Prelude.{slice_index}
use Rattle.std.proofs.lemmas.Bool.{cases_Bool}
use Rattle.bits_core.specs.Bits.{bit_of}
use Rattle.list_facts.specs.Counting.{count_below}
use Rattle.list_facts.proofs.Counting.{IsPicked, picked_at}
use Rattle.polar_sets.specs.CodeSets.{IsInformation}
use Rattle.polar_sets.specs.InputOrder.{in_input_order}
use Rattle.table_files.specs.Permutation.{IsTable}
use Rattle.table_files.proofs.Places.{table_inside, table_place}
use Rattle.polar_chain.specs.Carriers.{AreCarriers}
use Rattle.rate_match.proofs.Lengths.{length_legal}
use Rattle.rate_match.proofs.Subblocks.{in_subblocks}
use Rattle.polar_chain.specs.CodeOfBlock.{laid}
use Rattle.polar_chain.specs.CodeShape.{CodeShape, IsCode, word_len}
use Rattle.polar_chain.specs.Reading.{IsRead}
use Rattle.polar_chain.proofs.CodeBlocks.{count_within}
use Rattle.polar_chain.proofs.InputCounts.{laid-none, laid_picked}

-- the information position `at` carries the bit
pub record IsCarrier (n : ℕ) (order : List ℕ) (info : ℕ → Bool) (bit at : ℕ) : Type 0 where
  pub within : at < n
  pub carries : info at ≡ true
  pub bit_is : slice_index order (count_below at info) ≡ bit

-- the position that the list has for a bit carries it
pub carrier_of : (n k e : ℕ) (order : List ℕ) (info : ℕ → Bool) (carriers : List ℕ) (bit : ℕ) → IsTable k order
    → IsInformation n k e info → AreCarriers n order info carriers → bit < k
    → IsCarrier n order info bit (slice_index carriers bit)
carrier_of n k e order info carriers bit o q h l =
    let (turn, below, at) = table_place k order bit o l in
    let picked : IsPicked n turn info = picked_at n turn info (let all = q.count_is in omega arith) in
    let bit_is : slice_index order (count_below picked.place info) ≡ bit = ap (slice_index order) picked.count_is ∙ at in
    let is : slice_index carriers bit ≡ picked.place =
    ap (slice_index carriers) (sym bit_is) ∙ h.each picked.place picked.within picked.passes in
    subst (IsCarrier n order info bit) (sym is)
    (record { within = picked.within; carries = picked.passes; bit_is = bit_is })

-- no position carries two bits
pub carriers_apart : (n k e : ℕ) (order : List ℕ) (info : ℕ → Bool) (carriers : List ℕ) (bit other : ℕ) → IsTable k order
    → IsInformation n k e info → AreCarriers n order info carriers → bit < other → other < k
    → slice_index carriers bit ≢ slice_index carriers other
carriers_apart n k e order info carriers bit other o q h less l same =
    let one = (carrier_of n k e order info carriers bit o q h (omega arith)).bit_is in
    let two = (carrier_of n k e order info carriers other o q h l).bit_is in
    let once : bit ≡ other = sym one ∙ ap (λ (at : ℕ). slice_index order (count_below at info)) same ∙ two in
    omega (arith, once, less)

-- a word with each bit of a block at the position that carries it, and 0 at the others, has the block laid
pub laid_by_carriers : (n k e : ℕ) (order : List ℕ) (info : ℕ → Bool) (carriers : List ℕ) (block : List Bool) (u : ℕ → Bool)
    → IsTable k order → IsInformation n k e info → AreCarriers n order info carriers
    → ((bit : ℕ) → bit < k → u (slice_index carriers bit) ≡ bit_of block bit)
    → ((i : ℕ) → ((bit : ℕ) → bit < k → slice_index carriers bit ≢ i) → u i ≡ false)
    → (i : ℕ) → i < n → u i ≡ laid info (in_input_order order block) i
laid_by_carriers n k e order info carriers block u o q h there others i l =
    elim (cases_Bool (info i)) [
      | inl t ↦
          let few = count_within n k e i order info o q l t in
          let bit = slice_index order (count_below i info) in
          let inside : bit < k = table_inside k order (count_below i info) o (let long = o.long in omega arith) in
          ap u (sym (h.each i l t)) ∙ there bit inside ∙ sym (laid_picked info order block i t few)
      | inr f ↦
          others i
          (λ bit b same.
          let is = carrier_of n k e order info carriers bit o q h b in
          let wrong : true ≡ false = sym is.carries ∙ ap info same ∙ f in
          cc)
          ∙ sym (laid-none info (in_input_order order block) i f)
    ]

-- a block whose bits stand in a word at the positions that carry them is read from it
pub read_by_carriers : (n k e : ℕ) (order : List ℕ) (info : ℕ → Bool) (carriers : List ℕ) (block : List Bool) (u : ℕ → Bool)
    → IsTable k order → IsInformation n k e info → AreCarriers n order info carriers
    → ((bit : ℕ) → bit < k → bit_of block bit ≡ u (slice_index carriers bit)) → IsRead n order info u block
read_by_carriers n k e order info carriers block u o q h there = record {
  each =
      λ p l t.
      let few = count_within n k e p order info o q l t in
      let inside : slice_index order (count_below p info) < k =
      table_inside k order (count_below p info) o (let long = o.long in omega arith) in
      there (slice_index order (count_below p info)) inside ∙ ap u (h.each p l t);
}

-- the carriers of a code are positions of its word
pub carriers_within : (s : CodeShape) (carriers : List ℕ) → IsCode s
    → AreCarriers (word_len s) s.order (bit_of s.positions) carriers → (bit : ℕ) → bit < s.block_len
    → slice_index carriers bit < word_len s
carriers_within s carriers q h bit l =
    (carrier_of (word_len s) s.block_len s.coded_len s.order (bit_of s.positions) carriers bit q.order_is q.positions_are h
    l).within

-- and of the longest
pub carriers_inside : (s : CodeShape) (carriers : List ℕ) → IsCode s
    → AreCarriers (word_len s) s.order (bit_of s.positions) carriers → (bit : ℕ) → bit < s.block_len
    → slice_index carriers bit < 512
carriers_inside s carriers q h bit l =
    let within = carriers_within s carriers q h bit l in
    let limit = (in_subblocks (word_len s) (length_legal s.block_len s.coded_len)).limit in
    omega (arith, within, limit)

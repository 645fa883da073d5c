-- The information positions of a table: as many as the bits of the block, each free, and so sent.
use Rattle.std.proofs.Common.{ℕ, ◌≡◌, ◌-◌, ◌<◌, ◌≤◌, Bool, true, false, ◌&&◌, List, length, get_or, inl, inr, ap, sym}
use Rattle.std.proofs.Common.{◌∙◌, arith}
use Rattle.std.specs.Prelude.{All, IsTrue}
use Rattle.std.specs.List.{filter}
use Rattle.std.proofs.lemmas.Bool.{and_parts, cases_lt, le-ltb}
use Rattle.std.proofs.lemmas.List.Elements.{All-drop, filter_passes}
use Rattle.std.proofs.Math.Bool.{and-true}
use Rattle.std.proofs.Math.Nat.{mod-eq_of_lt}
use Rattle.bits_core.specs.CodeLengths.{is_code_length}
use Rattle.rate_match.specs.SubblockOrder.{position_at}
use Rattle.rate_match.specs.MotherCode.{length_of}
use Rattle.rate_match.specs.RateMatching.{sent_place}
use Rattle.rate_match.proofs.Subblocks.{in_subblocks}
use Rattle.rate_match.proofs.Lengths.{length_legal}
use Rattle.rate_match.proofs.Places.{place_below, place_of, position_at-place_of}
use Rattle.rate_match.proofs.Sent.{by_ways, sent_punctured, sent_repeated, sent_shortened}
use Rattle.table_files.specs.Permutation.{IsTable}
use Rattle.polar_sets.specs.CodeSets.{IsInformation}
use Rattle.list_facts.specs.Counting.{count_below}
use Rattle.polar_sets.specs.Enough.{Enough}
use Rattle.polar_sets.specs.FrozenPlaces.{is_free}
use Rattle.polar_sets.specs.InformationPositions.{free_positions, information, is_in, last_of}
use Rattle.list_facts.proofs.Counting.{AreApart, count_same, count_of_list}
use Rattle.polar_sets.proofs.Frozen.{free_past, free_punctured_not, free_shortened}
use Rattle.polar_sets.proofs.Members.{apart_drop, filter_apart, in_drop, in_filter, in_table, length_last, table_apart}

-- a position at which some bit is sent
abbrev pub IsSent : ℕ → ℕ → ℕ → ℕ → Type 0
IsSent n k e p = (i : ℕ) × (i < e) × (position_at n (sent_place n k e i) ≡ p)

-- it stands at the place of that bit
sent_at : (n k e p i m : ℕ) → i < e → sent_place n k e i ≡ m → position_at n m ≡ p → IsSent n k e p
sent_at n k e p i m l s at = (i, l, ap (position_at n) s ∙ at)

not_free : (n k e p : ℕ) → IsTrue (is_free n k e p) → is_free n k e p ≡ false → ⊥
not_free n k e p h f = let g : true ≡ false = sym h ∙ f in cc

-- each free position is below the length of the word
pub free_below : (n k e p : ℕ) → IsTrue (is_free n k e p) → p < n
free_below n k e p h =
    elim (cases_lt p n) [
      | inl l ↦ l
      | inr g ↦ absurd (not_free n k e p h (free_past n k e p g))
    ]

-- each free position is sent
free_is_sent : (n k e : ℕ) (p : ℕ) → IsTrue (is_code_length n) → IsTrue (is_free n k e p) → IsSent n k e p
free_is_sent =
    by_ways (λ n k e. (p : ℕ) → IsTrue (is_code_length n) → IsTrue (is_free n k e p) → IsSent n k e p)
    (λ n k e h p c f.
    let l = free_below n k e p f in
    let m = place_of n p in
    let b = place_below n p c l in
    sent_at n k e p m m (omega arith) (sent_repeated n k e m h ∙ mod-eq_of_lt b) (position_at-place_of n p c l))
    (λ n k e h g p c f.
    let l = free_below n k e p f in
    let m = place_of n p in
    let b = place_below n p c l in
    elim (cases_lt m (n - e)) [
      | inl s ↦ absurd (not_free n k e p f (free_punctured_not n k e m p s l h g (position_at-place_of n p c l)))
      | inr s ↦
          sent_at n k e p (m - (n - e)) m (omega arith) (sent_punctured n k e (m - (n - e)) h g ∙ omega arith)
          (position_at-place_of n p c l)
    ])
    (λ n k e h g p c f.
    let l = free_below n k e p f in
    let m = place_of n p in
    let b = place_below n p c l in
    elim (cases_lt m e) [
      | inl s ↦ sent_at n k e p m m s (sent_shortened n k e m h g) (position_at-place_of n p c l)
      | inr s ↦ absurd (not_free n k e p f (free_shortened n k e m p c b l h g (position_at-place_of n p c l) ∙ le-ltb m e s))
    ])

-- an information position is free
pub information_free : (table : List ℕ) (n k e p : ℕ) → IsTrue (is_in (information table n k e) p) → IsTrue (is_free n k e p)
unfolding information free_positions
information_free table n k e p h =
    let free = filter (is_free n k e) table in
    (and_parts (is_free n k e p) (is_in table p)
    (sym (in_filter (is_free n k e) table p) ∙ in_drop (length free - k) free p h)).0

free_all : (table : List ℕ) (n k e : ℕ) → All (λ p. p < n) (free_positions table n k e)
unfolding free_positions
free_all table n k e =
    λ i d l. free_below n k e (get_or (filter (is_free n k e) table) i d) (filter_passes (is_free n k e) table i d l)

free_apart : (table : List ℕ) (n k e : ℕ) → IsTable 1024 table → AreApart (free_positions table n k e)
unfolding free_positions
free_apart table n k e h = filter_apart (is_free n k e) table (table_apart 1024 table h)

-- the table has as many free positions as there are
free_count : (table : List ℕ) (n k e : ℕ) → IsTable 1024 table → n ≤ 1024
    → length (free_positions table n k e) ≡ count_below n (is_free n k e)
unfolding free_positions
free_count table n k e h l =
    let test = is_free n k e in
    let free = filter test table in
    sym (count_of_list n free (free_all table n k e) (free_apart table n k e h))
    ∙ count_same n (is_in free) test
    (λ p b. in_filter test table p ∙ ap (λ (x : Bool). test p && x) (in_table 1024 table p h (omega arith)) ∙ and-true (test p))

-- so they are as many as the bits of a block, where there are enough
pub information_is : (table : List ℕ) (k e : ℕ) → IsTable 1024 table → Enough k e →
    IsInformation (length_of k e) k e (is_in (information table (length_of k e) k e))
unfolding information
information_is table k e h enough =
    let n = length_of k e in
    let legal = length_legal k e in
    let limit = (in_subblocks n legal).limit in
    let free = free_positions table n k e in
    let many : k ≤ length free = (let c = free_count table n k e h (omega arith) in let f = enough.free in omega arith) in
    record {
      count_is =
          count_of_list n (last_of k free) (All-drop (λ p. p < n) (length free - k) free (free_all table n k e))
          (apart_drop (length free - k) free (free_apart table n k e h))
          ∙ length_last k free many;
      below = λ p is. free_below n k e p (information_free table n k e p is);
      is_sent = λ p is. free_is_sent n k e p legal (information_free table n k e p is);
    }

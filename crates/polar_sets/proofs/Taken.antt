-- The information positions taken one after the other, from the last entry of the table on.
use Rattle.std.proofs.Common.{ℕ, ◌≡◌, ◌+◌, ◌-◌, ◌<◌, ◌≤◌, zero, suc, Bool, true, false, ◌||◌, List, [], ◌∷◌, drop, length, get_or}
use Rattle.std.proofs.Common.{replicate, set, inl, inr, refl, ap, subst, sym, ◌∙◌, arith, length-set, get_or-set_same}
use Rattle.std.proofs.Common.{add-one, get_or-set_other}
use Rattle.std.specs.Prelude.{◌==◌}
use Rattle.std.specs.List.{filter}
use Rattle.std.proofs.lemmas.Bool.{cases_lt}
use Rattle.std.proofs.lemmas.Bool.Decides.{eqb_tells}
use Rattle.std.proofs.lemmas.List.{drop_all, drop_more, get_or-replicate, get_or_past, length-drop}
use Rattle.std.proofs.Math.Seq.{drop-nil}
use Rattle.bits_core.specs.Bits.{bit_of}
use Rattle.polar_sets.specs.CodeSets.{IsInformation}
use Rattle.polar_sets.specs.FrozenPlaces.{is_free}
use Rattle.polar_sets.specs.InformationPositions.{free_positions, information, is_in, last_of}
use Rattle.list_facts.proofs.Counting.{count_same}
use Rattle.polar_sets.proofs.Members.{length_last}

-- the flags of the information positions among the entries of the table from `from` on, and how many are left to take
pub record IsTaken (table : List ℕ) (n k e from : ℕ) (flags : List Bool) (left : ℕ) : Type 0 where
  pub long : length flags ≡ 512
  pub taken : (p : ℕ) → bit_of flags p ≡ is_in (information (drop from table) n k e) p
  pub rest : left + length (information (drop from table) n k e) ≡ k

last_few : (k x : ℕ) (xs : List ℕ) → length (last_of k xs) < k → last_of k (x ∷ xs) ≡ x ∷ last_of k xs
last_few k x xs h =
    elim (cases_lt (length xs) k) [
      | inl l ↦
          let none : length xs - k ≡ 0 = omega arith in
          let all : length (x ∷ xs) - k ≡ 0 = omega arith in
          ap (λ (i : ℕ). drop i (x ∷ xs)) all ∙ sym (ap (λ (i : ℕ). x ∷ drop i xs) none)
      | inr g ↦ (let m = length_last k xs g in absurd (omega arith))
    ]

last_full : (k x : ℕ) (xs : List ℕ) → length (last_of k xs) ≡ k → last_of k (x ∷ xs) ≡ last_of k xs
last_full k x xs h =
    let m = length-drop (length xs - k) xs in
    let one : length (x ∷ xs) - k ≡ suc (length xs - k) = omega arith in
    ap (λ (i : ℕ). drop i (x ∷ xs)) one

information_frozen : (x : ℕ) (xs : List ℕ) (n k e : ℕ) → is_free n k e x ≡ false
    → information (x ∷ xs) n k e ≡ information xs n k e
unfolding information free_positions
information_frozen x xs n k e h = rw h refl

information_full : (x : ℕ) (xs : List ℕ) (n k e : ℕ) → length (information xs n k e) ≡ k
    → information (x ∷ xs) n k e ≡ information xs n k e
unfolding information free_positions
information_full x xs n k e h =
    elim (is_free n k e x) as (λ b. is_free n k e x ≡ b → information (x ∷ xs) n k e ≡ information xs n k e) [
      | true ↦ λ f. (rw f (last_full k x (filter (is_free n k e) xs) h))
      | false ↦ λ f. (rw f refl)
    ]
    refl

information_more : (x : ℕ) (xs : List ℕ) (n k e : ℕ) → is_free n k e x ≡ true → length (information xs n k e) < k →
    information (x ∷ xs) n k e ≡ x ∷ information xs n k e
unfolding information free_positions
information_more x xs n k e h l = rw h (last_few k x (filter (is_free n k e) xs) l)

-- an entry more
here : (table : List ℕ) (from x : ℕ) → from < length table → x ≡ get_or table from 0 → drop from table ≡ x ∷ drop (from + 1) table
here table from x l e = drop_more table from 0 l ∙ ap (λ (y : ℕ). y ∷ drop (from + 1) table) (sym e)

same_taken : (table : List ℕ) (n k e from other : ℕ) (flags : List Bool) (left : ℕ) →
    information (drop other table) n k e ≡ information (drop from table) n k e → IsTaken table n k e from flags left
    → IsTaken table n k e other flags left
same_taken table n k e from other flags left same t = record {
  long = t.long;
  taken = λ p. t.taken p ∙ ap (λ (xs : List ℕ). is_in xs p) (sym same);
  rest = ap (λ (xs : List ℕ). left + length xs) same ∙ t.rest;
}

-- a frozen position is not taken
pub taken_frozen : (table : List ℕ) (n k e from x : ℕ) (flags : List Bool) (left : ℕ) → from < length table
    → x ≡ get_or table from 0 →
    is_free n k e x ≡ false → IsTaken table n k e (from + 1) flags left → IsTaken table n k e from flags left
taken_frozen table n k e from x flags left l at h t =
    same_taken table n k e (from + 1) from flags left
    (ap (λ (xs : List ℕ). information xs n k e) (here table from x l at) ∙ information_frozen x (drop (from + 1) table) n k e h) t

-- nor is one where all are taken
pub taken_full : (table : List ℕ) (n k e from x : ℕ) (flags : List Bool) (left : ℕ) → from < length table
    → x ≡ get_or table from 0 →
    left ≡ 0 → IsTaken table n k e (from + 1) flags left → IsTaken table n k e from flags left
taken_full table n k e from x flags left l at none t =
    let full : length (information (drop (from + 1) table) n k e) ≡ k = (let r = t.rest in omega arith) in
    same_taken table n k e (from + 1) from flags left
    (ap (λ (xs : List ℕ). information xs n k e) (here table from x l at)
    ∙ information_full x (drop (from + 1) table) n k e full) t

set_flag : (flags : List Bool) (x p : ℕ) → x < length flags → bit_of (set flags x true) p ≡ (x == p || bit_of flags p)
set_flag flags x p l =
    elim (eqb_tells x p) [
      | inl e ↦
          rw e.0 (ap (λ (y : ℕ). bit_of (set flags y true) p) e.1
          ∙ get_or-set_same flags p true false (subst (λ (y : ℕ). y < length flags) e.1 l))
      | inr e ↦ rw e.0 (get_or-set_other flags x p true false (λ s. e.1 (sym s)))
    ]

-- a free position is taken while some are left
pub taken_more : (table : List ℕ) (n k e from x : ℕ) (flags : List Bool) (left : ℕ) → from < length table
    → x ≡ get_or table from 0 →
    x < 512 → is_free n k e x ≡ true → 0 < left → IsTaken table n k e (from + 1) flags left
    → IsTaken table n k e from (set flags x true) (left - 1)
taken_more table n k e from x flags left l at b h some t =
    let few : length (information (drop (from + 1) table) n k e) < k = (let r = t.rest in omega arith) in
    let more : information (drop from table) n k e ≡ x ∷ information (drop (from + 1) table) n k e =
    ap (λ (xs : List ℕ). information xs n k e) (here table from x l at) ∙ information_more x (drop (from + 1) table) n k e h few
    in
    record {
      long = length-set flags x true ∙ t.long;
      taken =
          λ p.
          set_flag flags x p (let m = t.long in omega arith)
          ∙ ap (λ (y : Bool). x == p || y) (t.taken p)
          ∙ ap (λ (xs : List ℕ). is_in xs p) (sym more);
      rest =
          ap (λ (xs : List ℕ). left - 1 + length xs) more
          ∙ (let r = t.rest in omega arith);
    }

-- equal flags
pub same_flags : (table : List ℕ) (n k e from : ℕ) (flags other : List Bool) (left rest : ℕ) → flags ≡ other → left ≡ rest →
    IsTaken table n k e from other rest → IsTaken table n k e from flags left
same_flags table n k e from flags other left rest f l t =
    subst (λ (xs : List Bool). IsTaken table n k e from xs left) (sym f)
    (subst (λ (x : ℕ). IsTaken table n k e from other x) (sym l) t)

no_flag : (p : ℕ) → bit_of (replicate 512 false) p ≡ false
no_flag p =
    elim (cases_lt p 512) [
      | inl l ↦ get_or-replicate 512 p false false l
      | inr g ↦ get_or_past (replicate 512 false) p false g
    ]

information_none : (n k e : ℕ) → information [] n k e ≡ []
unfolding information free_positions
information_none n k e = drop-nil (0 - k)

-- no entry
pub taken_none : (table : List ℕ) (n k e : ℕ) → length table ≡ 1024 → IsTaken table n k e 1024 (replicate 512 false) k
taken_none table n k e h =
    let none : information (drop 1024 table) n k e ≡ [] =
    ap (λ (xs : List ℕ). information xs n k e) (drop_all 1024 table (omega arith)) ∙ information_none n k e
    in
    record {
      long = refl;
      taken = λ p. no_flag p ∙ sym (ap (λ (xs : List ℕ). is_in xs p) none);
      rest = ap (λ (xs : List ℕ). k + length xs) none ∙ omega arith;
    }

-- where all are taken, or no entry is left, the flags are those of all entries
pub taken_done : (table : List ℕ) (n k e from : ℕ) (flags : List Bool) (left : ℕ) → from ≤ length table → (0 < from → left ≡ 0)
    → IsTaken table n k e from flags left → IsTaken table n k e 0 flags left
taken_done table n k e zero flags left l done t = t
taken_done table n k e (suc from) flags left l done t =
    let none : left ≡ 0 = done (omega arith) in
    let before : IsTaken table n k e (from + 1) flags left =
    subst (λ (i : ℕ). IsTaken table n k e i flags left) (sym (add-one from)) t in
    taken_done table n k e from flags left (omega (arith, l)) (λ h. none)
    (taken_full table n k e from (get_or table from 0) flags left (omega (arith, l)) refl none before)

-- the flags of information positions
pub taken_all : (table : List ℕ) (n k e from : ℕ) (flags : List Bool) (left : ℕ) → from ≤ length table → (0 < from → left ≡ 0)
    → IsTaken table n k e from flags left →
    (p : ℕ) → bit_of flags p ≡ is_in (information table n k e) p
taken_all table n k e from flags left l done t p = (taken_done table n k e from flags left l done t).taken p

-- a test that agrees with one of information positions
pub information_same : (n k e : ℕ) (test info : ℕ → Bool) → ((p : ℕ) → test p ≡ info p) → IsInformation n k e info
    → IsInformation n k e test
information_same n k e test info same h = record {
  count_is = count_same n test info (λ p l. same p) ∙ h.count_is;
  below = λ p is. h.below p (sym (same p) ∙ is);
  is_sent = λ p is. h.is_sent p (sym (same p) ∙ is);
}

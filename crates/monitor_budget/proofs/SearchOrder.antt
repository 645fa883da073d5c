-- The sets of a slot by rising number: each stands once, so they are no more than the handset has.
use Rattle.std.proofs.Common.{◌≡◌, ℕ, ◌+◌, ◌*◌, ◌<◌, ◌≤◌, inl, inr, Bool, true, false, ◌&&◌, ◌==◌, List, []}
use Rattle.std.proofs.Common.{◌∷◌, ◌++◌, length, All, refl, sym, ◌∙◌, ap, arith, ◌-◌}
use Rattle.std.specs.List.{range_with_len, flat_map, filter}
use Rattle.std.proofs.lemmas.Bool.{and_parts, not-true, eqb-true}
use Rattle.std.proofs.lemmas.Bool.Decides.{Decides-eqb}
use Rattle.std.proofs.lemmas.List.{length-append}
use Rattle.std.proofs.lemmas.List.FromFn.{length-range_with_len}
use Rattle.std.proofs.lemmas.List.Elements.{filter-append}
use Rattle.std.proofs.lemmas.Map.Made.{length-le_from_is_member}
use Rattle.rrc_settings.specs.declared.settings.RawCell.{RawCell}
use Rattle.rrc_settings.specs.declared.settings.Handset.{Handset}
use Rattle.rrc_settings.specs.declared.settings.SetKind.{SetKind}
use Rattle.rrc_settings.specs.SetKinds.{is_common}
use Rattle.rrc_settings.specs.Equality.{equivalence_from_decides}
use Rattle.search_starts.specs.Calendar.{slots_before, is_monitored}
use Rattle.coreset_map.proofs.Cces.{range-append}
use Rattle.list_facts.proofs.Members.{IsIn, in_append, in_flat_map, in_filter, in_range, range_in, at_in}
use Rattle.list_facts.proofs.Rising.{Rising, rising-append, rising-filter, rising-flat_map, rising-range}
use Rattle.rrc_settings.specs.HandsetsOfCell.{set_at}
use Rattle.monitor_budget.specs.Allotting.{is_wanted, is_searched, numbered_sets, sets_in_slot}
use Rattle.list_facts.proofs.Ranges.{filter_range_more}
use Rattle.monitor_budget.proofs.Distinct.{member_in, in_member, rising_distinct}

-- a longer range has no fewer numbers that pass
pub filter_range_le : (p : ℕ → Bool) (k n : ℕ) → k ≤ n
    → length (filter p (range_with_len 0 k)) ≤ length (filter p (range_with_len 0 n))
filter_range_le p k n h =
    let e : range_with_len 0 k ++ range_with_len (0 + k) (n - k) ≡ range_with_len 0 n =
    range-append 0 k (n - k) ∙ ap (λ m. range_with_len 0 m) (omega arith) in
    let f = ap (λ ks. length (filter p ks)) (sym e)
    ∙ ap length (filter-append p (range_with_len 0 k) (range_with_len (0 + k) (n - k)))
    ∙ length-append (filter p (range_with_len 0 k)) (filter p (range_with_len (0 + k) (n - k))) in
    omega (arith, f)

-- where a set stands in search order: common sets first, then by number
abbrev rank_of : Bool → ℕ
rank_of true = 0
rank_of false = 1

abbrev key_of : Handset → ℕ → ℕ
key_of h place = (rank_of (is_common (set_at h place).kind) * 40 + (set_at h place).number) * 64 + place

wanted_rank : (common : Bool) (kind : SetKind) → is_wanted common kind ≡ true → rank_of (is_common kind) ≡ rank_of common
wanted_rank true kind h = ap rank_of h
wanted_rank false kind h = ap rank_of (not-true (is_common kind) h)

-- a set that is searched for
pub record IsSearched (cell : RawCell) (h : Handset) (common : Bool) (frame slot number place : ℕ) : Type 0 where
  pub within : place < length h.sets.items
  pub number_is : (set_at h place).number ≡ number
  pub wanted : is_wanted common (set_at h place).kind ≡ true
  pub monitored : is_monitored (set_at h place) (slots_before cell.mu frame slot) ≡ true

-- what is known of the sets with a number
pub in_numbered : (cell : RawCell) (h : Handset) (common : Bool) (frame slot number place : ℕ)
    → IsIn place (numbered_sets cell h common frame slot number) → IsSearched cell h common frame slot number place
unfolding numbered_sets
in_numbered cell h common frame slot number place i =
    let s = set_at h place in
    let (r, t) = in_filter (is_searched cell h common frame slot number) place (range_with_len 0 (length h.sets.items)) i in
    let (low, high) = in_range place 0 (length h.sets.items) r in
    let (a, b) = and_parts (s.number == number) (is_wanted common s.kind && is_monitored s (slots_before cell.mu frame slot)) t in
    let (c, d) = and_parts (is_wanted common s.kind) (is_monitored s (slots_before cell.mu frame slot)) b in
    record { within = omega (arith, high); number_is = eqb-true s.number number a; wanted = c; monitored = d }

-- the sets up to a number
abbrev sets_to : RawCell → Handset → Bool → ℕ → ℕ → ℕ → List ℕ
sets_to cell h common frame slot n = flat_map (numbered_sets cell h common frame slot) (range_with_len 1 n)

-- of those up to a number
pub in_sets_to : (cell : RawCell) (h : Handset) (common : Bool) (frame slot n place : ℕ)
    → IsIn place (sets_to cell h common frame slot n)
    → (number : ℕ) × (number ≤ n) × IsSearched cell h common frame slot number place
in_sets_to cell h common frame slot n place i =
    let (number, r, k) = in_flat_map (numbered_sets cell h common frame slot) place (range_with_len 1 n) i in
    let (low, high) = in_range number 1 n r in
    (number, omega (arith, high), in_numbered cell h common frame slot number place k)

-- and of all that are monitored in a slot
pub in_slot : (cell : RawCell) (h : Handset) (common : Bool) (frame slot place : ℕ)
    → IsIn place (sets_in_slot cell h common frame slot)
    → (number : ℕ) × (number ≤ 39) × IsSearched cell h common frame slot number place
unfolding sets_in_slot
in_slot cell h common frame slot place i = in_sets_to cell h common frame slot 39 place i

-- an order that is kept where another one is
rising_weaker : {A : Type 0} (R S : A → A → Type 0) (xs : List A) → ((a b : A) → IsIn a xs → IsIn b xs → R a b → S a b)
    → Rising R xs → Rising S xs
rising_weaker R S [] h r = tt
rising_weaker R S (x ∷ xs) h (first, later) =
    (λ y i. h x y (inl refl) (inr i) (first y i), rising_weaker R S xs (λ a b i j. h a b (inr i) (inr j)) later)

numbered_rising : (cell : RawCell) (h : Handset) (common : Bool) (frame slot number : ℕ)
    → Rising (λ a b. key_of h a < key_of h b) (numbered_sets cell h common frame slot number)
unfolding numbered_sets
numbered_rising cell h common frame slot number =
    rising_weaker (λ a b. a < b) (λ a b. key_of h a < key_of h b) (numbered_sets cell h common frame slot number)
    (λ a b i j l.
    let x = in_numbered cell h common frame slot number a i in
    let y = in_numbered cell h common frame slot number b j in
    let p = wanted_rank common (set_at h a).kind x.wanted in
    let q = wanted_rank common (set_at h b).kind y.wanted in
    let m = x.number_is in let n = y.number_is in
    omega (arith, l, p, q, m, n))
    (rising-filter (λ a b. a < b) (is_searched cell h common frame slot number) (range_with_len 0 (length h.sets.items))
    (rising-range 0 (length h.sets.items)))

sets_to-rising : (cell : RawCell) (h : Handset) (common : Bool) (frame slot n : ℕ) → length h.sets.items ≤ 10
    → Rising (λ a b. key_of h a < key_of h b) (sets_to cell h common frame slot n)
sets_to-rising cell h common frame slot n few =
    rising-flat_map (λ a b. a < b) (λ a b. key_of h a < key_of h b) (numbered_sets cell h common frame slot)
    (range_with_len 1 n) (rising-range 1 n)
    (λ number i. numbered_rising cell h common frame slot number)
    (λ s t a b i j l u v.
    let x = in_numbered cell h common frame slot s a u in
    let y = in_numbered cell h common frame slot t b v in
    let p = wanted_rank common (set_at h a).kind x.wanted in
    let q = wanted_rank common (set_at h b).kind y.wanted in
    let m = x.number_is in let n = y.number_is in let w = x.within in
    omega (arith, l, p, q, m, n, w, few))

-- so many different places at most
few_rising : (h : Handset) (xs : List ℕ) → Rising (λ a b. key_of h a < key_of h b) xs
    → ((q : ℕ) → IsIn q xs → q < length h.sets.items)
    → length xs ≤ length h.sets.items
few_rising h xs r below =
    let n = length h.sets.items in
    let l = length-le_from_is_member (equivalence_from_decides Decides-eqb) xs (range_with_len 0 n)
    (rising_distinct (λ a b. a == b) Decides-eqb (key_of h) xs r)
    (λ q t. in_member (λ a b. a == b) Decides-eqb q (range_with_len 0 n)
    (range_in q 0 n (omega arith) (let b = below q (member_in (λ a b. a == b) Decides-eqb q xs t) in omega (arith, b)))) in
    let e = length-range_with_len 0 n in
    omega (arith, l, e)

-- the sets up to a number are ten at most
pub few_sets_to : (cell : RawCell) (h : Handset) (common : Bool) (frame slot n : ℕ) → length h.sets.items ≤ 10
    → length (sets_to cell h common frame slot n) ≤ 10
few_sets_to cell h common frame slot n few =
    let k = few_rising h (sets_to cell h common frame slot n) (sets_to-rising cell h common frame slot n few)
    (λ q i. (in_sets_to cell h common frame slot n q i).2.within) in
    omega (arith, few, k)

-- the common sets and the others together
pub few_both : (cell : RawCell) (h : Handset) (frame slot : ℕ) → length h.sets.items ≤ 10
    → length (sets_in_slot cell h true frame slot) + length (sets_in_slot cell h false frame slot) ≤ 10
unfolding sets_in_slot
few_both cell h frame slot few =
    let xs = sets_to cell h true frame slot 39 in
    let ys = sets_to cell h false frame slot 39 in
    let r = rising-append (λ a b. key_of h a < key_of h b) xs ys (sets_to-rising cell h true frame slot 39 few)
    (sets_to-rising cell h false frame slot 39 few)
    (λ a b i j.
    let (s, u, x) = in_sets_to cell h true frame slot 39 a i in
    let (t, v, y) = in_sets_to cell h false frame slot 39 b j in
    let p = wanted_rank true (set_at h a).kind x.wanted in
    let q = wanted_rank false (set_at h b).kind y.wanted in
    let m = x.number_is in let w = x.within in
    omega (arith, p, q, m, u, w, few)) in
    let k = few_rising h (xs ++ ys) r (λ q i. elim (in_append q xs ys i) as (λ _. q < length h.sets.items) [
      | inl a ↦ (in_sets_to cell h true frame slot 39 q a).2.within
      | inr b ↦ (in_sets_to cell h false frame slot 39 q b).2.within
    ]) in
    let e = length-append xs ys in
    omega (arith, few, k, e)

-- each is one of the handset's
pub all_within : (cell : RawCell) (h : Handset) (common : Bool) (frame slot : ℕ)
    → All (λ place. place < length h.sets.items) (sets_in_slot cell h common frame slot)
all_within cell h common frame slot k d l =
    (in_slot cell h common frame slot _ (at_in (sets_in_slot cell h common frame slot) k d l)).2.within

-- room for one place more
pub push-room : (p : ℕ → Bool) (before now : List ℕ) (k n : ℕ) → now ≡ before ++ filter p (range_with_len 0 k) → p k ≡ true
    → k < n
    → length before + length (filter p (range_with_len 0 n)) ≤ 10 → length now < 10
push-room p before now k n e t l room =
    let a = ap length e ∙ length-append before (filter p (range_with_len 0 k)) in
    let b = ap length (filter_range_more p k t) ∙ length-append (filter p (range_with_len 0 k)) (k ∷ []) in
    let c = filter_range_le p (k + 1) n (omega arith) in
    omega (arith, a, b, c, room)

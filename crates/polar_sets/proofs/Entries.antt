-- The order in which the bits of a block enter: each bit once, whatever the table is.
use Rattle.std.proofs.Common.{ℕ, ◌≡◌, ◌+◌, ◌-◌, ◌<◌, ◌≤◌, Bool, true, false, ◌&&◌, ◌||◌, List, [], ◌∷◌, ◌++◌, length, map, take}
use Rattle.std.proofs.Common.{nat_le, cond, eqb, get_or, inl, inr, refl, ap, subst, sym, ◌∙◌, arith, length-append}
use Rattle.std.specs.Prelude.{◌==◌, All}
use Rattle.std.specs.List.{filter}
use Rattle.std.proofs.lemmas.Bool.{eq-eqb, le-leb, lt-leb, ne_eqb, or_left, or_right}
use Rattle.std.proofs.lemmas.Bool.Decides.{eqb_tells}
use Rattle.std.proofs.lemmas.List.{append-nil, get_or-map, length-map, map-append, take_all}
use Rattle.std.proofs.lemmas.List.Elements.{All-filter, filter_more, filter_passes}
use Rattle.std.proofs.lemmas.Map.Keys.{IsDistinct-from_apart}
use Rattle.table_files.specs.Permutation.{IsTable}
use Rattle.table_files.proofs.Parts.{list_any_flip}
use Rattle.polar_sets.specs.InformationPositions.{is_in}
use Rattle.polar_sets.specs.InputOrder.{order_from}
use Rattle.list_facts.proofs.Counting.{AreApart, count_of_list, count_whole}
use Rattle.polar_sets.proofs.Members.{filter_apart, in_filter, in_table, table_apart}

-- the entries that speak of the last bits, `first` being the first of them
abbrev late : List ℕ → ℕ → List ℕ
late table first = filter (nat_le first) table

abbrev order_late : List ℕ → ℕ → List ℕ
order_late table first = map (λ t. t - first) (late table first)

late_inside : (table : List ℕ) (first i : ℕ) → IsTable 164 table → i < length (late table first)
    → get_or (late table first) i 0 < 164
late_inside table first i h l = All-filter (nat_le first) (λ t. t < 164) table h.inside i 0 l

late_from : (table : List ℕ) (first i : ℕ) → i < length (late table first) → first ≤ get_or (late table first) i 0
late_from table first i l =
    let h : nat_le first (get_or (late table first) i 0) ≡ true = filter_passes (nat_le first) table i 0 l in
    grind arith

entry_at : (table : List ℕ) (first i d : ℕ) → i < length (late table first) →
    get_or (order_late table first) i d ≡ get_or (late table first) i 0 - first
entry_at table first i d l = get_or-map (λ t. t - first) (late table first) i 0 d l

order_inside : (table : List ℕ) (first : ℕ) → IsTable 164 table → first ≤ 164
    → All (λ t. t < 164 - first) (order_late table first)
order_inside table first h m i d l =
    let long = length-map (late table first) (λ t. t - first) in
    let inside = late_inside table first i h (omega arith) in
    let from = late_from table first i (omega arith) in
    let at = entry_at table first i d (omega arith) in
    omega arith

order_apart : (table : List ℕ) (first : ℕ) → IsTable 164 table → AreApart (order_late table first)
order_apart table first h i j d l m same =
    let long = length-map (late table first) (λ t. t - first) in
    let one = entry_at table first i d (omega arith) in
    let other = entry_at table first j d (omega arith) in
    let from = late_from table first i (omega arith) in
    let and_from = late_from table first j (omega arith) in
    filter_apart (nat_le first) table (table_apart 164 table h) i j 0 l (omega arith) (omega arith)

or_rest : (a b : Bool) → a ≡ false → (a || b) ≡ true → b ≡ true
or_rest true b h g = absurd (let f : true ≡ false = h in cc)
or_rest false b h g = g

in_map : (f : ℕ → ℕ) (xs : List ℕ) (t : ℕ) → is_in xs t ≡ true → is_in (map f xs) (f t) ≡ true
in_map f [] t h = h
in_map f (x ∷ xs) t h =
    elim (eqb_tells x t) [
      | inl e ↦ or_left (f x == f t) (is_in (map f xs) (f t)) (eq-eqb (f x) (f t) (ap f e.1))
      | inr e ↦ or_right (f x == f t) (is_in (map f xs) (f t)) (in_map f xs t (or_rest (x == t) (is_in xs t) e.0 h))
    ]

-- each of the bits is in it
order_has : (table : List ℕ) (first bit : ℕ) → IsTable 164 table → first ≤ 164 → bit < 164 - first
    → is_in (order_late table first) bit ≡ true
order_has table first bit h m l =
    let member : is_in (late table first) (bit + first) ≡ true =
    in_filter (nat_le first) table (bit + first)
    ∙ ap (λ (b : Bool). b && is_in table (bit + first)) (le-leb first (bit + first) (omega arith))
    ∙ in_table 164 table (bit + first) h (omega arith)
    in
    let back : bit + first - first ≡ bit = omega arith in
    subst (λ (x : ℕ). is_in (order_late table first) x ≡ true) back
    (in_map (λ t. t - first) (late table first) (bit + first) member)

order_long : (table : List ℕ) (first : ℕ) → IsTable 164 table → first ≤ 164 → length (order_late table first) ≡ 164 - first
order_long table first h m =
    sym (count_of_list (164 - first) (order_late table first) (order_inside table first h m) (order_apart table first h))
    ∙ count_whole (164 - first) (is_in (order_late table first)) (λ bit l. order_has table first bit h m l)

late_order : (table : List ℕ) (first : ℕ) → IsTable 164 table → first ≤ 164 → IsTable (164 - first) (order_late table first)
late_order table first h m =
    let order = order_late table first in
    record {
      long = order_long table first h m;
      inside = order_inside table first h m;
      distinct =
          IsDistinct-from_apart eqb order
          (λ i j d l g. ne_eqb (get_or order i d) (get_or order j d) (order_apart table first h i j d l g));
      each = λ bit l. sym (list_any_flip bit order) ∙ order_has table first bit h m l;
    }

-- the order that a table gives has each bit once
pub order_is : (table : List ℕ) (k : ℕ) → IsTable 164 table → k ≤ 164 → IsTable k (order_from table k)
unfolding order_from
order_is table k h l =
    let whole : 164 - (164 - k) ≡ k = omega arith in
    subst (λ (x : ℕ). IsTable x (order_late table (164 - k))) whole (late_order table (164 - k) h (omega arith))

-- the order that the first entries give, one entry more
order_more : (table : List ℕ) (k at : ℕ) → at < length table →
    order_from (take (at + 1) table) k ≡ order_from (take at table) k
    ++ map (λ t. t - (164 - k)) (cond (nat_le (164 - k) (get_or table at 0)) (get_or table at 0 ∷ []) [])
unfolding order_from
order_more table k at l =
    ap (λ (xs : List ℕ). map (λ t. t - (164 - k)) xs) (filter_more (nat_le (164 - k)) table at 0 l)
    ∙ map-append (λ t. t - (164 - k)) (filter (nat_le (164 - k)) (take at table))
    (cond (nat_le (164 - k) (get_or table at 0)) (get_or table at 0 ∷ []) [])

-- what the first entries give
pub record IsEntered (table : List ℕ) (k at : ℕ) (order : List ℕ) : Type 0 where
  pub entered : order ≡ order_from (take at table) k
  pub few : length order ≤ at

-- no entry
pub entered_none : (table : List ℕ) (k : ℕ) → IsEntered table k 0 []
unfolding order_from
entered_none table k = record { entered = refl; few = omega arith }

-- one entry more, which speaks of the last bits
pub entered_more : (table : List ℕ) (k at entry : ℕ) (order : List ℕ) → at < length table → entry ≡ get_or table at 0
    → 164 - k ≤ entry →
    IsEntered table k at order → IsEntered table k (at + 1) (order ++ (entry - (164 - k)) ∷ [])
entered_more table k at entry order l e h t =
    let passed : nat_le (164 - k) (get_or table at 0) ≡ true = le-leb (164 - k) (get_or table at 0) (omega arith) in
    record {
      entered =
          ap (λ (xs : List ℕ). xs ++ (entry - (164 - k)) ∷ []) t.entered
          ∙ ap (λ (x : ℕ). order_from (take at table) k ++ (x - (164 - k)) ∷ []) e
          ∙ ap (λ (b : Bool). order_from (take at table) k ++ map (λ t. t - (164 - k)) (cond b (get_or table at 0 ∷ []) []))
          (sym passed)
          ∙ sym (order_more table k at l);
      few = (let n = length-append order ((entry - (164 - k)) ∷ []) in let f = t.few in omega arith);
    }

-- one that doesn't
pub entered_same : (table : List ℕ) (k at entry : ℕ) (order : List ℕ) → at < length table → entry ≡ get_or table at 0
    → entry < 164 - k →
    IsEntered table k at order → IsEntered table k (at + 1) order
entered_same table k at entry order l e h t =
    let failed : nat_le (164 - k) (get_or table at 0) ≡ false = lt-leb (164 - k) (get_or table at 0) (omega arith) in
    record {
      entered =
          t.entered
          ∙ sym (append-nil (order_from (take at table) k))
          ∙ ap (λ (b : Bool). order_from (take at table) k ++ map (λ t. t - (164 - k)) (cond b (get_or table at 0 ∷ []) []))
          (sym failed)
          ∙ sym (order_more table k at l);
      few = (let f = t.few in omega arith);
    }

-- all entries
pub entered_all : (table : List ℕ) (k at : ℕ) (order : List ℕ) → length table ≤ at → IsEntered table k at order
    → order ≡ order_from table k
entered_all table k at order l t = t.entered ∙ ap (λ (xs : List ℕ). order_from xs k) (take_all at table l)

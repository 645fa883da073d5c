-- The longest front of sets that keeps the limits.
use Rattle.std.proofs.Common.{◌≡◌, ℕ, zero, suc, ◌+◌, ◌-◌, ◌<◌, ◌≤◌, ◌⊎◌, inl, inr, Bool, true, false, cond, ◌&&◌}
use Rattle.std.proofs.Common.{nat_le, List, [], ◌∷◌, ◌++◌, length, take, drop, refl, sym, ◌∙◌, ap, arith}
use Rattle.std.specs.List.{flat_map}
use Rattle.std.proofs.Math.Nat.{eq-or-lt_of_le}
use Rattle.std.proofs.lemmas.Bool.{leb-true, le-leb, and_parts}
use Rattle.std.proofs.Math.Seq.{take-nil}
use Rattle.std.proofs.lemmas.List.{append_assoc, take_all}
use Rattle.std.proofs.lemmas.Grind.{flat_map-append}
use Rattle.rrc_settings.specs.declared.settings.RawCell.{RawCell}
use Rattle.rrc_settings.specs.declared.settings.Handset.{Handset}
use Rattle.dci_fields.specs.declared.sizes.Sizes.{Sizes}
use Rattle.monitor_budget.specs.Counts.{counted_of, all_counted, count_as_one, cces_of, all_cces, are_one_cce}
use Rattle.monitor_budget.specs.Counts.{candidate_count, different_cces}
use Rattle.rrc_settings.specs.HandsetsOfCell.{set_at}
use Rattle.monitor_budget.specs.Limits.{most_candidates, most_cces, are_within}
use Rattle.monitor_budget.specs.Allotting.{keep_limits, greatest, longest_front}
use Rattle.monitor_budget.proofs.Distinct.{distinct_count_front}
use Rattle.monitor_budget.proofs.Adding.{decides_count_as_one, decides_are_one_cce}

-- more sets count no fewer candidates and CCEs
candidates_front : (cell : RawCell) (h : Handset) (sizes : Sizes) (xs ys : List ℕ)
    → candidate_count cell h sizes xs ≤ candidate_count cell h sizes (xs ++ ys)
unfolding candidate_count all_counted
candidates_front cell h sizes xs ys =
    let f = λ (p : ℕ). counted_of cell h sizes (set_at h p) in
    let le = distinct_count_front count_as_one decides_count_as_one (flat_map f xs) (flat_map f ys) in
    rw (flat_map-append f xs ys) le

cces_front : (cell : RawCell) (h : Handset) (sizes : Sizes) (xs ys : List ℕ)
    → different_cces cell h sizes xs ≤ different_cces cell h sizes (xs ++ ys)
unfolding different_cces all_cces
cces_front cell h sizes xs ys =
    let f = λ (p : ℕ). cces_of cell h sizes (set_at h p) in
    let le = distinct_count_front are_one_cce decides_are_one_cce (flat_map f xs) (flat_map f ys) in
    rw (flat_map-append f xs ys) le

within_below : (mu a b c d : ℕ) → a ≤ c → b ≤ d → are_within mu c d ≡ true → are_within mu a b ≡ true
within_below mu a b c d h k w =
    let (x, y) = and_parts (nat_le c (most_candidates mu)) (nat_le d (most_cces mu)) w in
    let p = leb-true c (most_candidates mu) x in
    let q = leb-true d (most_cces mu) y in
    let m = le-leb a (most_candidates mu) (omega (arith, h, p)) in
    let n = le-leb b (most_cces mu) (omega (arith, k, q)) in
    ap (λ t. t && nat_le b (most_cces mu)) m ∙ n

-- no sets keep the limits
pub keeps_none : (cell : RawCell) (h : Handset) (sizes : Sizes) → keep_limits cell h sizes [] ≡ true
unfolding candidate_count all_counted different_cces all_cces
keeps_none cell h sizes =
    ap (λ t. t && nat_le 0 (most_cces cell.mu)) (le-leb 0 (most_candidates cell.mu) (omega arith))
    ∙ le-leb 0 (most_cces cell.mu) (omega arith)

-- a front of sets that keep the limits keeps them
keeps_front : (cell : RawCell) (h : Handset) (sizes : Sizes) (xs ys : List ℕ) → keep_limits cell h sizes (xs ++ ys) ≡ true
    → keep_limits cell h sizes xs ≡ true
keeps_front cell h sizes xs ys k =
    within_below cell.mu (candidate_count cell h sizes xs) (different_cces cell h sizes xs)
    (candidate_count cell h sizes (xs ++ ys)) (different_cces cell h sizes (xs ++ ys))
    (candidates_front cell h sizes xs ys) (cces_front cell h sizes xs ys) k

fails_cases : (cell : RawCell) (h : Handset) (sizes : Sizes) (xs ys : List ℕ) (b : Bool)
    → keep_limits cell h sizes (xs ++ ys) ≡ b → keep_limits cell h sizes xs ≡ false → b ≡ false
fails_cases cell h sizes xs ys true e f =
    absurd (let t = keeps_front cell h sizes xs ys e in let z : true ≡ false = sym t ∙ f in cc)
fails_cases cell h sizes xs ys false e f = refl

-- and one that does not keep them fails with more
pub fails_front : (cell : RawCell) (h : Handset) (sizes : Sizes) (xs ys : List ℕ) → keep_limits cell h sizes xs ≡ false
    → keep_limits cell h sizes (xs ++ ys) ≡ false
fails_front cell h sizes xs ys f = fails_cases cell h sizes xs ys (keep_limits cell h sizes (xs ++ ys)) refl f

-- the greatest number that passes, where no later one does
greatest_cases : (test : ℕ → Bool) (i m : ℕ) → test i ≡ true → (i < suc m → test (suc m) ≡ false) → (i ≤ m → greatest test m ≡ i)
    → (i ≡ suc m) ⊎ (i < suc m) → cond (test (suc m)) (suc m) (greatest test m) ≡ i
greatest_cases test i m t f before (inl e) = ap (λ b. cond b (suc m) (greatest test m)) (ap test (sym e) ∙ t) ∙ sym e
greatest_cases test i m t f before (inr l) = ap (λ b. cond b (suc m) (greatest test m)) (f l) ∙ before (omega arith)

greatest_is : (test : ℕ → Bool) (i m : ℕ) → test i ≡ true → ((n : ℕ) → i < n → n ≤ m → test n ≡ false) → i ≤ m
    → greatest test m ≡ i
greatest_is test i zero t f h = omega arith
greatest_is test i (suc m) t f h =
    greatest_cases test i m t (λ l. f (suc m) l (omega arith)) (greatest_is test i m t (λ n l k. f n l (omega arith)))
    (eq-or-lt_of_le h)

-- a longer front is a front and more
take-longer : (xs : List ℕ) (i n : ℕ) → i ≤ n → take n xs ≡ take i xs ++ take (n - i) (drop i xs)
take-longer xs zero n h = ap (λ k. take k xs) (omega arith)
take-longer xs (suc i) zero h = absurd (omega arith)
take-longer [] (suc i) (suc n) h = sym (take-nil (suc n - suc i))
take-longer (x ∷ xs) (suc i) (suc n) h =
    let e : suc n - suc i ≡ n - i = omega arith in
    ap (λ ys. x ∷ ys) (take-longer xs i n (omega arith) ∙ ap (λ k. take i xs ++ take k (drop i xs)) (sym e))

-- where all keep the limits, all are taken
pub front_all : (cell : RawCell) (h : Handset) (sizes : Sizes) (common own : List ℕ) (i : ℕ) → length own ≤ i
    → keep_limits cell h sizes (common ++ take i own) ≡ true → longest_front cell h sizes common own ≡ take i own
unfolding longest_front
front_all cell h sizes common own i l k =
    let test = λ (n : ℕ). keep_limits cell h sizes (common ++ take n own) in
    let whole : take i own ≡ own = take_all i own l in
    let last : take (length own) own ≡ own = take_all (length own) own (omega arith) in
    ap (λ n. take n own) (greatest_is test (length own) (length own)
    (ap (λ xs. keep_limits cell h sizes (common ++ xs)) (last ∙ sym whole) ∙ k) (λ n a b. absurd (omega arith)) (omega arith))
    ∙ last ∙ sym whole

-- where the next set fails, those before are taken
pub front_stops : (cell : RawCell) (h : Handset) (sizes : Sizes) (common own : List ℕ) (i : ℕ) → i < length own
    → keep_limits cell h sizes (common ++ take i own) ≡ true → keep_limits cell h sizes (common ++ take (i + 1) own) ≡ false
    → longest_front cell h sizes common own ≡ take i own
unfolding longest_front
front_stops cell h sizes common own i l k f =
    let test = λ (n : ℕ). keep_limits cell h sizes (common ++ take n own) in
    ap (λ n. take n own) (greatest_is test i (length own) k
    (λ n a b.
    let longer = take-longer own (i + 1) n (omega arith) in
    ap (λ xs. keep_limits cell h sizes (common ++ xs)) longer
    ∙ ap (λ xs. keep_limits cell h sizes xs)
    (sym (append_assoc common (take (i + 1) own) (take (n - (i + 1)) (drop (i + 1) own))))
    ∙ fails_front cell h sizes (common ++ take (i + 1) own) (take (n - (i + 1)) (drop (i + 1) own)) f)
    (omega arith))

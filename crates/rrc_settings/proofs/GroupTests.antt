-- What a test of a CORESET's groups says.
use Rattle.std.proofs.Common.{◌≡◌, ℕ, ◌<◌, Bool, true, false, ◌+◌, ◌&&◌, ◌||◌, nat_lt, cond, List, [], ◌∷◌, get_or}
use Rattle.std.proofs.Common.{length, count_by}
use Rattle.std.proofs.Common.{refl, ap, sym, ◌∙◌}
use Rattle.std.specs.List.{list_any, filter, range_with_len}
use Rattle.std.proofs.lemmas.Bool.{false_from_ne_true}
use Rattle.std.proofs.lemmas.List.Folds.{list_any_at}
use Rattle.std.proofs.lemmas.List.Sums.{length-filter}
use Rattle.rrc_settings.specs.BitSets.{has_bit}
use Rattle.rrc_settings.specs.BandwidthParts.{end_of}
use Rattle.rrc_settings.specs.ControlGroups.{groups_of, group_block}
use Rattle.rrc_settings.specs.GroupBits.{bits_counted, bits_reach}
use Rattle.rrc_settings.specs.Conflicts.{reaches_outside}
use Rattle.rrc_settings.specs.declared.settings.Bwp.{Bwp}

-- a test of those that pass another one is a test of all by both
pub list_any-filter : {A : Type 0} (p q : A → Bool) (xs : List A) → list_any p (filter q xs) ≡ list_any (λ x. q x && p x) xs
list_any-filter p q [] = refl
list_any-filter p q (x ∷ xs) = by (q x) (list_any-filter p q xs)
  where
    by : (b : Bool) → list_any p (filter q xs) ≡ list_any (λ y. q y && p y) xs
        → list_any p (cond b (x ∷ filter q xs) (filter q xs)) ≡ ((b && p x) || list_any (λ y. q y && p y) xs)
    by true e = ap (λ t. p x || t) e
    by false e = e

-- a test that no element of a list passes fails at each
pub none_passes_at : {A : Type 0} (p : A → Bool) (xs : List A) → list_any p xs ≡ false → (k : ℕ) (d : A) → k < length xs
    → p (get_or xs k d) ≡ false
none_passes_at p xs none k d l =
    false_from_ne_true (p (get_or xs k d)) (λ is. let some = list_any_at p xs k d l is in cc)

-- the bits that are one, listed and counted (here and below the 64 is a variable, so that no list of 64 numbers is computed)
counted_below : (groups n : ℕ) → n ≡ 64 → length (filter (has_bit groups) (range_with_len 0 n)) ≡ bits_counted groups
unfolding bits_counted
counted_below groups n e =
    length-filter (has_bit groups) (range_with_len 0 n) ∙ ap (λ k. count_by (has_bit groups) (range_with_len 0 k)) e

-- the groups are the numbers of the bits that are one
listed_below : (groups n : ℕ) → n ≡ 64 → groups_of groups ≡ filter (has_bit groups) (range_with_len 0 n)
unfolding groups_of
listed_below groups n e = ap (λ k. filter (has_bit groups) (range_with_len 0 k)) (sym e)

-- the groups, counted
counted_at : (groups n : ℕ) → n ≡ 64 → length (groups_of groups) ≡ bits_counted groups
counted_at groups n e = ap length (listed_below groups n e) ∙ counted_below groups n e

-- the groups are as many as the bits that are one
pub groups_counted : (groups : ℕ) → length (groups_of groups) ≡ bits_counted groups
groups_counted groups = counted_at groups 64 refl

-- the bits that are one, tested
reach_below : (bwp : Bwp) (groups n : ℕ) → n ≡ 64
    → list_any (λ g. has_bit groups g && nat_lt (end_of bwp) (group_block bwp.start g + 6)) (range_with_len 0 n)
    ≡ bits_reach bwp groups
unfolding bits_reach
reach_below bwp groups n e =
    ap (λ k. list_any (λ g. has_bit groups g && nat_lt (end_of bwp) (group_block bwp.start g + 6)) (range_with_len 0 k)) e

-- the groups, tested
reach_at : (bwp : Bwp) (groups n : ℕ) → n ≡ 64 → reaches_outside bwp groups ≡ bits_reach bwp groups
unfolding reaches_outside
reach_at bwp groups n e =
    let test = λ (g : ℕ). nat_lt (end_of bwp) (group_block bwp.start g + 6) in
    ap (λ gs. list_any test gs) (listed_below groups n e) ∙ list_any-filter test (has_bit groups) (range_with_len 0 n)
    ∙ reach_below bwp groups n e

-- a group reaches outside where one whose bit is one does
pub groups_reach : (bwp : Bwp) (groups : ℕ) → reaches_outside bwp groups ≡ bits_reach bwp groups
groups_reach bwp groups = reach_at bwp groups 64 refl

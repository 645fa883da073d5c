-- What was counted is as many as there are different ones.
use Rattle.std.proofs.Common.{◌≡◌, ℕ, zero, suc, ◌+◌, ◌/◌, ◌%◌, ◌<◌, Bool, true, false, cond, ◌||◌, List, []}
use Rattle.std.proofs.Common.{◌∷◌, map, length, get_or, replicate, count_by, refl, sym, ◌∙◌, ap, subst, arith}
use Rattle.std.specs.List.{IsDistinct, range_with_len, filter}
use Rattle.std.specs.Set.{is_member, distinct_count}
use Rattle.std.proofs.lemmas.List.{length-map, get_or-replicate}
use Rattle.std.proofs.lemmas.List.Sums.{length-filter}
use Rattle.std.proofs.lemmas.Bool.Decides.{same_from_decides}
use Rattle.std.proofs.lemmas.Map.Keys.{IsDistinct-from_apart}
use Rattle.std.proofs.lemmas.Map.Made.{length-from_keys}
use Rattle.rrc_settings.specs.Equality.{equivalence_from_decides}
use Rattle.list_facts.proofs.Members.{IsIn, in_map, map_in, in_filter, filter_in, in_range, range_in}
use Rattle.list_facts.proofs.Rising.{rising-filter, rising-map, rising-range}
use Rattle.monitor_budget.specs.declared.counted.Counted.{Counted}
use Rattle.monitor_budget.specs.Counts.{count_as_one, Cce, are_one_cce}
use Rattle.monitor_budget.specs.Tally.{marks_each, mark_count, mark_of, HasMark, is_marked, AddsCounted, AddsCces}
use Rattle.monitor_budget.proofs.Adding.{decides_count_as_one, decides_are_one_cce, mark_once}
use Rattle.monitor_budget.proofs.Distinct.{member_in, in_member, rising_distinct}

-- candidates: as many as were seen
pub counted_are : (seen xs : List Counted) → AddsCounted [] seen xs → length seen ≡ distinct_count count_as_one xs
counted_are seen xs h =
    length-from_keys (equivalence_from_decides decides_count_as_one) seen xs
    (h.distinct (IsDistinct-from_apart count_as_one [] (λ i j d k l. absurd (omega arith)))) h.members

-- the CCE of a mark
abbrev cce_at : ℕ → Cce
cce_at i = record { coreset = i / marks_each / 14; symbol = i / marks_each % 14; cce = i % marks_each }

abbrev place_of : Cce → ℕ
place_of q = mark_of q.coreset q.symbol q.cce

place_cce : (i : ℕ) → place_of (cce_at i) ≡ i
place_cce i = omega arith

has_mark : (i : ℕ) → i < mark_count → HasMark (cce_at i)
has_mark i h = record { coreset = omega arith; symbol = omega arith; cce = omega arith }

place_below : (q : Cce) → HasMark q → place_of q < mark_count
place_below q h = let a = h.coreset in let b = h.symbol in let c = h.cce in omega (arith, a, b, c)

cce_place : (q : Cce) → HasMark q → cce_at (place_of q) ≡ q
cce_place q h = mark_once (cce_at (place_of q)) q (has_mark (place_of q) (place_below q h)) h (place_cce (place_of q))

-- the CCEs that are marked
abbrev marks_at : List Bool → ℕ → Bool
marks_at marks i = get_or marks i false

marked_list : List Bool → List Cce
marked_list marks = map cce_at (filter (marks_at marks) (range_with_len 0 mark_count))

marked_distinct : (marks : List Bool) → IsDistinct are_one_cce (marked_list marks)
unfolding marked_list
marked_distinct marks =
    rising_distinct are_one_cce decides_are_one_cce place_of (marked_list marks)
    (rising-map (λ a b. a < b) (λ a b. place_of a < place_of b) cce_at (filter (marks_at marks) (range_with_len 0 mark_count))
    (λ a b h. let e = place_cce a in let f = place_cce b in omega (arith, e, f, h))
    (rising-filter (λ a b. a < b) (marks_at marks) (range_with_len 0 mark_count) (rising-range 0 mark_count)))

marked_in : (marks : List Bool) (q : Cce) → IsIn q (marked_list marks) → HasMark q × (is_marked marks q ≡ true)
unfolding marked_list
marked_in marks q h =
    let (i, k, e) = in_map cce_at q (filter (marks_at marks) (range_with_len 0 mark_count)) h in
    let (r, t) = in_filter (marks_at marks) i (range_with_len 0 mark_count) k in
    let (low, high) = in_range i 0 mark_count r in
    let m = has_mark i (omega (arith, high)) in
    let at : place_of q ≡ i = ap place_of e ∙ place_cce i in
    (subst HasMark (sym e) m, ap (marks_at marks) at ∙ t)

in_marked : (marks : List Bool) (q : Cce) → HasMark q → is_marked marks q ≡ true → IsIn q (marked_list marks)
unfolding marked_list
in_marked marks q h t =
    subst (λ x. IsIn x (marked_list marks)) (cce_place q h)
    (map_in cce_at (place_of q) (filter (marks_at marks) (range_with_len 0 mark_count))
    (filter_in (marks_at marks) (place_of q) (range_with_len 0 mark_count)
    (range_in (place_of q) 0 mark_count (omega arith) (let b = place_below q h in omega (arith, b))) t))

-- how many marks are set
length_cond : {A B : Type 0} (b : Bool) (u : A) (v : B) (us : List A) (vs : List B) → length us ≡ length vs
    → length (cond b (u ∷ us) us) ≡ length (cond b (v ∷ vs) vs)
length_cond true u v us vs e = ap suc e
length_cond false u v us vs e = e

count_shift : (marks : List Bool) (x : Bool) (s n : ℕ)
    → length (filter (marks_at (x ∷ marks)) (range_with_len (s + 1) n)) ≡ length (filter (marks_at marks) (range_with_len s n))
count_shift marks x s zero = refl
count_shift marks x s (suc n) =
    let us = filter (marks_at (x ∷ marks)) (range_with_len (s + 1 + 1) n) in
    let next : marks_at (x ∷ marks) (s + 1)
    ≡ marks_at marks s = ap (marks_at (x ∷ marks)) (let z : s + 1 ≡ suc s = omega arith in z) in
    ap (λ b. length (cond b ((s + 1) ∷ us) us)) next
    ∙ length_cond (marks_at marks s) (s + 1) s us (filter (marks_at marks) (range_with_len (s + 1) n))
    (count_shift marks x (s + 1) n)

length-places : (marks : List Bool)
    → length (filter (marks_at marks) (range_with_len 0 (length marks))) ≡ length (filter (λ b. b) marks)
length-places [] = refl
length-places (x ∷ marks) =
    length_cond x 0 x (filter (marks_at (x ∷ marks)) (range_with_len (0 + 1) (length marks))) (filter (λ b. b) marks)
    (count_shift marks x 0 (length marks) ∙ length-places marks)

count-places : (marks : List Bool)
    → count_by (λ i. get_or marks i false) (range_with_len 0 (length marks)) ≡ count_by (λ b. b) marks
count-places marks =
    sym (length-filter (marks_at marks) (range_with_len 0 (length marks))) ∙ (length-places marks ∙ length-filter (λ b. b) marks)

length_marked : (marks : List Bool) → length marks ≡ mark_count → length (marked_list marks) ≡ count_by (λ b. b) marks
unfolding marked_list
length_marked marks e =
    length-map (filter (marks_at marks) (range_with_len 0 mark_count)) cce_at
    ∙ length-filter (marks_at marks) (range_with_len 0 mark_count)
    ∙ ap (λ n. count_by (marks_at marks) (range_with_len 0 n)) (sym e) ∙ count-places marks

-- CCEs: as many as were marked
pub cces_are : (marks : List Bool) (xs : List Cce) → length marks ≡ mark_count → AddsCces (replicate mark_count false) marks xs
    → count_by (λ b. b) marks ≡ distinct_count are_one_cce xs
cces_are marks xs e h =
    let none : (q : Cce) → HasMark q
    → is_marked (replicate mark_count false) q ≡ false =
    λ q m. get_or-replicate mark_count (place_of q) false false (place_below q m) in
    let same : (q : Cce) → HasMark q
    → is_marked marks q ≡ is_member are_one_cce xs q =
    λ q m. h.marked q m ∙ ap (λ b. b || is_member are_one_cce xs q) (none q m) in
    sym (length_marked marks e)
    ∙ length-from_keys (equivalence_from_decides decides_are_one_cce) (marked_list marks) xs (marked_distinct marks)
    (λ q. same_from_decides (is_member are_one_cce (marked_list marks) q) (is_member are_one_cce xs q) (
      member_in are_one_cce decides_are_one_cce q (marked_list marks),
      in_member are_one_cce decides_are_one_cce q
          (marked_list marks),
    ) (
      λ t. in_marked marks q (h.known q t) (same q (h.known q t) ∙ t),
      λ i. let (m, t) = marked_in marks q i in sym (same q m) ∙ t,
    ))

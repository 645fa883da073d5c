-- What is counted, one candidate more and one CCE more.
use Rattle.std.proofs.Common.{◌≡◌, ◌≢◌, ℕ, ◌+◌, ◌*◌, ◌<◌, ◌≤◌, inl, inr, Bool, true, false, ◌&&◌, ◌||◌, ◌==◌, List, []}
use Rattle.std.proofs.Common.{◌∷◌, ◌++◌, map, length, take, get_or, Decides, refl, sym, ◌∙◌, ap, subst, arith, rules}
use Rattle.std.proofs.Common.{◌-◌}
use Rattle.std.specs.List.{list_any, range_with_len, flat_map}
use Rattle.std.specs.Set.{is_member}
use Rattle.std.proofs.lemmas.List.{take_more, map-append, append-nil}
use Rattle.std.proofs.lemmas.Grind.{flat_map-append}
use Rattle.std.proofs.lemmas.List.Folds.{list_any-append}
use Rattle.std.proofs.lemmas.List.FromFn.{map-range_with_len_more}
use Rattle.std.proofs.lemmas.Bool.{or_cases}
use Rattle.std.proofs.lemmas.Bool.Decides.{Decides-and, Decides-eqb, same_from_decides}
use Rattle.std.proofs.lemmas.Map.Keys.{IsDistinct-push}
use Rattle.rrc_settings.specs.Equality.{equivalence_from_decides}
use Rattle.monitor_budget.specs.declared.candidates.Candidate.{Candidate}
use Rattle.monitor_budget.specs.declared.counted.Counted.{Counted}
use Rattle.monitor_budget.specs.contracts.counted.CountedPartialEq.TheImpl as counted
use Rattle.monitor_budget.specs.Equality.{decides_counted}
use Rattle.monitor_budget.specs.Counts.{count_as_one, Cce, are_one_cce, cces_from}
use Rattle.monitor_budget.specs.Tally.{marks_each, mark_of, HasMark, is_marked, AddsCounted, AddsCces}
use Rattle.list_facts.proofs.Tests.{or_false, or_turned, or_into, or_grouped}
use Rattle.monitor_budget.proofs.Distinct.{list_any_agree}

-- being the same
same_counted : (a b : Counted)
    → (a.coreset ≡ b.coreset)
    × ((a.symbol ≡ b.symbol)
    × ((a.start ≡ b.start) × ((a.level ≡ b.level) × ((a.scramble ≡ b.scramble) × (a.size ≡ b.size))))) → a ≡ b
same_counted a b h = search rules

-- the test of candidates that count as one decides that they are equal
pub decides_count_as_one : (a b : Counted) → Decides (count_as_one a b) (a ≡ b)
decides_count_as_one a b =
    let d = Decides-and _ _ (Decides-eqb a.coreset b.coreset)
    (Decides-and _ _ (Decides-eqb a.symbol b.symbol) (Decides-and _ _ (Decides-eqb a.start b.start)
    (Decides-and _ _ (Decides-eqb a.level b.level)
    (Decides-and _ _ (Decides-eqb a.scramble b.scramble) (Decides-eqb a.size b.size))))) in (
      λ h. same_counted a b (d.0 h),
      λ e. d.1 (
        ap (λ (x : Counted). x.coreset) e,
        (
          ap (λ (x : Counted). x.symbol) e,
          (
            ap (λ (x : Counted). x.start) e,
            (ap (λ (x : Counted). x.level) e, (ap (λ (x : Counted). x.scramble) e, ap (λ (x : Counted). x.size) e)),
          ),
        ),
      ),
    )

same_cce : (a b : Cce) → (a.coreset ≡ b.coreset) × ((a.symbol ≡ b.symbol) × (a.cce ≡ b.cce)) → a ≡ b
same_cce a b h = search rules

-- and the test of CCEs that are one does
pub decides_are_one_cce : (a b : Cce) → Decides (are_one_cce a b) (a ≡ b)
decides_are_one_cce a b =
    let d = Decides-and (a.coreset == b.coreset) (a.symbol == b.symbol && a.cce == b.cce) (Decides-eqb a.coreset b.coreset)
    (Decides-and (a.symbol == b.symbol) (a.cce == b.cce) (Decides-eqb a.symbol b.symbol) (Decides-eqb a.cce b.cce)) in (
      λ h. same_cce a b (d.0 h),
      λ e. d.1
          (ap (λ (x : Cce). x.coreset) e, (ap (λ (x : Cce). x.symbol) e, ap (λ (x : Cce). x.cce) e)),
    )

-- a candidate was seen where the code finds it
pub found_seen : (seen : List Counted) (x : Counted) (b : Bool) → b ≡ list_any (λ y. counted.ghosts.eq y x) seen
    → is_member count_as_one seen x ≡ b
found_seen seen x b e =
    list_any_agree (count_as_one x) (λ y. counted.ghosts.eq y x) seen
    (λ y. let d = decides_counted y x in
    same_from_decides (count_as_one x y) (counted.ghosts.eq y x) (decides_count_as_one x y) (λ h. sym (d.0 h), λ k. d.1 (sym k)))
    ∙ sym e

-- one candidate more
pub see-new : (seen next : List Counted) (x : Counted) → is_member count_as_one seen x ≡ false → next ≡ seen ++ x ∷ []
    → AddsCounted seen next (x ∷ [])
see-new seen next x h e = subst (λ xs. AddsCounted seen xs (x ∷ [])) (sym e) (record {
  distinct = λ d. IsDistinct-push (equivalence_from_decides decides_count_as_one) seen x d h;
  members = λ q. list_any-append (count_as_one q) seen (x ∷ []);
})

-- a candidate that was seen adds nothing
pub see_old : (seen : List Counted) (x : Counted) → is_member count_as_one seen x ≡ true → AddsCounted seen seen (x ∷ [])
see_old seen x h = record {
  distinct = λ d. d;
  members = λ q. sym (ap (λ b. is_member count_as_one seen q || b) (or_false (count_as_one q x))
      ∙ or_turned (is_member count_as_one seen q) (count_as_one q x)
      ∙ or_into (count_as_one q x) (is_member count_as_one seen q)
      (λ k. ap (λ y. is_member count_as_one seen y) ((decides_count_as_one q x).0 k) ∙ h));
}

-- some more, and then others
pub counted_none : (seen : List Counted) → AddsCounted seen seen []
counted_none seen = record { distinct = λ d. d; members = λ q. sym (or_false (is_member count_as_one seen q)) }

-- some more candidates, and then others
pub counted_then : (a b c xs ys : List Counted) → AddsCounted a b xs → AddsCounted b c ys → AddsCounted a c (xs ++ ys)
counted_then a b c xs ys h k = record {
  distinct = λ d. k.distinct (h.distinct d);
  members = λ q. k.members q ∙ ap (λ t. t || is_member count_as_one ys q) (h.members q)
      ∙ or_grouped (is_member count_as_one a q) (is_member count_as_one xs q) (is_member count_as_one ys q)
      ∙ ap (λ t. is_member count_as_one a q || t) (sym (list_any-append (count_as_one q) xs ys));
}

-- no CCE more
pub cces_none : (marks : List Bool) → AddsCces marks marks []
cces_none marks = record { known = λ q h. absurd (cc); marked = λ q m. sym (or_false (is_marked marks q)) }

-- some more CCEs, and then others
pub cces_then : (a b c : List Bool) (xs ys : List Cce) → AddsCces a b xs → AddsCces b c ys → AddsCces a c (xs ++ ys)
cces_then a b c xs ys h k = record {
  known =
      λ q e. elim (or_cases (is_member are_one_cce xs q) (is_member are_one_cce ys q)
      (sym (list_any-append (are_one_cce q) xs ys) ∙ e)) as (λ _. HasMark q) [
        | inl one ↦ h.known q one
        | inr other ↦ k.known q other
      ];
  marked = λ q m. k.marked q m ∙ ap (λ t. t || is_member are_one_cce ys q) (h.marked q m)
      ∙ or_grouped (is_marked a q) (is_member are_one_cce xs q) (is_member are_one_cce ys q)
      ∙ ap (λ t. is_marked a q || t) (sym (list_any-append (are_one_cce q) xs ys));
}

-- a mark is of one CCE
pub mark_once : (q r : Cce) → HasMark q → HasMark r → mark_of q.coreset q.symbol q.cce ≡ mark_of r.coreset r.symbol r.cce → q ≡ r
mark_once q r h k e =
    let a = h.symbol in let b = h.cce in let c = k.symbol in let d = k.cce in
    let rows : q.coreset * 14 + q.symbol ≡ r.coreset * 14 + r.symbol = omega (arith, b, d, e) in
    same_cce q r (omega (arith, rows, a, c), (omega (arith, rows, a, c), omega (arith, e, rows)))

marked_cases : (old new : List Bool) (p q : Cce) (b : Bool) → HasMark p → HasMark q → are_one_cce q p ≡ b
    → get_or new (mark_of p.coreset p.symbol p.cce) false ≡ true
    → ((i : ℕ) → i ≢ mark_of p.coreset p.symbol p.cce → get_or new i false ≡ get_or old i false)
    → is_marked new q ≡ (is_marked old q || (b || false))
marked_cases old new p q true h k e there others =
    ap (λ x. is_marked new x) ((decides_are_one_cce q p).0 e) ∙ there ∙ or_turned true (is_marked old q)
marked_cases old new p q false h k e there others =
    others (mark_of q.coreset q.symbol q.cce)
    (λ same. let t = (decides_are_one_cce q p).1 (mark_once q p k h same) in absurd (let f : true ≡ false = sym t ∙ e in cc))
    ∙ sym (or_false (is_marked old q))

-- one CCE more
pub one_marked : (old new : List Bool) (coreset symbol cce : ℕ) → coreset ≤ 11 → symbol < 14 → cce < marks_each
    → get_or new (mark_of coreset symbol cce) false ≡ true
    → ((i : ℕ) → i ≢ mark_of coreset symbol cce → get_or new i false ≡ get_or old i false)
    → AddsCces old new (record { coreset = coreset; symbol = symbol; cce = cce } ∷ [])
one_marked old new coreset symbol cce h k l there others = record {
  known = λ q e. let p : Cce = record { coreset = coreset; symbol = symbol; cce = cce } in
      let m : HasMark p = record { coreset = h; symbol = k; cce = l } in
      subst HasMark (sym ((decides_are_one_cce q p).0 (sym (or_false (are_one_cce q p)) ∙ e))) m;
  marked =
      λ q m. marked_cases old new (record { coreset = coreset; symbol = symbol; cce = cce }) q
      (are_one_cce q (record { coreset = coreset; symbol = symbol; cce = cce }))
      (record { coreset = h; symbol = k; cce = l }) m refl there others;
}

-- a range of CCEs with one more
pub range_marked : (old now next : List Bool) (coreset symbol start cce : ℕ) → start ≤ cce
    → AddsCces old now (cces_from coreset symbol start (cce - start))
    → AddsCces now next (record { coreset = coreset; symbol = symbol; cce = cce } ∷ [])
    → AddsCces old next (cces_from coreset symbol start (cce + 1 - start))
range_marked old now next coreset symbol start cce h a b =
    let at : ℕ → Cce = λ k. record { coreset = coreset; symbol = symbol; cce = k } in
    let n : cce + 1 - start ≡ cce - start + 1 = omega arith in
    subst (λ xs. AddsCces old next xs)
    (sym (ap (λ k. map at (range_with_len start k)) n ∙ map-range_with_len_more at start (cce - start) cce (omega arith)))
    (cces_then old now next (cces_from coreset symbol start (cce - start)) (at cce ∷ []) a b)

-- one candidate of a set more
pub counted_more : (old now next : List Counted) (f : Candidate → Counted) (cs : List Candidate) (i : ℕ) (d x : Candidate)
    → i < length cs → x ≡ get_or cs i d
    → AddsCounted old now (map f (take i cs)) → AddsCounted now next (f x ∷ []) → AddsCounted old next (map f (take (i + 1) cs))
counted_more old now next f cs i d x l e a b =
    subst (λ xs. AddsCounted old next xs)
    (sym (ap (map f) (take_more cs i d l) ∙ map-append f (take i cs) (get_or cs i d ∷ [])
    ∙ ap (λ y. map f (take i cs) ++ f y ∷ []) (sym e)))
    (counted_then old now next (map f (take i cs)) (f x ∷ []) a b)

-- the CCEs of one candidate of a set more
pub cces_more : (old now next : List Bool) (f : Candidate → List Cce) (cs : List Candidate) (i : ℕ) (d x : Candidate)
    → i < length cs → x ≡ get_or cs i d
    → AddsCces old now (flat_map f (take i cs)) → AddsCces now next (f x) → AddsCces old next (flat_map f (take (i + 1) cs))
cces_more old now next f cs i d x l e a b =
    subst (λ xs. AddsCces old next xs)
    (sym (ap (flat_map f) (take_more cs i d l) ∙ flat_map-append f (take i cs) (get_or cs i d ∷ [])
    ∙ ap (λ xs. flat_map f (take i cs) ++ xs) (append-nil (f (get_or cs i d))) ∙ ap (λ y. flat_map f (take i cs) ++ f y) (sym e)))
    (cces_then old now next (flat_map f (take i cs)) (f x) a b)

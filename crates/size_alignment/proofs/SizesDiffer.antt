-- The sizes of fallback and of the other formats differ.
use Rattle.std.proofs.Common.{◌≡◌, ◌≢◌, ℕ, ◌+◌, ◌<◌, ◌≤◌, Bool, true, false, inl, inr, cond, nat_eq, nat_le, List, []}
use Rattle.std.proofs.Common.{◌∷◌, Some, get_or, refl, ap, sym, subst, ◌∙◌, arith, eq-eqb}
use Rattle.std.specs.Set.{distinct_count}
use Rattle.std.proofs.lemmas.Bool.{cases_Bool, leb-false, eqb-true, eqb-false}
use Rattle.std.proofs.lemmas.Bool.Decides.{Decides-eqb}
use Rattle.std.proofs.lemmas.Map.Keys.{apart_from_distinct}
use Rattle.std.proofs.lemmas.Map.Made.{distinct_count-le, IsDistinct-from_count}
use Rattle.std.proofs.lemmas.Option.{same_Some}
use Rattle.list_facts.proofs.Tests.{true_not_false}
use Rattle.rrc_settings.specs.Equality.{equivalence_from_decides}
use Rattle.rrc_settings.specs.declared.settings.RawCell.{RawCell}
use Rattle.rrc_settings.specs.declared.settings.Handset.{Handset}
use Rattle.rrc_settings.specs.declared.settings.SetKind.TheVariants as kinds
use Rattle.dci_fields.specs.declared.formats.Format.TheVariants.{F01, F11}
use Rattle.dci_fields.specs.declared.formats.Widths.TheVariants.{Own}
use Rattle.dci_fields.specs.Alignment.{has_set, raw_size, common_size, fallback_size, where_monitored, told_apart}
use Rattle.dci_fields.specs.Alignment.{sizes_there, sizes_apart, are_few, sizes_joined, sizes_of}

-- a size that is there is monitored
monitored_by : (b : Bool) (size n : ℕ) → where_monitored b size ≡ Some n → (b ≡ true) × (size ≡ n)
monitored_by true size n e = (refl, same_Some size n e)
monitored_by false size n e = cc

-- the zero tells the sizes apart
told : (fallback size : ℕ) → told_apart true fallback size ≢ fallback
told fallback size e =
    elim (cases_Bool (nat_eq size fallback)) [
      | inl same ↦
          let is : told_apart true fallback size ≡ size + 1 = ap (λ (b : Bool). cond b (size + 1) size) same in
          omega (arith, eqb-true size fallback same, is, e)
      | inr other ↦
          let is : told_apart true fallback size ≡ size = ap (λ (b : Bool). cond b (size + 1) size) other in
          let differ : nat_eq size fallback ≡ true = eq-eqb size fallback (sym is ∙ e) in
          true_not_false (nat_eq size fallback) differ other
    ]

-- how many different sizes there are
abbrev count_of : Bool → ℕ → ℕ → ℕ → ℕ → ℕ
count_of monitored c f u d = distinct_count nat_eq (sizes_there (where_monitored monitored c ∷ Some f ∷ Some u ∷ Some d ∷ []))

-- of four different sizes none is the first again
first_apart : (c f u d : ℕ) → 3 < distinct_count nat_eq (c ∷ f ∷ u ∷ d ∷ []) → (j : ℕ) → 0 < j → j < 4
    → nat_eq c (get_or (c ∷ f ∷ u ∷ d ∷ []) j 0) ≡ false
first_apart c f u d many j later within =
    let sizes : List ℕ = c ∷ f ∷ u ∷ d ∷ [] in
    let most : distinct_count nat_eq sizes ≤ 4 = distinct_count-le nat_eq sizes in
    let distinct = IsDistinct-from_count (equivalence_from_decides Decides-eqb) sizes (omega (arith, many, most)) in
    apart_from_distinct nat_eq sizes 0 j 0 distinct later within

-- where there are four, a common set is monitored, and its size is none of the others
common_apart : (monitored : Bool) (c f u d : ℕ) → nat_le (count_of monitored c f u d) 3 ≡ false → (c ≢ f) × (c ≢ u) × (c ≢ d)
common_apart true c f u d h =
    let apart = first_apart c f u d (leb-false (count_of true c f u d) 3 h) in (
      eqb-false c f (apart 1 (omega arith) (omega arith)),
      eqb-false c u (apart 2 (omega arith) (omega arith)),
      eqb-false c d (apart 3 (omega arith) (omega arith)),
    )
common_apart false c f u d h =
    absurd (omega (arith, leb-false (count_of false c f u d) 3 h, distinct_count-le nat_eq (f ∷ u ∷ d ∷ [])))

-- a size that differs from that of fallback and from the one that was told apart from it differs from the raw one
raw_apart : (c f size : ℕ) → c ≢ f → c ≢ told_apart true f size → c ≢ size
raw_apart c f size first second e =
    elim (cases_Bool (nat_eq size f)) [
      | inl same ↦ first (e ∙ eqb-true size f same)
      | inr other ↦ second (e ∙ sym (ap (λ (b : Bool). cond b (size + 1) size) other))
    ]

-- the sizes of fallback and of another format, after the first three steps
apart_differ : (monitored specific : Bool) (f size fallback other : ℕ) → where_monitored monitored f ≡ Some fallback
    → where_monitored specific (told_apart monitored f size) ≡ Some other → fallback ≢ other
apart_differ monitored specific f size fallback other e g same =
    let first = monitored_by monitored f fallback e in
    let second = monitored_by specific (told_apart monitored f size) other g in
    told f size (ap (λ (b : Bool). told_apart b f size) (sym first.0) ∙ second.1 ∙ sym same ∙ sym first.1)

-- and those after the fourth
joined_differ : (common monitored specific : Bool) (c f u d fallback other : ℕ)
    → nat_le (distinct_count nat_eq (sizes_there
    (where_monitored common c ∷ where_monitored monitored f
    ∷ where_monitored specific (told_apart monitored f u) ∷ where_monitored specific (told_apart monitored f d) ∷ []))) 3 ≡ false
    → where_monitored monitored c ≡ Some fallback
    → (where_monitored specific u ≡ Some other → fallback ≢ other) × (where_monitored specific d ≡ Some other → fallback ≢ other)
joined_differ common false specific c f u d fallback other h e = cc
joined_differ common true false c f u d fallback other h e = ((λ g. cc), (λ g. cc))
joined_differ common true true c f u d fallback other h e =
    let parts = common_apart common c f (told_apart true f u) (told_apart true f d) h in
    let is : c ≡ fallback = same_Some c fallback e in (
      (λ g same. raw_apart c f u parts.0 parts.1 (is ∙ same ∙ sym (same_Some u other g))),
      (λ g same. raw_apart c f d parts.0 parts.2 (is ∙ same ∙ sym (same_Some d other g))),
    )

-- formats of fallback and the others have different sizes
pub sizes_differ : (cell : RawCell) (handset : Handset) (fallback other : ℕ) → (sizes_of cell handset).fallback ≡ Some fallback
    → ((sizes_of cell handset).up ≡ Some other → fallback ≢ other)
    × ((sizes_of cell handset).down ≡ Some other → fallback ≢ other)
unfolding sizes_of
sizes_differ cell handset fallback other =
    let P : Bool → Type 0 = λ b.
    (cond b (sizes_apart cell handset) (sizes_joined cell handset)).fallback ≡ Some fallback
    → ((cond b (sizes_apart cell handset) (sizes_joined cell handset)).up ≡ Some other → fallback ≢ other)
    × ((cond b (sizes_apart cell handset) (sizes_joined cell handset)).down ≡ Some other → fallback ≢ other)
    in
    elim (cases_Bool (are_few (sizes_apart cell handset))) [
      | inl few ↦ subst P (sym few) (λ e. (
        apart_differ (has_set handset kinds.Fallback) (has_set handset kinds.Specific) (fallback_size cell handset)
            (raw_size cell handset F01 Own) fallback other e,
        apart_differ (has_set handset kinds.Fallback) (has_set handset kinds.Specific) (fallback_size cell handset)
            (raw_size cell handset F11 Own) fallback other e,
      ))
      | inr many ↦ subst P (sym many)
          (joined_differ (has_set handset kinds.Common) (has_set handset kinds.Fallback) (has_set handset kinds.Specific)
          (common_size cell handset)
          (fallback_size cell handset) (raw_size cell handset F01 Own) (raw_size cell handset F11 Own) fallback other many)
    ]

-- What the checks of a search space set say.
use Rattle.std.proofs.Common.{◌≡◌, ℕ, zero, suc, ◌+◌, ◌<◌, ◌≤◌, ◌⊎◌, Bool, true, false, not, ◌&&◌, ◌||◌, List, [], ◌∷◌}
use Rattle.std.proofs.Common.{Option, None, Some}
use Rattle.std.proofs.Common.{length, get_or, inl, inr, IsSome, is_none, unwrap_or, slice_index, nat_eq}
use Rattle.std.proofs.Common.{nat_lt, nat_le, refl, arith}
use Rattle.std.specs.List.{list_any, list_all, range_with_len}
use Rattle.std.proofs.lemmas.Bool.{and_parts, and_cases, or_parts, eqb-true, leb-false, ltb-false, lt-ltb}
use Rattle.std.proofs.lemmas.Bool.{not-false}
use Rattle.std.proofs.lemmas.List.FromFn.{length-range_with_len, get_or-range_with_len}
use Rattle.rrc_settings.specs.Faults.{Steps, unless, fault_at, ◌▸◌}
use Rattle.rrc_settings.specs.Table.{is_period, is_candidate_count, set_table, set_ranges}
use Rattle.rrc_settings.specs.AggregationLevels.{level_at}
use Rattle.rrc_settings.specs.BitSets.{has_bit}
use Rattle.rrc_settings.specs.ControlGroups.{cces_of}
use Rattle.rrc_settings.specs.SetKinds.{is_common, is_specific}
use Rattle.rrc_settings.specs.HandsetsOfCell.{no_coreset, coreset_numbered, coreset_of}
use Rattle.rrc_settings.specs.Conflicts.{holds_if_given, ends_after_slot, asks_above, set_checks, set_conflicts}
use Rattle.rrc_settings.specs.LegalCell.{IsLegalSearchSet}
use Rattle.rrc_settings.specs.declared.words.Key.TheVariants as keys
use Rattle.rrc_settings.specs.declared.place.Reason.TheVariants as reasons
use Rattle.rrc_settings.specs.declared.settings.Coreset.{Coreset}
use Rattle.rrc_settings.specs.declared.settings.SearchSet.{SearchSet}
use Rattle.rrc_settings.specs.declared.settings.Handset.{Handset}
use Rattle.rrc_settings.proofs.NoFault.{unless_none}
use Rattle.rrc_settings.proofs.ByKey.{range_by_key, check_by_key, range_passes, range_from_to, conflict_none}
use Rattle.rrc_settings.proofs.GroupTests.{none_passes_at}
use Rattle.rrc_settings.proofs.LegalFields.{one_of_most, above_zero}

-- a value that is not absent is there
there_is : {A : Type 0} (x : Option A) → is_none x ≡ false → IsSome x
there_is None e = cc
there_is (Some x) e = refl

-- a test that does not hold of a CORESET that is there
fails_there : (test : Coreset → Bool) (c : Option Coreset) → IsSome c → holds_if_given test c ≡ false
    → test (unwrap_or c no_coreset) ≡ false
fails_there test None s e = cc
fails_there test (Some c) s e = e

-- where no number below n passes two tests and one of them passes the first, it fails the second
none_of_both : (first second : ℕ → Bool) (n : ℕ) → list_any (λ j. first j && second j) (range_with_len 0 n) ≡ false
    → (i : ℕ) → i < n → first i ≡ true → second i ≡ false
none_of_both first second n none i l is =
    let at : get_or (range_with_len 0 n) i 0 ≡ 0 + i = get_or-range_with_len 0 n i 0 l in
    let same : 0 + i ≡ i = omega arith in
    let count = length-range_with_len 0 n in
    let within : i < length (range_with_len 0 n) = omega (arith, count, l) in
    let here = none_passes_at (λ (j : ℕ). first j && second j) (range_with_len 0 n) none i 0 within in
    rw is at (rw (at, same) at here)

-- numbers of candidates that a level may have are at most eight
few_counts : (counts : List ℕ) → list_all is_candidate_count counts ≡ true → (i : ℕ) → slice_index counts i ≤ 8
few_counts [] are i = omega arith
few_counts (n ∷ ns) are zero =
    one_of_most 8 n (0 ∷ 1 ∷ 2 ∷ 3 ∷ 4 ∷ 5 ∷ 6 ∷ 8 ∷ []) refl
    (and_parts (is_candidate_count n) (list_all is_candidate_count ns) are).0
few_counts (n ∷ ns) are (suc i) = few_counts ns (and_parts (is_candidate_count n) (list_all is_candidate_count ns) are).1 i

-- levels that are asked for fit
levels_fit : (cces : ℕ) (candidates : List ℕ) → asks_above cces candidates ≡ false → (i : ℕ) → i < 5
    → 0 < slice_index candidates i → level_at i ≤ cces
unfolding asks_above
levels_fit cces candidates none i l some =
    ltb-false cces (level_at i)
    (none_of_both (λ j. nat_lt 0 (slice_index candidates j)) (λ j. nat_lt cces (level_at j)) 5 none i l
    (lt-ltb 0 (slice_index candidates i) some))

-- symbols at which a CORESET begins end with the slot
symbols_end : (duration symbols : ℕ) → ends_after_slot duration symbols ≡ false → (y : ℕ) → y < 16
    → has_bit symbols y ≡ true → y + duration ≤ 14
unfolding ends_after_slot
symbols_end duration symbols none y l some =
    ltb-false 14 (y + duration) (none_of_both (λ j. has_bit symbols j) (λ j. nat_lt 14 (j + duration)) 16 none y l some)

-- a duration is one slot or below the period
short_duration : (duration period : ℕ) → 1 ≤ duration → (nat_lt 1 duration && nat_le period duration) ≡ false
    → (duration ≡ 1) ⊎ (duration < period)
short_duration duration period least e =
    elim (and_cases (nat_lt 1 duration) (nat_le period duration) e) [
      | inl one ↦ inl (let h = ltb-false 1 duration one in omega (arith, h, least))
      | inr below ↦ inr (let h = leb-false period duration below in omega (arith, h))
    ]

-- both of two values that are not absent are there
both_there : {A B : Type 0} (x : Option A) (y : Option B) → (is_none x || is_none y) ≡ false
    → IsSome x × IsSome y
both_there x y e = let (first, second) = or_parts (is_none x) (is_none y) e in (there_is x first, there_is y second)

-- the numbers of candidates of a set whose ranges find no fault
counts_pass : (at : Steps) (s : SearchSet)
    → unless (fault_at (at ▸ keys.Candidates) reasons.OutOfRange) (list_all is_candidate_count s.candidates) ≡ None
    → list_all is_candidate_count s.candidates ≡ true
counts_pass at s e = unless_none (fault_at (at ▸ keys.Candidates) reasons.OutOfRange) (list_all is_candidate_count s.candidates) e

-- a search space set
pub legal_set : (h : Handset) (earlier : List SearchSet) (at there : Steps) (s : SearchSet) → set_ranges at s ≡ None
    → set_conflicts h earlier there s ≡ None → IsLegalSearchSet h s
unfolding set_ranges set_conflicts
legal_set h earlier at there s e g =
    let c = coreset_numbered s.coreset h.coresets.items in
    let checks = set_checks h earlier there s in
    let number = range_from_to at keys.Number 1 39 s.number (range_by_key set_table keys.Number at s e) in
    let coreset = range_from_to at keys.Coreset 1 11 s.coreset (range_by_key set_table keys.Coreset at s e) in
    let duration = range_from_to at keys.Duration 1 2559 s.duration (range_by_key set_table keys.Duration at s e) in
    let counts = counts_pass at s (range_by_key set_table keys.Candidates at s e) in
    let late = λ (x : Coreset). ends_after_slot x.duration s.symbols in
    let above = λ (x : Coreset). asks_above (cces_of x) s.candidates in
    let lacks = is_none h.uplink_fields || is_none h.downlink_fields in
    let found = there_is c (conflict_none there keys.Coreset (is_none c) (check_by_key checks keys.Coreset g)) in
    let offset = leb-false s.period s.offset
    (conflict_none there keys.Offset (nat_le s.period s.offset) (check_by_key checks keys.Offset g)) in
    let (some, ends) = or_parts (nat_eq s.symbols 0) (holds_if_given late c)
    (conflict_none there keys.Symbols (nat_eq s.symbols 0 || holds_if_given late c) (check_by_key checks keys.Symbols g)) in
    let asked = conflict_none there keys.Candidates (holds_if_given above c) (check_by_key checks keys.Candidates g) in
    let base = conflict_none there keys.Base (is_common s.kind && not (nat_eq s.base 0)) (check_by_key checks keys.Base g) in
    let kind = conflict_none there keys.Kind (is_specific s.kind && lacks) (check_by_key checks keys.Kind g) in
    record {
      number_least = number.0;
      number_most = number.1;
      coreset_least = coreset.0;
      coreset_most = coreset.1;
      period = range_passes at keys.Period is_period s.period (range_by_key set_table keys.Period at s e);
      period_least = omega (arith, offset);
      offset = offset;
      duration_least = duration.0;
      duration = short_duration s.duration s.period duration.0
          (conflict_none there keys.Duration (nat_lt 1 s.duration && nat_le s.period s.duration)
          (check_by_key checks keys.Duration g));
      some_symbols = above_zero s.symbols some;
      counts_are = counts;
      counts = few_counts s.candidates counts;
      base_most = (range_from_to at keys.Base 0 65535 s.base (range_by_key set_table keys.Base at s e)).1;
      base = λ common. eqb-true s.base 0 (not-false (nat_eq s.base 0) (rw common at base));
      found = found;
      asked = levels_fit (cces_of (coreset_of h s)) s.candidates (fails_there above c found asked);
      ends = symbols_end (coreset_of h s).duration s.symbols (fails_there late c found ends);
      fields = λ specific. both_there h.uplink_fields h.downlink_fields (rw specific at kind);
    }

-- Each known place of the word is sent, or is 0 with all that follow it.
use Rattle.std.proofs.Common.{ℕ, ◌≡◌, ◌-◌, ◌*◌, ◌<◌, ◌≤◌, ap, refl, sym, ◌∙◌, arith, inl, inr, ◌⊎◌}
use Rattle.std.proofs.Math.Nat.{mod-eq_of_lt}
use Rattle.std.proofs.lemmas.Bool.{cases_lt}
use Rattle.rate_match.specs.RateMatching.{matching, sent_place}
use Rattle.rate_match.specs.declared.matching.Matching.{Matching}
use Rattle.rate_match.specs.declared.matching.Matching.TheVariants.{Repeated, Shortened}
use Rattle.rate_match.proofs.Sent.{matching_punctured, matching-repeated, matching_shortened, sent_below, sent_punctured}
use Rattle.rate_match.proofs.Sent.{sent_repeated, sent_shortened}
use Rattle.polar_chain.specs.KnownPlaces.{IsKnown, first_by, first_known}

-- with repetition all places are known
pub known_repeated : (n k e : ℕ) → n ≤ e → first_known n k e ≡ 0
unfolding first_known
known_repeated n k e h = rw (matching-repeated n k e h) refl

-- with puncturing those behind the places left out
pub known_punctured : (n k e : ℕ) → e < n → 16 * k ≤ 7 * e → first_known n k e ≡ n - e
unfolding first_known
known_punctured n k e h g = rw (matching_punctured n k e h g) refl

-- with shortening all
pub known_shortened : (n k e : ℕ) → e < n → 7 * e < 16 * k → first_known n k e ≡ 0
unfolding first_known
known_shortened n k e h g = rw (matching_shortened n k e h g) refl

-- so all are known where none are left out from the front
pub known_all : (n k e : ℕ) (way : Matching) → way ≡ matching n k e → (way ≡ Repeated) ⊎ (way ≡ Shortened) → first_known n k e ≡ 0
unfolding first_known
known_all n k e way is either =
    ap (λ (w : Matching). first_by w n e) (sym is)
    ∙ elim either [
      | inl r ↦ ap (λ (w : Matching). first_by w n e) r
      | inr s ↦ ap (λ (w : Matching). first_by w n e) s
    ]

-- a place that some coded bit has
pub record IsSent (n k e m : ℕ) : Type 0 where
  pub bit : ℕ
  pub within : bit < e
  pub place_is : sent_place n k e bit ≡ m

-- no place from m on is sent
pub record IsUnsentFrom (n k e m : ℕ) : Type 0 where
  pub none : (i : ℕ) → i < e → m ≤ sent_place n k e i → ⊥

-- what is sent is known
pub known_of_sent : (n k e i : ℕ) → 0 < n → i < e → IsKnown n k e (sent_place n k e i)
known_of_sent n k e i z l = record {
  from =
      elim (cases_lt e n) [
        | inl short ↦ elim (cases_lt (7 * e) (16 * k)) [
          | inl g ↦ (let f = known_shortened n k e short g in omega arith)
          | inr g ↦
              let s = sent_punctured n k e i short g in
              let f = known_punctured n k e short g in
              omega arith
        ]
        | inr long ↦ (let f = known_repeated n k e long in omega arith)
      ];
  below = sent_below n k e i z l;
}

-- a known place is sent, or no place from it on is
pub sent_or_not : (n k e m : ℕ) → IsKnown n k e m → IsSent n k e m ⊎ IsUnsentFrom n k e m
sent_or_not n k e m q =
    let below = q.below in
    let from = q.from in
    elim (cases_lt e n) [
      | inl short ↦ elim (cases_lt (7 * e) (16 * k)) [
        | inl g ↦ elim (cases_lt m e) [
          | inl l ↦ inl (record { bit = m; within = l; place_is = sent_shortened n k e m short g })
          | inr past ↦ inr (record { none = λ i l h. absurd (let s = sent_shortened n k e i short g in omega arith) })
        ]
        | inr g ↦
            let f = known_punctured n k e short g in
            let s = sent_punctured n k e (m - (n - e)) short g in
            inl (record { bit = m - (n - e); within = omega arith; place_is = s ∙ omega arith })
      ]
      | inr long ↦ inl (record { bit = m; within = omega arith; place_is = sent_repeated n k e m long ∙ mod-eq_of_lt below })
    ]

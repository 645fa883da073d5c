-- Bits that are sent twice.
use Rattle.std.proofs.Common.{ℕ, ◌≡◌, ◌%◌, ◌<◌, ◌≤◌, Bool, List, length, inl, inr, ap, sym, ◌∙◌, arith}
use Rattle.std.proofs.lemmas.Bool.{cases_lt}
use Rattle.std.proofs.Math.Nat.{mod-eq_of_lt, mod-lt}
use Rattle.rate_match.specs.SubblockOrder.{position_at}
use Rattle.rate_match.specs.RateMatching.{selected}
use Rattle.rate_match.specs.Repeats.{IsFirstDiffering, RepeatsBelow}
use Rattle.rate_match.proofs.Selected.{bit_of-selected, length-selected}
use Rattle.rate_match.proofs.Sent.{sent_repeated}

-- those of a word repeat its first bits
pub selected_repeats : (n k e : ℕ) (d : ℕ → Bool) → 0 < n → RepeatsBelow n (selected n k e d) e
selected_repeats n k e d h i l b =
    let m : i % n < n = mod-lt i h in
    let more : n ≤ e = omega arith in
    bit_of-selected n k e d i b
    ∙ ap (λ (x : ℕ). d (position_at n x))
    (sent_repeated n k e i more ∙ sym (mod-eq_of_lt m) ∙ sym (sent_repeated n k e (i % n) more))
    ∙ sym (bit_of-selected n k e d (i % n) (omega arith))

-- bits all of which repeat have none that differs
pub none_differs : (n : ℕ) (bits : List Bool) (at : ℕ) → RepeatsBelow n bits (length bits) → IsFirstDiffering n bits at → ⊥
none_differs n bits at same h = h.differs (same at h.repeats h.within)

-- nor have those of a word
pub selected_none_differs : (n k e : ℕ) (d : ℕ → Bool) (at : ℕ) → 0 < n → IsFirstDiffering n (selected n k e d) at → ⊥
selected_none_differs n k e d at h first =
    let long = length-selected n k e d in
    let within = first.within in
    first.differs (selected_repeats n k e d h at first.repeats (omega arith))

-- only one bit is the first that differs
pub one_differing : (n : ℕ) (bits : List Bool) (a b : ℕ) → IsFirstDiffering n bits a → IsFirstDiffering n bits b → a ≡ b
one_differing n bits a b h g =
    elim (cases_lt a b) [
      | inl l ↦ absurd (h.differs (g.before a h.repeats l))
      | inr m ↦ elim (cases_lt b a) [
        | inl l ↦ absurd (g.differs (h.before b g.repeats l))
        | inr l ↦ omega arith
      ]
    ]

-- Both registers, step by step.
use Rattle.std.proofs.Common.{◌≡◌, ℕ, ◌+◌, ◌%◌, ◌^◌, ◌<◌, eqb, not, sym, ◌∙◌, ap, refl, subst, arith, add-one}
use Rattle.bits_core.specs.Bits.{plus}
use Rattle.gold_scrambler.specs.Gold.{next1, next2, state1, state2, x1, x2, gold}
use Rattle.gold_scrambler.specs.Standing.{AreStates, IsStanding}
use Rattle.gold_scrambler.proofs.Parities.{differ_odd}

-- the first register one step on
pub state1_more : (n : ℕ) → state1 (n + 1) ≡ next1 (state1 n)
unfolding state1
state1_more n = rw add-one refl

-- the second register one step on
pub state2_more : (c n : ℕ) → state2 c (n + 1) ≡ next2 (state2 c n)
unfolding state2
state2_more c n = rw add-one refl

-- one step of both registers
pub step_more : (c n first second first' second' : ℕ) → AreStates c n first second
    → first' ≡ next1 first → second' ≡ next2 second → first' < 2 ^ 31 → second' < 2 ^ 31 → AreStates c (n + 1) first' second'
step_more c n first second first' second' h e f s t = record {
  first_is = e ∙ ap next1 h.first_is ∙ sym (state1_more n);
  second_is = f ∙ ap next2 h.second_is ∙ sym (state2_more c n);
  first_small = s;
  second_small = t;
}

-- the bit that the registers give
pub bit_here : (c n first second : ℕ) → IsStanding c n first second → not (eqb (first % 2) (second % 2)) ≡ gold c n
unfolding gold x1 x2
bit_here c n first second h =
    differ_odd first second
    ∙ ap (λ x. plus (eqb (x % 2) 1) (eqb (second % 2) 1)) h.states.first_is
    ∙ ap (λ x. plus (eqb (state1 (n + 1600) % 2) 1) (eqb (x % 2) 1)) h.states.second_is

-- the registers one bit on
pub standing_more : (c n first second first' second' : ℕ) → IsStanding c n first second → n < 2 ^ 30
    → first' ≡ next1 first → second' ≡ next2 second → first' < 2 ^ 31 → second' < 2 ^ 31 → IsStanding c (n + 1) first' second'
standing_more c n first second first' second' h w e f s t =
    let later : n + 1600 + 1 ≡ n + 1 + 1600 = omega arith in
    record {
      states =
          subst (λ m. AreStates c m first' second') later (step_more c (n + 1600) first second first' second' h.states e f s t);
      start = h.start;
      within = omega arith;
    }

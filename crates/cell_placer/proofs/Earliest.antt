-- The grant that is named as in the way is the earliest one.
use Rattle.std.proofs.Common.{◌≡◌, ℕ, zero, suc, ◌+◌, ◌<◌, ◌≤◌, Bool, true, false, cond, List, [], ◌∷◌, Some}
use Rattle.std.proofs.Common.{option_map, find, length, get_or, refl, sym, ◌∙◌, arith}
use Rattle.cell_placer.specs.declared.member.Accepted.{Accepted}
use Rattle.cell_placer.specs.Ledger.{AreCalls}
use Rattle.cell_placer.specs.Fate.{meets}
use Rattle.cell_placer.specs.Earliest.{NamesTheEarliest}
use Rattle.cell_placer.proofs.Calls.{first_call}

same_number : (a b : ℕ) → Some a ≡ Some b → a ≡ b
same_number a b e = cc

-- each call is at least the least one
calls_above : (low last : ℕ) (accepted : List Accepted) (k : ℕ) (d : Accepted) → AreCalls low last accepted → k < length accepted
    → low ≤ (get_or accepted k d).call
calls_above low last [] k d calls h = absurd (omega (arith, h))
calls_above low last (x ∷ later) zero d calls h = calls.0
calls_above low last (x ∷ later) (suc k) d calls h =
    let above = calls_above (x.call + 1) last later k d calls.1 (omega (arith, h)) in let least = calls.0 in
    omega (arith, above, least)

-- the first that passes a test has the least call of those that do
pub first_least : (p : Accepted → Bool) (low last : ℕ) (accepted : List Accepted) (n k : ℕ) (d : Accepted)
    → AreCalls low last accepted
    → first_call p accepted ≡ Some n → k < length accepted → p (get_or accepted k d) ≡ true → n ≤ (get_or accepted k d).call
first_least p low last [] n k d calls e h t = absurd (omega (arith, h))
first_least p low last (x ∷ later) n k d calls e h t =
    by (p x) refl k e h t (λ j f g u. first_least p (x.call + 1) last later n j d calls.1 f g u)
    (λ j g. calls_above (x.call + 1) last later j d calls.1 g)
  where
    by : (b : Bool) → p x ≡ b → (k : ℕ) → option_map (λ (a : Accepted). a.call) (cond b (Some x) (find p later)) ≡ Some n
        → k < length (x ∷ later)
        → p (get_or (x ∷ later) k d) ≡ true
        → ((j : ℕ) → first_call p later ≡ Some n → j < length later → p (get_or later j d) ≡ true → n ≤ (get_or later j d).call)
        → ((j : ℕ) → j < length later → x.call + 1 ≤ (get_or later j d).call) → n ≤ (get_or (x ∷ later) k d).call
    by true f zero e h t rest above = let same : x.call ≡ n = same_number x.call n e in omega (arith, same)
    by true f (suc k) e h t rest above =
        let same : x.call ≡ n = same_number x.call n e in let more = above k (omega (arith, h)) in omega (arith, same, more)
    by false f zero e h t rest above = absurd (let clash : false ≡ true = sym f ∙ t in let g : ⊥ = cc in g)
    by false f (suc k) e h t rest above = rest k e (omega (arith, h)) t

-- the law: no grant in the way is earlier than the one that is named
pub names_the_earliest : NamesTheEarliest
names_the_earliest ledger w n k d keeps e h t =
    first_least (meets ledger.members w) 0 ledger.calls ledger.accepted n k d keeps.calls e h t

-- Calls that rise, and the first one that passes a test.
use Rattle.std.proofs.Common.{◌≡◌, ℕ, ◌+◌, ◌<◌, ◌≤◌, Bool, true, false, ◌||◌, nat_lt, cond, List, [], ◌∷◌, ◌++◌, Option}
use Rattle.std.proofs.Common.{Some, None, option_map, find, refl, ap, ◌∙◌, arith}
use Rattle.std.proofs.lemmas.Bool.{ltb-true, ltb-false}
use Rattle.cell_placer.specs.declared.member.Accepted.{Accepted}
use Rattle.cell_placer.specs.Ledger.{AreCalls}
use Rattle.cell_placer.specs.Owners.{least}

-- the call of the first one that passes a test
abbrev pub first_call : (Accepted → Bool) → List Accepted → Option ℕ
first_call p accepted = option_map (λ (a : Accepted). a.call) (find p accepted)

-- calls below a number are below the next one
pub calls_more : (low last : ℕ) (accepted : List Accepted) → AreCalls low last accepted → AreCalls low (last + 1) accepted
calls_more low last [] h = omega (arith, h)
calls_more low last (a ∷ later) h = (h.0, calls_more (a.call + 1) last later h.1)

-- and one more call may come behind them
pub calls-add : (low last : ℕ) (accepted : List Accepted) (a : Accepted) → a.call ≡ last → AreCalls low last accepted
    → AreCalls low (last + 1) (accepted ++ a ∷ [])
calls-add low last [] a e h = (omega (arith, e, h), omega (arith, e))
calls-add low last (x ∷ later) a e h = (h.0, calls-add (x.call + 1) last later a e h.1)

below : (m n : ℕ) → m ≤ n → nat_lt n m ≡ false
below m n h = by (nat_lt n m) refl
  where
    by : (b : Bool) → nat_lt n m ≡ b → b ≡ false
    by false e = refl
    by true e = absurd (omega (arith, ltb-true n m e, h))

-- a call before all of them is the least
least_before : (c low last : ℕ) (q : Accepted → Bool) (accepted : List Accepted) → c < low → AreCalls low last accepted
    → least (Some c) (first_call q accepted) ≡ Some c
least_before c low last q [] h calls = refl
least_before c low last q (x ∷ later) h calls =
    by (q x) (least_before c (x.call + 1) last q later (let k = calls.0 in omega (arith, h, k)) calls.1)
  where
    by : (b : Bool) → least (Some c) (first_call q later) ≡ Some c
        → least (Some c) (option_map (λ (a : Accepted). a.call) (cond b (Some x) (find q later))) ≡ Some c
    by true e = ap (λ t. Some (cond t x.call c)) (below c x.call (let k = calls.0 in omega (arith, h, k)))
    by false e = e

least_behind : (c low last : ℕ) (p : Accepted → Bool) (accepted : List Accepted) → c < low → AreCalls low last accepted
    → least (first_call p accepted) (Some c) ≡ Some c
least_behind c low last p [] h calls = refl
least_behind c low last p (x ∷ later) h calls =
    by (p x) (least_behind c (x.call + 1) last p later (let k = calls.0 in omega (arith, h, k)) calls.1)
  where
    above : (m n : ℕ) → m < n → nat_lt m n ≡ true
    above m n k = decide (nat_lt m n) refl
      where
        decide : (b : Bool) → nat_lt m n ≡ b → b ≡ true
        decide true e = refl
        decide false e = absurd (omega (arith, ltb-false m n e, k))

    by : (b : Bool) → least (first_call p later) (Some c) ≡ Some c
        → least (option_map (λ (a : Accepted). a.call) (cond b (Some x) (find p later))) (Some c) ≡ Some c
    by true e = ap (λ t. Some (cond t c x.call)) (above c x.call (let k = calls.0 in omega (arith, h, k)))
    by false e = e

same_least : (c : ℕ) → least (Some c) (Some c) ≡ Some c
same_least c = by (nat_lt c c)
  where
    by : (b : Bool) → ◌≡◌ {A = Option ℕ} (Some (cond b c c)) (Some c)
    by true = refl
    by false = refl

-- the least of the first calls that pass two tests is the first that passes either
pub either_first : (p q : Accepted → Bool) (low last : ℕ) (accepted : List Accepted) → AreCalls low last accepted
    → least (first_call p accepted) (first_call q accepted) ≡ first_call (λ a. p a || q a) accepted
either_first p q low last [] calls = refl
either_first p q low last (x ∷ later) calls = by (p x) (q x) (either_first p q (x.call + 1) last later calls.1)
  where
    call_of : Option Accepted → Option ℕ
    call_of o = option_map (λ (a : Accepted). a.call) o

    by : (b c : Bool) → least (first_call p later) (first_call q later) ≡ first_call (λ a. p a || q a) later
        → least (option_map (λ (a : Accepted). a.call) (cond b (Some x) (find p later)))
        (option_map (λ (a : Accepted). a.call) (cond c (Some x) (find q later)))
        ≡ option_map (λ (a : Accepted). a.call) (cond (b || c) (Some x) (find (λ a. p a || q a) later))
    by true true e = same_least x.call
    by true false e = least_before x.call (x.call + 1) last q later (omega arith) calls.1
    by false true e = least_behind x.call (x.call + 1) last p later (omega arith) calls.1
    by false false e = e

-- tests that are alike find alike
pub find_alike : (p q : Accepted → Bool) (accepted : List Accepted) → ((a : Accepted) → p a ≡ q a)
    → find p accepted ≡ find q accepted
find_alike p q [] h = refl
find_alike p q (x ∷ later) h =
    ap (λ b. cond b (Some x) (find p later)) (h x) ∙ ap (λ o. cond (q x) (Some x) o) (find_alike p q later h)

-- nothing passes a test that is never passed
pub find_none : (p : Accepted → Bool) (accepted : List Accepted) → ((a : Accepted) → p a ≡ false) → find p accepted ≡ None
find_none p [] h = refl
find_none p (x ∷ later) h = ap (λ b. cond b (Some x) (find p later)) (h x) ∙ find_none p later h

-- where nothing passes a test, nothing passes a narrower one
pub find_narrower : (p q : Accepted → Bool) (accepted : List Accepted) → ((a : Accepted) → q a ≡ true → p a ≡ true)
    → first_call p accepted ≡ None → find q accepted ≡ None
find_narrower p q [] h e = refl
find_narrower p q (x ∷ later) h e = by (p x) (q x) (h x) e (find_narrower p q later h)
  where
    by : (b c : Bool) → (c ≡ true → b ≡ true) → option_map (λ (a : Accepted). a.call) (cond b (Some x) (find p later)) ≡ None
        → (first_call p later ≡ None → find q later ≡ None) → cond c (Some x) (find q later) ≡ None
    by true c k n rest = absurd (let f : ⊥ = cc in f)
    by false true k n rest = absurd (let f : ⊥ = (let g : false ≡ true = k refl in cc) in f)
    by false false k n rest = rest n

-- What is known of the watches of a handset that suit a grant.
use Rattle.std.proofs.Common.{◌≡◌, ℕ, zero, suc, ◌+◌, ◌<◌, ◌≤◌, Bool, true, false, ◌&&◌, cond, List, [], ◌∷◌, Some, length, get_or, drop}
use Rattle.std.proofs.Common.{ap, sym, ◌∙◌, arith}
use Rattle.std.specs.Prelude.{◌==◌, position}
use Rattle.std.specs.List.{position_from}
use Rattle.std.proofs.lemmas.Iterator.Adapters.{position_from-zero}
use Rattle.std.proofs.lemmas.Bool.{and_parts, eqb-true}
use Rattle.std.proofs.lemmas.List.Quantifiers.{position-Some}
use Rattle.monitor_plan.specs.declared.watch.Watch.{Watch}
use Rattle.monitor_plan.specs.Watch.{fits, no_watch, watch_at}
use Rattle.grant_file.specs.declared.grants.Grant.{Grant}
use Rattle.cell_placer.specs.Suitable.{is_asked, is_suitable}

-- a suitable watch is of the set, and the format fits it
pub record Suits (grant : Grant) (w : Watch) : Type 0 where
  pub set : w.set ≡ grant.set
  pub fitting : fits w grant.format ≡ true

-- so it is with each that passes the test
pub suits : (grant : Grant) (w : Watch) → is_suitable grant w ≡ true → Suits grant w
suits grant w e =
    let asked = is_asked grant.candidate w.candidate && is_asked grant.symbol w.symbol in
    let a = and_parts (w.set == grant.set) (w.level == grant.level && (fits w grant.format && asked)) e in
    let b = and_parts (w.level == grant.level) (fits w grant.format && asked) a.1 in
    record { set = eqb-true w.set grant.set a.0; fitting = (and_parts (fits w grant.format) asked b.1).0 }

-- the first suitable watch is one, and there
pub first_suits : (grant : Grant) (watches : List Watch) (k : ℕ) → position (is_suitable grant) watches ≡ Some k
    → (k < length watches) × Suits grant (watch_at watches k)
first_suits grant watches k e =
    let found = position-Some (is_suitable grant) watches k no_watch e in
    (found.0, suits grant (watch_at watches k) found.1)

-- a search may begin at a place before which nothing passes
position_skips : {X : Type 0} (p : X → Bool) (xs : List X) (k n : ℕ) (d : X) → k ≤ length xs
    → ((i : ℕ) → i < k → p (get_or xs i d) ≡ false) → position_from p (n + k) (drop k xs) ≡ position_from p n xs
position_skips p xs zero n d h none = ap (λ m. position_from p m xs) (omega arith)
position_skips p [] (suc k) n d h none = absurd (omega (arith, h))
position_skips p (x ∷ xs) (suc k) n d h none =
    let next : n + suc k ≡ n + 1 + k = omega arith in
    ap (λ m. position_from p m (drop k xs)) next
    ∙ position_skips p xs k (n + 1) d (omega (arith, h)) (λ i l. none (suc i) (omega (arith, l)))
    ∙ sym (ap (λ b. cond b (Some n) (position_from p (n + 1) xs)) (none 0 (omega arith)))

-- the first watch that is suitable and passes a test besides is not before the first suitable one
pub begins_at_first : (grant : Grant) (watches : List Watch) (test : Watch → Bool) (first : ℕ)
    → position (is_suitable grant) watches ≡ Some first
    → position_from (λ w. is_suitable grant w && test w) first (drop first watches)
    ≡ position (λ w. is_suitable grant w && test w) watches
begins_at_first grant watches test first e =
    let found = position-Some (is_suitable grant) watches first no_watch e in
    let both : Watch → Bool = λ w. is_suitable grant w && test w in
    let here : first ≡ 0 + first = omega arith in
    ap (λ m. position_from both m (drop first watches)) here
    ∙ position_skips both watches first 0 no_watch (omega (arith, found.0))
    (λ i l. ap (λ b. b && test (watch_at watches i)) (found.2 i l))
    ∙ sym (position_from-zero both watches)

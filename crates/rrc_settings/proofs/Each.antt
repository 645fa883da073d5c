-- One step of judging a list's elements in order.
use Rattle.std.proofs.Common.{◌≡◌, ℕ, ◌+◌, ◌<◌, List, [], ◌∷◌, length, get_or, take, drop, arith, add-one, drop-cons}
use Rattle.std.proofs.Common.{length-take-le}
use Rattle.std.proofs.lemmas.List.{take_more}
use Rattle.rrc_settings.specs.Faults.{Steps, Finding, element, first_of, first_in}

-- the elements from place i on are the one there, judged with those before it, and the ones after it
pub first_in_next : {A : Type 0} (judge : List A → Steps → A → Finding) (at : Steps) (xs : List A) (i : ℕ) (d : A)
    → i < length xs →
    first_in judge at (take i xs) (drop i xs)
    ≡ first_of (judge (take i xs) (element at i) (get_or xs i d) ∷ first_in judge at (take (i + 1) xs) (drop (i + 1) xs) ∷ [])
first_in_next judge at xs i d h =
    let t = take_more xs i d h in
    let n : length (take i xs) ≡ i = length-take-le i xs (omega arith) in
    rw (t, add-one, drop-cons xs i d, n)

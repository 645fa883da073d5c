-- What the checks of an object say of a key, whatever the key's place among them.
use Rattle.std.proofs.Common.{◌≡◌, ℕ, ◌≤◌, Bool, true, false, cond, not, List, [], ◌∷◌, Option, Some, None, IfSome, map, refl}
use Rattle.std.proofs.lemmas.Bool.{and_parts, leb-true, not-true}
use Rattle.rrc_settings.specs.Numbers.{is_from_to}
use Rattle.rrc_settings.specs.Faults.{Steps, Finding, fault_at, ◌▸◌, if_given}
use Rattle.rrc_settings.specs.Table.{Row, in_range, in_range_if_given, ranges_by}
use Rattle.rrc_settings.specs.Conflicts.{Check, first_found, conflict}
use Rattle.rrc_settings.specs.declared.words.Key.{Key}
use Rattle.rrc_settings.specs.declared.place.Reason.TheVariants as reasons
use Rattle.rrc_settings.specs.contracts.words.KeyPartialEq.TheImpl as key_eq
use Rattle.rrc_settings.proofs.NoFault.{first_none, unless_none}

-- the range of the row with a key
abbrev pub range_of : {T : Type 0} → List (Row T) → Key → Steps → T → Finding
range_of [] key at x = None
range_of (r ∷ rs) key at x = cond (key_eq.ghosts.eq r.key key) (r.range at x) (range_of rs key at x)

-- what the check with a key finds
abbrev pub finding_of : List Check → Key → Finding
finding_of [] key = None
finding_of (c ∷ cs) key = cond (key_eq.ghosts.eq c.key key) c.finding (finding_of cs key)

-- either of two that find nothing
either_none : (b : Bool) (found other : Finding) → found ≡ None → other ≡ None → cond b found other ≡ None
either_none true found other e f = e
either_none false found other e f = f

-- where no row finds a fault, the row of a key finds none
pub range_by_key : {T : Type 0} (rows : List (Row T)) (key : Key) (at : Steps) (x : T) → ranges_by rows at x ≡ None
    → range_of rows key at x ≡ None
range_by_key [] key at x e = refl
range_by_key (r ∷ rs) key at x e =
    let (here, later) = first_none (r.range at x) (map (λ s. s.range at x) rs) e in
    either_none (key_eq.ghosts.eq r.key key) (r.range at x) (range_of rs key at x) here (range_by_key rs key at x later)

-- where no check finds a fault, the check of a key finds none
pub check_by_key : (checks : List Check) (key : Key) → first_found checks ≡ None → finding_of checks key ≡ None
check_by_key [] key e = refl
check_by_key (c ∷ cs) key e =
    let (here, later) = first_none c.finding (map (λ (d : Check). d.finding) cs) e in
    either_none (key_eq.ghosts.eq c.key key) c.finding (finding_of cs key) here (check_by_key cs key later)

-- a number in whose range no fault is found passes the range's test
pub range_passes : (at : Steps) (key : Key) (range : ℕ → Bool) (n : ℕ) → in_range at key range n ≡ None → range n ≡ true
unfolding in_range
range_passes at key range n e = unless_none (fault_at (at ▸ key) reasons.OutOfRange) (range n) e

-- a number that passes the test of a range from low to high lies there
pub from_to : (low high n : ℕ) → is_from_to low high n ≡ true → (low ≤ n) × (n ≤ high)
from_to low high n e = let (least, most) = and_parts _ _ e in (leb-true low n least, leb-true n high most)

-- a number in whose range from low to high no fault is found
pub range_from_to : (at : Steps) (key : Key) (low high n : ℕ) → in_range at key (is_from_to low high) n ≡ None
    → (low ≤ n) × (n ≤ high)
range_from_to at key low high n e = from_to low high n (range_passes at key (is_from_to low high) n e)

-- a number that may be absent passes the test of its range where it is there
pub range_if_given : (at : Steps) (key : Key) (range : ℕ → Bool) (n : Option ℕ) → in_range_if_given at key range n ≡ None
    → IfSome n (λ k. range k ≡ true)
range_if_given at key range None e = tt
range_if_given at key range (Some n) e = range_passes at key range n e

-- the same for a range from low to high
pub most_if_given : (at : Steps) (key : Key) (low high : ℕ) (n : Option ℕ)
    → in_range_if_given at key (is_from_to low high) n ≡ None
    → IfSome n (λ k. k ≤ high)
most_if_given at key low high None e = tt
most_if_given at key low high (Some n) e = (range_from_to at key low high n e).1

-- a test of which no conflict is found does not hold
pub conflict_none : (at : Steps) (key : Key) (test : Bool) → conflict at key test ≡ None → test ≡ false
unfolding conflict
conflict_none at key test e = not-true test (unless_none (fault_at (at ▸ key) reasons.Conflict) (not test) e)

-- what no two judges find a fault in, where it is there, has what they say
pub both_given : {T : Type 0} (P : T → Type 0) (ranges conflicts : Steps → T → Finding) (at there : Steps) (x : Option T)
    → ((y : T) → ranges at y ≡ None → conflicts there y ≡ None → P y)
    → if_given ranges at x ≡ None → if_given conflicts there x ≡ None → IfSome x P
both_given P ranges conflicts at there None says e f = tt
both_given P ranges conflicts at there (Some y) says e f = says y e f

-- Records whose `==` is the tests of their fields, one after the other. Where each test decides whether two values of its field
-- are equal, `==` holds exactly of equal records.
use Rattle.std.specs.Prelude.{◌≡◌, Bool, true, ◌&&◌, List, [], ◌∷◌, Decides, refl}
use Rattle.std.proofs.Common.{ap, sym, ◌∙◌}
use Rattle.std.proofs.lemmas.Bool.{and_parts, and_from}

-- a field of a type, and a test that decides whether two of its values are equal
pub record Field (T : Type 0) : Type 1 where
  pub Part : Type 0
  pub part : T → Part
  pub same : Part → Part → Bool
  pub decides : (a b : Part) → Decides (same a b) (a ≡ b)

-- a field by its test
abbrev pub field : {T A : Type 0} {E : A → A → Bool} → ((a b : A) → Decides (E a b) (a ≡ b)) → (T → A) → Field T
field {A = A} {E = E} decides part = record { Part = A; part = part; same = E; decides = decides }

-- the tests of all fields, one after the other
abbrev pub all_same : {T : Type 0} → List (Field T) → T → T → Bool
all_same [] a b = true
all_same (f ∷ []) a b = f.same (f.part a) (f.part b)
all_same (f ∷ g ∷ gs) a b = f.same (f.part a) (f.part b) && all_same (g ∷ gs) a b

-- a function that takes one value for each field
abbrev pub Makes : {T : Type 0} → List (Field T) → Type 0 → Type 0
Makes [] R = R
Makes (f ∷ fs) R = f.Part → Makes fs R

-- what it makes of the fields of a value
abbrev pub made : {T R : Type 0} (fs : List (Field T)) → Makes fs R → T → R
made [] make x = make
made (f ∷ fs) make x = made fs (make (f.part x)) x

-- where all tests hold, the same is made of both
same_made : {T R : Type 0} (fs : List (Field T)) (make : Makes fs R) (a b : T) → all_same fs a b ≡ true
    → made fs make a ≡ made fs make b
same_made [] make a b e = refl
same_made (f ∷ []) make a b e = ap make ((f.decides (f.part a) (f.part b)).0 e)
same_made (f ∷ g ∷ gs) make a b e =
    let (here, later) = and_parts (f.same (f.part a) (f.part b)) (all_same (g ∷ gs) a b) e in
    ap (λ v. made (g ∷ gs) (make v) a) ((f.decides (f.part a) (f.part b)).0 here)
    ∙ same_made (g ∷ gs) (make (f.part b)) a b later

-- all tests hold of a value and itself
all_same_self : {T : Type 0} (fs : List (Field T)) (a : T) → all_same fs a a ≡ true
all_same_self [] a = refl
all_same_self (f ∷ []) a = (f.decides (f.part a) (f.part a)).1 refl
all_same_self (f ∷ g ∷ gs) a =
    and_from (f.same (f.part a) (f.part a)) (all_same (g ∷ gs) a a) ((f.decides (f.part a) (f.part a)).1 refl)
    (all_same_self (g ∷ gs) a)

-- the tests of all fields decide whether two values are equal, where a value is made of its fields
pub decides_fields : {T : Type 0} (fs : List (Field T)) (make : Makes fs T) → ((x : T) → made fs make x ≡ x) → (a b : T)
    → Decides (all_same fs a b) (a ≡ b)
decides_fields fs make whole a b =
    (λ e. sym (whole a) ∙ same_made fs make a b e ∙ whole b, λ e. ap (λ x. all_same fs a x) (sym e) ∙ all_same_self fs a)

-- The entries that a function gives for the numbers of a range, in their order, where each entry is of its number.
use Rattle.std.proofs.Common.{◌≡◌, ℕ, zero, suc, ◌+◌, ◌<◌, ◌≤◌, List, [], ◌∷◌, ◌++◌, Option, Some, None, All, length}
use Rattle.std.proofs.Common.{inl, inr, refl, sym, subst, ap, ◌∙◌, arith}
use Rattle.std.specs.List.{AllPairs, Contains, cons_option, filter_map, range_with_len}
use Rattle.std.specs.Option.{option_to_list}
use Rattle.std.proofs.lemmas.Bool.{cases_lt}
use Rattle.std.proofs.lemmas.List.Elements.{All-nil, All-cons, All-head, All-weaker, Contains-append_right}
use Rattle.std.proofs.lemmas.List.Kept.{AllPairs-cons}
use Rattle.std.proofs.lemmas.Option.{none-some, same_Some}
use Rattle.dci_codec.specs.declared.heard.Heard.{Heard}

-- what is heard for each number, where something is
abbrev pub Gives : Type 0
Gives = ℕ → Option Heard

-- each entry that is given is of its number
abbrev pub AreNumbered : Gives → Type 0
AreNumbered f = (k : ℕ) (h : Heard) → f k ≡ Some h → h.watch ≡ k

-- an entry is the one that is given for its number, which is in the range
pub record IsGiven (f : Gives) (low high : ℕ) (entry : Heard) : Type 0 where
  pub above : low ≤ entry.watch
  pub below : entry.watch < high
  pub is : f entry.watch ≡ Some entry

-- entries rise by number, and are all that are given for the numbers of the range
pub record AreGiven (f : Gives) (low high : ℕ) (entries : List Heard) : Type 0 where
  pub rise : AllPairs (λ a b. a.watch < b.watch) entries
  pub given : All (IsGiven f low high) entries
  pub each : (k : ℕ) (h : Heard) → low ≤ k → k < high → f k ≡ Some h → Contains entries h

-- a range that begins a number earlier
wider : (f : Gives) (low high : ℕ) (h : Heard) → IsGiven f (low + 1) high h → IsGiven f low high h
wider f low high h g = record { above = omega (arith, g.above); below = g.below; is = g.is }

given_none : (f : Gives) (low high : ℕ) (rest : List Heard) → f low ≡ None → AreGiven f (low + 1) high rest
    → AreGiven f low high rest
given_none f low high rest none g = record {
  rise = g.rise;
  given = All-weaker (IsGiven f (low + 1) high) (IsGiven f low high) (wider f low high) rest g.given;
  each = λ k h l m e. elim (cases_lt low k) [
    | inl later ↦ g.each k h (omega (arith, later)) m e
    | inr here ↦ let same : low ≡ k = omega (arith, l, here) in absurd (none-some h (sym none ∙ ap f same ∙ e))
  ];
}

given_some : (f : Gives) (low high : ℕ) (first : Heard) (rest : List Heard) → AreNumbered f → low < high → f low ≡ Some first
    → AreGiven f (low + 1) high rest → AreGiven f low high (first ∷ rest)
given_some f low high first rest numbered some is g =
    let at : first.watch ≡ low = numbered low first is in
    record {
      rise =
          AllPairs-cons (λ a b. a.watch < b.watch) first rest
          (All-weaker (IsGiven f (low + 1) high) (λ b. first.watch < b.watch) (λ h own. omega (arith, at, own.above)) rest
          g.given) g.rise;
      given =
          All-cons (IsGiven f low high) first rest
          (record { above = omega (arith, at); below = omega (arith, at, some); is = ap f at ∙ is })
          (All-weaker (IsGiven f (low + 1) high) (IsGiven f low high) (wider f low high) rest g.given);
      each = λ k h l m e. elim (cases_lt low k) [
        | inl later ↦ Contains-append_right (first ∷ []) rest h (g.each k h (omega (arith, later)) m e)
        | inr here ↦ let same : low ≡ k = omega (arith, l, here) in (0, omega arith, same_Some first h (sym is ∙ ap f same ∙ e))
      ];
    }

given_step : (f : Gives) (low high : ℕ) (rest : List Heard) (first : Option Heard) → AreNumbered f → low < high → f low ≡ first
    → AreGiven f (low + 1) high rest → AreGiven f low high (cons_option first rest)
given_step f low high rest None numbered some is g = given_none f low high rest is g
given_step f low high rest (Some first) numbered some is g = given_some f low high first rest numbered some is g

-- what is given for the numbers in their order is such a list
pub given_of : (f : Gives) (n low high : ℕ) → AreNumbered f → low + n ≡ high
    → AreGiven f low high (filter_map f (range_with_len low n))
given_of f zero low high numbered e = record {
  rise = λ i j d l m. absurd (omega (arith, m));
  given = All-nil (IsGiven f low high);
  each = λ k h l m g. absurd (omega (arith, e, l, m));
}
given_of f (suc n) low high numbered e =
    given_step f low high (filter_map f (range_with_len (low + 1) n)) (f low) numbered (omega (arith, e)) refl
    (given_of f n (low + 1) high numbered (omega (arith, e)))

-- the first entry has the least number
least : (f : Gives) (low high : ℕ) (first h : Heard) (rest : List Heard) → AreGiven f low high (first ∷ rest)
    → Contains (first ∷ rest) h
    → first.watch ≤ h.watch
least f low high first h rest g (zero, l, e) = omega (arith, ap (λ (x : Heard). x.watch) e)
least f low high first h rest g (suc i, l, e) =
    let below = g.rise 0 (suc i) h (omega arith) l in
    omega (arith, below, ap (λ (x : Heard). x.watch) e)

-- and without it the others are those of the later numbers
later_contains : (first h : Heard) (rest : List Heard) → first.watch < h.watch → Contains (first ∷ rest) h → Contains rest h
later_contains first h rest below (zero, l, e) = absurd (omega (arith, below, ap (λ (x : Heard). x.watch) e))
later_contains first h rest below (suc i, l, e) = (i, omega (arith, l), e)

later_given : (f : Gives) (low high : ℕ) (first : Heard) (rest : List Heard) → AreNumbered f → AreGiven f low high (first ∷ rest)
    → AreGiven f (first.watch + 1) high rest
later_given f low high first rest numbered g =
    let own = All-head (IsGiven f low high) first rest g.given in
    record {
      rise = λ i j d l m. g.rise (suc i) (suc j) d (omega (arith, l)) (omega (arith, m));
      given = λ k d m. let next = g.given (suc k) d (omega (arith, m)) in record {
        above = let below = g.rise 0 (suc k) d (omega arith) (omega (arith, m)) in omega (arith, below);
        below = next.below;
        is = next.is;
      };
      each =
          λ k h l m e. later_contains first h rest (omega (arith, l, numbered k h e))
          (g.each k h (omega (arith, l, own.above)) m e);
    }

-- at most one list is such
pub one_given : (f : Gives) (low high : ℕ) (xs ys : List Heard) → AreNumbered f → AreGiven f low high xs
    → AreGiven f low high ys → xs ≡ ys
one_given f low high [] [] numbered g h = refl
one_given f low high [] (y ∷ ys) numbered g h =
    let own = All-head (IsGiven f low high) y ys h.given in
    let none = g.each y.watch y own.above own.below own.is in
    absurd (omega (arith, none.1))
one_given f low high (x ∷ xs) [] numbered g h =
    let own = All-head (IsGiven f low high) x xs g.given in
    let none = h.each x.watch x own.above own.below own.is in
    absurd (omega (arith, none.1))
one_given f low high (x ∷ xs) (y ∷ ys) numbered g h =
    let a = All-head (IsGiven f low high) x xs g.given in
    let b = All-head (IsGiven f low high) y ys h.given in
    let up = least f low high x y xs g (g.each y.watch y b.above b.below b.is) in
    let down = least f low high y x ys h (h.each x.watch x a.above a.below a.is) in
    let number : x.watch ≡ y.watch = omega (arith, up, down) in
    let first : x ≡ y = same_Some x y (sym a.is ∙ ap f number ∙ b.is) in
    let rest : xs ≡ ys =
    one_given f (x.watch + 1) high xs ys numbered (later_given f low high x xs numbered g)
    (subst (λ (n : ℕ). AreGiven f (n + 1) high ys) (sym number) (later_given f low high y ys numbered h))
    in
    ap (λ (z : Heard). z ∷ xs) first ∙ ap (λ (zs : List Heard). y ∷ zs) rest

option_last : (o : Option Heard) → cons_option o [] ≡ option_to_list o
option_last None = refl
option_last (Some h) = refl

option_append : (o : Option Heard) (xs ys : List Heard) → cons_option o (xs ++ ys) ≡ cons_option o xs ++ ys
option_append None xs ys = refl
option_append (Some h) xs ys = refl

-- one number more
pub given_more : (f : Gives) (n low j : ℕ) → low + n ≡ j
    → filter_map f (range_with_len low (suc n)) ≡ filter_map f (range_with_len low n) ++ option_to_list (f j)
given_more f zero low j e =
    let here : low ≡ j = omega (arith, e) in option_last (f low) ∙ ap (λ (k : ℕ). option_to_list (f k)) here
given_more f (suc n) low j e =
    ap (cons_option (f low)) (given_more f n (low + 1) j (omega (arith, e)))
    ∙ option_append (f low) (filter_map f (range_with_len (low + 1) n)) (option_to_list (f j))

option_short : (o : Option Heard) (xs : List Heard) → length (cons_option o xs) ≤ length xs + 1
option_short None xs = omega arith
option_short (Some h) xs = omega arith

-- no more entries than numbers
pub length-given : (f : Gives) (n low : ℕ) → length (filter_map f (range_with_len low n)) ≤ n
length-given f zero low = omega arith
length-given f (suc n) low =
    omega (arith, option_short (f low) (filter_map f (range_with_len (low + 1) n)), length-given f n (low + 1))

-- Runs of digits, and numbers written in them.
use Rattle.std.proofs.Common.{◌≡◌, ℕ, ◌+◌, ◌%◌, ◌^◌, ◌<◌, List, [], ◌∷◌, ◌++◌}
use Rattle.std.proofs.Common.{length, take, get_or, refl, sym, ◌∙◌, ap, subst, arith}
use Rattle.std.proofs.lemmas.Fmt.{decimal_by_steps}
use Rattle.std.specs.Fmt.{decimal}
use Rattle.grid_file.specs.Bytes.{IsDigit}
use Rattle.grid_file.specs.Fields.{EndsNumber}

-- each byte is a digit
abbrev pub AreDigits : List ℕ → Type 0
AreDigits [] = Unit {0}
AreDigits (d ∷ ds) = IsDigit d × AreDigits ds

digits_push : (ds : List ℕ) (d : ℕ) → AreDigits ds → IsDigit d → AreDigits (ds ++ d ∷ [])
digits_push [] d h k = (k, tt)
digits_push (e ∷ ds) d h k = (h.0, digits_push ds d h.1 k)

-- a number is written in digits
pub digits-decimal : (n : ℕ) → n < 2 ^ 64 → AreDigits (decimal n)
digits-decimal n small =
    decimal_by_steps (λ n ds. AreDigits ds) (λ n h. ((omega arith, omega arith), tt))
    (λ n ds h k. digits_push ds (48 + n % 10) k (omega arith, omega arith)) n small

-- a text has one run of digits at its beginning
pub runs_same : (a b x y : List ℕ) → AreDigits a → AreDigits b → EndsNumber x → EndsNumber y → a ++ x ≡ b ++ y → (a ≡ b) × (x ≡ y)
runs_same [] [] x y h k l m e = (refl, e)
runs_same [] (d ∷ b) x y h k l m e = absurd (l (subst IsDigit (sym (ap (λ (t : List ℕ). get_or t 0 0) e)) k.0))
runs_same (d ∷ a) [] x y h k l m e = absurd (m (subst IsDigit (ap (λ (t : List ℕ). get_or t 0 0) e) h.0))
runs_same (d ∷ a) (f ∷ b) x y h k l m e =
    let first : d ≡ f = cc in
    let behind : a ++ x ≡ b ++ y = cc in
    let (front, rest) = runs_same a b x y h.1 k.1 l m behind in
    (ap (λ c. c ∷ a) first ∙ ap (λ c. f ∷ c) front, rest)

-- digits that begin a run and what follows it begin the run, which ends there or goes on with the byte that follows
pub record GoesOn (run begin : List ℕ) (byte : ℕ) : Type 0 where
  pub more : IsDigit byte → (rest : List ℕ) × (run ≡ begin ++ byte ∷ rest)
  pub ends : (IsDigit byte → ⊥) → run ≡ begin

-- where digits begin a text, they begin its run of digits
pub run_goes_on : (run after begin : List ℕ) (byte : ℕ) → AreDigits run → AreDigits begin → EndsNumber after
    → take (length begin) (run ++ after) ≡ begin
    → get_or (run ++ after) (length begin) 0 ≡ byte → GoesOn run begin byte
run_goes_on [] after [] byte h k l e f = record { more = λ d. absurd (l (subst IsDigit (sym f) d)); ends = λ _. refl }
run_goes_on (d ∷ run) after [] byte h k l e f = record {
  more = λ _. (run, ap (λ c. c ∷ run) f);
  ends = λ other. absurd (other (subst IsDigit f h.0));
}
run_goes_on [] [] (b ∷ begin) byte h k l e f = absurd (cc)
run_goes_on [] (c ∷ after) (b ∷ begin) byte h k l e f =
    let first : c ≡ b = cc in
    absurd (l (subst IsDigit (sym first) k.0))
run_goes_on (d ∷ run) after (b ∷ begin) byte h k l e f =
    let first : d ≡ b = cc in
    let behind : take (length begin) (run ++ after) ≡ begin = cc in
    let rest = run_goes_on run after begin byte h.1 k.1 l behind f in
    record {
      more = λ g. let (more, is) = rest.more g in (more, ap (λ c. c ∷ run) first ∙ ap (λ c. b ∷ c) is);
      ends = λ g. ap (λ c. c ∷ run) first ∙ ap (λ c. b ∷ c) (rest.ends g);
    }

-- Numbers whose digits begin those of others.
use Rattle.std.proofs.Common.{◌≡◌, ℕ, zero, suc, ◌+◌, ◌*◌, ◌/◌, ◌%◌, ◌^◌, ◌<◌, ◌≤◌, List}
use Rattle.std.proofs.Common.{[], ◌∷◌, ◌++◌, length, take, get_or, refl, sym, ◌∙◌, ap, arith}
use Rattle.std.proofs.Math.Seq.{take-append_seam}
use Rattle.std.proofs.lemmas.Fmt.{decimal_digit, decimal_step, decimal_is_IsNumeral, first_decimal}
use Rattle.std.proofs.lemmas.Str.Parse.{digits_value-take-le}
use Rattle.std.specs.Fmt.{decimal}
use Rattle.std.specs.Str.Parse.{digits_value}

-- a number is no smaller than one whose digits begin its own
pub begins_le : (a n : ℕ) (rest : List ℕ) → a < 2 ^ 64 → n < 2 ^ 64 → decimal n ≡ decimal a ++ rest → a ≤ n
begins_le a n rest small large e =
    let front : take (length (decimal a)) (decimal n) ≡ decimal a =
    ap (take (length (decimal a))) e ∙ take-append_seam (decimal a) rest in
    let most = digits_value-take-le 10 (decimal n) (length (decimal a)) (omega arith) in
    let value : digits_value 10 (take (length (decimal a)) (decimal n)) ≡ a =
    ap (digits_value 10) front ∙ (decimal_is_IsNumeral a small).1 in
    omega (arith, value, most, (decimal_is_IsNumeral n large).1)

-- one digit more
pub decimal-longer : (n d : ℕ) → 0 < n → d < 10 → 10 * n + d < 2 ^ 64 → decimal (10 * n + d) ≡ decimal n ++ (48 + d) ∷ []
decimal-longer n d positive small fits =
    let tens : (10 * n + d) / 10 ≡ n = omega arith in
    let ones : (10 * n + d) % 10 ≡ d = omega arith in
    decimal_step (10 * n + d) (omega arith) fits ∙ ap (λ m. decimal m ++ (48 + (10 * n + d) % 10) ∷ []) tens
    ∙ ap (λ m. decimal n ++ (48 + m) ∷ []) ones

-- no number but 0 begins with the digit 0
pub first_zero : (n : ℕ) (rest : List ℕ) → n < 2 ^ 64 → decimal n ≡ 48 ∷ rest → n ≡ 0
first_zero zero rest small e = refl
first_zero (suc n) rest small e =
    let above = first_decimal (suc n) (omega arith) small in
    let here : get_or (decimal (suc n)) 0 0 ≡ 48 = ap (λ (t : List ℕ). get_or t 0 0) e in
    absurd (omega arith)

-- the digit 0 is followed by no other digit of a number
pub zero_alone : (n byte : ℕ) (rest : List ℕ) → n < 2 ^ 64 → decimal n ≡ decimal 0 ++ byte ∷ rest → ⊥
zero_alone n byte rest small e =
    let nought : decimal 0 ≡ 48 ∷ [] = decimal_digit 0 (omega arith) in
    let is : decimal n ≡ 48 ∷ byte ∷ rest = e ∙ ap (λ xs. xs ++ byte ∷ rest) nought in
    let none : n ≡ 0 = first_zero n (byte ∷ rest) small is in
    let short : 48 ∷ [] ≡ 48 ∷ byte ∷ rest = sym nought ∙ ap decimal (sym none) ∙ is in
    omega (arith, ap length short)

-- Numbers by quotient and remainder.
use Rattle.std.proofs.Common.{◌≡◌, ℕ, suc, ◌+◌, ◌*◌, ◌/◌, ◌%◌, ◌<◌, ◌≤◌, ◌⊎◌, inl, inr, sym, ◌∙◌, ap, arith}
use Rattle.std.proofs.Math.Nat.{div-add-mod, mul-le-mul_left, mul-le-mul_right}
use Rattle.std.proofs.lemmas.Nat.{div-mul-add}
use Rattle.std.proofs.lemmas.Bool.{cases_order}

-- a number of row r and column c is below the number of places
pub place_below : (r c rows columns : ℕ) → r < rows → c < columns → r * columns + c < rows * columns
place_below r c rows columns h k = let m : suc r ≤ rows = omega arith in let n = mul-le-mul_right columns m in omega (arith, n, k)

-- a number has one quotient and one remainder
pub one_quotient : (r c s d w : ℕ) → c < w → d < w → r * w + c ≡ s * w + d → r ≡ s
one_quotient r c s d w h k e = sym (div-mul-add r w c h) ∙ (ap (λ n. n / w) e ∙ div-mul-add s w d k)

-- numbers with one quotient and one value have one remainder
pub one_remainder : (r c s d w : ℕ) → c < w → d < w → r * w + c ≡ s * w + d → c ≡ d
one_remainder r c s d w h k e = let q = ap (λ n. n * w) (one_quotient r c s d w h k e) in omega (arith, q, e)

-- a number is its parts
pub same_parts : (x y w : ℕ) → x / w ≡ y / w → x % w ≡ y % w → x ≡ y
same_parts x y w q r =
    let a = div-add-mod x w in let b = div-add-mod y w in let e = ap (λ n. w * n) q in omega (arith, a, b, e, r)

quotients_cases : (a b s n p q r : ℕ) → a < n → b < n → n * p + r ≡ a + s → n * q + r ≡ b + s
    → (p ≡ q) ⊎ ((p < q) ⊎ (q < p)) → a ≡ b
quotients_cases a b s n p q r h k e f (inl same) = let g = ap (λ m. n * m) same in omega (arith, e, f, g)
quotients_cases a b s n p q r h k e f (inr (inl less)) =
    let m : suc p ≤ q = omega (arith, less) in let g = mul-le-mul_left n m in absurd (omega (arith, e, f, g, h, k))
quotients_cases a b s n p q r h k e f (inr (inr more)) =
    let m : suc q ≤ p = omega (arith, more) in let g = mul-le-mul_left n m in absurd (omega (arith, e, f, g, h, k))

-- numbers that are shifted round to one place are one
pub shifted_once : (a b s n : ℕ) → a < n → b < n → (a + s) % n ≡ (b + s) % n → a ≡ b
shifted_once a b s n h k e =
    quotients_cases a b s n ((a + s) / n) ((b + s) / n) ((a + s) % n) h k (div-add-mod (a + s) n)
    (let f = div-add-mod (b + s) n in omega (arith, e, f)) (cases_order ((a + s) / n) ((b + s) / n))

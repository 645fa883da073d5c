-- Sums modulo 2 of bits.
use Rattle.std.proofs.Common.{◌≡◌, ℕ, zero, suc, ◌+◌, ◌%◌, ◌<◌, Bool, true, false, eqb, ◌&&◌, refl, ap, sym, ◌∙◌, arith}
use Rattle.std.proofs.Common.{add-zero, add-suc}
use Rattle.std.specs.Int.Bits.{bit_xor}
use Rattle.std.specs.Int.{bit_at}
use Rattle.std.proofs.lemmas.Nat.Bits.{bit_at_xor, bit_at-lt}
use Rattle.bits_core.specs.Bits.{plus, sum_below}
use Rattle.bits_core.specs.Ones.{has_one}

-- a bit added twice is nothing
pub plus_cancel : (a b : Bool) → plus (plus a b) b ≡ a
plus_cancel true true = refl
plus_cancel true false = refl
plus_cancel false true = refl
plus_cancel false false = refl

-- two bits in either order
pub plus_comm : (a b : Bool) → plus a b ≡ plus b a
plus_comm true true = refl
plus_comm true false = refl
plus_comm false true = refl
plus_comm false false = refl

-- nothing is added
pub plus-false : (a : Bool) → plus a false ≡ a
plus-false true = refl
plus-false false = refl

-- three bits, grouped in either way
pub plus_assoc : (a b c : Bool) → plus (plus a b) c ≡ plus a (plus b c)
plus_assoc true true true = refl
plus_assoc true true false = refl
plus_assoc true false c = refl
plus_assoc false b c = refl

-- a factor of a sum of two bits
pub and-plus : (c a b : Bool) → (c && plus a b) ≡ plus (c && a) (c && b)
and-plus true a b = refl
and-plus false a b = refl

-- two sums, term by term
pub plus-plus : (a b c d : Bool) → plus (plus a b) (plus c d) ≡ plus (plus a c) (plus b d)
plus-plus true true true true = refl
plus-plus true true true false = refl
plus-plus true true false true = refl
plus-plus true true false false = refl
plus-plus true false true true = refl
plus-plus true false true false = refl
plus-plus true false false true = refl
plus-plus true false false false = refl
plus-plus false true true true = refl
plus-plus false true true false = refl
plus-plus false true false true = refl
plus-plus false true false false = refl
plus-plus false false true true = refl
plus-plus false false true false = refl
plus-plus false false false true = refl
plus-plus false false false false = refl

-- the sum of two bits as numbers
pub bit_sum : (a b : ℕ) → a < 2 → b < 2 → eqb ((a + b) % 2) 1 ≡ plus (eqb a 1) (eqb b 1)
bit_sum zero zero l k = refl
bit_sum zero (suc zero) l k = refl
bit_sum (suc zero) zero l k = refl
bit_sum (suc zero) (suc zero) l k = refl
bit_sum zero (suc (suc b)) l k = absurd (omega arith)
bit_sum (suc zero) (suc (suc b)) l k = absurd (omega arith)
bit_sum (suc (suc a)) b l k = absurd (omega arith)

-- a bit of the sum of two words modulo 2
pub has_one-xor : (a b i : ℕ) → has_one (bit_xor a b) i ≡ plus (has_one a i) (has_one b i)
has_one-xor a b i = ap (λ (n : ℕ). eqb n 1) (bit_at_xor a b i) ∙ bit_sum (bit_at a i) (bit_at b i) (bit_at-lt a i) (bit_at-lt b i)

-- the same terms
pub sum_below_same : (n : ℕ) (f g : ℕ → Bool) → ((i : ℕ) → i < n → f i ≡ g i) → sum_below n f ≡ sum_below n g
unfolding sum_below
sum_below_same zero f g h = refl
sum_below_same (suc n) f g h =
    ap (λ (b : Bool). plus b (f n)) (sum_below_same n f g (λ i l. h i (omega arith)))
    ∙ ap (λ (b : Bool). plus (sum_below n g) b) (h n (omega arith))

-- no terms but zeros
pub sum_below-zero : (n : ℕ) (f : ℕ → Bool) → ((i : ℕ) → i < n → f i ≡ false) → sum_below n f ≡ false
unfolding sum_below
sum_below-zero zero f h = refl
sum_below-zero (suc n) f h =
    ap (λ (b : Bool). plus b (f n)) (sum_below-zero n f (λ i l. h i (omega arith))) ∙ h n (omega arith)

-- the sum of two sums
pub sum_below-plus : (n : ℕ) (f g : ℕ → Bool) → sum_below n (λ i. plus (f i) (g i)) ≡ plus (sum_below n f) (sum_below n g)
unfolding sum_below
sum_below-plus zero f g = refl
sum_below-plus (suc n) f g =
    ap (λ (b : Bool). plus b (plus (f n) (g n))) (sum_below-plus n f g)
    ∙ plus-plus (sum_below n f) (sum_below n g) (f n) (g n)

-- one more term at the end
pub sum_below-suc : (n : ℕ) (f : ℕ → Bool) → sum_below (suc n) f ≡ plus (sum_below n f) (f n)
unfolding sum_below
sum_below-suc n f = refl

-- a sum in two parts
pub sum_below-add : (m n : ℕ) (f : ℕ → Bool) → sum_below (m + n) f ≡ plus (sum_below m f) (sum_below n (λ i. f (m + i)))
unfolding sum_below
sum_below-add m zero f = ap (λ (k : ℕ). sum_below k f) (add-zero m) ∙ sym (plus-false (sum_below m f))
sum_below-add m (suc n) f =
    ap (λ (k : ℕ). sum_below k f) (add-suc m n)
    ∙ ap (λ (b : Bool). plus b (f (m + n))) (sum_below-add m n f)
    ∙ plus_assoc (sum_below m f) (sum_below n (λ i. f (m + i))) (f (m + n))

plus-and : (x y b : Bool) → plus (x && b) (y && b) ≡ (plus x y && b)
plus-and true true true = refl
plus-and true true false = refl
plus-and true false b = plus-false b
plus-and false y b = refl

-- a common factor
pub sum_below-and : (n : ℕ) (f : ℕ → Bool) (b : Bool) → sum_below n (λ i. f i && b) ≡ (sum_below n f && b)
unfolding sum_below
sum_below-and zero f b = refl
sum_below-and (suc n) f b =
    ap (λ (s : Bool). plus s (f n && b)) (sum_below-and n f b) ∙ plus-and (sum_below n f) (f n) b

-- The stages on lists of bits.
use Rattle.std.proofs.Common.{ℕ, ◌≡◌, ◌*◌, ◌^◌, ◌<◌, ◌≤◌, suc, Bool, false, List, length, refl, ap, subst, sym, ◌∙◌, inl, inr}
use Rattle.std.proofs.Common.{arith, lit<}
use Rattle.std.specs.Prelude.{IsTrue}
use Rattle.std.proofs.Math.Nat.{pow-suc, pow-le-pow_right, one-le-pow}
use Rattle.std.proofs.lemmas.Bool.{cases_lt}
use Rattle.std.proofs.lemmas.List.FromFn.{fill_by_all}
use Rattle.bits_core.specs.Bits.{bit_of}
use Rattle.bits_core.specs.CodeLengths.{is_code_length}
use Rattle.bits_core.proofs.CodeLengths.{IsPower, power_of}
use Rattle.polar_kernel.specs.MatrixWord.{matrix_word, word_at}
use Rattle.polar_kernel.specs.Stages.{AfterStages, HasPartners, staged}
use Rattle.polar_kernel.proofs.Stages.{after_none, after_more, after_all, partners_at}

-- w is what the stages below `span` leave of u
pub record IsPartly (span : ℕ) (u w : List Bool) : Type 0 where
  pub stage : ℕ
  pub span_is : span ≡ 2 ^ stage
  pub within : span ≤ length u
  pub length_is : length w ≡ length u
  pub each : AfterStages (length u) stage (bit_of u) (bit_of w)

power_below : (t m : ℕ) → 2 ^ t < 2 ^ m → t < m
power_below t m h =
    elim (cases_lt t m) [
      | inl l ↦ l
      | inr g ↦ (let le : 2 ^ m ≤ 2 ^ t = pow-le-pow_right (lit< tt) g in absurd (omega arith))
    ]

doubled_within : (t m : ℕ) → 2 ^ t < 2 ^ m → 2 ^ t * 2 ≤ 2 ^ m
doubled_within t m h =
    let le : 2 ^ suc t ≤ 2 ^ m = pow-le-pow_right (lit< tt) (power_below t m h) in
    let e = pow-suc 2 t in
    omega arith

some_bits : (u : List Bool) → IsPower (length u) → 1 ≤ length u
some_bits u q = let le : 1 ≤ 2 ^ q.exponent = one-le-pow q.exponent 2 (lit< tt) in let e = q.power in omega arith

-- before the first stage
pub none_done : (u : List Bool) → IsTrue (is_code_length (length u)) → IsPartly 1 u u
none_done u h = record {
  stage = 0;
  span_is = refl;
  within = some_bits u (power_of (length u) h);
  length_is = refl;
  each = after_none (length u) (bit_of u);
}

pub partners_by : (n span m t : ℕ) → n ≡ 2 ^ m → span ≡ 2 ^ t → span < n → HasPartners n span
partners_by n span m t e f l =
    let below : 2 ^ t < 2 ^ m = omega arith in
    subst (λ (x : ℕ). HasPartners x span) (sym e)
    (subst (λ (x : ℕ). HasPartners (2 ^ m) x) (sym f) (partners_at m t (power_below t m below)))

-- the next stage finds each partner
pub partners_of : (span : ℕ) (u w : List Bool) → IsTrue (is_code_length (length u)) → IsPartly span u w → span < length w →
    HasPartners (length w) span
partners_of span u w h p l =
    let q = power_of (length u) h in
    partners_by (length w) span q.exponent p.stage (p.length_is ∙ q.power) p.span_is l

pub within_more : (n span m t : ℕ) → n ≡ 2 ^ m → span ≡ 2 ^ t → span < n → span * 2 ≤ n
within_more n span m t e f l =
    let below : 2 ^ t < 2 ^ m = omega arith in
    let le = doubled_within t m below in
    omega arith

-- one stage more
pub one_stage_more : (span : ℕ) (u w v : List Bool) → IsTrue (is_code_length (length u)) → IsPartly span u w → span < length w →
    length v ≡ length w → ((j : ℕ) → j < length w → bit_of v j ≡ staged span (bit_of w) j) → IsPartly (span * 2) u v
one_stage_more span u w v h p l e after =
    let q = power_of (length u) h in
    let shorter : span < length u = subst (λ (n : ℕ). span < n) p.length_is l in
    let partners : HasPartners (length u) (2 ^ p.stage) =
    subst (λ (x : ℕ). HasPartners (length u) x) p.span_is
    (partners_by (length u) span q.exponent p.stage q.power p.span_is shorter) in
    record {
      stage = suc p.stage;
      span_is = ap (λ (x : ℕ). x * 2) p.span_is ∙ sym (pow-suc 2 p.stage);
      within = within_more (length u) span q.exponent p.stage q.power p.span_is shorter;
      length_is = e ∙ p.length_is;
      each =
          after_more (length u) p.stage (bit_of u) (bit_of w) (bit_of v) partners p.each
          (λ j b.
          after j (subst (λ (n : ℕ). j < n) (sym p.length_is) b)
          ∙ ap (λ (x : ℕ). staged x (bit_of w) j) p.span_is);
    }

-- after the last stage
pub all_done : (span : ℕ) (u w : List Bool) → IsPartly span u w → length w ≤ span → w ≡ matrix_word u
unfolding matrix_word
all_done span u w p l =
    let whole : length u ≡ 2 ^ p.stage = (let a = p.within in let b = p.length_is in let c = p.span_is in omega arith) in
    let each : AfterStages (2 ^ p.stage) p.stage (bit_of u) (bit_of w) =
    subst (λ (n : ℕ). AfterStages n p.stage (bit_of u) (bit_of w)) whole p.each in
    fill_by_all (word_at (length u) (bit_of u)) w (length u) false p.length_is
    (λ j b.
    after_all p.stage (bit_of u) (bit_of w) each j (subst (λ (n : ℕ). j < n) whole b)
    ∙ ap (λ (n : ℕ). word_at n (bit_of u) j) (sym whole))

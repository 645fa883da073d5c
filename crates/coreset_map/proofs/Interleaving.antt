-- Bundles are interleaved one to one.
use Rattle.std.proofs.Common.{◌≡◌, ℕ, ◌+◌, ◌*◌, ◌/◌, ◌%◌, ◌<◌, ◌⊎◌, inl, inr, Option, Some, None, nat_eq, true, false}
use Rattle.std.proofs.Common.{◌||◌, refl, ◌∙◌, ap, arith, [], ◌∷◌}
use Rattle.std.proofs.Math.Nat.{mod-lt, div-add-mod, div-lt_iff_lt-mul}
use Rattle.std.proofs.lemmas.Nat.{div-mul-add}
use Rattle.std.proofs.lemmas.Bool.{or_cases, eqb-true}
use Rattle.rrc_settings.specs.Numbers.{is_one_of}
use Rattle.coreset_map.specs.declared.interleaver.Interleaver.{Interleaver}
use Rattle.coreset_map.specs.ControlResources.{bundle_size, interleaved, GoesWith}
use Rattle.coreset_map.proofs.Parts.{place_below, one_quotient, one_remainder, same_parts, shifted_once}

-- 2, 3 or 6
abbrev pub IsSize : ℕ → Type 0
IsSize n = (n ≡ 2) ⊎ ((n ≡ 3) ⊎ (n ≡ 6))

later_size : (n : ℕ) → (nat_eq n 3 ≡ true) ⊎ ((nat_eq n 6 || false) ≡ true) → IsSize n
later_size n (inl h) = inr (inl (eqb-true n 3 h))
later_size n (inr h) =
    inr (inr (elim (or_cases (nat_eq n 6) false h) as (λ _. n ≡ 6) [ inl e ↦ eqb-true n 6 e | inr e ↦ absurd (cc) ]))

any_size : (n : ℕ) → (nat_eq n 2 ≡ true) ⊎ ((nat_eq n 3 || (nat_eq n 6 || false)) ≡ true) → IsSize n
any_size n (inl h) = inl (eqb-true n 2 h)
any_size n (inr h) = later_size n (or_cases (nat_eq n 3) (nat_eq n 6 || false) h)

-- a number of the settings is the size of a bundle
pub size_of : (n : ℕ) → is_one_of (2 ∷ 3 ∷ 6 ∷ []) n ≡ true → IsSize n
size_of n h = any_size n (or_cases (nat_eq n 2) (nat_eq n 3 || (nat_eq n 6 || false)) h)

-- a bundle is not empty
pub size_some : (n : ℕ) → IsSize n → 0 < n
size_some n (inl e) = omega (arith, e)
size_some n (inr (inl e)) = omega (arith, e)
size_some n (inr (inr e)) = omega (arith, e)

-- bundles fill the set, and rows and columns the bundles
rows_are : (count bundle rows : ℕ) → 0 < bundle → count % (bundle * rows) ≡ 0 → count / bundle ≡ rows * (count / (bundle * rows))
rows_are count bundle rows h e =
    let d = div-add-mod count (bundle * rows) in
    let f : count ≡ rows * (count / (bundle * rows)) * bundle + 0 = omega (arith, d, e) in
    ap (λ n. n / bundle) f ∙ div-mul-add (rows * (count / (bundle * rows))) bundle 0 h

-- REGs that fill the rows of an interleaver fill its bundles
pub filled_by : (count bundle rows : ℕ) → 0 < bundle → count % (bundle * rows) ≡ 0 → count / bundle * bundle ≡ count
filled_by count bundle rows h e =
    let d = div-add-mod count (bundle * rows) in
    let f = ap (λ n. n * bundle) (rows_are count bundle rows h e) in
    omega (arith, d, e, f)

column_below : (x rows columns : ℕ) → 0 < rows → x < rows * columns → x / rows < columns
column_below x rows columns h k = (div-lt_iff_lt-mul h).1 (omega (arith, k))

-- rows and columns exchanged
abbrev turned : ℕ → ℕ → ℕ → ℕ
turned rows columns x = x % rows * columns + x / rows

turned_below : (x rows columns : ℕ) → 0 < rows → x < rows * columns → turned rows columns x < rows * columns
turned_below x rows columns h k = place_below (x % rows) (x / rows) rows columns (mod-lt x h) (column_below x rows columns h k)

turned_once : (x y rows columns : ℕ) → 0 < rows → x < rows * columns → y < rows * columns
    → turned rows columns x ≡ turned rows columns y → x ≡ y
turned_once x y rows columns h k l e =
    let c = column_below x rows columns h k in
    let d = column_below y rows columns h l in
    same_parts x y rows (one_remainder (x % rows) (x / rows) (y % rows) (y / rows) columns c d e)
    (one_quotient (x % rows) (x / rows) (y % rows) (y / rows) columns c d e)

-- an interleaver stays among the bundles
pub interleaved_below : (i : Option Interleaver) (count x : ℕ) → GoesWith count i → x < count / bundle_size i
    → interleaved i count x < count / bundle_size i
unfolding interleaved
interleaved_below None count x g h = h
interleaved_below (Some i) count x g h = mod-lt _ (omega (arith, h))

-- and sends different places to different bundles
pub interleaved_once : (i : Option Interleaver) (count x y : ℕ) → GoesWith count i → x < count / bundle_size i
    → y < count / bundle_size i
    → interleaved i count x ≡ interleaved i count y → x ≡ y
unfolding interleaved
interleaved_once None count x y g h k e = e
interleaved_once (Some i) count x y g h k e =
    let columns = count / (i.bundle * i.rows) in
    let some = size_some i.rows (size_of i.rows g.rows) in
    let all : count / i.bundle
    ≡ i.rows * columns = rows_are count i.bundle i.rows (size_some i.bundle (size_of i.bundle g.bundle)) g.filled in
    let x_below : x < i.rows * columns = omega (arith, h, all) in
    let y_below : y < i.rows * columns = omega (arith, k, all) in
    let x' = turned_below x i.rows columns some x_below in
    let y' = turned_below y i.rows columns some y_below in
    turned_once x y i.rows columns some x_below y_below
    (shifted_once (turned i.rows columns x) (turned i.rows columns y) i.shift (count / i.bundle) (omega (arith, x', all))
    (omega (arith, y', all)) e)

-- the bundles of a set have one of three sizes
pub bundle_size_is : (i : Option Interleaver) (count : ℕ) → GoesWith count i → IsSize (bundle_size i)
bundle_size_is None count g = inr (inr refl)
bundle_size_is (Some i) count g = size_of i.bundle g.bundle

-- the bundles fill the set
pub bundles_fill : (i : Option Interleaver) (cces : ℕ) → GoesWith (6 * cces) i
    → 6 * cces / bundle_size i * bundle_size i ≡ 6 * cces
bundles_fill None cces g = omega arith
bundles_fill (Some i) cces g = filled_by (6 * cces) i.bundle i.rows (size_some i.bundle (size_of i.bundle g.bundle)) g.filled

-- a bundle is below the number of bundles
pub bundle_below : (x count bundle : ℕ) → 0 < count / bundle → x % (count / bundle) < count / bundle
bundle_below x count bundle h = mod-lt x h

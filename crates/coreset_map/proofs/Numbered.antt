-- Each place of the CCEs has a REG of its own.
use Rattle.std.proofs.Common.{◌≡◌, ℕ, ◌+◌, ◌*◌, ◌/◌, ◌%◌, ◌<◌, Option, arith}
use Rattle.std.proofs.Math.Nat.{mod-lt, div-lt_iff_lt-mul}
use Rattle.coreset_map.specs.ControlResources.{Resources, bundle_size, interleaved, cce_count, AreResources}
use Rattle.coreset_map.specs.declared.interleaver.Interleaver.{Interleaver}
use Rattle.coreset_map.specs.Numbers.{number_at}
use Rattle.coreset_map.proofs.Parts.{place_below, one_quotient, one_remainder, same_parts}
use Rattle.coreset_map.proofs.Interleaving.{interleaved_below, interleaved_once, bundle_size_is, bundles_fill, size_some}

bundle_below : (q cces size : ℕ) → 0 < size → 6 * cces / size * size ≡ 6 * cces → q < 6 * cces → q / size < 6 * cces / size
bundle_below q cces size h e k = (div-lt_iff_lt-mul h).1 (omega (arith, e, k))

-- the bundle of a place is one of the set's
pub bundle_place : (resources : Resources) (q : ℕ) → AreResources resources → q < 6 * cce_count resources
    → q / bundle_size resources.interleaver < 6 * cce_count resources / bundle_size resources.interleaver
bundle_place resources q r h =
    let size = bundle_size resources.interleaver in
    let some = size_some size (bundle_size_is resources.interleaver (6 * cce_count resources) r.interleaver) in
    bundle_below q (cce_count resources) size some (bundles_fill resources.interleaver (cce_count resources) r.interleaver) h

-- the number of a REG is below the number of REGs
pub number_below : (resources : Resources) (q : ℕ) → AreResources resources → q < 6 * cce_count resources
    → number_at (6 * cce_count resources) resources q < 6 * cce_count resources
number_below resources q r h =
    let size = bundle_size resources.interleaver in
    let count = 6 * cce_count resources in
    let some = size_some size (bundle_size_is resources.interleaver count r.interleaver) in
    let fill = bundles_fill resources.interleaver (cce_count resources) r.interleaver in
    let b = interleaved_below resources.interleaver count (q / size) r.interleaver (bundle_place resources q r h) in
    let p = place_below (interleaved resources.interleaver count (q / size)) (q % size) (count / size) size b (mod-lt q some) in
    omega (arith, p, fill)

-- different places have different numbers
pub number_once : (resources : Resources) (p q : ℕ) → AreResources resources → p < 6 * cce_count resources
    → q < 6 * cce_count resources
    → number_at (6 * cce_count resources) resources p ≡ number_at (6 * cce_count resources) resources q → p ≡ q
number_once resources p q r h k e =
    let size = bundle_size resources.interleaver in
    let count = 6 * cce_count resources in
    let some = size_some size (bundle_size_is resources.interleaver count r.interleaver) in
    let f = λ (n : ℕ). interleaved resources.interleaver count (n / size) in
    let b = one_quotient (f p) (p % size) (f q) (q % size) size (mod-lt p some) (mod-lt q some) e in
    same_parts p q size
    (interleaved_once resources.interleaver count (p / size) (q / size) r.interleaver (bundle_place resources p r h)
    (bundle_place resources q r k) b)
    (one_remainder (f p) (p % size) (f q) (q % size) size (mod-lt p some) (mod-lt q some) e)

-- the number from its parts, as the code makes it
pub number-from : (resources : Resources) (i : Option Interleaver) (count size bundle q : ℕ) → AreResources resources
    → i ≡ resources.interleaver
    → count ≡ cce_count resources → size ≡ bundle_size i → bundle ≡ interleaved i (6 * count) (q / size)
    → q < 6 * cce_count resources
    → bundle * size + q % size < 6 * cce_count resources
number-from resources i count size bundle q r e f g h l =
    let same : bundle * size + q % size ≡ number_at (6 * cce_count resources) resources q = cc in
    let k = number_below resources q r l in
    omega (arith, same, k)

-- REGs of one bundle follow one another, and each CCE begins with a bundle.
use Rattle.std.proofs.Common.{◌≡◌, ◌≢◌, ℕ, ◌+◌, ◌-◌, ◌*◌, ◌/◌, ◌%◌, inl, inr, ap, sym, subst, arith}
use Rattle.coreset_map.specs.ControlResources.{Resources, bundle_size, interleaved, cce_count, AreResources}
use Rattle.coreset_map.specs.Numbers.{number_at}
use Rattle.coreset_map.proofs.Interleaving.{bundle_size_is, IsSize}

-- a place that no bundle begins at is in the bundle of the place before it
record IsNext (size q : ℕ) : Type 0 where
  bundle : (q - 1) / size ≡ q / size
  rest : (q - 1) % size + 1 ≡ q % size

next_in : (size q : ℕ) → IsSize size → q % size ≢ 0 → IsNext size q
next_in size q (inl e) h =
    let two : q % 2 ≢ 0 = subst (λ s. q % s ≢ 0) e h in
    subst (λ s. IsNext s q) (sym e) (record { bundle = omega (arith, two); rest = omega (arith, two) })
next_in size q (inr (inl e)) h =
    let three : q % 3 ≢ 0 = subst (λ s. q % s ≢ 0) e h in
    subst (λ s. IsNext s q) (sym e) (record { bundle = omega (arith, three); rest = omega (arith, three) })
next_in size q (inr (inr e)) h =
    let six : q % 6 ≢ 0 = subst (λ s. q % s ≢ 0) e h in
    subst (λ s. IsNext s q) (sym e) (record { bundle = omega (arith, six); rest = omega (arith, six) })

-- so its REG has the next number
pub next_number : (resources : Resources) (q : ℕ) → AreResources resources → q % bundle_size resources.interleaver ≢ 0
    → number_at (6 * cce_count resources) resources (q - 1) + 1 ≡ number_at (6 * cce_count resources) resources q
next_number resources q r h =
    let size = bundle_size resources.interleaver in
    let count = 6 * cce_count resources in
    let next = next_in size q (bundle_size_is resources.interleaver count r.interleaver) h in
    let same = ap (λ n. interleaved resources.interleaver count n * size) next.bundle in
    let rest = next.rest in
    omega (arith, same, rest)

begins : (size j : ℕ) → IsSize size → 6 * j % size ≡ 0
begins size j (inl e) = subst (λ s. 6 * j % s ≡ 0) (sym e) (omega arith)
begins size j (inr (inl e)) = subst (λ s. 6 * j % s ≡ 0) (sym e) (omega arith)
begins size j (inr (inr e)) = subst (λ s. 6 * j % s ≡ 0) (sym e) (omega arith)

-- a bundle begins at the first place of each CCE
pub begins_at : (resources : Resources) (j : ℕ) → AreResources resources → 6 * j % bundle_size resources.interleaver ≡ 0
begins_at resources j r =
    begins (bundle_size resources.interleaver) j (bundle_size_is resources.interleaver (6 * cce_count resources) r.interleaver)

-- What a sort of the REGs of a candidate's CCEs leaves.
use Rattle.std.proofs.Common.{◌≡◌, ℕ, ◌+◌, ◌*◌, ◌<◌, ◌≤◌, ◌⊎◌, inl, inr, Bool, true, false, List, map, length, get_or}
use Rattle.std.proofs.Common.{drop, IsPermutation, refl, sym, ◌∙◌, ap, subst, arith}
use Rattle.std.specs.Ordering.{nat_cmp, is_lt, ordering_then}
use Rattle.std.specs.declared.cmp.Ordering.TheVariants.{Less, Equal}
use Rattle.std.specs.Cmp.{nat_cmp_is}
use Rattle.std.specs.List.{range_with_len, refill}
use Rattle.std.proofs.lemmas.Bool.{cases_order}
use Rattle.std.proofs.lemmas.List.{take_all, take-append-le}
use Rattle.std.proofs.lemmas.List.Sorted.{length_permutation}
use Rattle.coreset_map.specs.declared.places.Reg.{Reg}
use Rattle.coreset_map.specs.ControlResources.{Resources, cce_count, AreBelow, AreResources}
use Rattle.coreset_map.specs.Candidates.{cces_regs, candidate_regs}
use Rattle.coreset_map.specs.Numbers.{placed_reg}
use Rattle.coreset_map.specs.RegOrder.{AreRegs, AreWithin}
use Rattle.coreset_map.proofs.Cces.{cces_regs_mapped}
use Rattle.coreset_map.proofs.CandidateRegs.{AtMost, sorted_candidate, length-candidate, candidate_order, candidate_within}

-- the order that `cmp` of REGs answers
abbrev compared : Reg → Reg → Bool
compared b a = is_lt (ordering_then (nat_cmp b.symbol a.symbol) (nat_cmp b.block a.block))

block_cases : (m n : ℕ) → is_lt (nat_cmp n m) ≡ false → (m ≡ n) ⊎ ((m < n) ⊎ (n < m)) → m ≤ n
block_cases m n h (inl e) = omega (arith, e)
block_cases m n h (inr (inl l)) = omega (arith, l)
block_cases m n h (inr (inr g)) =
    absurd (let e : Less ≡ nat_cmp n m = nat_cmp_is n m Less g in let f : true ≡ false = ap is_lt e ∙ h in cc)

symbol_cases : (a b : Reg) → compared b a ≡ false → (a.symbol ≡ b.symbol) ⊎ ((a.symbol < b.symbol) ⊎ (b.symbol < a.symbol))
    → AtMost a b
symbol_cases a b h (inl e) =
    let s : Equal ≡ nat_cmp b.symbol a.symbol = nat_cmp_is b.symbol a.symbol Equal (sym e) in
    let f : is_lt (nat_cmp b.block a.block) ≡ false = ap (λ o. is_lt (ordering_then o (nat_cmp b.block a.block))) s ∙ h in
    (omega (arith, e), λ _. block_cases a.block b.block f (cases_order a.block b.block))
symbol_cases a b h (inr (inl l)) = (omega (arith, l), λ e. absurd (omega (arith, l, e)))
symbol_cases a b h (inr (inr g)) =
    let s : Less ≡ nat_cmp b.symbol a.symbol = nat_cmp_is b.symbol a.symbol Less g in
    absurd (let f : true ≡ false = ap (λ o. is_lt (ordering_then o (nat_cmp b.block a.block))) s ∙ h in cc)

at_most_from : (a b : Reg) → compared b a ≡ false → AtMost a b
at_most_from a b h = symbol_cases a b h (cases_order a.symbol b.symbol)

-- all elements refilled
refilled : {A : Type 0} (xs ws : List A) → length ws ≡ length xs → refill (length xs) xs ws ≡ ws
refilled xs ws e =
    take-append-le (length xs) ws (drop (length ws) xs) (omega (arith, e)) ∙ take_all (length xs) ws (omega (arith, e))

-- what is known of the REGs of a candidate
pub record IsCandidate (resources : Resources) (start level : ℕ) (regs : List Reg) : Type 0 where
  pub are : regs ≡ candidate_regs resources start level
  pub long : length regs ≡ 6 * level
  pub order : AreRegs regs
  pub symbols : AreWithin resources.duration 275 regs
  pub blocks : (blocks : ℕ) → AreBelow blocks resources → AreWithin resources.duration blocks regs

-- the REGs of a candidate are what the code is to list
pub is_candidate : (resources : Resources) (start level : ℕ) → AreResources resources → start + level ≤ cce_count resources
    → IsCandidate resources start level (candidate_regs resources start level)
is_candidate resources start level r h = record {
  are = refl;
  long = length-candidate resources start level r h;
  order = candidate_order resources start level r;
  symbols = candidate_within resources start level 275 r.below;
  blocks = λ blocks b. candidate_within resources start level blocks b;
}

-- and so are the REGs of its CCEs once they are sorted
pub sorted_listed : (resources : Resources) (start level : ℕ) (pushed sorted : List Reg) → AreResources resources
    → start + level ≤ cce_count resources
    → length pushed ≡ 6 * level
    → pushed ≡ map (placed_reg (6 * cce_count resources) resources) (range_with_len (6 * start) (length pushed))
    → IsPermutation pushed sorted
    → ((k : ℕ) (d : Reg) → 0 ≤ k → k + 1 < length sorted → compared (get_or sorted (k + 1) d) (get_or sorted k d) ≡ false)
    → IsCandidate resources start level (refill (length pushed) pushed sorted)
sorted_listed resources start level pushed sorted r h n e p s =
    let all : cces_regs resources start level ≡ pushed =
    cces_regs_mapped resources start level r
    ∙ ap (λ k. map (placed_reg (6 * cce_count resources) resources) (range_with_len (6 * start) k)) (sym n)
    ∙ sym e in
    let are : sorted ≡ candidate_regs resources start level =
    sorted_candidate resources start level sorted r h (subst (λ xs. IsPermutation xs sorted) (sym all) p)
    (λ k d l. at_most_from (get_or sorted k d) (get_or sorted (k + 1) d) (s k d (omega arith) l)) in
    let same : refill (length pushed) pushed sorted ≡ candidate_regs resources start level =
    refilled pushed sorted (length_permutation pushed sorted p) ∙ are in
    subst (λ regs. IsCandidate resources start level regs) (sym same) (is_candidate resources start level r h)

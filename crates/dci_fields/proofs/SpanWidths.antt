-- Bounds of the widths of the frequency assignments of a legal cell.
use Rattle.std.proofs.Common.{ℕ, ◌+◌, ◌-◌, ◌*◌, ◌/◌, ◌%◌, ◌^◌, ◌<◌, ◌≤◌, nat_eq, nat_le}
use Rattle.std.proofs.Common.{max, arith}
use Rattle.std.proofs.Math.Nat.{mul-le-mul}
use Rattle.std.proofs.lemmas.Nat.{le-div}
use Rattle.std.proofs.lemmas.Bool.{leb-false, cond_both}
use Rattle.alloc_fields.specs.Groups.{group_size, rbg_count}
use Rattle.alloc_fields.proofs.LeastBits.{bits_for_le, bits_for_more}
use Rattle.alloc_fields.proofs.GroupCounts.{rbg_count_le}
use Rattle.rrc_settings.specs.declared.settings.Bwp.{Bwp}
use Rattle.rrc_settings.specs.declared.settings.Allocation.{Allocation}
use Rattle.rrc_settings.specs.declared.settings.Allocation.TheVariants.{Type0, Type1, Dynamic}
use Rattle.rrc_settings.specs.LegalCell.{IsLegalBwp}
use Rattle.dci_fields.specs.Assignments.{IsBlockCount, span_bits, fdra_width}
use Rattle.dci_fields.proofs.BlockCounts.{bwp_blocks}

-- a start and a length among 6 to 275 blocks take 5 to 16 bits
pub record IsSpanWidth (width : ℕ) : Type 0 where
  pub least : 5 ≤ width
  pub most : width ≤ 16

-- the bits of a start and a length
pub span_width : (n : ℕ) → IsBlockCount n → IsSpanWidth (span_bits n)
unfolding span_bits
span_width n h =
    let low = h.least in
    let high = h.most in
    let below : n * (n + 1) ≤ 275 * 276 = let next : n + 1 ≤ 276 = omega (arith, high) in mul-le-mul high next in
    let above : 6 * 7 ≤ n * (n + 1) = let next : 7 ≤ n + 1 = omega (arith, low) in mul-le-mul low next in
    let most : n * (n + 1) / 2 ≤ 2 ^ 16 = omega (arith, below) in
    let least : 2 ^ 4 < n * (n + 1) / 2 = omega (arith, above) in
    let fits : n * (n + 1) / 2 ≤ 2 ^ 32 = omega (arith, most) in
    record {
      least = let b = bits_for_more (n * (n + 1) / 2) 4 fits least in omega (arith, b);
      most = bits_for_le (n * (n + 1) / 2) 16 fits most;
    }

-- a group has fewer blocks than the bandwidth part
group_below : (size config : ℕ) → 6 ≤ size → (1 ≤ group_size size config) × (group_size size config + 1 ≤ size)
unfolding group_size
group_below size config h =
    let P : ℕ → Type 0 = λ n. (1 ≤ n) × (n + 1 ≤ size) in
    let one = nat_eq config 1 in
    cond_both (nat_le size 36) _ _ P
    (λ e. cond_both one 2 4 P (λ _. (omega arith, omega (arith, h))) (λ _. (omega arith, omega (arith, h))))
    (λ e. let a = leb-false size 36 e in
    cond_both (nat_le size 72) _ _ P
    (λ f. cond_both one 4 8 P (λ _. (omega arith, omega (arith, a))) (λ _. (omega arith, omega (arith, a))))
    (λ f. cond_both (nat_le size 144) _ _ P
    (λ g. cond_both one 8 16 P (λ _. (omega arith, omega (arith, a))) (λ _. (omega arith, omega (arith, a))))
    (λ g. (omega arith, omega (arith, a)))))

two_groups : (size rest blocks : ℕ) → 1 ≤ blocks → blocks + 1 ≤ size → 2 ≤ (size + rest + (blocks - 1)) / blocks
two_groups size rest blocks some h = le-div 2 (size + rest + (blocks - 1)) blocks (omega arith) (omega arith)

-- an assignment takes 2 to 20 bits
pub record IsFdraWidth (width : ℕ) : Type 0 where
  pub least : 2 ≤ width
  pub most : width ≤ 20

groups_some : (size start config : ℕ) → 6 ≤ size → 2 ≤ rbg_count size start config
unfolding rbg_count
groups_some size start config h =
    let b = group_below size config h in
    two_groups size (start % group_size size config) (group_size size config) b.0 b.1

max_bounds : (a b : ℕ) → a ≤ 19 → 5 ≤ b → b ≤ 16 → IsFdraWidth (max a b + 1)
max_bounds a b h k l = record { least = omega arith; most = omega arith }

-- the bits of an assignment in a legal bandwidth part
pub fdra_width_is : (bwp : Bwp) (allocation : Allocation) (config : ℕ) → IsLegalBwp bwp
    → IsFdraWidth (fdra_width bwp allocation config)
unfolding fdra_width
fdra_width_is bwp Type0 config h =
    let l = rbg_count_le bwp.size bwp.start config h.size_most in
    record { least = groups_some bwp.size bwp.start config h.size_least; most = omega (arith, l) }
fdra_width_is bwp Type1 config h =
    let s = span_width bwp.size (bwp_blocks bwp h) in let a = s.least in let b = s.most in
    record { least = omega (arith, a); most = omega (arith, b) }
fdra_width_is bwp Dynamic config h =
    let s = span_width bwp.size (bwp_blocks bwp h) in
    max_bounds (rbg_count bwp.size bwp.start config) (span_bits bwp.size)
    (rbg_count_le bwp.size bwp.start config h.size_most) s.least s.most

-- Masked bits: how many they are, and that they tell the payload.
use Rattle.std.proofs.Common.{◌≡◌, ◌↔◌, ℕ, ◌+◌, Bool, Some, None, List, length, take, map, refl, ap, sym, ◌∙◌, arith}
use Rattle.std.proofs.Common.{length-append}
use Rattle.std.specs.List.{range_with_len}
use Rattle.std.proofs.lemmas.List.{take_at}
use Rattle.std.proofs.lemmas.Option.{same_Some}
use Rattle.std.proofs.lemmas.List.FromFn.{length-map-range_with_len}
use Rattle.bits_core.specs.Bits.{plus, bit_of}
use Rattle.crc_mask.specs.Parity.{parity, mask, masked}

-- masked bits are 24 more than the payload
pub length-masked : (payload : List Bool) (rnti : ℕ) → length (masked payload rnti) ≡ length payload + 24
unfolding masked
length-masked payload rnti =
    length-append payload (map (λ j. plus (bit_of (parity payload) j) (bit_of (mask rnti) j)) (range_with_len 0 24))
    ∙ ap (λ (n : ℕ). length payload + n)
    (length-map-range_with_len (λ j. plus (bit_of (parity payload) j) (bit_of (mask rnti) j)) 0 24)

-- masked bits begin with their payload
pub take-masked : (payload : List Bool) (rnti n : ℕ) → length payload ≡ n → take n (masked payload rnti) ≡ payload
unfolding masked
take-masked payload rnti n e =
    take_at payload (map (λ j. plus (bit_of (parity payload) j) (bit_of (mask rnti) j)) (range_with_len 0 24)) n e

-- the same masked bits, the same payload
pub masked_once : (payload other : List Bool) (rnti : ℕ) → masked payload rnti ≡ masked other rnti → payload ≡ other
masked_once payload other rnti e =
    let lengths : length payload ≡ length other =
    let l : length (masked payload rnti) ≡ length (masked other rnti) = ap length e in
    omega (arith, length-masked payload rnti, length-masked other rnti)
    in
    sym (take-masked payload rnti (length payload) refl)
    ∙ ap (λ (bits : List Bool). take (length payload) bits) e
    ∙ take-masked other rnti (length payload) (sym lengths)

-- the payload at hand has the masked bits
pub stripped : (bits payload block : List Bool) (rnti : ℕ) → block ≡ masked payload rnti → block ≡ bits → (p : List Bool)
    → (Some payload ≡ Some p) ↔ (masked p rnti ≡ bits)
stripped bits payload block rnti is same p = (
  (λ e. ap (λ (q : List Bool). masked q rnti) (sym (same_Some payload p e)) ∙ sym is ∙ same),
  (λ e. ap (λ (q : List Bool). Some q) (masked_once payload p rnti (sym is ∙ same ∙ sym e))),
)

-- it doesn't, and no other could
pub not_stripped : (bits payload block : List Bool) (rnti size : ℕ) → block ≡ masked payload rnti → payload ≡ take size bits
    → length bits ≡ size + 24
    → (block ≡ bits → ⊥) → (p : List Bool) → (None ≡ Some p) ↔ (masked p rnti ≡ bits)
not_stripped bits payload block rnti size is front long other p = (
  (λ e. cc),
  (λ e.
      let lengths : length p ≡ size =
      let l : length (masked p rnti) ≡ length bits = ap length e in
      omega (arith, length-masked p rnti)
      in
      let same : payload ≡ p = front ∙ ap (λ (b : List Bool). take size b) (sym e) ∙ take-masked p rnti size lengths in
      absurd (other (is ∙ ap (λ (q : List Bool). masked q rnti) same ∙ e))),
)

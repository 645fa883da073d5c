-- The bits that are sent, by the bits of the word.
use Rattle.std.proofs.Common.{ℕ, ◌≡◌, ◌+◌, ◌<◌, ◌≤◌, Bool, false, List, [], ◌∷◌, ◌++◌, take, length, map, ap, sym, ◌∙◌, arith}
use Rattle.std.specs.List.{range_with_len}
use Rattle.std.proofs.lemmas.List.{take_all}
use Rattle.std.proofs.lemmas.List.FromFn.{fill_by_all, get_or-map-range_with_len, length-map-range_with_len}
use Rattle.std.proofs.lemmas.List.FromFn.{map-range_with_len_more, take-map-range_with_len}
use Rattle.bits_core.specs.Bits.{bit_of}
use Rattle.rate_match.specs.SubblockOrder.{position_at}
use Rattle.rate_match.specs.RateMatching.{selected, sent_place}

-- as many bits are selected as are sent
pub length-selected : (n k e : ℕ) (d : ℕ → Bool) → length (selected n k e d) ≡ e
unfolding selected
length-selected n k e d = length-map-range_with_len (λ i. d (position_at n (sent_place n k e i))) 0 e

-- each bit that is sent
pub bit_of-selected : (n k e : ℕ) (d : ℕ → Bool) (i : ℕ) → i < e
    → bit_of (selected n k e d) i ≡ d (position_at n (sent_place n k e i))
unfolding selected
bit_of-selected n k e d i l =
    get_or-map-range_with_len (λ i. d (position_at n (sent_place n k e i))) 0 e i i false l (omega arith)

-- bits are those that are sent where each one is
pub selected_by_each : (n k e : ℕ) (d : ℕ → Bool) (bits : List Bool) → length bits ≡ e →
    ((i : ℕ) → i < e → bit_of bits i ≡ d (position_at n (sent_place n k e i))) → bits ≡ selected n k e d
unfolding selected
selected_by_each n k e d bits h each = fill_by_all (λ i. d (position_at n (sent_place n k e i))) bits e false h each

-- the bits that are sent depend on the positions that are sent alone
pub selected_same : (n k e : ℕ) (d g : ℕ → Bool)
    → ((i : ℕ) → i < e → d (position_at n (sent_place n k e i)) ≡ g (position_at n (sent_place n k e i))) →
    selected n k e d ≡ selected n k e g
selected_same n k e d g h =
    selected_by_each n k e g (selected n k e d) (length-selected n k e d) (λ i l. bit_of-selected n k e d i l ∙ h i l)

-- one more bit
pub selected_more : (n k e : ℕ) (d : ℕ → Bool) (coded more : List Bool) (at : ℕ) (bit : Bool) → at < e →
    coded ≡ take at (selected n k e d) → more ≡ coded ++ bit ∷ [] → bit ≡ d (position_at n (sent_place n k e at)) →
    more ≡ take (at + 1) (selected n k e d)
unfolding selected
selected_more n k e d coded more at bit l s m b =
    let f = λ (i : ℕ). d (position_at n (sent_place n k e i)) in
    m ∙ ap (λ (xs : List Bool). xs ++ bit ∷ []) (s ∙ take-map-range_with_len f 0 e at (omega arith))
    ∙ ap (λ (x : Bool). map f (range_with_len 0 at) ++ x ∷ []) b
    ∙ sym (map-range_with_len_more f 0 at at (omega arith))
    ∙ sym (take-map-range_with_len f 0 e (at + 1) (omega arith))

-- all bits
pub selected_all : (n k e : ℕ) (d : ℕ → Bool) (coded : List Bool) (at : ℕ) → e ≤ at → coded ≡ take at (selected n k e d)
    → coded ≡ selected n k e d
selected_all n k e d coded at l s =
    let m = length-selected n k e d in
    s ∙ take_all at (selected n k e d) (omega arith)

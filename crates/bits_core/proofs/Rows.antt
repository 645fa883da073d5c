-- Rows of packed bits as lists: their length, a bit, a push, a write.
use Rattle.std.proofs.Common.{◌≡◌, ℕ, ◌+◌, ◌<◌, Bool, false, List, [], ◌∷◌, ◌++◌, length, get_or, set, ap, sym, ◌∙◌, inl, inr}
use Rattle.std.proofs.Common.{arith, length-set, get_or-set_same, get_or-set_other}
use Rattle.std.proofs.lemmas.Bool.{cases_eq}
use Rattle.std.proofs.lemmas.List.FromFn.{length-map-range_with_len, get_or-map-range_with_len, map-range_with_len_more}
use Rattle.std.proofs.lemmas.List.FromFn.{fill_by_all}
use Rattle.bits_core.specs.Row.{word_bit, row_bits}
use Rattle.bits_core.specs.RowWriting.{IsWritten}

-- the first n bits are n
pub length-row : (words : List ℕ) (n : ℕ) → length (row_bits words n) ≡ n
length-row words n = length-map-range_with_len (word_bit words) 0 n

-- the bit of a row at a place is that of the words
pub get-row : (words : List ℕ) (n at : ℕ) → at < n → get_or (row_bits words n) at false ≡ word_bit words at
get-row words n at h = get_or-map-range_with_len (word_bit words) 0 n at at false h (omega arith)

-- rows of the same bits
pub same_row : (old new : List ℕ) (n : ℕ) → ((i : ℕ) → i < n → word_bit new i ≡ word_bit old i) → row_bits new n ≡ row_bits old n
same_row old new n h =
    fill_by_all (word_bit old) (row_bits new n) n false (length-row new n) (λ k l. get-row new n k l ∙ h k l)

-- the bit after the last is written: a push
pub push-row : (old new : List ℕ) (n : ℕ) (bit : Bool) → IsWritten n bit old new
    → row_bits new (n + 1) ≡ row_bits old n ++ bit ∷ []
push-row old new n bit w =
    let front = same_row old new n (λ i l. w.others i (omega arith)) in
    map-range_with_len_more (word_bit new) 0 n n (omega arith)
    ∙ ap (λ (xs : List Bool). xs ++ word_bit new n ∷ []) front
    ∙ ap (λ (b : Bool). row_bits old n ++ b ∷ []) w.there

-- a bit of the row is written
pub set-row : (old new : List ℕ) (n at : ℕ) (bit : Bool) → IsWritten at bit old new → at < n
    → row_bits new n ≡ set (row_bits old n) at bit
set-row old new n at bit w h =
    let within : at < length (row_bits old n) = omega (arith, length-row old n) in
    sym
    (fill_by_all (word_bit new) (set (row_bits old n) at bit) n false
    (length-set (row_bits old n) at bit ∙ length-row old n)
    (λ k l. elim (cases_eq k at) as (λ _. get_or (set (row_bits old n) at bit) k false ≡ word_bit new k) [
      | inl e ↦
          ap (λ (i : ℕ). get_or (set (row_bits old n) at bit) i false) e
          ∙ get_or-set_same (row_bits old n) at bit false within ∙ sym w.there ∙ ap (word_bit new) (sym e)
      | inr ne ↦ get_or-set_other (row_bits old n) at k bit false ne ∙ get-row old n k l ∙ sym (w.others k ne)
    ]))

-- The line of a symbol, one point more at a time.
use Rattle.std.proofs.Common.{◌≡◌, ◌+◌, ℕ, List, [], ◌∷◌, ◌++◌, map, sym, ap, ◌∙◌, append_assoc, zero-add}
use Rattle.std.specs.List.{range_with_len}
use Rattle.std.proofs.lemmas.List.FromFn.{map-range_with_len_more}

-- the characters of a range of numbers behind a text, and that of the next number
pub mapped_more : (f : ℕ → ℕ) (text : List ℕ) (n : ℕ) → (text ++ map f (range_with_len 0 n)) ++ f n ∷ []
    ≡ text ++ map f (range_with_len 0 (n + 1))
mapped_more f text n =
    append_assoc text (map f (range_with_len 0 n)) (f n ∷ [])
    ∙ ap (λ rest. text ++ rest) (sym (map-range_with_len_more f 0 n n (zero-add n)))

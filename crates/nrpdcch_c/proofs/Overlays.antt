-- A list that is written over the beginning of another, entry by entry.
use Rattle.std.proofs.Common.{◌≡◌, ℕ, zero, suc, ◌+◌, ◌<◌, ◌≤◌, List, [], ◌∷◌, ◌++◌, length, map, get_or, set, take, drop}
use Rattle.std.proofs.Common.{arith, sym, ap, ◌∙◌}
use Rattle.std.proofs.lemmas.List.{append_assoc, drop_more, length-map, length-take-le, map_more, set_at, take_all}
use Rattle.nrpdcch_c.specs.Overlaid.{overlaid}

-- one entry more
pub overlaid_next : {X Y : Type 0} (f : X → Y) (xs : List X) (ys : List Y) (i : ℕ) (d : X) (e : Y) → i < length xs → i < length ys
    → set (map f (take i xs) ++ drop i ys) i (f (get_or xs i d)) ≡ map f (take (i + 1) xs) ++ drop (i + 1) ys
overlaid_next f xs ys i d e below inside =
    let front = map f (take i xs) in
    let y = f (get_or xs i d) in
    let rest = drop (i + 1) ys in
    ap (λ back. set (front ++ back) i y) (drop_more ys i e inside)
    ∙ set_at front (get_or ys i e) rest y i (length-map (take i xs) f ∙ length-take-le i xs (omega arith))
    ∙ sym (append_assoc front (y ∷ []) rest)
    ∙ ap (λ l. l ++ rest) (sym (map_more f xs i d below))

-- all entries
pub overlaid_whole : {X Y : Type 0} (f : X → Y) (xs : List X) (ys : List Y) (i : ℕ) → length xs ≤ i → i ≤ length xs
    → map f (take i xs) ++ drop i ys ≡ overlaid (map f xs) ys
overlaid_whole f xs ys i most least =
    ap (λ l. map f l ++ drop i ys) (take_all i xs most)
    ∙ ap (λ n. map f xs ++ drop n ys) (long ∙ sym (length-map xs f)) where
      long : i ≡ length xs
      long = omega (arith, most, least)

-- one entry more, which stands there already
pub overlaid_kept : {X Y : Type 0} (f : X → Y) (xs : List X) (ys : List Y) (i : ℕ) (d : X) (e : Y) → i < length xs → i < length ys
    → get_or ys i e ≡ f (get_or xs i d)
    → map f (take i xs) ++ drop i ys ≡ map f (take (i + 1) xs) ++ drop (i + 1) ys
overlaid_kept f xs ys i d e below inside same =
    let front = map f (take i xs) in
    let rest = drop (i + 1) ys in
    ap (λ back. front ++ back) (drop_more ys i e inside)
    ∙ ap (λ y. front ++ y ∷ rest) same
    ∙ sym (append_assoc front (f (get_or xs i d) ∷ []) rest)
    ∙ ap (λ l. l ++ rest) (sym (map_more f xs i d below))

-- some entries more, which stand there already
pub overlaid_through : {X Y : Type 0} (f : X → Y) (xs : List X) (ys : List Y) (d : X) (e : Y) (a n : ℕ) → a + n ≤ length xs
    → a + n ≤ length ys → ((k : ℕ) → k < n → get_or ys (a + k) e ≡ f (get_or xs (a + k) d))
    → map f (take a xs) ++ drop a ys ≡ map f (take (a + n) xs) ++ drop (a + n) ys
overlaid_through f xs ys d e a zero below inside same =
    ap (λ i. map f (take i xs) ++ drop i ys) (omega arith)
overlaid_through f xs ys d e a (suc n) below inside same =
    overlaid_through f xs ys d e a n (omega (arith, below)) (omega (arith, inside)) (λ k lt. same k (omega (arith, lt)))
    ∙ overlaid_kept f xs ys (a + n) d e (omega (arith, below)) (omega (arith, inside)) (same n (omega arith))
    ∙ ap (λ i. map f (take i xs) ++ drop i ys) (omega arith)

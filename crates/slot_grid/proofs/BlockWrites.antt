-- The word of a block is written.
use Rattle.std.proofs.Common.{◌≡◌, ℕ, ◌+◌, ◌*◌, ◌/◌, ◌%◌, ◌<◌, ◌≢◌, List, length, get_or, set, inl, inr, refl, sym, ap, ◌∙◌}
use Rattle.std.proofs.Common.{get_or-set_same, get_or-set_other, subst, arith}
use Rattle.std.proofs.lemmas.Bool.{cases_lt}
use Rattle.std.proofs.lemmas.List.{get_or_past}
use Rattle.std.proofs.lemmas.Nat.{same_from_place}
use Rattle.slot_grid.specs.declared.places.Point.TheVariants.{Empty}
use Rattle.slot_grid.specs.Block.{point_in, points_in}
use Rattle.slot_grid.specs.Grid.{IsBlockPut, point_at}
use Rattle.slot_grid.proofs.BlockWords.{get-block, get-points_in, length-points_in, place_flat, word_within}
use Rattle.slot_grid.proofs.GridWords.{grid_in}
use Rattle.slot_grid.proofs.Points.{point_at_on, point_at_past}

-- a word is replaced: the points of each other block stay
other_points : (words : List ℕ) (blocks at word i : ℕ) → i / 12 ≢ at
    → get_or (points_in (set words at word) blocks) i Empty ≡ get_or (points_in words blocks) i Empty
other_points words blocks at word i ne =
    let new = set words at word in
    elim (cases_lt i (14 * (12 * blocks))) [
      | inl l ↦
          get-points_in new blocks i l
          ∙ ap (λ w. point_in w (i % 12)) (get_or-set_other words at (i / 12) word 0 ne)
          ∙ sym (get-points_in words blocks i l)
      | inr l ↦
          get_or_past (points_in new blocks) i Empty (omega (arith, length-points_in new blocks))
          ∙ sym (get_or_past (points_in words blocks) i Empty (omega (arith, length-points_in words blocks)))
    ]

-- the grid has the points of the word at the places of its block
points_there : (mu frame slot blocks : ℕ) (words : List ℕ) (symbol block word : ℕ) → length words ≡ 14 * blocks → symbol < 14
    → block < blocks → (k : ℕ) → k < 12
    → point_at (grid_in mu frame slot blocks (set words (symbol * blocks + block) word)) symbol (12 * block + k) ≡ point_in word k
points_there mu frame slot blocks words symbol block word size l m k n =
    let at = symbol * blocks + block in
    let new = set words at word in
    let within : at < 14 * blocks = word_within symbol blocks block l m in
    point_at_on (grid_in mu frame slot blocks new) symbol (12 * block + k) (omega arith)
    ∙ ap (λ i. get_or (points_in new blocks) i Empty) (place_flat symbol blocks block k)
    ∙ get-block new blocks at k within n
    ∙ ap (λ w. point_in w k) (get_or-set_same words at word 0 (omega (arith, size)))

-- and at every other place the point that it had
points_elsewhere : (mu frame slot blocks : ℕ) (words : List ℕ) (symbol block word : ℕ) → block < blocks
    → (s c : ℕ) → (s ≡ symbol → c / 12 ≡ block → ⊥)
    → point_at (grid_in mu frame slot blocks (set words (symbol * blocks + block) word)) s c
    ≡ point_at (grid_in mu frame slot blocks words) s c
points_elsewhere mu frame slot blocks words symbol block word m s c other =
    let w = 12 * blocks in
    let at = symbol * blocks + block in
    let old = grid_in mu frame slot blocks words in
    let new = grid_in mu frame slot blocks (set words at word) in
    elim (cases_lt c w) [
      | inl l ↦
          let flat : s * w + c ≡ 12 * (s * blocks + c / 12) + c % 12 = omega (arith, place_flat s blocks (c / 12) (c % 12)) in
          let here : (s * w + c) / 12 ≡ s * blocks + c / 12 = omega (arith, flat) in
          let apart : (s * w + c) / 12 ≢ at =
          λ e.
          let (row, column) = same_from_place s (c / 12) symbol block blocks (omega arith) m (sym here ∙ e) in
          other row column
          in
          point_at_on new s c l ∙ other_points words blocks at word (s * w + c) apart ∙ sym (point_at_on old s c l)
      | inr l ↦ point_at_past new s c l ∙ sym (point_at_past old s c l)
    ]

-- the word of a symbol and block is replaced
pub block_written : (mu frame slot blocks : ℕ) (words : List ℕ) (symbol block place word : ℕ) → length words ≡ 14 * blocks
    → symbol < 14 → block < blocks → place ≡ symbol * blocks + block
    → IsBlockPut symbol block word (grid_in mu frame slot blocks words) (grid_in mu frame slot blocks (set words place word))
block_written mu frame slot blocks words symbol block place word size l m here =
    let old = grid_in mu frame slot blocks words in
    let at = symbol * blocks + block in
    let put : IsBlockPut symbol block word old (grid_in mu frame slot blocks (set words at word)) = record {
      numbers = record {
        mu = refl;
        frame = refl;
        slot = refl;
        blocks = refl;
        size = length-points_in (set words at word) blocks ∙ sym (length-points_in words blocks);
      };
      there = points_there mu frame slot blocks words symbol block word size l m;
      others = points_elsewhere mu frame slot blocks words symbol block word m;
    }
    in
    let onto : ℕ → Type 0 = λ i. IsBlockPut symbol block word old (grid_in mu frame slot blocks (set words i word)) in
    subst onto (sym here) put

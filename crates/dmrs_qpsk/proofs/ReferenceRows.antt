-- Reference points that were worked out apart from the definition.
use Rattle.std.proofs.Common.{◌≡◌, ℕ, List, [], ◌∷◌, map, refl}
use Rattle.std.specs.List.{range_with_len}
use Rattle.gold_scrambler.specs.Gold.{state1, state2, x1, x2, gold}
use Rattle.slot_grid.specs.declared.places.Point.{Point}
use Rattle.slot_grid.specs.declared.places.Point.TheVariants.{P00, P01, P10, P11}
use Rattle.dmrs_qpsk.specs.ReferencePoints.{reference}

-- the three reference points of a block
abbrev references : ℕ → ℕ → ℕ → ℕ → List Point
references slot symbol id block = map (reference slot symbol id block) (range_with_len 0 3)

-- those of the first and the eighth block of a carrier, of the last block of the largest one, of a block in the last symbol of
-- slot 79, and of one with a small identity
rows :
    references 0 0 500 0 ∷ references 0 0 500 7 ∷ references 19 2 65535 274 ∷ references 79 13 0 100 ∷ references 5 1 7 3 ∷ []
    ≡ (P01 ∷ P01 ∷ P00 ∷ []) ∷ (P00 ∷ P00 ∷ P11 ∷ []) ∷ (P01 ∷ P10 ∷ P11 ∷ []) ∷ (P10 ∷ P00 ∷ P10 ∷ [])
    ∷ (P10 ∷ P11 ∷ P01 ∷ []) ∷ []
unfolding reference state1 state2 x1 x2 gold
rows = refl

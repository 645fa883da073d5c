-- Ten bits of the sequence, worked out apart from the definition.
use Rattle.std.proofs.Common.{◌≡◌, true, false, [], ◌∷◌, map, refl}
use Rattle.std.specs.List.{range_with_len}
use Rattle.gold_scrambler.specs.Gold.{state1, state2, x1, x2, gold}

-- c(0) to c(9) of the start value 500
pins_500 : map (gold 500) (range_with_len 0 10)
    ≡ false ∷ false ∷ false ∷ true ∷ true ∷ true ∷ true ∷ true ∷ true ∷ false ∷ []
unfolding state1 state2 x1 x2 gold
pins_500 = refl

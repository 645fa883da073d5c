-- The places of a candidate that have data (3GPP TS 38.211, 7.3.2.5): all of its REGs but the places of the reference signal.
use Rattle.std.specs.Prelude.{ℕ, ◌*◌, ◌/◌, ◌%◌, Bool, not, ◌&&◌, ◌||◌, ◌==◌, List, map}
use Rattle.std.specs.List.{range_with_len, flat_map, filter, list_any}
use Rattle.coreset_map.specs.declared.places.Reg.{Reg}
use Rattle.coreset_map.specs.declared.places.Spot.{Spot}
use Rattle.coreset_map.specs.RegOrder.{are_one_reg}

-- whether a subcarrier of a block has a reference point (3GPP TS 38.211, 7.4.1.3.2)
abbrev pub is_reference : ℕ → Bool
is_reference k = k == 1 || k == 5 || k == 9

-- whether a place is in one of the REGs, and has data there
unfoldable pub has_data : List Reg → Spot → Bool
has_data regs spot =
    not (is_reference (spot.subcarrier % 12))
    && list_any (are_one_reg (record { symbol = spot.symbol; block = spot.subcarrier / 12 })) regs

-- every place of so many symbols and blocks, by symbol, and in a symbol by subcarrier
unfoldable pub places_of : ℕ → ℕ → List Spot
places_of symbols blocks =
    flat_map (λ s. map (λ c. record { symbol = s; subcarrier = c }) (range_with_len 0 (12 * blocks)))
    (range_with_len 0 symbols)

-- those of the places of so many symbols and blocks that are in one of the REGs and have data, by symbol, and in a symbol by
-- subcarrier
unfoldable pub data_places : ℕ → ℕ → List Reg → List Spot
data_places symbols blocks regs = filter (has_data regs) (places_of symbols blocks)

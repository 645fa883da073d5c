-- The places of a watch on the grid.
use Rattle.std.specs.Prelude.{ℕ, ◌+◌, ◌*◌, List, map}
use Rattle.std.specs.List.{range_with_len, flat_map}
use Rattle.coreset_map.specs.declared.places.Reg.{Reg}
use Rattle.coreset_map.specs.declared.places.Spot.{Spot}
use Rattle.monitor_plan.specs.declared.watch.Watch.{Watch}

-- place k of a REG at a watch: its symbol of the slot, and its subcarrier
abbrev pub place_of : Watch → Reg → ℕ → Spot
place_of watch reg k = record { symbol = watch.symbol + reg.symbol; subcarrier = 12 * reg.block + k }

-- the places of a watch: REG after REG, and in each its 12 subcarriers
unfoldable pub places : Watch → List Spot
places watch = flat_map (λ reg. map (place_of watch reg) (range_with_len 0 12)) watch.regs.items

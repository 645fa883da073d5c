-- The REGs of a candidate (3GPP TS 38.211, 7.3.2.2 and 7.3.2.5): those of some CCEs that follow one another, by symbol and block.
use Rattle.std.specs.Prelude.{ℕ, List, map}
use Rattle.std.specs.List.{range_with_len, flat_map, filter, list_any}
use Rattle.coreset_map.specs.declared.places.Reg.{Reg}
use Rattle.coreset_map.specs.ControlResources.{Resources, blocks_of, cce_regs}
use Rattle.coreset_map.specs.RegOrder.{are_one_reg}

-- the REGs of `level` CCEs from CCE `start` on, CCE by CCE
unfoldable pub cces_regs : Resources → ℕ → ℕ → List Reg
cces_regs resources start level = flat_map (cce_regs resources) (range_with_len start level)

-- every REG of the set, by symbol, and in a symbol by block
unfoldable pub all_regs : Resources → List Reg
all_regs resources =
    flat_map (λ s. map (λ b. record { symbol = s; block = b }) (blocks_of resources)) (range_with_len 0 resources.duration)

-- those of a list of REGs that are among others
unfoldable pub those_among : List Reg → List Reg → List Reg
those_among others = filter (λ reg. list_any (are_one_reg reg) others)

-- the REGs of the candidate of `level` CCEs from CCE `start` on, by symbol, and in a symbol by block
unfoldable pub candidate_regs : Resources → ℕ → ℕ → List Reg
candidate_regs resources start level = those_among (cces_regs resources start level) (all_regs resources)

-- Words of the code: the REGs of CCEs one after the other, where each CCE has six places and each place one REG.
-- `cce_regs` is the
-- standard's word (3GPP TS 38.211, 7.3.2.2).
use Rattle.std.specs.Prelude.{ℕ, ◌+◌, ◌*◌, ◌/◌, ◌%◌}
use Rattle.coreset_map.specs.declared.places.Reg.{Reg}
use Rattle.coreset_map.specs.ControlResources.{Resources, bundle_size, interleaved, reg_of}

-- the number of the REG at place q, of a set of `count` REGs: bundles fill the places
abbrev pub number_at : ℕ → Resources → ℕ → ℕ
number_at count resources q =
    let size = bundle_size resources.interleaver in
    interleaved resources.interleaver count (q / size) * size + q % size

-- the REG at place q
unfoldable pub placed_reg : ℕ → Resources → ℕ → Reg
placed_reg count resources q = reg_of resources (number_at count resources q)

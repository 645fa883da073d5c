-- Coded bits on the grid (3GPP TS 38.211, 7.3.2.4, 7.3.2.5 and 7.4.1.3.2): each REG of a candidate has reference points
-- at subcarriers 1, 5 and 9, and the QPSK points of the bits at its nine others.
use Rattle.std.specs.Prelude.{ℕ, suc, ◌+◌, ◌*◌, ◌/◌, ◌%◌, Bool, cond, not, ◌&&◌, ◌==◌}
use Rattle.std.specs.Prelude.{List, [], ◌∷◌, Option, Some, None, option_map}
use Rattle.list_facts.specs.Counting.{count_below}
use Rattle.bits_core.specs.Bits.{bit_of}
use Rattle.slot_grid.specs.declared.places.Point.{Point}
use Rattle.slot_grid.specs.Image.{Image}
use Rattle.coreset_map.specs.declared.places.Reg.{Reg}
use Rattle.coreset_map.specs.DataPlaces.{is_reference}
use Rattle.dmrs_qpsk.specs.Modulation.{point_of}
use Rattle.dmrs_qpsk.specs.ReferencePoints.{reference}

-- how many subcarriers of a block below k have data
abbrev pub data_rank : ℕ → ℕ
data_rank k = count_below k (λ i. not (is_reference i))

-- how many of them have a reference point
abbrev pub reference_rank : ℕ → ℕ
reference_rank k = count_below k is_reference

-- the point at subcarrier k of REG j, which is in this symbol and block: a reference point, or the point of the two bits of its
-- place
unfoldable pub reg_point : ℕ → ℕ → ℕ → ℕ → List Bool → ℕ → ℕ → Point
reg_point slot symbol id block bits j k =
    cond (is_reference k) (reference slot symbol id block (reference_rank k))
    (point_of (bit_of bits (18 * j + 2 * data_rank k)) (bit_of bits (18 * j + 2 * data_rank k + 1)))

-- which REG of a list is in a symbol of the slot and a block, where one is; symbols of REGs are counted from `first` on
unfoldable pub which_reg : ℕ → List Reg → ℕ → ℕ → Option ℕ
which_reg first [] symbol block = None
which_reg first (reg ∷ regs) symbol block =
    cond (first + reg.symbol == symbol && reg.block == block) (Some 0) (option_map suc (which_reg first regs symbol block))

-- what bits on REGs write on a grid: REG j has bits 18j to 18j + 17
unfoldable pub image_of : ℕ → ℕ → ℕ → List Reg → List Bool → Image
image_of slot first id regs bits s c =
    option_map (λ j. reg_point slot s id (c / 12) bits j (c % 12)) (which_reg first regs s (c / 12))

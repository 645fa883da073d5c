-- The order in which the bits of a block enter the code (3GPP TS 38.212, 5.3.1.1).
use Rattle.std.specs.Prelude.{ℕ, ◌-◌, Bool, List, map, nat_le}
use Rattle.std.specs.List.{filter}
use Rattle.bits_core.specs.Bits.{bit_of}

-- the order of k bits: the entries of the table that speak of the last k of 164 bits, each counted from the first of these
unfoldable pub order_from : List ℕ → ℕ → List ℕ
order_from table k = map (λ t. t - (164 - k)) (filter (λ t. nat_le (164 - k) t) table)

-- the bits of a block in an order
unfoldable pub in_input_order : List ℕ → List Bool → List Bool
in_input_order order c = map (bit_of c) order

-- How many bits tell so many things apart.
use Rattle.std.specs.Prelude.{ℕ, ◌^◌, nat_le, find, unwrap_or}
use Rattle.std.specs.List.{range_with_len}

-- the least number of bits that tell n things apart, of which there are below 2 ^ 32
unfoldable pub bits_for : ℕ → ℕ
bits_for n = unwrap_or (find (λ bits. nat_le n (2 ^ bits)) (range_with_len 0 33)) 0

-- QPSK (3GPP TS 38.211, 5.1.3): the point of two bits.
use Rattle.std.specs.Prelude.{Bool, true, false}
use Rattle.slot_grid.specs.declared.places.Point.{Point}
use Rattle.slot_grid.specs.declared.places.Point.TheVariants.{P00, P01, P10, P11}

-- the point of the first and the second bit
abbrev pub point_of : Bool → Bool → Point
point_of false false = P00
point_of false true = P01
point_of true false = P10
point_of true true = P11

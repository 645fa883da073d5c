use Rattle.std.proofs.Common.{◌+◌, ◌*◌, ◌<◌, ◌^◌}
use Rattle.bits_core.specs.Bits.{bits_of}
use Rattle.crc_mask.specs.Parity.{covered}
use Rattle.crc_mask.proofs.Registers.{IsRegister}
use Rattle.crc_mask.proofs.register.parity_of.Given as goal

abbrev pub invariant-loop-at : goal.invariant-loop-at
invariant-loop-at l = record {
  below : l.register < 2 ^ 24;
  bits : IsRegister (covered l.payload) (24 + 8 * l.at) (bits_of 24 l.register);
}

abbrev pub invariant-loop-place : goal.invariant-loop-place
invariant-loop-place l = record {
  below : l.register < 2 ^ 24;
  bits : IsRegister (covered l.payload) (24 + l.place) (bits_of 24 l.register);
}

use Rattle.std.proofs.Common.{◌+◌, ◌*◌, ◌/◌, arith}
use Rattle.bits_core.specs.Bits.{bits_of}
use Rattle.bits_core.proofs.Numbers.{length-bits_of}
use Rattle.crc_mask.proofs.Bytes.{byte_lt, byte_next, bit_next, register_ones, register_at}
use Rattle.crc_mask.proofs.Registers.{register_all}
use Rattle.crc_mask.proofs.register.parity_of.Goals as goal

pub loop-at-init : goal.loop-at-init
loop-at-init c = record { below = omega arith; bits = register_ones c.args.payload.now }

pub advance_byte-register-requires-clause-byte : goal.advance_byte-register-requires-clause-byte
advance_byte-register-requires-clause-byte c =
    byte_lt c.args.payload.now c.loop-at.at c.number_at.result (omega arith) c.number_at.ensures

pub loop-at-preserved : goal.loop-at-preserved
loop-at-preserved c = record {
  below = c.advance_byte-register.ensures.below;
  bits =
      byte_next c.args.payload.now c.loop-at.at c.loop-at.register c.number_at.result c.advance_byte-register.result
      (omega arith) c.number_at.ensures c.loop-at.invariant.bits c.advance_byte-register.ensures.bits;
}

pub loop-place-init : goal.loop-place-init
loop-place-init c = record {
  below = c.loop-at.invariant.below;
  bits =
      register_at c.args.payload.now (8 * c.loop-at.at) (8 * (c.len-bytes.result / 8)) (bits_of 24 c.loop-at.register)
      (omega arith) c.loop-at.invariant.bits;
}

pub loop-place-preserved : goal.loop-place-preserved
loop-place-preserved c = record {
  below = c.advance-register.ensures.below;
  bits =
      bit_next c.args.payload.now c.loop-place.place c.loop-place.register c.advance-register.result c.get.result
      c.get.ensures c.loop-place.invariant.bits c.advance-register.ensures.bits;
}

pub returns-clause-bits : goal.returns-clause-bits
returns-clause-bits c =
    register_all c.args.payload.now (bits_of 24 c.loop-place.register) (24 + c.loop-place.place) (omega arith)
    (length-bits_of 24 c.loop-place.register) c.loop-place.invariant.bits

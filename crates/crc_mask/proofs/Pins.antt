-- The definitions, computed at short payloads whose masked bits are known.
use Rattle.std.proofs.Common.{◌≡◌, ◌++◌, refl}
use Rattle.bits_core.specs.Bits.{sum_below, bits_of}
use Rattle.crc_mask.specs.Parity.{generator, times_d, remainder, parity, masked}

one_is : masked (bits_of 1 1) 1 ≡ bits_of 1 1 ++ bits_of 24 0xd77594
unfolding generator times_d remainder parity masked sum_below
one_is = refl

alternating_is : masked (bits_of 12 0xaaa) 4660 ≡ bits_of 12 0xaaa ++ bits_of 24 0x9ce69b
unfolding generator times_d remainder parity masked sum_below
alternating_is = refl

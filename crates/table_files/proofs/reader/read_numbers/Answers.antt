use Rattle.std.proofs.Common.{length, refl, arith}
use Rattle.table_files.proofs.Flags.{flags_none}
use Rattle.table_files.proofs.Parts.{part_empty}
use Rattle.table_files.proofs.reader.read_numbers.Goals as goal

pub loop-at-init : goal.loop-at-init
loop-at-init c = record {
  few = omega arith;
  part = part_empty _;
  flags = flags_none (length c.args.numbers.now) 1024 c.requires;
  rest = refl;
}

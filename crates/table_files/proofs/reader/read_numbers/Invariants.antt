use Rattle.std.proofs.Common.{◌≡◌, ◌≤◌, length, take, drop}
use Rattle.table_files.specs.Permutation.{IsPart}
use Rattle.table_files.specs.NumbersInArray.{reading_of}
use Rattle.table_files.specs.SeenNumbers.{AreFlags}
use Rattle.table_files.specs.TableText.{read_from, read_table}
use Rattle.table_files.proofs.reader.read_numbers.Given as goal

abbrev pub invariant-loop-at : goal.invariant-loop-at
invariant-loop-at l = record {
  few : l.progress.found ≤ length l.numbers;
  part : IsPart (length l.numbers) (take l.progress.found l.numbers);
  flags : AreFlags (length l.numbers) l.seen (take l.progress.found l.numbers);
  rest : read_table (length l.numbers) l.bytes
      ≡ read_from (length l.numbers) l.at (drop l.at l.bytes) (reading_of l.numbers l.progress);
}

use Rattle.std.proofs.Common.{◌≡◌, take, drop}
use Rattle.std.specs.List.{list_all}
use Rattle.grant_file.specs.FieldWord.{is_word_byte}
use Rattle.grant_file.proofs.word.FieldWord.of.Given as goal

-- the word has the bytes so far, and the bytes are all good where those left are
abbrev pub invariant-loop-byte : goal.invariant-loop-byte
invariant-loop-byte l = record {
  so_far : l.word.items ≡ take l.byte-index l.bytes;
  rest : list_all is_word_byte l.bytes ≡ list_all is_word_byte (drop l.byte-index l.bytes);
}

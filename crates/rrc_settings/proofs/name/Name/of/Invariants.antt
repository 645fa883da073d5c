use Rattle.std.proofs.Common.{◌≡◌, take, drop}
use Rattle.std.specs.List.{list_all}
use Rattle.rrc_settings.specs.Name.{is_name_byte}
use Rattle.rrc_settings.proofs.name.Name.of.Given as goal

-- the name has the bytes so far, and the bytes are all good where those left are
abbrev pub invariant-loop-byte : goal.invariant-loop-byte
invariant-loop-byte l = record {
  so_far : l.name.items ≡ take l.byte-index l.bytes;
  rest : list_all is_name_byte l.bytes ≡ list_all is_name_byte (drop l.byte-index l.bytes);
}

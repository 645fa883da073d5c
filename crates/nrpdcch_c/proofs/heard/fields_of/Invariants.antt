use Rattle.std.proofs.Common.{◌≡◌, ◌++◌, drop, map, replicate, take}
use Rattle.nrpdcch_c.specs.HeardNumbers.{field_of, no_field}
use Rattle.nrpdcch_c.proofs.heard.fields_of.Given as goal

-- the fields so far are written, and the others are none
abbrev pub invariant-loop-index : goal.invariant-loop-index
invariant-loop-index l = l.fields ≡ map field_of (take l.index l.values) ++ drop l.index (replicate 32 no_field)

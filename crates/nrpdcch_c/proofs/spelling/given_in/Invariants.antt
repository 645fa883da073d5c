use Rattle.std.proofs.Common.{◌≡◌, map, take}
use Rattle.nrpdcch_c.specs.Spelling.{given_of}
use Rattle.nrpdcch_c.proofs.spelling.given_in.Given as goal

-- the values so far
abbrev pub invariant-loop-field : goal.invariant-loop-field
invariant-loop-field l = l.given.items ≡ map given_of (take l.field-index l.fields)

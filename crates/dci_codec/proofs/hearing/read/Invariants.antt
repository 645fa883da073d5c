use Rattle.dci_codec.proofs.Readings.{NoneRead}
use Rattle.dci_codec.proofs.hearing.read.Given as goal

-- no format so far has the payload
abbrev pub invariant-loop-format : goal.invariant-loop-format
invariant-loop-format l = NoneRead l.watch l.payload l.format-index

-- The words of the keys of a list of grants.
use Rattle.std.specs.Prelude.{ℕ, List, [], codes}
use Rattle.grant_file.specs.declared.place.GrantKey.{GrantKey}
use Rattle.grant_file.specs.declared.place.GrantKey.TheVariants as keys

-- the word of a key; the whole has none
abbrev pub word_of : GrantKey → List ℕ
word_of keys.Whole = []
word_of keys.Frame = codes "frame"
word_of keys.Slot = codes "slot"
word_of keys.Grants = codes "grants"
word_of keys.Handset = codes "handset"
word_of keys.Set = codes "set"
word_of keys.Level = codes "level"
word_of keys.Candidate = codes "candidate"
word_of keys.Symbol = codes "symbol"
word_of keys.Format = codes "format"
word_of keys.Fields = codes "fields"

-- The groups of six blocks of a control resource set (3GPP TS 38.213, 10.1; TS 38.211, 7.3.2.2).
use Rattle.std.specs.Prelude.{ℕ, ◌+◌, ◌*◌, ◌/◌, List, length}
use Rattle.std.specs.List.{range_with_len, filter}
use Rattle.rrc_settings.specs.declared.settings.Coreset.{Coreset}
use Rattle.rrc_settings.specs.BitSets.{has_bit}

-- the groups of six blocks whose bit is one, rising
unfoldable pub groups_of : ℕ → List ℕ
groups_of groups = filter (has_bit groups) (range_with_len 0 64)

-- the first block of a group: groups are counted from the first multiple of six blocks in the bandwidth part
abbrev pub group_block : ℕ → ℕ → ℕ
group_block start group = 6 * ((start + 5) / 6) + 6 * group

-- how many CCEs so many groups have in so many symbols: a group is six blocks, and a CCE six REGs, each a block in one symbol
abbrev pub cces_in : ℕ → ℕ → ℕ
cces_in groups duration = groups * duration

-- how many CCEs a CORESET has
abbrev pub cces_of : Coreset → ℕ
cces_of c = cces_in (length (groups_of c.groups)) c.duration

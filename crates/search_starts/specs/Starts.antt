-- Where the candidates of a search space set start (3GPP TS 38.213, 10.1).
use Rattle.std.specs.Prelude.{ℕ, ◌+◌, ◌*◌, ◌/◌, ◌%◌}

-- the first CCE of candidate m of `count` at a level, in a CORESET of `cces` CCEs, for a base y
abbrev pub start_of : ℕ → ℕ → ℕ → ℕ → ℕ → ℕ
start_of y level m count cces = level * ((y + m * cces / (level * count)) % (cces / level))

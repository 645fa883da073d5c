-- The lines on a run's own faults, without their line feed: those on what a file holds stand with the program.
use Rattle.std.specs.Prelude.{ℕ, List, ◌++◌, codes}

-- a file whose fetch failed
abbrev pub read_line : List ℕ → List ℕ
read_line name = codes "error: read " ++ name

-- a file that has more bytes than the limit
abbrev pub too_long_line : List ℕ → List ℕ
too_long_line name = codes "error: too long: " ++ name

-- want of memory
abbrev pub memory_line : List ℕ
memory_line = codes "error: memory"

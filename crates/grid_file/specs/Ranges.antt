-- The ranges of the numbers of a grid's text, each by its first number and the first past it: those that a grid can have. The
-- slots of a frame are slot_grid's.
use Rattle.std.specs.Prelude.{ℕ, ◌-◌}

-- past the numerologies 0 to 3
abbrev pub past_numerologies : ℕ
past_numerologies = 4

-- past the frames 0 to 1023
abbrev pub past_frames : ℕ
past_frames = 1024

-- the fewest resource blocks of a grid
abbrev pub least_blocks : ℕ
least_blocks = 6

-- past the most, which are 275
abbrev pub past_blocks : ℕ
past_blocks = 276

-- how many numbers of resource blocks there are
abbrev pub block_counts : ℕ
block_counts = past_blocks - least_blocks

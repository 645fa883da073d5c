-- How many candidates and CCEs a handset looks at in a slot at most (3GPP TS 38.213, tables 10.1-2 and 10.1-3).
use Rattle.std.specs.Prelude.{ℕ, Bool, ◌&&◌, nat_le, [], ◌∷◌, slice_index}

-- candidates, by the numerology
abbrev pub most_candidates : ℕ → ℕ
most_candidates mu = slice_index (44 ∷ 36 ∷ 22 ∷ 20 ∷ []) mu

-- CCEs, by the numerology
abbrev pub most_cces : ℕ → ℕ
most_cces mu = slice_index (56 ∷ 56 ∷ 48 ∷ 32 ∷ []) mu

-- both counts keep their limits
abbrev pub are_within : ℕ → ℕ → ℕ → Bool
are_within mu candidates cces = nat_le candidates (most_candidates mu) && nat_le cces (most_cces mu)

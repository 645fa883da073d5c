-- Which watches of a handset suit a grant.
use Rattle.std.specs.Prelude.{ℕ, Bool, true, ◌&&◌, ◌==◌, Option, Some, None}
use Rattle.monitor_plan.specs.declared.watch.Watch.{Watch}
use Rattle.monitor_plan.specs.Watch.{fits}
use Rattle.grant_file.specs.declared.grants.Grant.{Grant}

-- a number is the one that is asked for, where one is
abbrev pub is_asked : Option ℕ → ℕ → Bool
is_asked None n = true
is_asked (Some asked) n = n == asked

-- the watch is of the grant's set and level, the grant's format fits it, and it has the candidate and the symbol that are asked
-- for
abbrev pub is_suitable : Grant → Watch → Bool
is_suitable grant w =
    w.set == grant.set && (w.level == grant.level
    && (fits w grant.format && (is_asked grant.candidate w.candidate && is_asked grant.symbol w.symbol)))

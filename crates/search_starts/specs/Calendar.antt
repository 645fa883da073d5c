-- The slots in which a search space set is monitored (3GPP TS 38.213, 10.1).
use Rattle.std.specs.Prelude.{◌≡◌, ℕ, ◌+◌, ◌-◌, ◌*◌, ◌%◌, ◌^◌, ◌<◌, ◌≤◌, ◌↔◌, Bool, true, nat_lt}
use Rattle.rrc_settings.specs.declared.settings.SearchSet.{SearchSet}

-- how many slots are before a slot of a frame, from frame 0 on; a frame has 10 * 2^mu slots
abbrev pub slots_before : ℕ → ℕ → ℕ → ℕ
slots_before mu frame slot = frame * (10 * 2 ^ mu) + slot

-- whether a set is monitored in the slot that has t slots before it: fewer than its duration have passed of its period
abbrev pub is_monitored : SearchSet → ℕ → Bool
is_monitored set t = nat_lt ((t + set.period - set.offset) % set.period) set.duration

-- a set whose duration is at most its period is monitored exactly in slots offset to offset + duration - 1 of each period
abbrev pub MonitoredFromOffsets : Type 0
MonitoredFromOffsets =
    (set : SearchSet) (t : ℕ) → 1 ≤ set.period → set.offset < set.period → set.duration ≤ set.period
    → (is_monitored set t ≡ true) ↔ ((n i : ℕ) × (i < set.duration) × (t + set.period ≡ set.offset + n * set.period + i))

-- How many slots of a set's period have passed.
use Rattle.std.proofs.Common.{◌≡◌, ℕ, ◌+◌, ◌-◌, ◌*◌, ◌/◌, ◌%◌, ◌<◌, ◌≤◌, ◌↔◌, true, arith}
use Rattle.std.proofs.lemmas.Bool.{ltb-true}
use Rattle.std.proofs.lemmas.Bool.Decides.{Decides-ltb}
use Rattle.std.proofs.lemmas.Nat.{mod_below, div-add-mod', same_from_place}
use Rattle.rrc_settings.specs.declared.settings.SearchSet.{SearchSet}
use Rattle.search_starts.specs.Calendar.{is_monitored}

passed_is : (t offset period n i : ℕ) → offset < period → i < period → t + period ≡ offset + n * period + i
    → (t + period - offset) % period ≡ i
passed_is t offset period n i h l e =
    let m = t + period - offset in
    let d = div-add-mod' m period in
    (same_from_place (m / period) (m % period) n i period (mod_below m period (omega (arith, h))) l (omega (arith, d, e, h))).1

-- the slots of a period in which a set is monitored
pub from_offsets : (set : SearchSet) (t : ℕ) → 1 ≤ set.period → set.offset < set.period → set.duration ≤ set.period
    → (is_monitored set t ≡ true) ↔ ((n i : ℕ) × (i < set.duration) × (t + set.period ≡ set.offset + n * set.period + i))
from_offsets set t some before short =
    let m = t + set.period - set.offset in
    let d = div-add-mod' m set.period in (
      λ h. (m / set.period, m % set.period, ltb-true (m % set.period) set.duration h, omega (arith, d, before)),
      λ (n, i, l, e).
          let p = passed_is t set.offset set.period n i before (omega (arith, l, short)) e in
          (Decides-ltb (m % set.period) set.duration).1 (omega (arith, p, l)),
    )

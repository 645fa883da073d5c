-- The places and the faults of a list of grants, and how it names what stands in it.
use Rattle.std.specs.Prelude.{ℕ, Option, Some}
use Rattle.rrc_settings.specs.declared.place.Reason.{Reason}
use Rattle.rrc_settings.specs.Naming.{Naming}
use Rattle.grant_file.specs.declared.place.GrantKey.{GrantKey}
use Rattle.grant_file.specs.declared.place.GrantKey.TheVariants as keys
use Rattle.grant_file.specs.declared.place.GrantPlace.{GrantPlace}
use Rattle.grant_file.specs.declared.place.GrantFault.{GrantFault}
use Rattle.grant_file.specs.Keys.{word_of}

-- what a check finds: a fault or none
abbrev pub Finding : Type 0
Finding = Option GrantFault

-- the value of a key of the list, or of one of its grants
abbrev pub place : Option ℕ → GrantKey → GrantPlace
place grant key = record { grant = grant; key = key }

-- the whole of the list, or of one of its grants
abbrev pub whole_at : Option ℕ → GrantPlace
whole_at grant = place grant keys.Whole

-- a fault with its place and its reason
abbrev pub fault_at : GrantPlace → Reason → GrantFault
fault_at at reason = record { place = at; reason = reason }

-- the words of the keys, and the places; the elements of the one list are its grants, by their numbers
abbrev pub names : Naming GrantKey GrantPlace GrantFault
names = record { word = word_of; below = λ at key. place at.grant key; element = λ at n. whole_at (Some n); fault = fault_at }

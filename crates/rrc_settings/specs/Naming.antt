-- How a file of settings or of grants names what stands in it, and how the settings do.
use Rattle.std.specs.Prelude.{ℕ, List, []}
use Rattle.rrc_settings.specs.declared.words.Key.{Key}
use Rattle.rrc_settings.specs.declared.place.Place.{Place}
use Rattle.rrc_settings.specs.declared.place.Reason.{Reason}
use Rattle.rrc_settings.specs.declared.place.SettingsFault.{SettingsFault}
use Rattle.rrc_settings.specs.Faults.{Steps, ◌▸◌, element}
use Rattle.rrc_settings.specs.Words.{word_of}

-- a key by its word, the value of a key and an element of a list by places, a fault by its place and its reason
pub record Naming (K P F : Type 0) : Type 0 where
  pub word : K → List ℕ
  pub below : P → K → P
  pub element : P → ℕ → P
  pub fault : P → Reason → F

-- the place to which steps lead
abbrev pub place_at : Steps → Place
place_at at = record { steps = record { items = at } }

-- the place of the whole of the settings
abbrev pub whole : Place
whole = place_at []

-- the words of the settings' keys, and places by the steps to them
abbrev pub names : Naming Key Place SettingsFault
names = record {
  word = word_of;
  below = λ at key. place_at (at.steps.items ▸ key);
  element = λ at n. place_at (element at.steps.items n);
  fault = λ at reason. record { place = at; reason = reason };
}

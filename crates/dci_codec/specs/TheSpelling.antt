-- What a grid spells at a watch, and what is heard of it: the same as `Spells` and `IsHeard`, as a function, for the report.
-- It is never computed.
use Rattle.std.specs.Prelude.{◌≡◌, ◌↔◌, ℕ, Bool, true, false, ◌&&◌, List, Option, Some, None, map, find, option_map}
use Rattle.std.specs.List.{flat_map, list_all}
use Rattle.coreset_map.specs.declared.places.Spot.{Spot}
use Rattle.crc_mask.specs.Parity.{masked}
use Rattle.dci_fields.specs.Payloads.{payload_of}
use Rattle.monitor_plan.specs.declared.watch.Watch.{Watch}
use Rattle.monitor_plan.specs.Watch.{fits, list_of, IsSound}
use Rattle.slot_grid.specs.Grid.{GridValue}
use Rattle.slot_grid.specs.Image.{Image, agrees_at}
use Rattle.table_files.specs.declared.tables.Tables.{Tables}
use Rattle.dci_codec.specs.declared.heard.Heard.{Heard}
use Rattle.dci_codec.specs.AllValues.{all_values}
use Rattle.dci_codec.specs.BlockImage.{block_image}
use Rattle.dci_codec.specs.Formats.{formats}
use Rattle.dci_codec.specs.Hearing.{AreTables, Spells, heard_of}
use Rattle.dci_codec.specs.Spelling.{Spelling}
use Rattle.dci_codec.specs.WatchPlaces.{places}

-- every spelling at a watch whose values fit
unfoldable pub all_spellings : Watch → List Spelling
all_spellings watch =
    flat_map (λ f. map (λ vs. record { format = f; values = vs }) (all_values (list_of watch f))) formats

-- whether the grid has an image's point at each place of a watch where the image has one
unfoldable pub has_image : GridValue → Watch → Image → Bool
has_image grid watch image = list_all (λ (place : Spot). agrees_at grid image place.symbol place.subcarrier) (places watch)

-- whether the grid has what a payload writes at the watch, masked by the watch's RNTI, if there is a payload
abbrev pub has_payload : Tables → GridValue → Watch → Option (List Bool) → Bool
has_payload tables grid watch None = false
has_payload tables grid watch (Some payload) =
    has_image grid watch (block_image tables grid.slot watch (masked payload watch.rnti))

-- whether a spelling is of a format that fits the watch, it has a payload of the watch's size, and the grid has this
abbrev pub is_the_spelling : Tables → GridValue → Watch → Spelling → Bool
is_the_spelling tables grid watch s =
    fits watch s.format && has_payload tables grid watch (payload_of (list_of watch s.format) s.format s.values watch.size)

-- a spelling passes exactly where the grid spells it, at every watch
abbrev pub TestsWhatIsSpelled : Type 0
TestsWhatIsSpelled =
    (tables : Tables) (grid : GridValue) (watch : Watch) (spelling : Spelling) →
    (is_the_spelling tables grid watch spelling ≡ true) ↔ Spells tables grid watch spelling

-- what the grid spells at the watch, where it spells something
unfoldable pub the_spelling : Tables → GridValue → Watch → Option Spelling
the_spelling tables grid watch = find (is_the_spelling tables grid watch) (all_spellings watch)

-- what is found among all spellings is what the grid spells, so it spells at most one
abbrev pub FindsWhatIsSpelled : Type 0
FindsWhatIsSpelled =
    (tables : Tables) (grid : GridValue) (watch : Watch) (spelling : Spelling) → AreTables tables → IsSound watch →
    (the_spelling tables grid watch ≡ Some spelling) ↔ Spells tables grid watch spelling

-- what is heard on a grid at the watch of a number, where it spells something there
abbrev pub heard_at : Tables → GridValue → Watch → ℕ → Option Heard
heard_at tables grid watch number = option_map (heard_of watch number) (the_spelling tables grid watch)

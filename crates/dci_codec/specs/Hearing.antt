-- What a grid carries at a watch, what it spells there, and what is heard.
use Rattle.std.specs.Prelude.{◌≡◌, ℕ, Bool, true, List, Some, length}
use Rattle.crc_mask.specs.Parity.{masked}
use Rattle.dci_fields.specs.Payloads.{payload_of, shown, Carries}
use Rattle.slot_grid.specs.Grid.{GridValue}
use Rattle.slot_grid.specs.Image.{Agrees}
use Rattle.table_files.specs.declared.tables.Tables.{Tables}
use Rattle.table_files.specs.Permutation.{IsTable}
use Rattle.monitor_plan.specs.declared.watch.Watch.{Watch}
use Rattle.monitor_plan.specs.Watch.{fits, list_of}
use Rattle.dci_codec.specs.declared.heard.Heard.{Heard}
use Rattle.dci_codec.specs.BlockImage.{block_image}
use Rattle.dci_codec.specs.Spelling.{Spelling}

-- both tables are permutations
abbrev pub AreTables : Tables → Type 0
AreTables tables = IsTable 1024 tables.reliability × IsTable 164 tables.input_order

-- the grid agrees with what the payload, masked by the watch's RNTI, writes at the watch
abbrev pub AgreesWith : Tables → GridValue → Watch → List Bool → Type 0
AgreesWith tables grid watch payload = Agrees grid (block_image tables grid.slot watch (masked payload watch.rnti))

-- the grid carries a payload of the watch's size
abbrev pub IsCarried : Tables → GridValue → Watch → List Bool → Type 0
IsCarried tables grid watch payload = (length payload ≡ watch.size) × AgreesWith tables grid watch payload

-- the grid spells a format with its field values: the format fits the watch, the values have a payload, and the grid agrees with
-- what it writes
pub record Spells (tables : Tables) (grid : GridValue) (watch : Watch) (spelling : Spelling) : Type 0 where
  pub fitting : fits watch spelling.format ≡ true
  pub payload : List Bool
  pub packs : payload_of (list_of watch spelling.format) spelling.format spelling.values watch.size ≡ Some payload
  pub agrees : AgreesWith tables grid watch payload

-- what is heard of a spelling at the watch of a number: its format, and those of its values that are shown
abbrev pub heard_of : Watch → ℕ → Spelling → Heard
heard_of watch number s = record { watch = number; format = s.format; values = shown (list_of watch s.format) s.format s.values }

-- an entry for the watch of a number has the format and the shown values of what the grid spells there
pub record IsHeard (tables : Tables) (grid : GridValue) (watch : Watch) (number : ℕ) (heard : Heard) : Type 0 where
  pub number_is : heard.watch ≡ number
  pub values : List ℕ
  pub spells : Spells tables grid watch (record { format = heard.format; values = values })
  pub shows : shown (list_of watch heard.format) heard.format values ≡ heard.values

-- a payload is read at the watch of a number as a format that fits it, with its shown values
pub record IsReadAs (watch : Watch) (number : ℕ) (payload : List Bool) (heard : Heard) : Type 0 where
  pub number_is : heard.watch ≡ number
  pub fitting : fits watch heard.format ≡ true
  pub carries : Carries (list_of watch heard.format) heard.format watch.size payload heard.values

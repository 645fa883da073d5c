-- What placing a grant leaves: one more call, and where it is accepted its entry and its points on the grid.
use Rattle.std.specs.Prelude.{◌≡◌, ℕ, ◌+◌, Bool, List, [], ◌∷◌, ◌++◌, Option, Some, None, Result, Ok, Err}
use Rattle.crc_mask.specs.Parity.{masked}
use Rattle.slot_grid.specs.Grid.{GridValue}
use Rattle.slot_grid.specs.Image.{Image, overwritten}
use Rattle.table_files.specs.declared.tables.Tables.{Tables}
use Rattle.dci_fields.specs.GivenValues.{settled}
use Rattle.dci_fields.specs.Payloads.{payload_of}
use Rattle.monitor_plan.specs.declared.watch.Watch.{Watch}
use Rattle.monitor_plan.specs.Watch.{list_of}
use Rattle.dci_codec.specs.BlockImage.{block_image}
use Rattle.grant_file.specs.declared.grants.Grant.{Grant}
use Rattle.cell_placer.specs.declared.member.Accepted.{Accepted}
use Rattle.cell_placer.specs.declared.refusal.Placed.{Placed}
use Rattle.cell_placer.specs.declared.refusal.Refusal.{Refusal}
use Rattle.cell_placer.specs.Ledger.{LedgerValue, IsLedger, watch_of}
use Rattle.cell_placer.specs.Fate.{decided, fate}

-- a desk: its ledger and its grid
pub record DeskValue : Type 0 where
  pub ledger : LedgerValue
  pub grid : GridValue

-- what each desk keeps: both are of one carrier
pub record IsDesk (desk : DeskValue) : Type 0 where
  pub ledger : IsLedger desk.ledger
  pub blocks : desk.ledger.blocks ≡ desk.grid.blocks

-- the payload of a grant at a watch: of the values that are given, and 0 in every other field
abbrev pub payload_at : Watch → Grant → Option (List Bool)
payload_at w grant =
    let rows = list_of w grant.format in payload_of rows grant.format (settled rows grant.format grant.given) w.size

-- what a payload writes at a watch, masked by the watch's RNTI
abbrev pub payload_image : Tables → ℕ → Watch → Option (List Bool) → Image
payload_image tables slot w None symbol subcarrier = None
payload_image tables slot w (Some payload) symbol subcarrier =
    block_image tables slot w (masked payload w.rnti) symbol subcarrier

-- what a grant writes at a watch
abbrev pub grant_image : Tables → ℕ → Watch → Grant → Image
grant_image tables slot w grant = payload_image tables slot w (payload_at w grant)

-- the ledger after one call, by what was decided
abbrev pub booked : LedgerValue → Result Accepted Refusal → LedgerValue
booked ledger (Ok a) = record ledger { calls = ledger.calls + 1; accepted = ledger.accepted ++ a ∷ [] }
booked ledger (Err refusal) = record ledger { calls = ledger.calls + 1 }

-- the grid after it
abbrev pub written : Tables → LedgerValue → Grant → GridValue → Result Accepted Refusal → GridValue
written tables ledger grant grid (Ok a) = overwritten (grant_image tables grid.slot (watch_of ledger.members a) grant) grid
written tables ledger grant grid (Err refusal) = grid

-- the ledger after a grant
abbrev pub next : LedgerValue → Grant → LedgerValue
next ledger grant = booked ledger (decided ledger grant)

-- the desk after a grant
abbrev pub step : Tables → DeskValue → Grant → DeskValue
step tables desk grant = record {
  ledger = next desk.ledger grant;
  grid = written tables desk.ledger grant desk.grid (decided desk.ledger grant);
}

-- the answers to grants that come one after the other
unfoldable pub fates : LedgerValue → List Grant → List (Result Placed Refusal)
fates ledger [] = []
fates ledger (grant ∷ grants) = fate ledger grant ∷ fates (next ledger grant) grants

-- the desk after all of them
unfoldable pub desk_after : Tables → DeskValue → List Grant → DeskValue
desk_after tables desk [] = desk
desk_after tables desk (grant ∷ grants) = desk_after tables (step tables desk grant) grants

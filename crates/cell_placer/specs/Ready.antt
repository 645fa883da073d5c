-- What is known of a grant that may be written.
use Rattle.std.specs.Prelude.{◌≡◌, ◌<◌, true, None, length}
use Rattle.dci_fields.specs.FirstFieldFault.{field_fault}
use Rattle.monitor_plan.specs.Watch.{fits, list_of, IsSound, IsInside}
use Rattle.grant_file.specs.declared.grants.Grant.{Grant}
use Rattle.cell_placer.specs.declared.member.Accepted.{Accepted}
use Rattle.cell_placer.specs.Ledger.{LedgerValue, member_at, watch_of}
use Rattle.cell_placer.specs.Fate.{first_meeting}

-- the entry is of this call and of a watch of a handset, which no accepted grant meets, and there is room
pub record IsSpot (ledger : LedgerValue) (a : Accepted) : Type 0 where
  pub call : a.call ≡ ledger.calls
  pub handset : a.handset < length ledger.members
  pub watch : a.watch < length (member_at ledger.members a.handset).plan
  pub few : a.watch < 11200
  pub sound : IsSound (watch_of ledger.members a)
  pub inside : IsInside ledger.blocks (watch_of ledger.members a)
  pub free : first_meeting ledger.members ledger.accepted (watch_of ledger.members a) ≡ None
  pub room : length ledger.accepted < ledger.room

-- and the grant's format fits the watch, where its values have a payload
pub record IsReady (ledger : LedgerValue) (grant : Grant) (a : Accepted) : Type 0 where
  pub spot : IsSpot ledger a
  pub fitting : fits (watch_of ledger.members a) grant.format ≡ true
  pub faultless : field_fault (list_of (watch_of ledger.members a) grant.format) grant.format grant.given ≡ None

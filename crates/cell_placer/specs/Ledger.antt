-- What a desk knows beside its grid: where the handsets look in the slot, and which grants were accepted.
use Rattle.std.specs.Prelude.{ℕ, ◌+◌, ◌≤◌, List, [], ◌∷◌, All, slice_index_or}
use Rattle.monitor_plan.specs.declared.watch.Watch.{Watch}
use Rattle.monitor_plan.specs.Watch.{watch_at, IsPlan, IsInside}
use Rattle.cell_placer.specs.declared.member.Member.{Member}
use Rattle.cell_placer.specs.declared.member.Accepted.{Accepted}

-- the blocks of the carrier, the handsets of the cell, for how many grants there is room, how many were judged, and those that
-- were accepted, in order
pub record LedgerValue : Type 0 where
  pub blocks : ℕ
  pub members : List Member
  pub room : ℕ
  pub calls : ℕ
  pub accepted : List Accepted

-- a handset that looks nowhere
abbrev pub no_member : Member
no_member = record { name = []; sets = record { items = [] }; plan = [] }

-- handset i of a list
abbrev pub member_at : List Member → ℕ → Member
member_at members i = slice_index_or members i no_member

-- the watch at which an accepted grant was written
abbrev pub watch_of : List Member → Accepted → Watch
watch_of members a = watch_at (member_at members a.handset).plan a.watch

-- the watches of a handset are those of a plan, with each REG on the carrier
pub record IsMember (blocks : ℕ) (m : Member) : Type 0 where
  pub plan : IsPlan m.plan
  pub inside : All (IsInside blocks) m.plan

-- the numbers of the calls rise, from a least one on and below a last one
abbrev pub AreCalls : ℕ → ℕ → List Accepted → Type 0
AreCalls least last [] = least ≤ last
AreCalls least last (a ∷ later) = (least ≤ a.call) × AreCalls (a.call + 1) last later

-- what each ledger keeps
pub record IsLedger (ledger : LedgerValue) : Type 0 where
  pub members : All (IsMember ledger.blocks) ledger.members
  pub calls : AreCalls 0 ledger.calls ledger.accepted

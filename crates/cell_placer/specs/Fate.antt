-- What becomes of a grant: the watch at which it is written, or the first cause against it.
use Rattle.std.specs.Prelude.{ℕ, Bool, true, false, ◌&&◌, ◌==◌, nat_lt, cond, List, Option, Some, None, is_none}
use Rattle.std.specs.Prelude.{unwrap_or, option_map, Result, Ok, Err, length, find, position, bytes_eq}
use Rattle.std.specs.List.{list_any}
use Rattle.dci_fields.specs.declared.fault.FieldFault.{FieldFault}
use Rattle.dci_fields.specs.FirstFieldFault.{field_fault}
use Rattle.monitor_plan.specs.declared.watch.Watch.{Watch}
use Rattle.monitor_plan.specs.Watch.{list_of, shares_reg, watch_at}
use Rattle.grant_file.specs.declared.grants.Grant.{Grant}
use Rattle.cell_placer.specs.declared.member.Member.{Member}
use Rattle.cell_placer.specs.declared.member.Accepted.{Accepted}
use Rattle.cell_placer.specs.declared.refusal.Placed.{Placed}
use Rattle.cell_placer.specs.declared.refusal.Refusal.{Refusal}
use Rattle.cell_placer.specs.declared.refusal.Refusal.TheVariants.{UnknownHandset, UnknownSet, Unmonitored, Field, Overlap, Full}
use Rattle.cell_placer.specs.Ledger.{LedgerValue, member_at, watch_of}
use Rattle.cell_placer.specs.Suitable.{is_suitable}

-- an accepted grant has a REG of the watch
abbrev pub meets : List Member → Watch → Accepted → Bool
meets members w a = shares_reg w (watch_of members a)

-- the call number of the first accepted grant that has a REG of the watch, where one has
abbrev pub first_meeting : List Member → List Accepted → Watch → Option ℕ
first_meeting members accepted w = option_map (λ (a : Accepted). a.call) (find (meets members w) accepted)

-- no accepted grant has a REG of the watch
abbrev pub is_free : LedgerValue → Watch → Bool
is_free ledger w = is_none (first_meeting ledger.members ledger.accepted w)

-- at a watch of a handset: accepted where there is room
abbrev pub by_room : LedgerValue → ℕ → ℕ → Result Accepted Refusal
by_room ledger handset watch =
    cond (nat_lt (length ledger.accepted) ledger.room)
    (Ok (record { call = ledger.calls; handset = handset; watch = watch }))
    (Err (Full ledger.room))

-- by the first suitable watch that is free; where none is, the grant that is in the way at the first suitable one is named
abbrev pub by_free : LedgerValue → ℕ → Watch → Option ℕ → Result Accepted Refusal
by_free ledger handset first None = Err (Overlap (unwrap_or (first_meeting ledger.members ledger.accepted first) 0))
by_free ledger handset first (Some watch) = by_room ledger handset watch

-- by what is wrong with the field values
abbrev pub by_fault : LedgerValue → Grant → ℕ → List Watch → Watch → Option FieldFault → Result Accepted Refusal
by_fault ledger grant handset watches first (Some fault) = Err (Field fault)
by_fault ledger grant handset watches first None =
    by_free ledger handset first (position (λ (w : Watch). is_suitable grant w && is_free ledger w) watches)

-- by the first suitable one of the handset's watches; all suitable ones give the fields of the format alike
abbrev pub by_first : LedgerValue → Grant → ℕ → List Watch → Option ℕ → Result Accepted Refusal
by_first ledger grant handset watches None = Err Unmonitored
by_first ledger grant handset watches (Some k) =
    let first = watch_at watches k in
    by_fault ledger grant handset watches first (field_fault (list_of first grant.format) grant.format grant.given)

-- by whether the handset has the set
abbrev pub by_set : LedgerValue → Grant → ℕ → List Watch → Bool → Result Accepted Refusal
by_set ledger grant handset watches false = Err UnknownSet
by_set ledger grant handset watches true = by_first ledger grant handset watches (position (is_suitable grant) watches)

-- by the handset that has the name
abbrev pub by_handset : LedgerValue → Grant → Option ℕ → Result Accepted Refusal
by_handset ledger grant None = Err UnknownHandset
by_handset ledger grant (Some handset) =
    let m = member_at ledger.members handset in
    by_set ledger grant handset m.plan (list_any (λ number. number == grant.set) m.sets.items)

-- what is decided of a grant: how it is accepted, or the first cause against it
unfoldable pub decided : LedgerValue → Grant → Result Accepted Refusal
decided ledger grant =
    by_handset ledger grant (position (λ (m : Member). bytes_eq m.name grant.handset) ledger.members)

-- the answer that tells it
abbrev pub answer_of : Result Accepted Refusal → Result Placed Refusal
answer_of (Ok a) = Ok (record { watch = a.watch })
answer_of (Err refusal) = Err refusal

-- the answer to a grant
abbrev pub fate : LedgerValue → Grant → Result Placed Refusal
fate ledger grant = answer_of (decided ledger grant)

-- Which call owns each REG of the slot, so that the grants that were accepted need no walk.
use Rattle.std.specs.Prelude.{◌≡◌, ℕ, ◌+◌, ◌*◌, ◌<◌, nat_lt, cond, List, Option, Some, None, option_map, length, find}
use Rattle.std.specs.Prelude.{fold, slice_index_or, slice_set}
use Rattle.coreset_map.specs.declared.places.Reg.{Reg}
use Rattle.monitor_plan.specs.Watch.{has_reg}
use Rattle.cell_placer.specs.declared.member.Member.{Member}
use Rattle.cell_placer.specs.declared.member.Accepted.{Accepted}
use Rattle.cell_placer.specs.Ledger.{watch_of}

-- the call of the first accepted grant that has the REG in a symbol and a block, where one has
abbrev pub owner : List Member → List Accepted → ℕ → ℕ → Option ℕ
owner members accepted symbol block =
    option_map (λ (a : Accepted). a.call) (find (λ (a : Accepted). has_reg (watch_of members a) symbol block) accepted)

-- the least of two numbers, where they are there
abbrev pub least : Option ℕ → Option ℕ → Option ℕ
least None b = b
least (Some a) None = Some a
least (Some a) (Some b) = Some (cond (nat_lt b a) b a)

-- where the owner of a watch's REG stands in a table, symbol by symbol
abbrev pub owner_place : ℕ → ℕ → Reg → ℕ
owner_place blocks symbol r = (symbol + r.symbol) * blocks + r.block

-- the least owner of a watch's REGs
unfoldable pub least_owner : List (Option ℕ) → ℕ → ℕ → List Reg → Option ℕ
least_owner owners blocks symbol regs =
    fold (λ (best : Option ℕ) (r : Reg). least best (slice_index_or owners (owner_place blocks symbol r) None)) None regs

-- the table where a call owns a watch's REGs
unfoldable pub owned : ℕ → ℕ → ℕ → List (Option ℕ) → List Reg → List (Option ℕ)
owned call blocks symbol owners regs =
    fold (λ (table : List (Option ℕ)) (r : Reg). slice_set table (owner_place blocks symbol r) (Some call)) owners regs

-- the table has the owner of each REG of the slot
pub record AreOwners (blocks : ℕ) (members : List Member) (accepted : List Accepted) (owners : List (Option ℕ)) : Type 0 where
  pub size : length owners ≡ 14 * blocks
  pub each : (symbol block : ℕ) → symbol < 14 → block < blocks
      → slice_index_or owners (symbol * blocks + block) None ≡ owner members accepted symbol block

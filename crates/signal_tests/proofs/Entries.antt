-- Entries that were prepared for a grid which has each REG of their plans.
use Rattle.std.proofs.Common.{ℕ, ◌<◌, List, [], ◌∷◌, All, length, sym, subst, arith}
use Rattle.std.specs.List.{AllZip}
use Rattle.std.proofs.lemmas.List.Elements.{All-cons, All-head, All-tail}
use Rattle.slot_grid.specs.Grid.{GridValue}
use Rattle.monitor_plan.specs.declared.watch.Watch.{Watch}
use Rattle.monitor_plan.specs.Watch.{IsInside}
use Rattle.par_sweep.specs.declared.prepared.Prepared.{Prepared}
use Rattle.par_sweep.specs.declared.prepared.Prepared.TheVariants.{Ready, NoMemory}
use Rattle.par_sweep.specs.declared.jobs.Job.{Job}
use Rattle.par_sweep.specs.Jobs.{grid_at, CanSearch}
use Rattle.par_sweep.specs.Prepared.{CanSearchEntry, IsPrepared}

-- a grid has each REG of a plan
abbrev pub HasRegs : GridValue → List Watch → Type 0
HasRegs grid plan = All (IsInside grid.blocks) plan

one : (grids : List GridValue) (grid : ℕ) (plan : List Watch) (entry : Prepared) → grid < length grids
    → HasRegs (grid_at grids grid) plan → IsPrepared grid plan entry → CanSearchEntry grids entry
one grids grid plan (Ready job) within has is =
    subst (λ (j : Job). CanSearch grids j) (sym is) (record { place = within; inside = has })
one grids grid plan (NoMemory place) within has is = tt

-- then each of them can search it
pub can_search_each : (grids : List GridValue) (grid : ℕ) (plans : List (List Watch)) (entries : List Prepared) → grid < length grids
    → All (HasRegs (grid_at grids grid)) plans → AllZip (IsPrepared grid) plans entries → All (CanSearchEntry grids) entries
can_search_each grids grid [] [] within has zip = λ i d l. absurd (omega (arith, l))
can_search_each grids grid (plan ∷ plans) (entry ∷ entries) within has zip =
    let P = HasRegs (grid_at grids grid) in
    All-cons (CanSearchEntry grids) entry entries (one grids grid plan entry within (All-head P plan plans has) zip.0)
    (can_search_each grids grid plans entries within (All-tail P plan plans has) zip.1)
can_search_each grids grid [] (entry ∷ entries) within has zip = elim zip [ ]
can_search_each grids grid (plan ∷ plans) [] within has zip = elim zip [ ]

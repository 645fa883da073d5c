use Rattle.std.proofs.Common.{◌≡◌, ℕ, List, [], Result, Ok, Err, length, ap, sym, ◌∙◌, ◌/◌, ◌%◌, arith}
use Rattle.rrc_settings.specs.declared.settings.RawCell.{RawCell}
use Rattle.monitor_budget.specs.declared.allotment.CommonOver.{CommonOver}
use Rattle.monitor_plan.specs.declared.plan.PlanFault.{PlanFault}
use Rattle.monitor_plan.specs.declared.watch.Watch.{Watch}
use Rattle.monitor_plan.specs.Planned.{planned}
use Rattle.blind_search.specs.Searcher.{SearcherValue}
use Rattle.par_sweep.specs.LoadCell.{load_cell}
use Rattle.par_sweep.specs.Slots.{slot_watches}
use Rattle.par_sweep.proofs.LegalLoad.{count_of_handsets}
use Rattle.par_sweep.proofs.Plans.{plans_every_slot}
use Rattle.par_sweep.proofs.sweep.job_at.Goals as goal

same_watches : (a b : List Watch) → ◌≡◌ {A = Result (List Watch) CommonOver} (Ok a) (Ok b) → a ≡ b
same_watches a b e = cc

not_over : (a : List Watch) (over : CommonOver) → ◌≡◌ {A = Result (List Watch) CommonOver} (Ok a) (Err over) → ⊥
not_over a over e = cc

-- the plan of the job's handset in its slot
there : (cell : RawCell) (number : ℕ) → cell ≡ load_cell
    → planned cell (number % 32) (number / 32 / 10) (number / 32 % 10) ≡ Ok (slot_watches (number / 32) (number % 32))
there cell number e =
    ap (λ (x : RawCell). planned x (number % 32) (number / 32 / 10) (number / 32 % 10)) e
    ∙ (plans_every_slot (number / 32)).watches (number % 32) (omega arith)

pub of-requires-clause-handset : goal.of-requires-clause-handset
of-requires-clause-handset c =
    let n = ap (λ (x : RawCell). length x.handsets) c.requires.cell in
    omega (arith, n, count_of_handsets)

pub unreachable-requires : goal.unreachable-requires
unreachable-requires c =
    let f = c.in-Err-CommonOver in
    not_over _ _ (sym (there c.args.cell.now c.args.number c.requires.cell)
    ∙ (f.ensures.over f.field-0-0 f.field-0-1).0 (ap (λ (e : PlanFault). Err e) f.field-0-is))

pub returns-in_ok-prepare-in-Ok : goal.returns-in_ok-prepare-in-Ok
returns-in_ok-prepare-in-Ok c =
    let plan : c.in-Ok.plan ≡ slot_watches (c.args.number / 32) (c.args.number % 32) =
    same_watches c.in-Ok.plan _ (sym c.in-Ok.ensures.planned ∙ there c.args.cell.now c.args.number c.requires.cell)
    in
    let searcher = c.in_ok-prepare-in-Ok.ensures ∙ ap (λ (w : List Watch). record { plan = w; found = [] }) plan in
    ap (λ (s : SearcherValue). record { grid = c.args.number / 32; searcher = s }) searcher

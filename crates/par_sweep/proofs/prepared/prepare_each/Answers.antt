use Rattle.std.proofs.Common.{List, [], ◌∷◌, ◌++◌, sym, subst}
use Rattle.std.specs.List.{AllZip}
use Rattle.par_sweep.specs.declared.prepared.Prepared.{Prepared}
use Rattle.par_sweep.specs.Prepared.{IsPrepared}
use Rattle.par_sweep.proofs.Entries.{all_zip_more}
use Rattle.par_sweep.proofs.prepared.prepare_each.Goals as goal

pub loop-plan-preserved : goal.loop-plan-preserved
loop-plan-preserved c =
    let l = c.loop-plan in
    let plan = c.in-Some.plan in
    let entry = c.entry_of.result in
    let is = IsPrepared c.args.grid in
    subst (λ (entries : List Prepared). AllZip is (l.yielded ++ plan ∷ []) entries) (sym c.in_ok-push_value.ensures)
    (all_zip_more is l.yielded l.entries.items plan entry l.invariant c.entry_of.ensures)

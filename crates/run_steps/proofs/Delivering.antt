-- The steps of a run and the delivery of their answer, put together.
use Rattle.std.proofs.Common.{◌≡◌, ◌⊎◌, inl, inr, ℕ, List, Result, Ok, Err, refl, sym, ◌∙◌}
use Rattle.outside.specs.Views.{ShelfView, SinkView}
use Rattle.run_steps.specs.declared.statuses.Status.{Status}
use Rattle.run_steps.specs.declared.statuses.Status.TheVariants as status
use Rattle.run_steps.specs.declared.stops.Stop.{Stop}
use Rattle.run_steps.specs.declared.stops.Stop.TheVariants.{OutOfMemory, Ended}
use Rattle.run_steps.specs.Outcome.{Outcome, Fetched, no_memory}
use Rattle.run_steps.specs.Ran.{Finishes, Ran}
use Rattle.run_steps.specs.Steps.{Ends, Work, answered}

answered_is : (result : Result Outcome Stop) (wanted : Outcome) → Ends result wanted
    → (answered result ≡ wanted) ⊎ (answered result ≡ no_memory)
answered_is (Ok o) wanted h = inl (sym h)
answered_is (Err (Ended o)) wanted h = inl (sym h)
answered_is (Err OutOfMemory) wanted h = inr refl

-- a status other than that of a fault of writing is the answer's
own-status : (answered result wanted : Status) → (result ≡ answered) ⊎ (result ≡ status.WriteFault)
    → (status.WriteFault ≡ wanted → ⊥) → result ≡ wanted → answered ≡ wanted
own-status answered result wanted (inl s) unlike e = sym s ∙ e
own-status answered result wanted (inr s) unlike e = absurd (unlike (sym s ∙ e))

-- the steps of a command, and their answer delivered, are a run of it
pub ran_from : {outcome : List Fetched → Outcome} {names : List (List ℕ)} {old new : ShelfView} {work : Result Outcome Stop}
    {result : Status} {out_old out_new err_old err_new : SinkView}
    → Work outcome names old new work → Finishes (answered work) result out_old out_new err_old err_new
    → Ran outcome names old new result out_old out_new err_old err_new
ran_from {outcome} {names} {old} {new} {work} {result} {out_old} {out_new} {err_old} {err_new} w f = record {
  gave = w.gave;
  given = w.given;
  answer = answered work;
  is = answered_is work (outcome w.gave) w.is;
  missed = w.missed;
  read = λ e. w.read (own-status (answered work).status result status.ReadFault f.delivered.status (λ h. cc) e);
  long = λ e. w.long (own-status (answered work).status result status.FileTooLong f.delivered.status (λ h. cc) e);
  quiet = w.quiet;
  short = w.short;
  silent = f.silent;
  honest = f.honest;
  delivered = f.delivered;
}

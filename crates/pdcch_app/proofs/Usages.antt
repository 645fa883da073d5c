-- Words that are not legal end a run before it fetches a file.
use Rattle.std.proofs.Common.{◌≡◌, List, Option, None, Err, String, sym, subst}
use Rattle.std.specs.declared.alloc.Global.{Global}
use Rattle.outside.specs.Views.{ShelfView}
use Rattle.run_steps.specs.declared.statuses.Status.TheVariants.{Usage}
use Rattle.run_steps.specs.declared.stops.Stop.{Stop}
use Rattle.run_steps.specs.Outcome.{refused}
use Rattle.run_steps.specs.Steps.{IsStop, Work}
use Rattle.run_steps.proofs.Working.{work_refused}
use Rattle.pdcch_app.specs.declared.words.Command.{Command}
use Rattle.pdcch_app.specs.Lines.{usage_line}
use Rattle.pdcch_app.specs.Outcomes.{outcome, served}
use Rattle.pdcch_app.specs.Words.{legal, named, named_by}

-- the refusal of words that are of no command is their whole work
pub work_usage : (words : List (String Global)) (shelf : ShelfView) (stop : Stop) → legal words ≡ None
    → IsStop (refused Usage usage_line) stop → Work (outcome words) (named words) shelf shelf (Err stop)
work_usage words shelf stop e h =
    let P : Option Command → Type 0 = λ command. Work (served command words) (named_by command words) shelf shelf (Err stop) in
    subst P (sym e) (work_refused (refused Usage usage_line) shelf stop (record { read = λ s. cc; long = λ s. cc }) h)

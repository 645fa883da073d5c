use Rattle.run_steps.proofs.Completing.{complete-from}
use Rattle.run_steps.proofs.Delivering.{ran_from}
use Rattle.pdcch_app.proofs.top.run.Goals as goal

pub returns-clause-ran : goal.returns-clause-ran
returns-clause-ran g c = ran_from c.answer_of.ensures c.finish.ensures

pub returns-clause-complete : goal.returns-clause-complete
returns-clause-complete g c = complete-from (ran_from c.answer_of.ensures c.finish.ensures)

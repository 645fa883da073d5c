use Rattle.pdcch_app.proofs.Listeners.{handset_refused}
use Rattle.pdcch_app.specs.Reporting.{handset_named}
use Rattle.pdcch_app.proofs.searching.handset_named.Goals as goal

pub returns-in-None-clause-read : goal.returns-in-None-clause-read
returns-in-None-clause-read c =
    handset_refused c.args.name.now c.no_such_handset.result (handset_named c.args.cell.now c.args.name.now)
    c.in-None.ensures.place c.no_such_handset.ensures

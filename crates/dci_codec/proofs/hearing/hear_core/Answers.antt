use Rattle.dci_codec.proofs.Stages.{format_told}
use Rattle.dci_codec.proofs.hearing.hear_core.Goals as goal

pub returns-in-None-clause-answer : goal.returns-in-None-clause-answer
returns-in-None-clause-answer c =
    format_told c.args.tables.now c.args.grid.now c.args.watch.now c.args.number c.in_ok-payload.payload
    c.are_tables.ensures c.requires.sound
    c.in_ok-payload.ensures.answer c.in-None.ensures

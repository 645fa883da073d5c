use Rattle.dci_codec.proofs.OneAnswer.{answer_is}
use Rattle.dci_codec.proofs.Stages.{found_exactly, heard_exactly, silent_exactly}
use Rattle.dci_codec.proofs.hearing.hear_with.Goals as goal

pub returns : goal.returns
returns c =
    let tables = c.args.tables.now in
    let grid = c.args.grid.now in
    let w = c.args.watch.now in
    let n = c.args.number in
    let answer = c.hear_core.result in
    let legal = c.hear_core.ensures.tables in
    let sound = c.requires.sound in
    let told = c.hear_core.ensures.answer in
    record {
      heard = heard_exactly tables grid w n answer legal sound told;
      silent = silent_exactly tables grid w n answer legal sound told;
      found = found_exactly tables grid w n answer legal sound told;
      answer = answer_is tables grid w n answer legal sound told;
      codes = c.hear_core.ensures.codes;
    }

use Rattle.polar_chain.proofs.InputSteps.{bit_put}
use Rattle.polar_chain.proofs.input.put.Goals as goal

pub returns-clause-written : goal.returns-clause-written
returns-clause-written c =
    bit_put c.args.words.now c.args.at c.args.bit c.from.result c.requires.inside c.requires.free c.from.ensures

use Rattle.std.proofs.Common.{◌+◌, ◌*◌, ◌∙◌}
use Rattle.polar_chain.proofs.CodesByTables.{coded_by_tables}
use Rattle.dci_codec.specs.KnownCodes.{last_of}
use Rattle.dci_codec.proofs.KeptCodes.{at_some, last_by}
use Rattle.dci_codec.proofs.Spellings.{bits_fit, payload_written}
use Rattle.dci_codec.proofs.spelling.put_payload.Goals as goal

pub last-requires : goal.last-requires
last-requires c = at_some c.args.tables.now c.args.watch.now (last_of c.turn_to.new.self) c.turn_to.ensures.last

pub put_bits_with-requires-clause-bits : goal.put_bits_with-requires-clause-bits
put_bits_with-requires-clause-bits c =
    bits_fit c.args.tables.now c.args.watch.now c.last.result.now c.encode.result c.scramble-bits.result c.requires.carrying
    (last_by c.args.tables.now c.args.watch.now (last_of c.turn_to.new.self) c.last.result.now c.turn_to.ensures.last c.last.ensures)
    c.encode.ensures.len c.scramble-bits.ensures

pub returns-clause-written : goal.returns-clause-written
returns-clause-written c =
    let tables = c.args.tables.now in
    let w = c.args.watch.now in
    let by =
    last_by tables w (last_of c.turn_to.new.self) c.last.result.now c.turn_to.ensures.last c.last.ensures in
    payload_written tables w c.args.payload.now c.attach-block.result c.encode.result c.scramble-bits.result
    c.args.grid.now c.put_bits_with.new.grid c.attach-block.ensures.block
    (c.encode.ensures.code
    ∙ coded_by_tables tables.reliability tables.input_order (w.size + 24) (108 * w.level) c.last.result.now
    c.attach-block.result by)
    c.scramble-bits.ensures c.put_bits_with.ensures.grid

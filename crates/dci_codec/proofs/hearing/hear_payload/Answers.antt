use Rattle.std.proofs.Common.{Err, ap, refl}
use Rattle.polar_chain.specs.declared.no_word.NoWord.{NoWord}
use Rattle.dci_codec.specs.KnownCodes.{last_of}
use Rattle.dci_codec.proofs.Carriers.{received_from}
use Rattle.dci_codec.proofs.KeptCodes.{at_some, last_by}
use Rattle.dci_codec.proofs.Stages.{all_received, code_told, parity_told, payload_told, repeat_told}
use Rattle.dci_codec.proofs.hearing.hear_payload.Goals as goal

pub returns-in-Err-clause-answer : goal.returns-in-Err-clause-answer
returns-in-Err-clause-answer c = (c.in-Err.ensures.bad c.in-Err.bad).0 refl

pub last-requires : goal.last-requires
last-requires c = at_some c.args.tables.now c.args.watch.now (last_of c.turn_to.new.self) c.turn_to.ensures.last

pub decode-requires : goal.decode-requires
decode-requires c =
    all_received c.args.tables.now c.args.watch.now c.last.result.now c.scramble-bits.result c.in-Ok.bits c.requires.carrying
    (last_by c.args.tables.now c.args.watch.now (last_of c.turn_to.new.self) c.last.result.now c.turn_to.ensures.last c.last.ensures)
    c.scramble-bits.ensures c.in-Ok.ensures.length

pub returns-in-Some-clause-answer : goal.returns-in-Some-clause-answer
returns-in-Some-clause-answer c =
    payload_told c.args.tables.now c.args.grid.now c.args.watch.now c.last.result.now c.scramble-bits.result
    c.in-Ok-decode.block c.in-Some.payload
    (last_by c.args.tables.now c.args.watch.now (last_of c.turn_to.new.self) c.last.result.now c.turn_to.ensures.last c.last.ensures)
    (received_from c.args.grid.now c.args.watch.now c.in-Ok.bits c.scramble-bits.result c.scramble-bits.ensures
    ((c.in-Ok.ensures.bits c.in-Ok.bits).0 refl))
    ((c.in-Ok-decode.ensures.word c.in-Ok-decode.block).0 refl) ((c.in-Some.ensures c.in-Some.payload).0 refl)

pub returns-in-None-clause-answer : goal.returns-in-None-clause-answer
returns-in-None-clause-answer c =
    parity_told c.args.tables.now c.args.grid.now c.args.watch.now c.last.result.now c.scramble-bits.result
    c.in-Ok-decode.block
    (last_by c.args.tables.now c.args.watch.now (last_of c.turn_to.new.self) c.last.result.now c.turn_to.ensures.last c.last.ensures)
    (received_from c.args.grid.now c.args.watch.now c.in-Ok.bits c.scramble-bits.result c.scramble-bits.ensures
    ((c.in-Ok.ensures.bits c.in-Ok.bits).0 refl))
    ((c.in-Ok-decode.ensures.word c.in-Ok-decode.block).0 refl) c.in-None.ensures

pub returns-in-Err-Repeat-clause-answer : goal.returns-in-Err-Repeat-clause-answer
returns-in-Err-Repeat-clause-answer c =
    repeat_told c.args.tables.now c.args.grid.now c.args.watch.now c.last.result.now c.scramble-bits.result c.in-Err-Repeat.at
    (last_by c.args.tables.now c.args.watch.now (last_of c.turn_to.new.self) c.last.result.now c.turn_to.ensures.last c.last.ensures)
    (received_from c.args.grid.now c.args.watch.now c.in-Ok.bits c.scramble-bits.result c.scramble-bits.ensures
    ((c.in-Ok.ensures.bits c.in-Ok.bits).0 refl))
    ((c.in-Err-Repeat.ensures.repeat c.in-Err-Repeat.at).0 (ap (λ (e : NoWord). Err e) c.in-Err-Repeat.field-0-is))

pub returns-in-Err-Frozen-clause-answer : goal.returns-in-Err-Frozen-clause-answer
returns-in-Err-Frozen-clause-answer c =
    let told = c.in-Err-Frozen.ensures.frozen.0 (ap (λ (e : NoWord). Err e) c.in-Err-Frozen.field-0-is) in
    code_told c.args.tables.now c.args.grid.now c.args.watch.now c.last.result.now c.scramble-bits.result
    (last_by c.args.tables.now c.args.watch.now (last_of c.turn_to.new.self) c.last.result.now c.turn_to.ensures.last c.last.ensures)
    (received_from c.args.grid.now c.args.watch.now c.in-Ok.bits c.scramble-bits.result c.scramble-bits.ensures
    ((c.in-Ok.ensures.bits c.in-Ok.bits).0 refl))
    told.0 told.1

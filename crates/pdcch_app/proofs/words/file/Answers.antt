use Rattle.std.proofs.Common.{◌≡◌, ◌+◌, None, slice_get, sym, ap, ◌∙◌, arith}
use Rattle.pdcch_app.specs.Arguments.{arguments, texts_under}
use Rattle.pdcch_app.specs.Words.{numbers_before}
use Rattle.pdcch_app.proofs.AskedSlots.{few_numbers, file_is, file_there}
use Rattle.pdcch_app.proofs.words.file.Goals as goal

pub overflow_add-numbers_before : goal.overflow_add-numbers_before
overflow_add-numbers_before c =
    let few = few_numbers c.args.command in
    record { fits = omega (arith, few, c.numbers_before.ensures, c.from.ensures, c.ranges.place.fits) }

pub unreachable-requires : goal.unreachable-requires
unreachable-requires c =
    let there = file_there c.args.command c.args.words.now c.args.place c.requires in
    let at : c.numbers_before.result + c.from.result ≡ numbers_before c.args.command + c.args.place =
    omega (arith, c.numbers_before.ensures, c.from.ensures) in
    let never = sym there ∙ ap (slice_get (texts_under None (arguments c.args.words.now))) (sym at) ∙ c.in-None.ensures in
    cc

pub returns : goal.returns
returns c =
    let at : c.numbers_before.result + c.from.result ≡ numbers_before c.args.command + c.args.place =
    omega (arith, c.numbers_before.ensures, c.from.ensures) in
    file_is c.args.command c.args.words.now c.args.place c.in-Some.word.now
    (ap (slice_get (texts_under None (arguments c.args.words.now))) (sym at) ∙ c.in-Some.ensures)

use Rattle.std.proofs.Common.{sym, ◌∙◌}
use Rattle.pdcch_app.proofs.Numbers.{number_parses}
use Rattle.pdcch_app.proofs.arguments.number_of.Goals as goal

pub unreachable-requires : goal.unreachable-requires
unreachable-requires c =
    let never = sym (number_parses c.args.text.now c.parse.result c.requires c.parse.ensures.value.0) ∙ c.in-Err.is in cc

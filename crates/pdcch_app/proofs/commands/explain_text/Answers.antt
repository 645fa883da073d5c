use Rattle.std.proofs.Common.{◌≡◌, ℕ, true, List, sym, subst}
use Rattle.pdcch_app.specs.Arguments.{is_number}
use Rattle.pdcch_app.proofs.Asked.{asks_both}
use Rattle.pdcch_app.proofs.commands.explain_text.Goals as goal

pub explain_named-requires-clause-number : goal.explain_named-requires-clause-number
explain_named-requires-clause-number c =
    subst (λ (text : List ℕ). is_number text ≡ true) (sym c.value-word.ensures)
    (asks_both c.args.words.now c.requires.words).number

use Rattle.std.proofs.Common.{◌≡◌, ◌≤◌, ℕ, true, List, [], None, subst, arith}
use Rattle.std.proofs.lemmas.Option.{get_or_from_slice_get}
use Rattle.pdcch_app.specs.Arguments.{arguments, is_number, number_of, texts_under}
use Rattle.pdcch_app.proofs.AskedSlots.{asks_slots}
use Rattle.pdcch_app.proofs.words.slots.Goals as goal

pub number_of-requires : goal.number_of-requires
number_of-requires c =
    let first = get_or_from_slice_get (texts_under None (arguments c.args.words.now)) 0 c.in-Some.text.now [] c.in-Some.ensures in
    subst (λ (text : List ℕ). is_number text ≡ true) first (asks_slots c.args.words.now c.requires).number

pub returns-clause-least : goal.returns-clause-least
returns-clause-least c =
    let first = get_or_from_slice_get (texts_under None (arguments c.args.words.now)) 0 c.in-Some.text.now [] c.in-Some.ensures in
    let least = subst (λ (text : List ℕ). 1 ≤ number_of text) first (asks_slots c.args.words.now c.requires).least in
    omega (arith, c.number_of.ensures, least)

pub returns-clause-most : goal.returns-clause-most
returns-clause-most c =
    let first = get_or_from_slice_get (texts_under None (arguments c.args.words.now)) 0 c.in-Some.text.now [] c.in-Some.ensures in
    let most = subst (λ (text : List ℕ). number_of text ≤ 200) first (asks_slots c.args.words.now c.requires).most in
    omega (arith, c.number_of.ensures, most)

use Rattle.std.proofs.Common.{ℕ, ◌≡◌, ◌<◌, ◌+◌, subst, arith}
use Rattle.rate_match.specs.RateMatching.{sent_place}
use Rattle.rate_match.proofs.Ordered.{unselected_words, width_of}
use Rattle.rate_match.proofs.Places.{turn_at_most}
use Rattle.rate_match.proofs.packed.unselect_core.Goals as goal

pub reorder-requires-clause-width : goal.reorder-requires-clause-width
reorder-requires-clause-width c = width_of c.args.n c.requires.size

pub reorder-requires-clause-table : goal.reorder-requires-clause-table
reorder-requires-clause-table c turn l = let most = turn_at_most turn l in omega arith

pub returns-clause-unselected : goal.returns-clause-unselected
returns-clause-unselected c =
    let empty = c.unsent_before.result in
    let sent =
    subst (λ (e : ℕ). (i : ℕ) → i < e → i < c.args.n → sent_place c.args.n c.args.k e i ≡ empty + i) c.len.ensures.value
    c.unsent_before.ensures.sent
    in
    unselected_words c.args.n c.args.k empty c.args.bits.now c.behind-ordered.result c.reorder.new.to
    c.requires.size c.requires.same sent c.behind-ordered.ensures.zeros c.behind-ordered.ensures.bits
    c.reorder.ensures.reordered

use Rattle.std.proofs.Common.{◌≡◌, ◌+◌, ◌-◌, ◌∙◌, ap, sym, arith}
use Rattle.bits_core.specs.Row.{word_bit}
use Rattle.rate_match.specs.RateMatching.{sent_place}
use Rattle.rate_match.specs.declared.matching.Matching.TheVariants.{Repeated, Punctured, Shortened}
use Rattle.rate_match.proofs.Sent.{sent_by}
use Rattle.rate_match.proofs.packed.keep_sent.Goals as goal

pub returns-in-Repeated-clause-sent : goal.returns-in-Repeated-clause-sent
returns-in-Repeated-clause-sent c i l =
    let place = sent_by c.args.n c.args.k c.args.e i Repeated (sym c.in-Repeated.is ∙ c.of.ensures.matching) in
    c.repeat.ensures.repeated i l ∙ ap (word_bit c.args.coded.now) (sym place)

pub returns-in-Punctured-clause-sent : goal.returns-in-Punctured-clause-sent
returns-in-Punctured-clause-sent c i l =
    let place = sent_by c.args.n c.args.k c.args.e i Punctured (sym c.in-Punctured.is ∙ c.of.ensures.matching) in
    let turned : c.args.n - c.args.e + i ≡ sent_place c.args.n c.args.k c.args.e i = omega arith in
    c.drop_first.ensures.dropped i l ∙ ap (word_bit c.args.coded.now) turned

pub returns-in-Shortened-clause-sent : goal.returns-in-Shortened-clause-sent
returns-in-Shortened-clause-sent c i l =
    ap (word_bit c.args.coded.now)
    (sym (sent_by c.args.n c.args.k c.args.e i Shortened (sym c.in-Shortened.is ∙ c.of.ensures.matching)))

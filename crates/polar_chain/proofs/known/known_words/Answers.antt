use Rattle.bits_core.specs.Row.{word_bit}
use Rattle.rate_match.proofs.Subblocks.{in_subblocks}
use Rattle.polar_chain.proofs.KnownWords.{legal_length, all_known, known_where_sent}
use Rattle.polar_chain.proofs.SentPlaces.{known_all}
use Rattle.polar_chain.proofs.known.known_words.Goals as goal

pub returns-in-Punctured : goal.returns-in-Punctured
returns-in-Punctured c =
    let way = c.in-Punctured.ensures.holds in
    known_where_sent c.args.n c.args.k c.args.e (word_bit c.sent_words.result)
    (legal_length c.args.n c.args.k c.args.e c.requires.size) way.0 way.1 c.sent_words.ensures.sent c.sent_words.ensures.others

pub returns-in-Repeated : goal.returns-in-Repeated
returns-in-Repeated c =
    let is = legal_length c.args.n c.args.k c.args.e c.requires.size in
    all_known c.args.n c.args.k c.args.e is (in_subblocks c.args.n is).limit
    (known_all c.args.n c.args.k c.args.e c.of.result c.of.ensures.matching c.in-Repeated.is)

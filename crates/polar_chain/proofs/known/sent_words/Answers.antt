use Rattle.std.proofs.Common.{ℕ, ◌≡◌, ◌-◌, ◌^◌, ◌<◌, ◌≤◌, ap, arith, lit<, replicate, subst, sym, ◌∙◌}
use Rattle.bits_core.specs.Row.{row_bits}
use Rattle.rate_match.specs.MotherCode.{length_of}
use Rattle.rate_match.specs.Received.{IsUnselected}
use Rattle.rate_match.proofs.Subblocks.{in_subblocks}
use Rattle.polar_chain.proofs.KnownWords.{legal_length, row_long, ones_where_sent, zero_where_unsent}
use Rattle.polar_chain.proofs.known.sent_words.Goals as goal

fits : (n k e : ℕ) → n ≡ length_of k e → e < n → e ≤ 512
fits n k e size fewer = let limit = (in_subblocks n (legal_length n k e size)).limit in omega (arith, limit, fewer)

pub of_words-ones-requires : goal.of_words-ones-requires
of_words-ones-requires c =
    let most = fits c.args.n c.args.k c.args.e c.requires.size c.requires.fewer in (lit< tt, (lit< tt, omega (arith, most)))

pub exponent_of-requires : goal.exponent_of-requires
exponent_of-requires c = legal_length c.args.n c.args.k c.args.e c.requires.size

pub unselect_words-requires : goal.unselect_words-requires
unselect_words-requires c =
    let most = fits c.args.n c.args.k c.args.e c.requires.size c.requires.fewer in
    let long = row_long (replicate 27 (2 ^ 64 - 1)) c.of_words-ones.result c.args.e c.of_words-ones.ensures in
    let limit = (in_subblocks c.args.n (legal_length c.args.n c.args.k c.args.e c.requires.size)).limit in
    let power = c.exponent_of.ensures.power in (
      lit< tt,
      (
        c.requires.block,
        (
          c.requires.longest,
          (omega arith, (omega arith, (power ∙ c.requires.size ∙ ap (length_of c.args.k) (sym long), omega arith))),
        ),
      ),
    )

pub unreachable-requires : goal.unreachable-requires
unreachable-requires c =
    let long = row_long (replicate 27 (2 ^ 64 - 1)) c.of_words-ones.result c.args.e c.of_words-ones.ensures in
    let power = c.exponent_of.ensures.power in
    let ok = c.unselect_words.ensures.same.1 (λ i l b. absurd (omega arith)) in
    let differ = sym ok ∙ c.in-Err.is in
    cc

pub returns-clause-sent : goal.returns-clause-sent
returns-clause-sent c =
    let most = fits c.args.n c.args.k c.args.e c.requires.size c.requires.fewer in
    ones_where_sent c.args.n c.args.k c.args.e c.of_words-ones.result c.unselect_words.new.d
    (legal_length c.args.n c.args.k c.args.e c.requires.size) c.of_words-ones.ensures (omega (arith, most))
    (subst (λ (x : ℕ). IsUnselected x c.args.k c.of_words-ones.result (row_bits c.unselect_words.new.d x))
    c.exponent_of.ensures.power c.in-Ok.ensures.word)

pub returns-clause-others : goal.returns-clause-others
returns-clause-others c =
    let long = row_long (replicate 27 (2 ^ 64 - 1)) c.of_words-ones.result c.args.e c.of_words-ones.ensures in
    zero_where_unsent c.args.n c.args.k c.args.e c.of_words-ones.result c.unselect_words.new.d long
    (subst (λ (x : ℕ). IsUnselected x c.args.k c.of_words-ones.result (row_bits c.unselect_words.new.d x))
    c.exponent_of.ensures.power c.in-Ok.ensures.word)

use Rattle.std.proofs.Common.{List, map, sym, ◌∙◌, ap, subst}
use Rattle.std.specs.List.{flat_map}
use Rattle.rrc_settings.specs.BitSets.{has_bit}
use Rattle.monitor_budget.specs.declared.candidates.Candidate.{Candidate}
use Rattle.monitor_budget.specs.Counts.{counted_as, cces_of_candidate}
use Rattle.monitor_budget.specs.Tally.{AddsCces, AddsCounted}
use Rattle.monitor_budget.proofs.Adding.{counted_none, cces_none}
use Rattle.monitor_budget.proofs.SymbolCounts.{among-other}
use Rattle.monitor_budget.proofs.set_counting.count_symbol.Goals as goal

pub returns-then-not-has_bit-clause-counted : goal.returns-then-not-has_bit-clause-counted
returns-then-not-has_bit-clause-counted g c =
    let s = c.args.space.now.set in
    let bit = ap (λ number. has_bit number c.args.symbol) (sym c.from.ensures)
    ∙ ap (has_bit c.from.result) (sym c.from-2.ensures) ∙ sym c.has_bit.ensures in
    λ _. subst (λ (xs : List Candidate). AddsCounted c.args.tally.now.seen.items c.args.tally.now.seen.items
    (map (counted_as s c.args.scramble) xs))
    (among-other c.args.cces c.args.sizes.now s c.args.symbol (bit ∙ c.if-not-has_bit.true))
    (counted_none c.args.tally.now.seen.items)

pub returns-then-not-has_bit-clause-cces : goal.returns-then-not-has_bit-clause-cces
returns-then-not-has_bit-clause-cces g c =
    let s = c.args.space.now.set in
    let bit = ap (λ number. has_bit number c.args.symbol) (sym c.from.ensures)
    ∙ ap (has_bit c.from.result) (sym c.from-2.ensures) ∙ sym c.has_bit.ensures in
    λ _. subst (λ (xs : List Candidate). AddsCces c.args.tally.now.marks c.args.tally.now.marks
    (flat_map (cces_of_candidate s) xs))
    (among-other c.args.cces c.args.sizes.now s c.args.symbol (bit ∙ c.if-not-has_bit.true))
    (cces_none c.args.tally.now.marks)

use Rattle.std.proofs.Common.{◌≡◌, ℕ, ◌-◌, ◌<◌, true, false, get_or, ◌∙◌, subst, arith}
use Rattle.monitor_budget.specs.Counts.{cces_from}
use Rattle.monitor_budget.specs.Tally.{AddsCces}
use Rattle.monitor_budget.proofs.Adding.{one_marked, range_marked}
use Rattle.monitor_budget.proofs.marks.Marks.set_all.Goals as goal

pub loop-cce-preserved : goal.loop-cce-preserved
loop-cce-preserved c =
    let k = c.loop-cce.cce in
    let at = c.mark_of.ensures.value in
    let most : k < 192 = let a = c.loop-cce-test.true in let b = c.from.ensures in let d = c.requires.cces in
    omega (arith, a, b, d) in
    range_marked c.args.self.now c.loop-cce.self c.set.new.self c.args.coreset c.args.symbol c.args.start k
    c.loop-cce.auto.cce c.loop-cce.invariant
    (one_marked c.loop-cce.self c.set.new.self c.args.coreset c.args.symbol k c.requires.coreset c.requires.symbol most
    (subst (λ (i : ℕ). get_or c.set.new.self i false ≡ true) at c.set.ensures.there)
    (λ i h. c.set.ensures.others i (λ e. h (e ∙ at))))

pub returns : goal.returns
returns c =
    let n : c.loop-cce.cce - c.args.start ≡ c.args.level =
    let a = c.loop-cce-test.false in let b = c.from.ensures in let d = c.loop-cce.auto.cce-end (omega arith) in
    omega (arith, a, b, d) in
    subst (λ (m : ℕ). AddsCces c.args.self.now c.loop-cce.self (cces_from c.args.coreset c.args.symbol c.args.start m)) n
    c.loop-cce.invariant

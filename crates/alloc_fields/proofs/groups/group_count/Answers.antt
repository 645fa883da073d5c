use Rattle.std.proofs.Common.{◌+◌, ◌%◌, ◌<◌, ◌≤◌, ℕ, arith, subst, sym, ap}
use Rattle.std.proofs.lemmas.Nat.{mod_below}
use Rattle.alloc_fields.specs.Groups.{quotient_up, rbg_count}
use Rattle.alloc_fields.proofs.GroupCounts.{rbg_count_le, rbg_count-some}
use Rattle.alloc_fields.proofs.groups.group_count.Goals as goal

pub overflow_add-result-2 : goal.overflow_add-result-2
overflow_add-result-2 c =
    let positive : 0 < c.group_size-blocks.result = omega (arith, c.group_size-blocks.ensures.least) in
    omega (arith, c.requires.most, c.group_size-blocks.ensures.most, mod_below c.args.start c.group_size-blocks.result positive)

pub returns-clause-value : goal.returns-clause-value
unfolding rbg_count
returns-clause-value c =
    ap (λ (blocks : ℕ). quotient_up (c.args.size + c.args.start % blocks) blocks) c.group_size-blocks.ensures.value

pub returns-clause-least : goal.returns-clause-least
unfolding rbg_count
returns-clause-least c =
    let P : ℕ → Type 0 = λ blocks. 1 ≤ quotient_up (c.args.size + c.args.start % blocks) blocks in
    subst P (sym c.group_size-blocks.ensures.value)
    (rbg_count-some c.args.size c.args.start c.args.config c.requires.least c.requires.most)

pub returns-clause-most : goal.returns-clause-most
unfolding rbg_count
returns-clause-most c =
    let P : ℕ → Type 0 = λ blocks. quotient_up (c.args.size + c.args.start % blocks) blocks ≤ 19 in
    subst P (sym c.group_size-blocks.ensures.value) (rbg_count_le c.args.size c.args.start c.args.config c.requires.most)

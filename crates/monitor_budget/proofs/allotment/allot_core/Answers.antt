use Rattle.std.proofs.Common.{◌≡◌, ℕ, ◌<◌, List, ◌++◌, true, false, All, length, Result, Ok, Err, sym, ap, ◌∙◌, subst, arith}
use Rattle.monitor_budget.specs.declared.allotment.Allotment.{Allotment}
use Rattle.monitor_budget.specs.declared.allotment.CommonOver.{CommonOver}
use Rattle.monitor_budget.specs.Tally.{Tallies}
use Rattle.monitor_budget.specs.Allotting.{common_sets, allotment_of, allotted, common_over, keep_limits, longest_front}
use Rattle.monitor_budget.proofs.SearchOrder.{few_both, all_within}
use Rattle.monitor_budget.proofs.Allotments.{allotted_over, allotted-fits, answer_within, common_keep}
use Rattle.monitor_budget.proofs.allotment.allot_core.Goals as goal

-- the two answers
abbrev failed : CommonOver → Result Allotment CommonOver
failed over = Err over

abbrev found : Allotment → Result Allotment CommonOver
found a = Ok a

pub keep_together-requires-clause-places : goal.keep_together-requires-clause-places
keep_together-requires-clause-places c =
    let h = c.args.handset.now in
    subst (λ (xs : List ℕ). All (λ place. place < length h.sets.items) xs)
    (sym (c.as_slice.ensures.value ∙ c.sets_in_slot-common.ensures))
    (all_within c.args.cell.now h true c.args.frame c.args.slot)

pub common_over-requires-clause-places : goal.common_over-requires-clause-places
common_over-requires-clause-places c =
    let h = c.args.handset.now in
    subst (λ (xs : List ℕ). All (λ place. place < length h.sets.items) xs)
    (sym (c.as_slice-then-not-keep_together.ensures.value ∙ c.sets_in_slot-common.ensures))
    (all_within c.args.cell.now h true c.args.frame c.args.slot)

pub returns-then-not-keep_together-clause-allotted : goal.returns-then-not-keep_together-clause-allotted
returns-then-not-keep_together-clause-allotted c =
    let cell = c.args.cell.now in
    let h = c.args.handset.now in
    let kept = common_keep c.args.cell.now c.args.handset.now c.args.sizes.now c.args.frame c.args.slot c.as_slice.result.now
    c.keep_together.result (c.as_slice.ensures.value ∙ c.sets_in_slot-common.ensures) c.keep_together.ensures.limits in
    ap (λ (over : CommonOver). failed over)
    (c.common_over.ensures ∙ ap (λ (xs : List ℕ). common_over cell h c.args.sizes.now xs)
    (c.as_slice-then-not-keep_together.ensures.value ∙ c.sets_in_slot-common.ensures))
    ∙ sym (allotted_over cell h c.args.sizes.now c.args.frame c.args.slot (kept ∙ c.if-not-keep_together.true))

pub with_own-requires-clause-tally : goal.with_own-requires-clause-tally
with_own-requires-clause-tally c =
    subst (λ (xs : List ℕ). Tallies c.args.cell.now c.args.handset.now c.args.sizes.now xs c.keep_together.new.tally)
    c.as_slice.ensures.value (c.keep_together.ensures.tally c.if-not-keep_together.false)

pub with_own-requires-clause-within : goal.with_own-requires-clause-within
with_own-requires-clause-within c =
    let kept = common_keep c.args.cell.now c.args.handset.now c.args.sizes.now c.args.frame c.args.slot c.as_slice.result.now
    c.keep_together.result (c.as_slice.ensures.value ∙ c.sets_in_slot-common.ensures) c.keep_together.ensures.limits in
    subst (λ (xs : List ℕ). keep_limits c.args.cell.now c.args.handset.now c.args.sizes.now xs ≡ true)
    (sym c.sets_in_slot-common.ensures) (kept ∙ c.if-not-keep_together.false)

pub with_own-requires-clause-room : goal.with_own-requires-clause-room
with_own-requires-clause-room c =
    let few = few_both c.args.cell.now c.args.handset.now c.args.frame c.args.slot c.requires.legal.sets_most in
    let a = ap (λ (xs : List ℕ). length xs) c.sets_in_slot-common.ensures in
    let b = ap (λ (xs : List ℕ). length xs) (c.as_slice-2.ensures.value ∙ c.sets_in_slot-own.ensures) in
    omega (arith, few, a, b)

pub with_own-requires-clause-places : goal.with_own-requires-clause-places
with_own-requires-clause-places c =
    let h = c.args.handset.now in
    subst (λ (xs : List ℕ). All (λ place. place < length h.sets.items) xs)
    (sym (c.as_slice-2.ensures.value ∙ c.sets_in_slot-own.ensures))
    (all_within c.args.cell.now h false c.args.frame c.args.slot)

answer : (c : goal.After-with_own)
    → found c.with_own.result ≡ allotted c.args.cell.now c.args.handset.now c.args.sizes.now c.args.frame c.args.slot
answer c =
    let cell = c.args.cell.now in
    let h = c.args.handset.now in
    let sizes = c.args.sizes.now in
    let own = c.as_slice-2.ensures.value ∙ c.sets_in_slot-own.ensures in
    let kept = common_keep c.args.cell.now c.args.handset.now c.args.sizes.now c.args.frame c.args.slot c.as_slice.result.now
    c.keep_together.result (c.as_slice.ensures.value ∙ c.sets_in_slot-common.ensures) c.keep_together.ensures.limits in
    ap (λ (a : Allotment). found a)
    (c.with_own.ensures
    ∙ ap (λ (xs : List ℕ). allotment_of cell h sizes (xs ++ longest_front cell h sizes xs c.as_slice-2.result.now))
    c.sets_in_slot-common.ensures
    ∙ ap (λ (xs : List ℕ). allotment_of cell h sizes
    (common_sets cell h c.args.frame c.args.slot
    ++ longest_front cell h sizes (common_sets cell h c.args.frame c.args.slot) xs)) own)
    ∙ sym (allotted-fits cell h sizes c.args.frame c.args.slot (kept ∙ c.if-not-keep_together.false))

pub returns-clause-allotted : goal.returns-clause-allotted
returns-clause-allotted c = answer c

pub returns-clause-places : goal.returns-clause-places
returns-clause-places c =
    answer_within c.args.cell.now c.args.handset.now c.args.sizes.now c.args.frame c.args.slot (Ok c.with_own.result) (answer c)

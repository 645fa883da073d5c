use Rattle.std.proofs.Common.{◌≡◌, ◌+◌, ◌-◌, ◌++◌, length, refl, sym, ap, ◌∙◌, arith}
use Rattle.std.specs.List.{range_with_len, flat_map}
use Rattle.std.proofs.lemmas.List.{length-append}
use Rattle.monitor_budget.specs.Allotting.{numbered_sets, sets_in_slot}
use Rattle.list_facts.proofs.Ranges.{numbers_more}
use Rattle.monitor_budget.proofs.SearchOrder.{few_sets_to}
use Rattle.monitor_budget.proofs.calendar.sets_in_slot.Goals as goal

pub push_numbered-requires-clause-room : goal.push_numbered-requires-clause-room
push_numbered-requires-clause-room c =
    let h = c.args.handset.now in
    let f = numbered_sets c.args.cell.now h c.args.common c.args.frame c.args.slot in
    let l = c.loop-number in
    let next = numbers_more f l.places.items (l.places.items ++ f l.number) l.number l.auto.number l.invariant refl in
    let few = few_sets_to c.args.cell.now h c.args.common c.args.frame c.args.slot (l.number + 1 - 1)
    c.requires.legal.sets_most in
    let e = sym (length-append l.places.items (f l.number)) ∙ ap length next in
    omega (arith, few, e)

pub loop-number-preserved : goal.loop-number-preserved
loop-number-preserved c =
    let l = c.loop-number in
    numbers_more (numbered_sets c.args.cell.now c.args.handset.now c.args.common c.args.frame c.args.slot) l.places.items
    c.push_numbered.new.places.items l.number l.auto.number
    l.invariant c.push_numbered.ensures

pub returns : goal.returns
unfolding sets_in_slot
returns c =
    let l = c.loop-number in
    let f = numbered_sets c.args.cell.now c.args.handset.now c.args.common c.args.frame c.args.slot in
    l.invariant ∙ ap (λ n. flat_map f (range_with_len 1 n))
    (let a = c.loop-number-test.false in let b = l.auto.number-end (omega arith) in let z : l.number - 1
    ≡ 39 = omega (arith, a, b) in z)

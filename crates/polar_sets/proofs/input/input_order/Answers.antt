use Rattle.std.proofs.Common.{ℕ, List, ◌+◌, ◌<◌, ap, arith, length, subst, sym, ◌∙◌}
use Rattle.arrayvec.specs.ArrayVec.{ArrayVec}
use Rattle.polar_sets.proofs.Entries.{IsEntered, entered_all, entered_more, entered_none, entered_same, order_is}
use Rattle.table_files.specs.Permutation.{IsTable}
use Rattle.polar_sets.proofs.input.input_order.Goals as goal
use Rattle.polar_sets.proofs.input.input_order.Goals.{then-entry-first, else-entry-first}

pub loop-place-init : goal.loop-place-init
loop-place-init c = record {
  entered =
      subst (λ (xs : List ℕ). IsEntered c.args.table.now c.args.k 0 xs) (sym c.new-order.ensures)
      (entered_none c.args.table.now c.args.k);
  table = λ l. absurd (omega arith);
}

pub loop-place-preserved : goal.loop-place-preserved
loop-place-preserved c =
    let l = c.loop-place in
    let xs = c.args.table.now in
    let k = c.args.k in
    let table = c.at-entry.ensures.table in
    let inside : l.place < length xs = (let long = table.long in omega arith) in
    elim c.if-entry-first.branch [
      | then-entry-first w ↦
          let more = entered_more xs k l.place c.at-entry.result l.order.items inside c.at-entry.ensures.entry
          w.if-entry-first.true l.invariant.entered in
          let items = ap (λ (o : ArrayVec ℕ). o.items) w.order-is ∙ w.push.ensures.items in
          record { entered = subst (λ (ys : List ℕ). IsEntered xs k (l.place + 1) ys) (sym items) more; table = λ h. table }
      | else-entry-first w ↦
          let same = entered_same xs k l.place c.at-entry.result l.order.items inside c.at-entry.ensures.entry
          w.if-entry-first.false l.invariant.entered in
          let items = ap (λ (o : ArrayVec ℕ). o.items) w.order-is in
          record { entered = subst (λ (ys : List ℕ). IsEntered xs k (l.place + 1) ys) (sym items) same; table = λ h. table }
    ]

pub returns-clause-permutation : goal.returns-clause-permutation
returns-clause-permutation c =
    let l = c.loop-place in
    let table = l.invariant.table (omega arith) in
    subst (λ (xs : List ℕ). IsTable c.args.k xs)
    (sym (entered_all c.args.table.now c.args.k l.place l.order.items (let long = table.long in omega arith) l.invariant.entered))
    (order_is c.args.table.now c.args.k table c.requires.longest)

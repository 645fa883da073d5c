use Rattle.std.proofs.Common.{◌≡◌, ℕ, ◌+◌, ◌<◌, ◌∷◌, [], ◌++◌, Bool, true, List, length, sym, ap, ◌∙◌, arith, rules}
use Rattle.std.specs.List.{range_with_len, filter}
use Rattle.std.proofs.lemmas.List.{append_assoc}
use Rattle.arrayvec.specs.ArrayVec.{ArrayVec}
use Rattle.monitor_budget.specs.Allotting.{is_searched, numbered_sets}
use Rattle.list_facts.proofs.Ranges.{filter_range_more, filter_range_same}
use Rattle.monitor_budget.proofs.SearchOrder.{push-room}
use Rattle.monitor_budget.proofs.calendar.push_numbered.Goals as goal
use Rattle.monitor_budget.proofs.calendar.push_numbered.Goals.{then-is_searched, else-is_searched}

pushed : (p : ℕ → Bool) (before now next : List ℕ) (k : ℕ) → p k ≡ true → now ≡ before ++ filter p (range_with_len 0 k)
    → next ≡ now ++ k ∷ []
    → next ≡ before ++ filter p (range_with_len 0 (k + 1))
pushed p before now next k t h e =
    e ∙ ap (λ xs. xs ++ k ∷ []) h ∙ append_assoc before (filter p (range_with_len 0 k)) (k ∷ [])
    ∙ ap (λ xs. before ++ xs) (sym (filter_range_more p k t))

pub push-requires : goal.push-requires
unfolding numbered_sets
push-requires c =
    let h = c.args.handset.now in
    let p = is_searched c.args.cell.now h c.args.common c.args.frame c.args.slot c.args.number in
    let room : length c.loop-place.places.items < 10 =
    push-room p c.args.places.now.items c.loop-place.places.items c.loop-place.place (length h.sets.items) c.loop-place.invariant
    (sym c.is_searched.ensures ∙ c.if-is_searched.true)
    (let e = c.len-place-end.ensures.value in let t = c.loop-place-test.true in omega (arith, e, t))
    c.requires.room in
    search rules

pub loop-place-preserved : goal.loop-place-preserved
loop-place-preserved c =
    let h = c.args.handset.now in
    let l = c.loop-place in
    let p = is_searched c.args.cell.now h c.args.common c.args.frame c.args.slot c.args.number in
    elim c.if-is_searched.branch [
      | then-is_searched w ↦
          ap (λ (v : ArrayVec ℕ). v.items) w.places-is
          ∙ pushed p c.args.places.now.items l.places.items w.push.new.self.items l.place
          (sym c.is_searched.ensures ∙ w.if-is_searched.true) l.invariant w.push.ensures.items
      | else-is_searched w ↦
          ap (λ (v : ArrayVec ℕ). v.items) w.places-is ∙ l.invariant
          ∙ ap (λ ks. c.args.places.now.items ++ ks)
          (sym (filter_range_same p l.place (sym c.is_searched.ensures ∙ w.if-is_searched.false)))
    ]

pub returns : goal.returns
unfolding numbered_sets
returns c =
    let h = c.args.handset.now in
    let p = is_searched c.args.cell.now h c.args.common c.args.frame c.args.slot c.args.number in
    let n : c.loop-place.place ≡ length h.sets.items =
    let e = c.len-place-end.ensures.value in let t = c.loop-place-test.false in let a = c.loop-place.auto.place-end in
    omega (arith, e, t, a) in
    c.loop-place.invariant ∙ ap (λ k. c.args.places.now.items ++ filter p (range_with_len 0 k)) n

use Rattle.std.proofs.Common.{List, ap, sym, subst, ◌∙◌, ◌+◌, ◌<◌, ◌≡◌, refl, arith, false, length, length-set, set, true, ℕ}
use Rattle.std.specs.Prelude.{slice_index, IsTrue}
use Rattle.bits_core.specs.Bits.{bit_of}
use Rattle.list_facts.specs.Counting.{count_below}
use Rattle.list_facts.proofs.Counting.{count_none}
use Rattle.polar_chain.proofs.InputSteps.{carrier_kept, carriers_pass, no_more_turn, one_more_turn, turn_below}
use Rattle.polar_chain.proofs.carriers.carriers_of.Goals as goal
use Rattle.polar_chain.proofs.carriers.carriers_of.Goals.{then-has, else-has}

pub loop-at-init : goal.loop-at-init
loop-at-init c = record {
  len = refl;
  behind = omega arith;
  turn_is = sym (count_none (bit_of c.args.positions.now));
  kept_so_far = λ p h. absurd (omega arith);
}

pub bounds-order-turn : goal.bounds-order-turn
bounds-order-turn c =
    turn_below c.args.n (length c.args.order.now) c.loop-at.at c.loop-at.turn (bit_of c.args.positions.now)
    c.loop-at.invariant.turn_is c.loop-at-test.true (sym c.has.ensures ∙ c.if-has.true) c.requires.room

pub loop-at-preserved : goal.loop-at-preserved
loop-at-preserved c =
    let info = bit_of c.args.positions.now in
    let order = c.args.order.now in
    let l = c.loop-at in
    let KeptBelow : List ℕ → Type 0 =
    λ carriers. (p : ℕ) → p < l.at + 1 → IsTrue (info p)
    → slice_index carriers (slice_index order (count_below p info)) ≡ p in
    elim c.if-has.branch [
      | then-has w ↦
          let carries : info l.at ≡ true = sym c.has.ensures ∙ w.if-has.true in
          let below : l.turn < length order =
          turn_below c.args.n (length order) l.at l.turn info l.invariant.turn_is c.loop-at-test.true carries c.requires.room in
          let carriers_is : c.if-has.carriers ≡ set l.carriers (slice_index order l.turn) l.at =
          w.carriers-is ∙ ap (λ (x : ℕ). set l.carriers x l.at) w.from.ensures in
          record {
            len =
                ap (λ (carriers : List ℕ). length carriers) carriers_is
                ∙ length-set l.carriers (slice_index order l.turn) l.at
                ∙ l.invariant.len;
            behind = omega arith;
            turn_is = w.turn-is ∙ one_more_turn l.at l.turn info l.invariant.turn_is carries;
            kept_so_far =
                subst KeptBelow (sym carriers_is)
                (carrier_kept (length order) order l.carriers info l.at l.turn c.requires.order
                (let long = l.invariant.len in let most = c.requires.few in omega arith)
                l.invariant.turn_is below l.invariant.kept_so_far);
          }
      | else-has w ↦
          let none : info l.at ≡ false = sym c.has.ensures ∙ w.if-has.false in
          record {
            len = ap (λ (carriers : List ℕ). length carriers) w.carriers-is ∙ l.invariant.len;
            behind = omega arith;
            turn_is = w.turn-is ∙ no_more_turn l.at l.turn info l.invariant.turn_is none;
            kept_so_far =
                subst KeptBelow (sym w.carriers-is) (carriers_pass order l.carriers info l.at none l.invariant.kept_so_far);
          }
    ]

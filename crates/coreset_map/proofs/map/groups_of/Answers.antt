use Rattle.std.proofs.Common.{◌∷◌, ◌++◌, [], length, ap, sym, ◌∙◌, arith}
use Rattle.rrc_settings.specs.BitSets.{has_bit}
use Rattle.coreset_map.proofs.Bits.{groups_none, groups_all, groups_more, groups_same}
use Rattle.coreset_map.proofs.map.groups_of.Goals.{then-has_bit, else-has_bit}
use Rattle.coreset_map.proofs.map.groups_of.Goals as goal

pub returns : goal.returns
returns c = c.loop-group.invariant.items ∙ groups_all c.args.groups c.loop-group.group (omega arith)

pub loop-group-init : goal.loop-group-init
loop-group-init c = record {
  items = c.new-rising.ensures ∙ sym (groups_none c.args.groups);
  few = let e = ap length c.new-rising.ensures in omega (arith, e);
}

pub loop-group-preserved : goal.loop-group-preserved
loop-group-preserved c =
    let l = c.loop-group in
    elim c.if-has_bit.branch [
      | then-has_bit w ↦ record {
        items =
            ap (λ rising. rising.items) w.rising-is
            ∙ w.push.ensures.items
            ∙ ap (λ ns. ns ++ l.group ∷ []) l.invariant.items
            ∙ sym (groups_more c.args.groups l.group
            (ap (has_bit c.args.groups) (sym c.from.ensures) ∙ (sym c.has_bit.ensures ∙ w.if-has_bit.true)));
        few =
            let e = ap (λ rising. length rising.items) w.rising-is in let f = w.push.ensures.len in let h = l.invariant.few in
            omega (arith, e, f, h);
      }
      | else-has_bit w ↦ record {
        items =
            ap (λ rising. rising.items) w.rising-is
            ∙ l.invariant.items
            ∙ sym (groups_same c.args.groups l.group
            (ap (has_bit c.args.groups) (sym c.from.ensures) ∙ (sym c.has_bit.ensures ∙ w.if-has_bit.false)));
        few = let e = ap (λ rising. length rising.items) w.rising-is in let h = l.invariant.few in omega (arith, e, h);
      }
    ]

use Rattle.std.proofs.Common.{◌∙◌, sym, arith}
use Rattle.polar_sets.specs.FrozenPlaces.{is_free}
use Rattle.list_facts.proofs.Counting.{count_more, count_no_more, count_none}
use Rattle.polar_sets.proofs.free_places.free_count.Goals as goal
use Rattle.polar_sets.proofs.free_places.free_count.Goals.{then-is_free, else-is_free}

pub loop-position-init : goal.loop-position-init
loop-position-init c = record { count = sym (count_none (is_free c.args.n c.args.k c.args.e)); few = omega arith }

pub loop-position-preserved : goal.loop-position-preserved
loop-position-preserved c =
    let l = c.loop-position in
    let test = is_free c.args.n c.args.k c.args.e in
    elim c.if-is_free.branch [
      | then-is_free w ↦
          let more = count_more l.position test (sym c.is_free.ensures.free ∙ w.if-is_free.true) in
          let before = l.invariant.count in
          let here = w.count-is in
          record { count = omega arith; few = omega arith }
      | else-is_free w ↦
          let same = count_no_more l.position test (sym c.is_free.ensures.free ∙ w.if-is_free.false) in
          let before = l.invariant.count in
          let here = w.count-is in
          record { count = omega arith; few = omega arith }
    ]

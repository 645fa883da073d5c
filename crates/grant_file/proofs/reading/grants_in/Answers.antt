use Rattle.std.proofs.Common.{arith}
use Rattle.std.proofs.lemmas.Grind.{common_steps}
use Rattle.std.proofs.lemmas.List.Elements.{All-push}
use Rattle.std.specs.Prelude.{Some}
use Rattle.json_form.proofs.Elements.{first_from_view_next, take_view_next}
use Rattle.grant_file.specs.Faults.{whole_at}
use Rattle.grant_file.specs.Lists.{IsReadGrant}
use Rattle.grant_file.specs.Shapes.{judge_grant}
use Rattle.grant_file.specs.Values.{grant_value}
use Rattle.grant_file.proofs.reading.grants_in.Goals as goal

pub returns-in_err-grant_of : goal.returns-in_err-grant_of
returns-in_err-grant_of c =
    let e = c.in_err-grant_of.ensures.read in
    let vs = c.args.values.now in
    let k = c.loop-index.index in
    let n = first_from_view_next (λ n. judge_grant (whole_at (Some n))) vs k c.index-values-index.result c.loop-index-test.true in
    let i = c.index-values-index.is in
    let p = c.index.ensures in
    grind (arith, common_steps)

pub loop-index-preserved : goal.loop-index-preserved
loop-index-preserved c =
    let e = c.in_ok-grant_of.ensures.read in
    let i = c.index-values-index.is in
    let q = c.index.ensures in
    let r = c.loop-index.invariant.rest in
    let d = c.loop-index.invariant.done in
    let p = c.in_ok-push.ensures.items in
    let k = c.loop-index.invariant.count in
    let vs = c.args.values.now in
    let at = c.loop-index.index in
    record {
      rest =
          let n = first_from_view_next (λ n. judge_grant (whole_at (Some n))) vs at c.index-values-index.result
          c.loop-index-test.true in
          grind (arith, common_steps);
      count = grind (arith, common_steps, c.in_ok-push.ensures.items);
      kept =
          let earlier = c.loop-index.grants.items in
          let grant = c.in_ok-grant_of.field-0 in
          rw c.in_ok-push.ensures.items
          (All-push IsReadGrant earlier grant c.loop-index.invariant.kept c.in_ok-grant_of.ensures.kept);
      done =
          let t = take_view_next grant_value vs at c.index-values-index.result c.loop-index-test.true in
          grind (arith, common_steps, c.in_ok-push.ensures.items);
    }

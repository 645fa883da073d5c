use Rattle.cell_placer.proofs.GrantByGrant.{IsPlacedAt, desk_of_all}
use Rattle.par_sweep.proofs.Placing.{placed_more, counts_all}
use Rattle.par_sweep.proofs.slots.place_all.Goals as goal

pub loop-grant-preserved : goal.loop-grant-preserved
loop-grant-preserved c =
    let l = c.loop-grant in
    let here : IsPlacedAt c.args.tables.now c.args.grants.now l.grant-index l.desk c.place_with.new.self c.grant-item.result
    c.place_with.result = record {
      within = c.loop-grant-test.true;
      grant_is = c.grant-item.is;
      answer_is = c.place_with.ensures.fate;
      next_is = c.place_with.ensures.step;
    } in
    record { placed = placed_more here l.invariant.placed c.counted-counts.ensures; kept = c.place_with.ensures.codes }

pub returns-clause-desk : goal.returns-clause-desk
returns-clause-desk c = desk_of_all c.loop-grant-test.false c.loop-grant.invariant.placed.desk

pub returns-clause-counts : goal.returns-clause-counts
returns-clause-counts c = counts_all c.loop-grant-test.false c.loop-grant.invariant.placed

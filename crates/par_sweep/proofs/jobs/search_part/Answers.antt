use Rattle.std.proofs.Common.{rules, ◌≡◌, ◌<◌, length, get_or}
use Rattle.par_sweep.proofs.Searches.{searched_more}
use Rattle.par_sweep.proofs.jobs.search_part.Goals as goal

pub loop-place-preserved : goal.loop-place-preserved
loop-place-preserved g c =
    let l = c.loop-place in
    let job = c.index-jobs-place.result in
    let within : l.place < length c.args.jobs.now = search rules in
    let read : job ≡ get_or l.jobs l.place job = search rules in
    record {
      searched =
          searched_more c.args.tables.now c.args.grids.now c.args.jobs.now l.place within l.invariant.searched read
          c.search_one.ensures.searched;
      kept = c.search_one.ensures.codes;
    }

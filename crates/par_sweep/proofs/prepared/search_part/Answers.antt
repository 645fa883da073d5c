use Rattle.std.proofs.Common.{rules, ◌≡◌, ◌<◌, length, get_or}
use Rattle.par_sweep.proofs.Entries.{entry_more}
use Rattle.par_sweep.proofs.prepared.search_part.Goals as goal

pub loop-place-preserved : goal.loop-place-preserved
loop-place-preserved g c =
    let l = c.loop-place in
    let entry = c.index-jobs-place.result in
    let within : l.place < length c.args.jobs.now = search rules in
    let read : entry ≡ get_or l.jobs l.place entry = search rules in
    record {
      searched =
          entry_more c.args.tables.now c.args.grids.now c.args.jobs.now l.place within l.invariant.searched read
          c.search_entry.ensures.searched;
      kept = c.search_entry.ensures.codes;
    }

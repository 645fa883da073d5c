use Rattle.std.proofs.Common.{slice_index, refl, ap, ◌∙◌, arith}
use Rattle.search_starts.specs.Starts.{start_of}
use Rattle.rrc_settings.specs.AggregationLevels.{level_at}
use Rattle.monitor_budget.specs.SetCandidates.{numbered_candidates, level_candidates}
use Rattle.list_facts.proofs.Ranges.{pushed_more, pushed_all}
use Rattle.monitor_budget.proofs.Made.{numbered_made}
use Rattle.monitor_budget.proofs.candidates.push_level.Goals as goal

pub loop-candidate-preserved : goal.loop-candidate-preserved
loop-candidate-preserved g c =
    let m = c.loop-candidate.candidate in
    let count = slice_index c.args.set.now.candidates c.args.i in
    let made = numbered_made c.args.cces c.args.sizes.now c.args.set.now c.args.symbol c.args.i m c.start_cce-start.result
    (level_at c.args.i)
    c.loop-candidate.out.items c.push_sizes.new.out.items
    (c.start_cce-start.ensures.value
    ∙ ap (λ y. start_of y c.from-in-loop-candidate.result m count c.args.cces) c.from.ensures
    ∙ ap (λ level. start_of c.args.set.now.base level m count c.args.cces) c.from-in-loop-candidate.ensures)
    refl c.push_sizes.ensures.items in
    record {
      items = pushed_more (numbered_candidates c.args.cces c.args.sizes.now c.args.set.now c.args.symbol c.args.i)
          c.args.out.now.items c.loop-candidate.out.items c.push_sizes.new.out.items c.loop-candidate.candidate
          c.loop-candidate.invariant.items made;
      few =
          let h = c.loop-candidate.invariant.few in let k = c.push_sizes.ensures.length in let m = c.requires.sizes in
          omega (arith, h, k, m);
    }

pub returns-clause-items : goal.returns-clause-items
unfolding level_candidates
returns-clause-items g c =
    pushed_all (numbered_candidates c.args.cces c.args.sizes.now c.args.set.now c.args.symbol c.args.i)
    c.args.out.now.items c.loop-candidate.out.items c.loop-candidate.candidate
    (slice_index c.args.set.now.candidates c.args.i) c.loop-candidate.invariant.items
    (let h = c.loop-candidate-test.false in let k = c.loop-candidate.auto.candidate-end in omega (arith, h, k))

use Rattle.std.proofs.Common.{arith}
use Rattle.monitor_budget.specs.SetCandidates.{level_candidates, symbol_candidates}
use Rattle.list_facts.proofs.Ranges.{pushed_more, pushed_all}
use Rattle.monitor_budget.proofs.candidates.push_symbol.Goals as goal

pub loop-i-preserved : goal.loop-i-preserved
loop-i-preserved g c = record {
  items = pushed_more (level_candidates c.args.cces c.args.sizes.now c.args.set.now c.args.symbol)
      c.args.out.now.items c.loop-i.out.items c.push_level.new.out.items c.loop-i.i c.loop-i.invariant.items
      c.push_level.ensures.items;
  few = let h = c.loop-i.invariant.few in let k = c.push_level.ensures.few in omega (arith, h, k);
}

pub returns-clause-items : goal.returns-clause-items
unfolding symbol_candidates
returns-clause-items g c =
    pushed_all (level_candidates c.args.cces c.args.sizes.now c.args.set.now c.args.symbol)
    c.args.out.now.items c.loop-i.out.items c.loop-i.i 5 c.loop-i.invariant.items (omega arith)

use Rattle.list_facts.proofs.Ranges.{pushed_more}
use Rattle.grid_file.specs.GridText.{grid_head, symbol_line}
use Rattle.grid_file.proofs.writer.write_grid_core.Goals as goal

pub loop-symbol-preserved : goal.loop-symbol-preserved
loop-symbol-preserved c =
    let g = c.args.grid.now in
    pushed_more (symbol_line g) (grid_head g.mu g.frame g.slot g.blocks) _ _ c.loop-symbol.symbol c.loop-symbol.invariant
    c.in_ok-push_symbol.ensures

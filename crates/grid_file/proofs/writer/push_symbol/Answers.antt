use Rattle.slot_grid.specs.Grid.{point_at}
use Rattle.grid_file.specs.Bytes.{point_byte}
use Rattle.grid_file.proofs.Texts.{mapped_more}
use Rattle.grid_file.proofs.writer.push_symbol.Goals as goal

pub loop-subcarrier-preserved : goal.loop-subcarrier-preserved
loop-subcarrier-preserved c =
    let e = mapped_more (λ k. point_byte (point_at c.args.grid.now c.args.symbol k)) c.args.text.now.items
    c.loop-subcarrier.subcarrier in
    cc (c.in_ok-push.ensures.items)

use Rattle.std.proofs.Common.{refl}
use Rattle.polar_chain.specs.CodeShape.{IsByTables, shape}
use Rattle.polar_chain.proofs.CodesByTables.{coded_by_tables}
use Rattle.polar_chain.proofs.code.Code.of.Goals as goal

pub returns-clause-code : goal.returns-clause-code
returns-clause-code c block =
    let reliability = c.args.tables.now.reliability in
    let input_order = c.args.tables.now.input_order in
    let s = shape c.args.k c.args.e c.input_order-order.result.items c.positions-positions.result in
    let by : IsByTables reliability input_order c.args.k c.args.e s =
    record {
      block_is = refl;
      coded_is = refl;
      order_by = c.input_order-order.ensures.order;
      positions_by =
          c.positions-positions.ensures.positions;
    } in
    coded_by_tables reliability input_order c.args.k c.args.e s block by

-- What a block writes on the grid at a watch (3GPP TS 38.212, 7.3.3 and 7.3.4; 3GPP TS 38.211, 7.3.2).
use Rattle.std.specs.Prelude.{ℕ, ◌+◌, ◌*◌, Bool, List}
use Rattle.slot_grid.specs.Image.{Image}
use Rattle.table_files.specs.declared.tables.Tables.{Tables}
use Rattle.polar_chain.specs.CodeOfBlock.{code_by}
use Rattle.dci_codec.specs.Scrambling.{scrambled}
use Rattle.dmrs_qpsk.specs.PointsOnGrid.{image_of}
use Rattle.monitor_plan.specs.declared.watch.Watch.{Watch}

-- the block's code by the tables, 108 bits a CCE, scrambled, on the REGs of the watch, for a slot
unfoldable pub block_image : Tables → ℕ → Watch → List Bool → Image
block_image tables slot watch block =
    image_of slot watch.symbol watch.dmrs_id watch.regs.items
    (scrambled watch.scramble (code_by tables.reliability tables.input_order (watch.size + 24) (108 * watch.level) block))

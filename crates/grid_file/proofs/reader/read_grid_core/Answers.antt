use Rattle.grid_file.proofs.OneText.{points_leave, points_read}
use Rattle.grid_file.proofs.reader.read_grid_core.Goals as goal

pub returns-in-Ok-read_points-clause-read : goal.returns-in-Ok-read_points-clause-read
returns-in-Ok-read_points-clause-read c =
    points_read c.args.bytes.now c.in-Ok.head c.in-Ok-blank.grid c.read_points.new.grid c.in-Ok.ensures.read c.in-Ok-blank.ensures
    c.in-Ok-read_points.ensures.keeps c.in-Ok-read_points.ensures.read

pub returns-in-Err-read_points-clause-why : goal.returns-in-Err-read_points-clause-why
returns-in-Err-read_points-clause-why c =
    points_leave c.args.bytes.now c.in-Ok.head c.in-Err-read_points.fault.at c.in-Ok-blank.grid c.in-Ok.ensures.read
    c.in-Ok-blank.ensures c.in-Err-read_points.ensures.leaves

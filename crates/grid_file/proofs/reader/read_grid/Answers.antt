use Rattle.grid_file.proofs.FoundGrids.{is_reading}
use Rattle.grid_file.proofs.OneText.{fault_leaves, no_text_answers, read_is_text, text_answers}
use Rattle.grid_file.proofs.reader.read_grid.Goals as goal

pub returns-clause-text : goal.returns-clause-text
returns-clause-text c = text_answers c.args.bytes.now c.read_grid_core.result c.read_grid_core.ensures.read c.read_grid_core.ensures.why

pub returns-clause-no_text : goal.returns-clause-no_text
returns-clause-no_text c = no_text_answers c.args.bytes.now c.read_grid_core.result c.read_grid_core.ensures.read c.read_grid_core.ensures.why

pub returns-clause-read : goal.returns-clause-read
returns-clause-read c = read_is_text c.args.bytes.now c.read_grid_core.result c.read_grid_core.ensures.read

pub returns-clause-fault : goal.returns-clause-fault
returns-clause-fault c = fault_leaves c.args.bytes.now c.read_grid_core.result c.read_grid_core.ensures.why

pub returns-clause-found : goal.returns-clause-found
returns-clause-found c = is_reading c.args.bytes.now c.read_grid_core.result c.read_grid_core.ensures.read c.read_grid_core.ensures.why

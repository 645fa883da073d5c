use Rattle.slot_grid.proofs.places.Grid.TheSendSync.{the_send, the_sync}
use Rattle.slot_grid.proofs.laws.threads_may_have_grids.Goals as goal

pub returns : goal.returns
returns c = record { moved = the_send; shared = the_sync }

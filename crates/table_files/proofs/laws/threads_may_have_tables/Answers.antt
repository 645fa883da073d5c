use Rattle.table_files.proofs.tables.Tables.TheSendSync.{the_send, the_sync}
use Rattle.table_files.proofs.laws.threads_may_have_tables.Goals as goal

pub returns : goal.returns
returns c = record { moved = the_send; shared = the_sync }

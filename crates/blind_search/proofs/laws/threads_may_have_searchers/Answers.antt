use Rattle.blind_search.proofs.searcher.Searcher.TheSendSync.{the_send, the_sync}
use Rattle.blind_search.proofs.laws.threads_may_have_searchers.Goals as goal

pub returns : goal.returns
returns c = record { moved = the_send; shared = the_sync }

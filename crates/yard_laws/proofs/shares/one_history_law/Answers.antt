use Rattle.yard_laws.proofs.Merged.{one_history, threads_have_one_history, rooms_have_one_history}
use Rattle.yard_laws.proofs.shares.one_history_law.Goals as goal

pub returns-clause-picked : goal.returns-clause-picked
returns-clause-picked c = one_history

pub returns-clause-threads : goal.returns-clause-threads
returns-clause-threads c = threads_have_one_history

pub returns-clause-rooms : goal.returns-clause-rooms
returns-clause-rooms c = rooms_have_one_history

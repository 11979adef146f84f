use Rattle.account_store.proofs.Balances.{accounts_cut}
use Rattle.account_store.proofs.laws.cut_law.Goals as goal

pub returns : goal.returns
returns c = accounts_cut c.cut_law.ensures

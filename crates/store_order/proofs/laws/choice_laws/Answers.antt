use Rattle.store_order.proofs.Leaving.{kept_by-le, leaves_survivors}
use Rattle.store_order.proofs.laws.choice_laws.Goals as goal

pub returns-clause-few : goal.returns-clause-few
returns-clause-few c = kept_by-le

pub returns-clause-survivors : goal.returns-clause-survivors
returns-clause-survivors c = leaves_survivors

use Rattle.yard_laws.proofs.OpeningViews.{views_open}
use Rattle.yard_laws.proofs.beginnings.views_open_law.Goals as goal

pub returns : goal.returns
returns c = views_open

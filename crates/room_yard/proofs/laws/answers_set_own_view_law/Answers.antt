use Rattle.room_yard.proofs.OwnViews.{answers_set_own_view}
use Rattle.room_yard.proofs.laws.answers_set_own_view_law.Goals as goal

pub returns : goal.returns
returns c = answers_set_own_view

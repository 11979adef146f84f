use Rattle.room_in_hand.proofs.Running.{point_goes_home, runner_gives_up, drawn_knows}
use Rattle.room_in_hand.proofs.laws.running_laws.Goals as goal

pub returns-clause-point : goal.returns-clause-point
returns-clause-point c = point_goes_home

pub returns-clause-given_up : goal.returns-clause-given_up
returns-clause-given_up c = runner_gives_up

pub returns-clause-drawn : goal.returns-clause-drawn
returns-clause-drawn c = drawn_knows

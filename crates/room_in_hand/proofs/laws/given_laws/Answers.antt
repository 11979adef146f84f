use Rattle.room_in_hand.proofs.Given.{given_rests, given_epoch}
use Rattle.room_in_hand.proofs.laws.given_laws.Goals as goal

pub returns-clause-cells : goal.returns-clause-cells
returns-clause-cells c = given_rests

pub returns-clause-epoch : goal.returns-clause-epoch
returns-clause-epoch c = given_epoch

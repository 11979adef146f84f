use Rattle.room_in_hand.proofs.Returns.{shut_goes_home, epoch_goes_home, given_up}
use Rattle.room_in_hand.proofs.laws.return_laws.Goals as goal

pub returns-clause-cells : goal.returns-clause-cells
returns-clause-cells c = shut_goes_home

pub returns-clause-epoch : goal.returns-clause-epoch
returns-clause-epoch c = epoch_goes_home

pub returns-clause-given_up : goal.returns-clause-given_up
returns-clause-given_up c = given_up

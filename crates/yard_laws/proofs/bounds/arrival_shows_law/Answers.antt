use Rattle.yard_laws.proofs.Bits.{arrival_shows}
use Rattle.yard_laws.proofs.bounds.arrival_shows_law.Goals as goal

pub returns : goal.returns
returns c = arrival_shows

use Rattle.power_cut.proofs.Heads.{spellings_pass}
use Rattle.power_cut.proofs.Quiet.{one_spelling, image_of-quiet}
use Rattle.power_cut.proofs.laws.image_laws.Goals as goal

pub returns-clause-pass : goal.returns-clause-pass
returns-clause-pass c = spellings_pass

pub returns-clause-one : goal.returns-clause-one
returns-clause-one c = one_spelling

pub returns-clause-quiet : goal.returns-clause-quiet
returns-clause-quiet c = image_of-quiet

use Rattle.byte_ports.proofs.Maps.{setting}
use Rattle.byte_ports.proofs.laws.setting_a_name.Goals as goal

pub returns : goal.returns
returns c = setting

use Rattle.byte_ports.specs.InMemory.{next_call}
use Rattle.byte_ports.proofs.Lists.{found_where_listed}
use Rattle.byte_ports.proofs.laws.listed_calls_fail.Goals as goal

pub returns : goal.returns
returns c = λ f. found_where_listed (next_call f) f.fails

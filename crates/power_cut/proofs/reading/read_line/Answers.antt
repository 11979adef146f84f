use Rattle.power_cut.proofs.Spelling.{line_bytes-read}
use Rattle.std.proofs.Common.{rules}
use Rattle.power_cut.proofs.reading.read_line.Goals as goal

pub returns-clause-spelled : goal.returns-clause-spelled
returns-clause-spelled c = line_bytes-read c.read_u64_into.new.dst c.args.bytes.now (search rules) (λ i. search rules) c.read_u64_into.ensures

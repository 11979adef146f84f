use Rattle.std.proofs.Common.{◌++◌, take}
use Rattle.byte_ports.proofs.Takes.{took_more}
use Rattle.byte_ports.proofs.source.read_by.Goals as goal

pub returns-then-limit-len-clause-taken : goal.returns-then-limit-len-clause-taken
returns-then-limit-len-clause-taken g c = (c.chunks.bytes.items ++ take c.in-Ok.n c.read.new.buf, took_more _ _ _ c.chunks.bytes.items (take c.in-Ok.n c.read.new.buf) c.chunks.invariant.taken c.in-Ok.ensures.taken)

pub returns-then-is_err-clause-taken : goal.returns-then-is_err-clause-taken
returns-then-is_err-clause-taken g c = (c.chunks.bytes.items ++ take c.in-Ok.n c.read.new.buf, took_more _ _ _ c.chunks.bytes.items (take c.in-Ok.n c.read.new.buf) c.chunks.invariant.taken c.in-Ok.ensures.taken)

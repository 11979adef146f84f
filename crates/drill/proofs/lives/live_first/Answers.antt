use Rattle.std.proofs.Common.{arith}
use Rattle.drill.proofs.LifeCalls.{ready_first, told_lived, told_refused, tells_first}
use Rattle.drill.proofs.lives.live_first.Goals as goal

pub live-requires-clause-ready : goal.live-requires-clause-ready
live-requires-clause-ready c = ready_first c.args.n c.in_ok-memory.field-0 (c.in_ok-memory.ensures)

pub returns-clause-lived : goal.returns-clause-lived
returns-clause-lived c =
    told_lived c.args.n 0 c.in_ok-memory.field-0 c.live.new.memory c.live.result (tells_first c.args.n c.in_ok-memory.field-0 c.live.new.memory (c.in_ok-memory.ensures)) c.live.ensures.lived

pub returns-clause-refused : goal.returns-clause-refused
returns-clause-refused c =
    told_refused c.args.n 0 c.in_ok-memory.field-0 c.live.new.memory c.live.result (omega arith) (tells_first c.args.n c.in_ok-memory.field-0 c.live.new.memory (c.in_ok-memory.ensures)) c.live.ensures.refused

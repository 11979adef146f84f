use Rattle.std.proofs.Common.{◌+◌, ◌≤◌, arith}
use Rattle.room_model.specs.Image.{nothing_kept}
use Rattle.drill.proofs.NextLives.{lived_lawful}
use Rattle.drill.proofs.LifeCalls.{ready_next, told_lived, told_refused, tells_next}
use Rattle.drill.proofs.lives.live_next.Goals as goal

pub remade-requires-clause-lawful : goal.remade-requires-clause-lawful
remade-requires-clause-lawful c = lived_lawful c.args.n c.args.before (c.requires.lived).0 c.args.memory.now nothing_kept (c.requires.lived).1

pub live-requires-clause-ready : goal.live-requires-clause-ready
live-requires-clause-ready c = ready_next c.args.n c.args.before c.args.memory.now c.in_ok-memory.field-0 c.requires.before c.requires.lived (c.in_ok-memory.ensures)

pub returns-clause-lived : goal.returns-clause-lived
returns-clause-lived c =
    told_lived c.args.n (c.args.before + 1) c.in_ok-memory.field-0 c.live.new.memory c.live.result
    (tells_next c.args.n c.args.before c.args.memory.now c.in_ok-memory.field-0 c.live.new.memory c.requires.lived (c.in_ok-memory.ensures)) c.live.ensures.lived

pub returns-clause-refused : goal.returns-clause-refused
returns-clause-refused c =
    let within : c.args.before + 1 ≤ 8 = omega (arith, c.requires.before) in
    told_refused c.args.n (c.args.before + 1) c.in_ok-memory.field-0 c.live.new.memory c.live.result within
    (tells_next c.args.n c.args.before c.args.memory.now c.in_ok-memory.field-0 c.live.new.memory c.requires.lived (c.in_ok-memory.ensures)) c.live.ensures.refused

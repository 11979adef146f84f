use Rattle.std.proofs.Common.{ap, ◌∙◌, length, arith}
use Rattle.std.specs.List.{list_any}
use Rattle.script_run.specs.Ends.{waits_in}
use Rattle.script_run.proofs.Waiting.{tells_waiting, as_many}
use Rattle.script_run.proofs.ending.take_apart.Goals as goal

pub returns-clause-waits : goal.returns-clause-waits
returns-clause-waits c = tells_waiting c.args.yard c.take_apart-world.ensures.lawful c.take_apart-world.result.rooms c.take_apart-world.ensures.rooms c.have_waiting-waits.result
    (c.have_waiting-waits.ensures ∙ ap (list_any waits_in) c.rooms.ensures)

pub of-world-requires-clause-numbers : goal.of-world-requires-clause-numbers
of-world-requires-clause-numbers c =
    let n = as_many c.args.yard c.take_apart-world.ensures.lawful c.take_apart-world.result.rooms c.take_apart-world.ensures.rooms in
    let e = ap length c.into_parts-rooms.ensures.rooms in
    let f = c.requires.numbers in omega (arith, n, e, f)

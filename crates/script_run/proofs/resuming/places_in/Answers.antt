use Rattle.std.proofs.Common.{map, arith}
use Rattle.script_run.proofs.HandedOver.{from_image}
use Rattle.script_run.proofs.Placed.{script_short, place_within}
use Rattle.script_run.proofs.resuming.places_in.Goals as goal

pub overflow_cast-place_in : goal.overflow_cast-place_in
overflow_cast-place_in c =
    let settings = c.args.settings in
    let scripts = map (λ s. s.items) c.args.scripts.now in
    let memory = c.args.memory.now in
    let short = script_short c.args.scripts.now c.requires.short c.loop-thread.thread in
    let within = place_within settings scripts memory c.requires.ready c.loop-thread.thread c.place_in.result c.loop-thread-test.true
    (λ o over. c.place_in.ensures o over.settings_are (from_image settings scripts memory o over)) in
    omega (arith, short, within)

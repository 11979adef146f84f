use Rattle.std.proofs.Common.{map, sym, ◌∙◌}
use Rattle.respct.proofs.Misfits.{stays}
use Rattle.respct.proofs.fitting.positions_misfit.Goals as goal

pub returns-in-Some : goal.returns-in-Some
returns-in-Some c =
    sym (stays c.args.positions.now (map (λ commands. commands.items) c.args.scripts.now) c.loop-thread.thread c.args.threads c.in-Some.misfit c.loop-thread.invariant (sym c.position_misfit.ensures ∙ c.in-Some.is) c.loop-thread-test.true)

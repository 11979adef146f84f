use Rattle.std.proofs.Common.{◌≢◌}
use Rattle.life_model.specs.declared.life.Outcome.TheVariants.{Starved}
use Rattle.drill.specs.Lives.{HasLived}
use Rattle.drill.proofs.lives.live_all.Given as goal

-- the lives so far, of which the last did not starve
abbrev pub invariant-loop-before : goal.invariant-loop-before
invariant-loop-before l = record {
  lived : HasLived l.n l.before l.outcome l.memory;
  fed : l.outcome ≢ Starved;
}

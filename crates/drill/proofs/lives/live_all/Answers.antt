use Rattle.std.proofs.Common.{arith}
use Rattle.drill.proofs.LifeCalls.{lived_all}
use Rattle.drill.proofs.lives.live_all.Goals as goal

pub loop-before-init : goal.loop-before-init
loop-before-init c = record { lived = (c.in_ok-outcome.ensures).lived; fed = (c.in_ok-outcome.ensures).fed }

pub live_next-requires-clause-lived : goal.live_next-requires-clause-lived
live_next-requires-clause-lived c = (c.loop-before.outcome, c.loop-before.invariant.lived)

pub loop-before-preserved : goal.loop-before-preserved
loop-before-preserved c = record { lived = (c.in_ok-outcome-2.ensures).lived; fed = (c.in_ok-outcome-2.ensures).fed }

pub returns-clause-lived : goal.returns-clause-lived
returns-clause-lived c = lived_all c.args.n c.loop-before.before c.loop-before.outcome c.loop-before.memory (omega (arith, c.loop-before-test.false, c.loop-before.auto.before-end)) c.loop-before.invariant.lived

pub returns-clause-fed : goal.returns-clause-fed
returns-clause-fed c = c.loop-before.invariant.fed

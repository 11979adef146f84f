use Rattle.std.proofs.Common.{◌≡◌, rules, sym, subst}
use Rattle.epoch_word.specs.declared.stage.EpochStage.TheVariants.{InMemory}
use Rattle.script_text.specs.Program.{turns_of}
use Rattle.turn_order.specs.Orders.{OrderState}
use Rattle.script_run.specs.Recovers.{IsRecoveredBy}
use Rattle.script_run.proofs.FirstTurns.{one_event_more, spent, finished}
use Rattle.script_run.proofs.recovering.recovered.Goals as goal
use Rattle.script_run.proofs.recovering.recovered.Goals.{else-loop-order-test, then-loop-order-test+in_default}

pub loop-order-preserved : goal.loop-order-preserved
loop-order-preserved c =
    one_event_more c.args.threads (turns_of c.args.mode.now) c.args.recovery c.loop-order.recovery c.loop-order.order c.loop-order.invariant c.step.new.self c.next.new.self c.in-Some._thread c.in-Some.ensures.thread
    c.in-Some.ensures.order c.in-Some.ensures.behind c.step.ensures.is c.step.ensures.about c.step.ensures.left

pub returns : goal.returns
returns c = elim c.loop-order-test.branch [
  | else-loop-order-test w ↦
      let at : c.loop-order.recovery.stage ≡ InMemory = search rules in
      subst (λ (o : OrderState). IsRecoveredBy c.args.threads (turns_of c.args.mode.now) c.args.recovery c.loop-order.recovery o) (sym w.order-is)
      (finished c.args.threads (turns_of c.args.mode.now) c.args.recovery c.loop-order.recovery c.loop-order.order c.loop-order.invariant at)
  | then-loop-order-test+in_default w ↦
      subst (λ (o : OrderState). IsRecoveredBy c.args.threads (turns_of c.args.mode.now) c.args.recovery c.loop-order.recovery o) (sym w.order-is)
      (spent c.args.threads (turns_of c.args.mode.now) c.args.recovery c.loop-order.recovery c.loop-order.order c.loop-order.invariant w.in_default.ensures.thread w.next.new.self w.in_default.ensures.order w.in_default.ensures.behind)
]

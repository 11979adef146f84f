use Rattle.std.proofs.Common.{◌<◌, ◌-◌, Bool, false, length, arith, sym, subst}
use Rattle.std.proofs.lemmas.Option.{slice_get_within}
use Rattle.script_text.specs.Program.{turns_of}
use Rattle.script_text.specs.Schedules.{schedule_of}
use Rattle.script_run.proofs.Going.{IsGoing, going_first, going_few, next_inside, goes_on, ran_over, ran_spent, this_given, none_given}
use Rattle.script_run.proofs.replay.Replay.run.Goals as goal

pub loop-run-init : goal.loop-run-init
loop-run-init c = going_first c.args.threads (turns_of c.args.mode.now) c.args.self c.args.order c.args.marks.items c.requires.order c.requires.replay c.requires.none_done c.requires.threads c.requires.marks

pub with_turn-run-requires-clause-thread : goal.with_turn-run-requires-clause-thread
with_turn-run-requires-clause-thread c =
    next_inside c.args.threads (turns_of c.args.mode.now) c.args.order.given c.args.self c.loop-run.order c.loop-run.run.replay c.loop-run.run.marks.items c.loop-run.run.dry c.in-Some.thread c.requires.turns c.loop-run.invariant (this_given c.args.threads (turns_of c.args.mode.now) c.args.order.given c.args.self c.loop-run.order c.loop-run.run.replay c.loop-run.run.marks.items c.loop-run.run.dry c.in-Some.thread c.loop-run.invariant c.in-Some.ensures.thread)

pub with_turn-run-requires-clause-few : goal.with_turn-run-requires-clause-few
with_turn-run-requires-clause-few c =
    going_few c.args.threads (turns_of c.args.mode.now) c.args.order.given c.args.self c.loop-run.order c.loop-run.run.replay c.loop-run.run.marks.items c.loop-run.run.dry c.requires.turns c.loop-run.invariant

pub loop-run-smaller : goal.loop-run-smaller
loop-run-smaller c =
    let turns = schedule_of c.args.threads (turns_of c.args.mode.now) in
    let inside = slice_get_within turns c.loop-run.order.given c.in-Some.thread (this_given c.args.threads (turns_of c.args.mode.now) c.args.order.given c.args.self c.loop-run.order c.loop-run.run.replay c.loop-run.run.marks.items c.loop-run.run.dry c.in-Some.thread c.loop-run.invariant c.in-Some.ensures.thread) in
    let one = c.in-Some.ensures.behind.1 in
    let fewer : length turns - c.next.new.self.given < length turns - c.loop-run.order.given = omega (arith, inside, one) in
    fewer

pub loop-run-preserved : goal.loop-run-preserved
loop-run-preserved c =
    let turns = turns_of c.args.mode.now in
    let was : IsGoing c.args.threads turns c.args.order.given c.args.self c.loop-run.order c.loop-run.run.replay c.loop-run.run.marks.items false =
    subst (λ (b : Bool). IsGoing c.args.threads turns c.args.order.given c.args.self c.loop-run.order c.loop-run.run.replay c.loop-run.run.marks.items b) c.loop-run-test.true c.loop-run.invariant in
    goes_on c.args.threads turns c.args.order.given c.args.self c.loop-run.order c.loop-run.run.replay c.loop-run.run.marks.items c.in-Some.thread c.with_turn-run.result.replay was (this_given c.args.threads (turns_of c.args.mode.now) c.args.order.given c.args.self c.loop-run.order c.loop-run.run.replay c.loop-run.run.marks.items c.loop-run.run.dry c.in-Some.thread c.loop-run.invariant c.in-Some.ensures.thread) (sym c.if-not-is_over.ensures)
    c.next.new.self c.with_turn-run.result.marks.items c.with_turn-run.result.dry c.in-Some.ensures.order c.in-Some.ensures.behind c.with_turn-run.ensures.turn c.with_turn-run.ensures.stays c.with_turn-run.ensures.marks

pub returns-else-not-is_over-clause-runs : goal.returns-else-not-is_over-clause-runs
returns-else-not-is_over-clause-runs c =
    ran_over c.args.threads (turns_of c.args.mode.now) c.args.order.given c.args.self c.loop-run.order c.loop-run.run.replay c.loop-run.run.marks.items c.loop-run.run.dry c.loop-run.invariant (sym c.if-not-is_over.ensures)

pub returns-else-not-is_over-clause-few : goal.returns-else-not-is_over-clause-few
returns-else-not-is_over-clause-few c =
    going_few c.args.threads (turns_of c.args.mode.now) c.args.order.given c.args.self c.loop-run.order c.loop-run.run.replay c.loop-run.run.marks.items c.loop-run.run.dry c.requires.turns c.loop-run.invariant

pub returns-after-loop-run-clause-few : goal.returns-after-loop-run-clause-few
returns-after-loop-run-clause-few c =
    going_few c.args.threads (turns_of c.args.mode.now) c.args.order.given c.args.self c.loop-run.order c.loop-run.run.replay c.loop-run.run.marks.items c.loop-run.run.dry c.requires.turns c.loop-run.invariant

pub returns-in_default-clause-runs : goal.returns-in_default-clause-runs
returns-in_default-clause-runs c =
    let turns = turns_of c.args.mode.now in
    ran_spent c.args.threads turns c.args.order.given c.args.self c.loop-run.order c.loop-run.run.replay c.loop-run.run.marks.items c.loop-run.run.dry c.loop-run.invariant
    (none_given c.args.threads turns c.args.order.given c.args.self c.loop-run.order c.loop-run.run.replay c.loop-run.run.marks.items c.loop-run.run.dry c.loop-run.invariant c.in_default.ensures.thread)

pub returns-in_default-clause-few : goal.returns-in_default-clause-few
returns-in_default-clause-few c =
    going_few c.args.threads (turns_of c.args.mode.now) c.args.order.given c.args.self c.loop-run.order c.loop-run.run.replay c.loop-run.run.marks.items c.loop-run.run.dry c.requires.turns c.loop-run.invariant

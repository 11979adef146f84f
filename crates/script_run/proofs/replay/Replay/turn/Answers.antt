use Rattle.script_run.proofs.Turning.{handled_worker, handled_turn, handled_keeps}
use Rattle.script_run.proofs.replay.Replay.turn.Goals as goal

pub turn-answer-requires-clause-worker : goal.turn-answer-requires-clause-worker
turn-answer-requires-clause-worker c =
    handled_worker c.self.inside.yard c.self.inside.workers.items c.args.self c.self.view_is c.requires.replay c.args.thread c.requires.thread c.index_mut.result.now c.index_mut.ensures.value c.of-post.result
    c.of-post.ensures.yard c.of-post.ensures.thread

pub returns-clause-turn : goal.returns-clause-turn
returns-clause-turn c =
    handled_turn c.self.inside.yard c.self.inside.workers.items c.args.self c.self.view_is c.requires.replay c.args.thread c.requires.thread c.index_mut.result.now c.index_mut.ensures.value c.of-post.result
    c.of-post.ensures.yard c.of-post.ensures.thread c.turn-answer.new.self c.turn-answer.new.post c.into_yard.result c.into_yard.ensures.is c.into_yard.ensures.lawful c.turn-answer.result c.turn-answer.ensures.worker
    c.turn-answer.ensures.turn

pub returns-clause-replay : goal.returns-clause-replay
returns-clause-replay c =
    handled_keeps c.self.inside.yard c.self.inside.workers.items c.args.self c.self.view_is c.requires.replay c.args.thread c.requires.thread c.index_mut.result.now c.index_mut.ensures.value c.of-post.result
    c.of-post.ensures.yard c.of-post.ensures.thread c.turn-answer.new.self c.turn-answer.new.post c.into_yard.result c.into_yard.ensures.is c.into_yard.ensures.lawful c.turn-answer.result c.turn-answer.ensures.worker
    c.turn-answer.ensures.turn

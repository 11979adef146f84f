use Rattle.script_run.proofs.Turning.{dark_worker, handled_few, handled_off, handled_off_keeps, handled_off_done}
use Rattle.script_run.proofs.replay.Replay.turn_off.Goals as goal

pub turn-over-requires-clause-worker : goal.turn-over-requires-clause-worker
turn-over-requires-clause-worker c =
    dark_worker c.self.inside.yard c.self.inside.workers.items c.args.self c.self.view_is c.requires.replay c.args.thread c.requires.thread c.index_mut.result.now c.index_mut.ensures.value c.of-post.result
    c.of-post.ensures.yard c.of-post.ensures.thread c.off.new.self c.off.ensures.done

pub turn-over-requires-clause-few : goal.turn-over-requires-clause-few
turn-over-requires-clause-few c =
    handled_few c.self.inside.yard c.self.inside.workers.items c.args.self c.self.view_is c.requires.replay c.args.thread c.requires.thread c.index_mut.result.now c.index_mut.ensures.value c.of-post.result
    c.of-post.ensures.yard c.of-post.ensures.thread 10000016 c.requires.few

pub returns-clause-off : goal.returns-clause-off
returns-clause-off c =
    handled_off c.self.inside.yard c.self.inside.workers.items c.args.self c.self.view_is c.requires.replay c.args.thread c.requires.thread c.index_mut.result.now c.index_mut.ensures.value c.of-post.result
    c.of-post.ensures.yard c.of-post.ensures.thread c.turn-over.new.self c.turn-over.new.post c.into_yard.result c.into_yard.ensures.is c.into_yard.ensures.lawful c.turn-over.result c.turn-over.ensures.worker
    c.off.new.self c.off.ensures.told c.off.ensures.done c.turn-over.ensures.turn

pub returns-clause-replay : goal.returns-clause-replay
returns-clause-replay c =
    handled_off_keeps c.self.inside.yard c.self.inside.workers.items c.args.self c.self.view_is c.requires.replay c.args.thread c.requires.thread c.index_mut.result.now c.index_mut.ensures.value c.of-post.result
    c.of-post.ensures.yard c.of-post.ensures.thread c.turn-over.new.self c.turn-over.new.post c.into_yard.result c.into_yard.ensures.is c.into_yard.ensures.lawful c.turn-over.result c.turn-over.ensures.worker
    c.off.new.self c.off.ensures.told c.off.ensures.done c.turn-over.ensures.turn

pub returns-clause-few : goal.returns-clause-few
returns-clause-few c =
    handled_off_done c.self.inside.yard c.self.inside.workers.items c.args.self c.self.view_is c.requires.replay c.args.thread c.requires.thread c.index_mut.result.now c.index_mut.ensures.value c.of-post.result
    c.of-post.ensures.yard c.of-post.ensures.thread c.turn-over.new.self c.turn-over.new.post c.into_yard.result c.into_yard.ensures.is c.into_yard.ensures.lawful c.turn-over.result c.turn-over.ensures.worker
    c.off.new.self c.off.ensures.told c.off.ensures.done c.turn-over.ensures.turn 10000016 c.requires.few

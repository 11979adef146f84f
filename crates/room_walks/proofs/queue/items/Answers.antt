use Rattle.std.proofs.Common.{sym, ◌∙◌}
use Rattle.room_walks.proofs.Walks.{met, one_more, no_more}
use Rattle.room_walks.proofs.queue.items.Goals as goal

pub loop-line-preserved : goal.loop-line-preserved
loop-line-preserved g c =
    let step = met (g.R.ReadsWords.words c.args.room.now) c.loop-line.walk c.next.new.self _ (sym c.in-Some.is ∙ c.next.ensures.line) c.next.ensures.behind in
    (step.word ∙ c.loop-line.invariant.0, one_more (g.R.ReadsWords.words c.args.room.now) c.loop-line.items.items c.push.new.self.items _ c.loop-line.walk c.next.new.self _ _ step c.loop-line.invariant.0 c.read-in-Some.ensures c.in_ok-push.ensures.items c.loop-line.invariant.1)

pub returns : goal.returns
returns g c = no_more (g.R.ReadsWords.words c.args.room.now) c.loop-line.walk c.loop-line.items.items _ (sym c.in_default.is ∙ c.next.ensures.line) c.loop-line.invariant.1

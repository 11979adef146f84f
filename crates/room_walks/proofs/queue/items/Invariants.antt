use Rattle.std.proofs.Common.{◌≡◌, ◌++◌}
use Rattle.room_model.specs.Walks.{items_from}
use Rattle.room_walks.proofs.queue.items.Given as goal

-- the items so far, with those that the walk still meets, are all that the whole walk meets
abbrev pub invariant-loop-line : goal.invariant-loop-line
invariant-loop-line g l =
    (l.walk.word ≡ 1) × (l.items.items ++ items_from (g.R.ReadsWords.words l.room) l.walk.left l.walk.line ≡ items_from (g.R.ReadsWords.words l.room) l.fn.most (g.R.ReadsWords.words l.room 1 0))

abbrev pub decreases-loop-line : goal.decreases-loop-line
decreases-loop-line g l = l.walk.left

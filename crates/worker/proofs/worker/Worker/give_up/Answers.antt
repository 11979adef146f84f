use Rattle.worker.specs.contracts.worker.Worker.{the_view}
use Rattle.worker.proofs.GivenUp.{may_give_taken, gave_taken}
use Rattle.worker.proofs.worker.Worker.give_up.Goals as goal

pub give_hand_up-requires : goal.give_hand_up-requires
give_hand_up-requires g c = record { may = may_give_taken c.args.self.now (the_view c.self.inside) c.self.view_is c.replace-hand.result c.replace-hand.ensures.value (g.P.Post.view c.args.post.now) c.requires.worker c.requires.off }

pub returns-clause-worker : goal.returns-clause-worker
returns-clause-worker g c = gave_taken c.args.self.now (the_view c.self.inside) c.self.view_is c.replace-hand.result c.replace-hand.ensures.value (g.P.Post.view c.args.post.now) c.requires.worker c.requires.off
    c.drawn_in-drawn.result c.replace-hand.new.dest (g.P.Post.told c.args.post.now) (g.P.Post.told c.give_hand_up.new.post) (g.P.Post.view c.give_hand_up.new.post) c.drawn_in-drawn.ensures c.replace-hand.ensures.after c.give_hand_up.ensures.done

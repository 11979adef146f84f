use Rattle.worker.proofs.Commanding.{draw_may, draw_going, draw_worker, draw_row}
use Rattle.worker.proofs.worker.Worker.draw.Goals as goal

pub draw-ticket-requires : goal.draw-ticket-requires
draw-ticket-requires g c = record { may = draw_may c.args.self.now _ c.self.view_is c.args.reply c.args.room (g.P.Post.view c.args.post.now) (g.P.Post.told c.args.post.now) c.requires.may c.index.result.now c.index.ensures }

pub note_entry-requires-clause-under : goal.note_entry-requires-clause-under
note_entry-requires-clause-under g c = draw_going c.args.self.now _ c.self.view_is c.args.reply c.args.room (g.P.Post.view c.args.post.now) (g.P.Post.told c.args.post.now) c.requires.may c.index.result.now c.index.ensures

pub returns-clause-worker : goal.returns-clause-worker
returns-clause-worker g c = draw_worker c.args.self.now _ c.self.view_is c.args.reply c.args.room (g.P.Post.view c.args.post.now) (g.P.Post.told c.args.post.now) c.requires.may c.index.result.now c.index.ensures
    c.requires.none_left c.draw-ticket.result c.note_entry.new.room c.note_entry.ensures.kept c.did.new.self (g.P.Post.view c.draw-ticket.new.self) (g.P.Post.told c.draw-ticket.new.self) c.draw-ticket.ensures.done c.did.ensures.is

pub returns-clause-turn : goal.returns-clause-turn
returns-clause-turn g c = draw_row c.args.self.now _ c.self.view_is c.args.reply c.args.room (g.P.Post.view c.args.post.now) (g.P.Post.told c.args.post.now) c.requires.may c.index.result.now c.index.ensures
    c.requires.none_left c.draw-ticket.result c.note_entry.new.room c.note_entry.ensures.kept c.did.new.self (g.P.Post.view c.draw-ticket.new.self) (g.P.Post.told c.draw-ticket.new.self) c.draw-ticket.ensures.done c.did.ensures.is
    c.did.result c.note_entry.ensures.is c.did.ensures.did

use Rattle.coordinator.proofs.Taken.{rests, taken}
use Rattle.coordinator.proofs.closer.lock_next.Goals as goal

pub take-requires : goal.take-requires
take-requires g c = rests (g.P.Post.view c.args.post.now) c.args.rooms c.requires.may (g.P.Post.told c.args.post.now) (g.P.Post.told c.lock.new.self) (g.P.Post.view c.lock.new.self) c.in-Ok.room c.in-Ok.ensures.locked c.of_its_type.ensures

pub returns-clause-taken : goal.returns-clause-taken
returns-clause-taken g c = taken (g.P.Post.view c.args.post.now) c.args.rooms c.requires.may (g.P.Post.told c.args.post.now) (g.P.Post.told c.lock.new.self) (g.P.Post.view c.lock.new.self) c.in-Ok.room c.take.result
    c.in-Ok.ensures.locked c.of_its_type.ensures c.take.ensures.is c.take.ensures.kept

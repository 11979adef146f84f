use Rattle.std.proofs.Common.{sym, ap}
use Rattle.yard_model.specs.declared.view.View.{View}
use Rattle.plain_yard.proofs.Fields.{has_vec, seat_at, view_is}
use Rattle.plain_yard.proofs.yard.PlainYard.is_off.Goals as goal

pub index-requires : goal.index-requires
index-requires c = has_vec c.self.inside c.args.self.now c.self.view_is c.args.thread c.requires.thread

pub returns : goal.returns
returns c = ap (λ (v : View). v.saw_off) (sym (view_is c.self.inside c.args.self.now c.self.view_is c.args.thread c.requires.thread c.index.result.now (seat_at c.self.inside c.args.self.now c.self.view_is c.args.thread c.requires.thread c.index.result.now c.index.ensures)))

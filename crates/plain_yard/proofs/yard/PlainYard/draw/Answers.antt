use Rattle.std.proofs.Common.{◌∙◌}
use Rattle.plain_yard.proofs.Fields.{has_vec, seat_at}
use Rattle.plain_yard.proofs.Draws.{fits, quota_left, draw_kept, draw_told}
use Rattle.plain_yard.proofs.yard.PlainYard.draw.Goals as goal

pub index-seat-requires : goal.index-seat-requires
index-seat-requires c = has_vec c.self.inside c.args.self.now c.self.view_is c.args.thread c.requires.thread

pub index_mut-requires : goal.index_mut-requires
index_mut-requires c = has_vec c.self.inside c.args.self.now c.self.view_is c.args.thread c.requires.thread

pub drawing-requires : goal.drawing-requires
drawing-requires c = quota_left c.self.inside c.args.self.now c.self.view_is c.self.invariant c.args.thread c.requires.thread c.index-seat.result.now (seat_at c.self.inside c.args.self.now c.self.view_is c.args.thread c.requires.thread c.index-seat.result.now c.index-seat.ensures) c.args.entry c.requires.may

pub push_reserved-requires : goal.push_reserved-requires
push_reserved-requires c = fits c.self.inside c.args.self.now c.self.view_is c.self.invariant c.args.thread c.requires.thread c.index-seat.result.now (seat_at c.self.inside c.args.self.now c.self.view_is c.args.thread c.requires.thread c.index-seat.result.now c.index-seat.ensures) c.args.entry c.requires.may

pub invariant_of-self : goal.invariant_of-self
invariant_of-self c = draw_kept c.self.inside c.args.self.now c.self.view_is c.self.invariant c.args.thread c.requires.thread c.index-seat.result.now (seat_at c.self.inside c.args.self.now c.self.view_is c.args.thread c.requires.thread c.index-seat.result.now c.index-seat.ensures) c.args.entry c.requires.may c.len-place.result (c.len-place.ensures ∙ c.self.inside.log.ok.0) c.drawing.result c.drawing.ensures c.push_reserved.new.self c.push_reserved.ensures.items c.push_reserved.ensures.capacity

pub returns-clause-lawful : goal.returns-clause-lawful
returns-clause-lawful c = (draw_kept c.self.inside c.args.self.now c.self.view_is c.self.invariant c.args.thread c.requires.thread c.index-seat.result.now (seat_at c.self.inside c.args.self.now c.self.view_is c.args.thread c.requires.thread c.index-seat.result.now c.index-seat.ensures) c.args.entry c.requires.may c.len-place.result (c.len-place.ensures ∙ c.self.inside.log.ok.0) c.drawing.result c.drawing.ensures c.push_reserved.new.self c.push_reserved.ensures.items c.push_reserved.ensures.capacity).lawful

pub returns-clause-done : goal.returns-clause-done
returns-clause-done c = draw_told c.self.inside c.args.self.now c.self.view_is c.self.invariant c.args.thread c.requires.thread c.index-seat.result.now (seat_at c.self.inside c.args.self.now c.self.view_is c.args.thread c.requires.thread c.index-seat.result.now c.index-seat.ensures) c.args.entry c.requires.may c.len-place.result (c.len-place.ensures ∙ c.self.inside.log.ok.0) c.drawing.result c.drawing.ensures c.push_reserved.new.self c.push_reserved.ensures.items c.push_reserved.ensures.capacity

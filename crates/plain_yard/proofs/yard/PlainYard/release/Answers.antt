use Rattle.std.proofs.Common.{◌∙◌, arith}
use Rattle.plain_yard.proofs.Fields.{has_vec, seat_at}
use Rattle.plain_yard.proofs.Releases.{epoch_small, few_threads, checkpoints_small, release_kept, release_told}
use Rattle.plain_yard.proofs.yard.PlainYard.release.Goals as goal

pub index-seat-requires : goal.index-seat-requires
index-seat-requires c = has_vec c.self.inside c.args.self.now c.self.view_is c.args.thread c.requires.thread

pub index_mut-requires : goal.index_mut-requires
index_mut-requires c = has_vec c.self.inside c.args.self.now c.self.view_is c.args.thread c.requires.thread

pub overflow_add-epoch : goal.overflow_add-epoch
overflow_add-epoch c = let e = epoch_small c.self.inside c.args.self.now c.self.view_is c.self.invariant c.args.thread c.requires.thread c.index-seat.result.now (seat_at c.self.inside c.args.self.now c.self.view_is c.args.thread c.requires.thread c.index-seat.result.now c.index-seat.ensures) c.args.over c.args.fed c.requires.may in omega (arith, e)

pub released-requires-clause-epoch : goal.released-requires-clause-epoch
released-requires-clause-epoch c = epoch_small c.self.inside c.args.self.now c.self.view_is c.self.invariant c.args.thread c.requires.thread c.index-seat.result.now (seat_at c.self.inside c.args.self.now c.self.view_is c.args.thread c.requires.thread c.index-seat.result.now c.index-seat.ensures) c.args.over c.args.fed c.requires.may

pub released-requires-clause-checkpoints : goal.released-requires-clause-checkpoints
released-requires-clause-checkpoints c = checkpoints_small c.self.inside c.args.self.now c.self.view_is c.self.invariant c.args.thread c.requires.thread c.index-seat.result.now (seat_at c.self.inside c.args.self.now c.self.view_is c.args.thread c.requires.thread c.index-seat.result.now c.index-seat.ensures) c.args.over c.args.fed c.requires.may

pub word_of_epoch-self-inside-requires : goal.word_of_epoch-self-inside-requires
word_of_epoch-self-inside-requires c = few_threads c.self.inside c.args.self.now c.self.view_is c.self.invariant c.args.thread c.requires.thread c.index-seat.result.now (seat_at c.self.inside c.args.self.now c.self.view_is c.args.thread c.requires.thread c.index-seat.result.now c.index-seat.ensures) c.args.over c.args.fed c.requires.may

pub invariant_of-self : goal.invariant_of-self
invariant_of-self c = release_kept c.self.inside c.args.self.now c.self.view_is c.self.invariant c.args.thread c.requires.thread c.index-seat.result.now (seat_at c.self.inside c.args.self.now c.self.view_is c.args.thread c.requires.thread c.index-seat.result.now c.index-seat.ensures) c.args.over c.args.fed c.requires.may c.len-length.result (c.len-length.ensures ∙ c.self.inside.log.ok.0) c.released.result c.released.ensures c.word_of_epoch-self-inside.result c.word_of_epoch-self-inside.ensures

pub returns-clause-lawful : goal.returns-clause-lawful
returns-clause-lawful c = (release_kept c.self.inside c.args.self.now c.self.view_is c.self.invariant c.args.thread c.requires.thread c.index-seat.result.now (seat_at c.self.inside c.args.self.now c.self.view_is c.args.thread c.requires.thread c.index-seat.result.now c.index-seat.ensures) c.args.over c.args.fed c.requires.may c.len-length.result (c.len-length.ensures ∙ c.self.inside.log.ok.0) c.released.result c.released.ensures c.word_of_epoch-self-inside.result c.word_of_epoch-self-inside.ensures).lawful

pub returns-clause-done : goal.returns-clause-done
returns-clause-done c = release_told c.self.inside c.args.self.now c.self.view_is c.self.invariant c.args.thread c.requires.thread c.index-seat.result.now (seat_at c.self.inside c.args.self.now c.self.view_is c.args.thread c.requires.thread c.index-seat.result.now c.index-seat.ensures) c.args.over c.args.fed c.requires.may c.len-length.result (c.len-length.ensures ∙ c.self.inside.log.ok.0) c.released.result c.released.ensures c.word_of_epoch-self-inside.result c.word_of_epoch-self-inside.ensures

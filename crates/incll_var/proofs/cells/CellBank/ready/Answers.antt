use Rattle.std.proofs.Common.{◌<◌, length, arith, refl}
use Rattle.incll_var.specs.Cells.{epoch_of}
use Rattle.incll_var.specs.Plans.{line_in}
use Rattle.incll_var.proofs.MoreRoom.{same_self, same_twice, same_planned, room_for, line_in-within}
use Rattle.incll_var.proofs.cells.CellBank.ready.Goals as goal

pub loop-place-init : goal.loop-place-init
loop-place-init c = record { is = refl; same = same_self c.args.self.now.bank; room = λ k lt. absurd (omega arith); cells = c.state-state.ensures.cells }

pub reserve-requires : goal.reserve-requires
reserve-requires c =
    let within : line_in c.args.plan.now.stores c.loop-place.place < length c.args.self.now.bank.lines = line_in-within c.args.self.now.bank.lines c.args.plan.now.stores c.loop-place.place c.requires (omega arith) in
    let count = c.loop-place.invariant.same.count in
    omega (arith, within, count, c.line_of.ensures)

pub returns-in_err-reserve-clause-planned : goal.returns-in_err-reserve-clause-planned
returns-in_err-reserve-clause-planned c = λ planned.
    same_planned (epoch_of c.args.self.now.state) c.args.self.now.bank c.reserve.new.self.bank c.args.plan.now.stores (same_twice c.args.self.now.bank c.loop-place.self.bank c.reserve.new.self.bank c.loop-place.invariant.same c.reserve.ensures.same) planned

pub returns-clause-room : goal.returns-clause-room
returns-clause-room c = room_for c.left-n.result c.loop-place.self.bank.lines c.args.plan.now.stores (omega arith) (λ k lt. c.loop-place.invariant.room k (omega arith))

pub returns-clause-planned : goal.returns-clause-planned
returns-clause-planned c = λ planned. same_planned (epoch_of c.args.self.now.state) c.args.self.now.bank c.loop-place.self.bank c.args.plan.now.stores c.loop-place.invariant.same planned

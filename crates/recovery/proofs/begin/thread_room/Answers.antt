use Rattle.std.proofs.Common.{ap}
use Rattle.incll_var.specs.Cells.{CellBankState}
use Rattle.recovery.proofs.Begins.{HasTorn, thread_made}
use Rattle.recovery.proofs.begin.thread_room.Goals as goal

pub returns : goal.returns
returns c =
    let torn : HasTorn c.args.epoch c.args.bank c.in_ok-cells.cells = record { state = c.in_ok-cells.ensures.state; held = c.in_ok-cells.ensures.in_memory; same = c.in_ok-cells.ensures.same; whole = c.in_ok-cells.ensures.cells; todo = c.in_ok-cells.ensures.events } in
    thread_made c.args.epoch c.args.bank c.in_ok-cells.cells c.in_ok-of.field-0 torn (ap (λ (b : CellBankState). b.state) c.in_ok-of.ensures.cells) (ap (λ (b : CellBankState). b.todo) c.in_ok-of.ensures.cells) c.in_ok-of.ensures.same c.in_ok-of.ensures.idle c.in_ok-of.ensures.room

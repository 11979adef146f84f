use Rattle.std.proofs.Common.{◌≡◌, ap, ◌∙◌, length, rules}
use Rattle.line_memory.specs.Line.{BankState}
use Rattle.incll_var.specs.declared.state.CellState.TheVariants.{Torn}
use Rattle.incll_var.specs.Cells.{IsCellBank, HasSameCells}
use Rattle.room_model.specs.Banks.{memory_words}
use Rattle.locked_queue.proofs.TestRooms.{torn_may_be}
use Rattle.locked_queue.proofs.tests.cut_room.Goals as goal

pub of-requires : goal.of-requires
of-requires g c =
    let state : c.expect-cells.result.state ≡ Torn c.args.epoch = search rules in
    let held : memory_words c.args.epoch c.expect-cells.result.bank ≡ memory_words c.args.epoch c.into_bank-bank.result = search rules in
    let whole : IsCellBank c.expect-cells.result = search rules in
    let same : HasSameCells c.into_bank-bank.result c.expect-cells.result.bank = search rules in
    let sixteen : length c.into_bank-bank.result.lines ≡ 16 = search in
    torn_may_be c.args.room.cells c.expect-cells.result c.args.epoch c.requires.held c.requires.state state (held ∙ ap (λ (b : BankState). memory_words c.args.epoch b) c.into_bank-bank.ensures.bank) whole
    (same.count ∙ sixteen)

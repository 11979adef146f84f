use Rattle.std.proofs.Common.{ap, ◌∙◌}
use Rattle.line_memory.specs.Line.{BankState, line_at, bank_stored}
use Rattle.crash_explorer.specs.Cut.{bare}
use Rattle.crash_explorer.proofs.Lines.{store_bare}
use Rattle.crash_explorer.proofs.tests.put_word.Goals as goal

pub returns-clause-lines : goal.returns-clause-lines
returns-clause-lines c =
    let old = c.args.bank.now.lines in
    let value = c.args.value in
    ap (λ (b : BankState). bare b.lines) c.store.ensures.is
    ∙ ap (λ (b : BankState). bare (bank_stored b 0 1 value).lines) c.in_ok-reserve.ensures.same
    ∙ store_bare old 0 1 value (line_at c.reserve.new.self.lines 0).spare

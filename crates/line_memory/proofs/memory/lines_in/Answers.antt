use Rattle.std.proofs.Common.{◌≡◌, ◌+◌, drop, arith, ◌∙◌, subst}
use borrow.Author.Count.{below_more}
use Rattle.std.proofs.lemmas.Grind.{common_steps}
use Rattle.std.proofs.lemmas.List.{get_or_default}
use Rattle.line_memory.specs.Line.{BankState, all_lines, bank_at, no_bank, AreLines}
use Rattle.line_memory.proofs.memory.lines_in.Goals as goal

pub loop-bank-preserved : goal.loop-bank-preserved
loop-bank-preserved c =
    let here : c.bank-item.result ≡ bank_at c.args.banks.now c.loop-bank.bank-index = c.bank-item.is ∙ get_or_default c.args.banks.now c.loop-bank.bank-index c.bank-item.result no_bank c.loop-bank-test.true in
    let so_far : c.loop-bank.sum + all_lines (drop c.loop-bank.bank-index c.args.banks.now) ≡ all_lines c.args.banks.now = c.loop-bank.invariant.sum in
    record {
      sum = grind (arith, common_steps, so_far);
      whole = below_more (λ room. AreLines (bank_at c.args.banks.now room).lines) c.loop-bank.bank-index c.loop-bank.invariant.whole (subst (λ (b : BankState). AreLines b.lines) here c.lines-sum.ensures.whole);
    }

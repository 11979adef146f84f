use Rattle.std.proofs.Common.{List, arith, sym, subst}
use Rattle.std.proofs.lemmas.Grind.{common_steps}
use Rattle.line_memory.specs.Line.{LineState, AreLines}
use Rattle.line_memory.proofs.WholeLines.{are_lines-push}
use Rattle.line_memory.proofs.bank.lines_of.Goals as goal

pub loop-words-preserved : goal.loop-words-preserved
loop-words-preserved c = (
  grind (arith, common_steps),
  subst (λ (lines : List LineState). AreLines lines) (sym c.in_ok-push.ensures.items) (are_lines-push c.loop-words.lines.items c.of.result c.loop-words.invariant.1 c.of.ensures.whole),
)

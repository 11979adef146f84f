use Rattle.std.proofs.Common.{List, length, sym, subst, ap, arith}
use Rattle.std.proofs.lemmas.List.{length-map}
use Rattle.line_memory.specs.Line.{LineState, AreLines, fenced}
use Rattle.line_memory.proofs.Asked.{fenced_asked}
use Rattle.line_memory.proofs.WholeLines.{are_lines-fenced}
use Rattle.line_memory.proofs.bank.Bank.fence.Goals as goal

pub returns-clause-whole : goal.returns-clause-whole
returns-clause-whole c = subst (λ (lines : List LineState). AreLines lines) (sym c.fence_lines.ensures) (are_lines-fenced c.self.inside.lines.items c.self.invariant.1)

pub invariant_of-self : goal.invariant_of-self
invariant_of-self c =
    let fits = c.self.invariant.2.places in (
      omega (arith, ap length c.fence_lines.ensures, length-map c.self.inside.lines.items fenced),
      subst (λ (lines : List LineState). AreLines lines) (sym c.fence_lines.ensures) (are_lines-fenced c.self.inside.lines.items c.self.invariant.1),
      rw (c.fence_lines.ensures, c.clear.ensures.items) (fenced_asked c.self.inside.lines.items _ (omega (arith, fits, c.clear.ensures.capacity))),
    )

use Rattle.std.proofs.Common.{◌≡◌, ◌<◌, ◌∙◌, length, sym, subst, ap, arith, length-set, rules}
use Rattle.line_memory.specs.Line.{LineState, BankState, line_at, no_line, stored, IsLine}
use Rattle.line_memory.specs.Asked.{asks_once}
use Rattle.std.proofs.lemmas.List.{get_or_default}
use Rattle.line_memory.proofs.Asked.{asked_kept}
use Rattle.line_memory.proofs.WholeLines.{are_lines-set, is_line-stored}
use Rattle.line_memory.proofs.bank.Bank.store.Goals as goal

within : (c : goal.After-self-1) → c.args.line < length c.self.inside.lines.items
within c = subst (λ (b : BankState). c.args.line < length b.lines) (sym c.self.view_is) c.requires.line

behind : (c : goal.After-self-1) → c.store.new.self ≡ stored (line_at c.self.inside.lines.items c.args.line) c.args.word c.args.value
behind c = c.store.ensures ∙ ap (λ (k : LineState). stored k c.args.word c.args.value) (c.index_mut.ensures.value ∙ get_or_default c.self.inside.lines.items c.args.line c.index_mut.result.now no_line (within c))

whole : (c : goal.After-self-1) → IsLine c.store.new.self
whole c =
    let some : 0 < (line_at c.self.inside.lines.items c.args.line).spare = subst (λ (b : BankState). 0 < (line_at b.lines c.args.line).spare) (sym c.self.view_is) c.requires.room in
    subst IsLine (sym (behind c)) (is_line-stored (line_at c.self.inside.lines.items c.args.line) c.args.word c.args.value (c.self.invariant.1 c.args.line (within c)) c.requires.word (search rules) some)

pub returns-clause-whole : goal.returns-clause-whole
returns-clause-whole c = are_lines-set c.self.inside.lines.items c.args.line c.store.new.self c.self.invariant.1 (whole c)

pub invariant_of-self : goal.invariant_of-self
invariant_of-self c = (
  let few = c.self.invariant.0 in omega (arith, few, length-set c.self.inside.lines.items c.args.line c.store.new.self),
  are_lines-set c.self.inside.lines.items c.args.line c.store.new.self c.self.invariant.1 (whole c),
  asked_kept c.self.inside.lines.items c.self.inside.asked.items _ c.args.line c.store.new.self c.self.invariant.2 (within c) (ap (λ (k : LineState). asks_once k) (behind c)),
)

use Rattle.std.proofs.Common.{◌≡◌, ◌<◌, ◌+◌, ◌^◌, ◌∙◌, length, sym, subst, ap, arith, length-set}
use Rattle.line_memory.specs.Line.{LineState, BankState, line_at, no_line, with_spare, IsLine}
use Rattle.line_memory.specs.Asked.{asks_once}
use Rattle.std.proofs.lemmas.List.{get_or_default}
use Rattle.line_memory.proofs.Asked.{asked_kept}
use Rattle.line_memory.proofs.WholeLines.{are_lines-set, is_line-spare}
use Rattle.line_memory.proofs.bank.Bank.reserve.Goals as goal

pub invariant_of-self : goal.invariant_of-self
invariant_of-self c =
    let lines = c.self.inside.lines.items in
    let within : c.args.line < length lines = subst (λ (b : BankState). c.args.line < length b.lines) (sym c.self.view_is) c.requires in
    let l : LineState = line_at lines c.args.line in
    let here : c.index_mut.result.now ≡ l = c.index_mut.ensures.value ∙ get_or_default lines c.args.line c.index_mut.result.now no_line within in
    let is : c.reserve.new.self ≡ with_spare l c.reserve.new.self.spare = c.reserve.ensures.same ∙ ap (λ (k : LineState). with_spare k c.reserve.new.self.spare) here in
    let few : length l.pending + c.reserve.new.self.spare < 2 ^ 32 = subst (λ (k : LineState). length k.pending + c.reserve.new.self.spare < 2 ^ 32) is c.reserve.ensures.few in
    let whole : IsLine c.reserve.new.self = subst IsLine (sym is) (is_line-spare l c.reserve.new.self.spare (c.self.invariant.1 c.args.line within) few) in (
      let few = c.self.invariant.0 in omega (arith, few, length-set lines c.args.line c.reserve.new.self),
      are_lines-set lines c.args.line c.reserve.new.self c.self.invariant.1 whole,
      asked_kept lines c.self.inside.asked.items _ c.args.line c.reserve.new.self c.self.invariant.2 within (ap (λ (k : LineState). asks_once k) is),
    )

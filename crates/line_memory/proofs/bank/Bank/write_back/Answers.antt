use Rattle.std.proofs.Common.{◌≡◌, ◌<◌, ◌++◌, [], ◌∷◌, Bool, true, length, if◌then◌else◌, sym, subst, ap, ◌∙◌, arith, length-set, rules, vec_capacity}
use Rattle.line_memory.specs.Line.{LineState, BankState, line_at, no_line, written_back, IsLine}
use Rattle.line_memory.specs.Asked.{is_first_ask}
use Rattle.std.proofs.lemmas.List.{get_or_default}
use Rattle.line_memory.proofs.Asked.{asked_written, first_fits}
use Rattle.line_memory.proofs.WholeLines.{are_lines-set, is_line-written}
use Rattle.line_memory.proofs.bank.Bank.write_back.Goals as goal

pub note-requires : goal.note-requires
note-requires c = λ is.
    let lines = c.self.inside.lines.items in
    let within : c.args.line < length lines = subst (λ (b : BankState). c.args.line < length b.lines) (sym c.self.view_is) c.requires in
    let here : c.index.result.now ≡ line_at lines c.args.line = c.index.ensures ∙ get_or_default lines c.args.line c.index.result.now no_line within in
    let first : is_first_ask (line_at lines c.args.line) ≡ true = ap (λ (k : LineState). is_first_ask k) (sym here) ∙ sym c.is_first_ask-is_first.ensures ∙ is in
    let fits = first_fits lines c.self.inside.asked.items (vec_capacity c.self.inside.asked) c.args.line c.self.invariant.2 within first in
    search rules

pub invariant_of-self : goal.invariant_of-self
invariant_of-self c =
    let lines = c.self.inside.lines.items in
    let within : c.args.line < length lines = subst (λ (b : BankState). c.args.line < length b.lines) (sym c.self.view_is) c.requires in
    let l : LineState = line_at lines c.args.line in
    let here : c.index_mut.result.now ≡ l = c.index_mut.ensures.value ∙ get_or_default lines c.args.line c.index_mut.result.now no_line within in
    let seen : c.index.result.now ≡ l = c.index.ensures ∙ get_or_default lines c.args.line c.index.result.now no_line within in
    let is : c.write_back.new.self ≡ written_back l = c.write_back.ensures ∙ ap (λ (k : LineState). written_back k) here in
    let whole : IsLine c.write_back.new.self = subst IsLine (sym is) (is_line-written l (c.self.invariant.1 c.args.line within)) in
    let first : c.is_first_ask-is_first.result ≡ is_first_ask l = c.is_first_ask-is_first.ensures ∙ ap (λ (k : LineState). is_first_ask k) seen in
    let noted : c.note.new.asked.items ≡ (if is_first_ask l then c.self.inside.asked.items ++ c.args.line ∷ [] else c.self.inside.asked.items) = c.note.ensures.noted ∙ ap (λ (b : Bool). if b then c.self.inside.asked.items ++ c.args.line ∷ [] else c.self.inside.asked.items) first in (
      let few = c.self.invariant.0 in omega (arith, few, length-set lines c.args.line c.write_back.new.self),
      are_lines-set lines c.args.line c.write_back.new.self c.self.invariant.1 whole,
      rw (is, noted, c.note.ensures.room) (asked_written lines c.self.inside.asked.items (vec_capacity c.self.inside.asked) c.args.line c.self.invariant.2 within (c.self.invariant.1 c.args.line within).asked),
    )

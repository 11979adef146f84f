use Rattle.std.proofs.Common.{is_some, ◌≡◌, ◌<◌, ◌+◌, Bool, true, false, not, nat_lt, length, refl, ap, sym, ◌∙◌, subst}
use Rattle.std.proofs.lemmas.Option.{slice_get-get_or}
use Rattle.line_memory.specs.Line.{unasked, bank_written_back}
use Rattle.incll_var.specs.Cells.{CellBankState, IsClosing, WritesOneBack, next_in}
use Rattle.incll_var.proofs.Closings.{closing_stored}
use Rattle.incll_var.proofs.Lists.{HasWritten, list_next, given_left, next_within}
use Rattle.incll_var.proofs.cells.CellBank.close_next.Goals as goal
use Rattle.incll_var.proofs.cells.CellBank.close_next.Goals.{After-is_all_given}

pub unwrap-line-requires : goal.unwrap-line-requires
unwrap-line-requires c =
    let lines = c.self.inside.bank.lines in
    let closing : IsClosing c.self.inside.state = subst (λ (k : CellBankState). IsClosing k.state) (sym c.self.view_is) c.requires.closing in
    let some : 0 < unasked lines = subst (λ (k : CellBankState). 0 < unasked k.bank.lines) (sym c.self.view_is) c.requires.left in
    let left = given_left lines c.self.inside.stored c.self.invariant.1 (closing_stored c.self.inside.state lines c.self.inside.stored.lines closing c.self.invariant.0.stored) some in
    let found = c.next.ensures.line ∙ slice_get-get_or c.self.inside.stored.lines c.self.inside.stored.given 0 left in
    ap is_some found

pub write_back-requires : goal.write_back-requires
write_back-requires c =
    let lines = c.self.inside.bank.lines in
    let closing : IsClosing c.self.inside.state = subst (λ (k : CellBankState). IsClosing k.state) (sym c.self.view_is) c.requires.closing in
    let some : 0 < unasked lines = subst (λ (k : CellBankState). 0 < unasked k.bank.lines) (sym c.self.view_is) c.requires.left in
    let left = given_left lines c.self.inside.stored c.self.invariant.1 (closing_stored c.self.inside.state lines c.self.inside.stored.lines closing c.self.invariant.0.stored) some in
    next_within lines c.self.inside.stored c.unwrap-line.result c.self.invariant.1 left (sym c.next.ensures.line ∙ c.unwrap-line.ensures)

behind : (c : After-is_all_given) → HasWritten (record { bank = c.self.inside.bank; state = c.self.inside.state; todo = c.self.inside.todo; stored = c.self.inside.stored.lines }) c.write_back.new.self c.next.new.self
behind c =
    let b : CellBankState = record { bank = c.self.inside.bank; state = c.self.inside.state; todo = c.self.inside.todo; stored = c.self.inside.stored.lines } in
    let closing : IsClosing b.state = subst (λ (k : CellBankState). IsClosing k.state) (sym c.self.view_is) c.requires.closing in
    let some : 0 < unasked b.bank.lines = subst (λ (k : CellBankState). 0 < unasked k.bank.lines) (sym c.self.view_is) c.requires.left in
    list_next b c.self.inside.stored c.next.new.self c.unwrap-line.result c.write_back.new.self closing c.self.invariant.0 refl c.self.invariant.1 some (sym c.next.ensures.line ∙ c.unwrap-line.ensures)
    c.write_back.ensures.is c.next.ensures.passed c.write_back.ensures.whole

pub invariant_of-self : goal.invariant_of-self
invariant_of-self c = ((behind c).cells, (behind c).keeps)

pub returns-clause-line : goal.returns-clause-line
returns-clause-line c = subst (λ (b : CellBankState). WritesOneBack b.bank c.write_back.new.self) c.self.view_is (behind c).one

pub returns-clause-first : goal.returns-clause-first
returns-clause-first c = subst (λ (b : CellBankState). c.write_back.new.self ≡ bank_written_back b.bank (next_in b)) c.self.view_is (behind c).first

pub returns-clause-is : goal.returns-clause-is
returns-clause-is c = subst (λ (b : CellBankState). record { bank = c.write_back.new.self; state = c.self.inside.state; todo = c.self.inside.todo; stored = c.next.new.self.lines } ≡ record b { bank = c.write_back.new.self }) c.self.view_is
    (ap (λ xs. record { bank = c.write_back.new.self; state = c.self.inside.state; todo = c.self.inside.todo; stored = xs }) (behind c).lines)

pub returns-clause-fewer : goal.returns-clause-fewer
returns-clause-fewer c = subst (λ (b : CellBankState). unasked b.bank.lines ≡ unasked c.write_back.new.self.lines + 1) c.self.view_is (behind c).fewer

not_not : (b : Bool) → not (not b) ≡ b
not_not true = refl
not_not false = refl

pub returns-clause-more : goal.returns-clause-more
returns-clause-more c =
    let test : not c.is_all_given.result ≡ nat_lt c.next.new.self.given (length c.next.new.self.lines) = ap not c.is_all_given.ensures ∙ not_not (nat_lt c.next.new.self.given (length c.next.new.self.lines)) in
    (λ is. (behind c).more (sym test ∙ is), λ some. test ∙ (behind c).only some)

pub returns-clause-cells : goal.returns-clause-cells
returns-clause-cells c = (behind c).cells

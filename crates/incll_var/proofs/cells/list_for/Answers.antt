use Rattle.std.proofs.Common.{◌≡◌, ℕ, List, length, take, count_by, arith, ap, sym, ◌∙◌, subst}
use Rattle.std.proofs.Math.Seq.{take-length}
use Rattle.std.proofs.lemmas.List.Sums.{count_by-le-length}
use Rattle.line_memory.specs.Line.{LineState}
use Rattle.flush_list.specs.Lists.{FlushListState}
use Rattle.incll_var.specs.Stored.{KeepsList, has_places}
use Rattle.incll_var.proofs.Lists.{list_made, one_more_line}
use Rattle.incll_var.proofs.cells.list_for.Goals as goal

pub returns-then-lines-le1-clause-keeps : goal.returns-then-lines-le1-clause-keeps
returns-then-lines-le1-clause-keeps c =
    let few = count_by-le-length has_places c.args.bank.now.lines in
    let count = c.lines-lines.ensures.count in
    let one = c.if-lines-le1.true in
    subst (KeepsList c.args.bank.now.lines) (sym c.new-list.ensures) (list_made c.args.bank.now.lines 1 (omega arith) (omega (arith, few, count, one)))

pub loop-line-preserved : goal.loop-line-preserved
loop-line-preserved c = record {
  none = c.place_at.ensures.same ∙ ap (λ (f : FlushListState). record f { spare = c.place_at.new.list.spare }) c.loop-line.invariant.none;
  count = one_more_line c.args.bank.now.lines c.loop-line.line c.loop-line.list.spare c.place_at.new.list.spare (omega arith) c.loop-line.invariant.count c.place_at.ensures.kept c.in_ok-place_at.ensures.place;
}

pub returns-clause-none : goal.returns-clause-none
returns-clause-none c = ap (λ (f : FlushListState). f.lines) c.loop-line.invariant.none

pub returns-clause-keeps : goal.returns-clause-keeps
returns-clause-keeps c =
    let lines = c.args.bank.now.lines in
    let end : c.loop-line.line ≡ length lines = (let count = c.lines-lines.ensures.count in omega (arith, count)) in
    let all : count_by has_places (take c.loop-line.line lines) ≡ count_by has_places lines =
    ap (λ (k : ℕ). count_by has_places (take k lines)) end ∙ ap (λ (ls : List LineState). count_by has_places ls) (take-length lines) in
    subst (KeepsList lines) (sym c.loop-line.invariant.none) (list_made lines c.loop-line.list.spare (let h = c.loop-line.invariant.count in omega (arith, h)) (let h = c.loop-line.invariant.count in omega (arith, h, all)))

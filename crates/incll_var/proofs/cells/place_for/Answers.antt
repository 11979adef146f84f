use Rattle.std.proofs.Common.{arith, refl, sym, ◌∙◌}
use Rattle.line_memory.specs.Line.{line_at, with_spare}
use Rattle.incll_var.proofs.Lists.{list_reserved, fits_already, fits_alone, fits_more}
use Rattle.incll_var.proofs.cells.place_for.Goals as goal

pub returns-then-lines-le1-clause-place : goal.returns-then-lines-le1-clause-place
returns-then-lines-le1-clause-place c = λ spare.
    let lines = c.args.bank.now.lines in
    list_reserved lines c.args.list.now c.args.list.now c.args.line spare c.requires.keeps c.requires.line refl (omega arith)
    (fits_alone lines c.args.list.now c.args.line (with_spare (line_at lines c.args.line) spare) c.requires.keeps (let count = c.lines.ensures.count in let one = c.if-lines-le1.true in omega (arith, count, one)))

pub returns-then-has_places-clause-place : goal.returns-then-has_places-clause-place
returns-then-has_places-clause-place c = λ spare.
    let lines = c.args.bank.now.lines in
    list_reserved lines c.args.list.now c.args.list.now c.args.line spare c.requires.keeps c.requires.line refl (omega arith)
    (fits_already lines c.args.list.now c.args.line (with_spare (line_at lines c.args.line) spare) c.requires.keeps c.requires.line (sym c.has_places.ensures ∙ c.if-has_places.true))

pub returns-clause-place : goal.returns-clause-place
returns-clause-place c = λ spare.
    let lines = c.args.bank.now.lines in
    list_reserved lines c.args.list.now c.more_places.new.list c.args.line spare c.requires.keeps c.requires.line c.more_places.ensures.same c.more_places.ensures.kept
    (fits_more lines c.args.list.now c.args.line c.more_places.new.list.spare (with_spare (line_at lines c.args.line) spare) c.requires.keeps c.in_ok-more_places.ensures.more)

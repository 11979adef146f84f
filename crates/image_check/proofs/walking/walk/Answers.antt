use Rattle.std.proofs.Common.{◌+◌, arith, sym, ◌∙◌}
use Rattle.room_walks.proofs.Walks.{met}
use Rattle.image_check.specs.Cells.{words_of}
use Rattle.image_check.specs.Meeting.{is_new}
use Rattle.image_check.specs.Marks.{HasMarksOf}
use Rattle.image_check.proofs.Walks.{walk_ends, walk_on, walk_stops, walk_tires}
use Rattle.image_check.proofs.Marking.{walked_none, walked_some}
use Rattle.image_check.proofs.walking.walk.Goals as goal

pub returns-then-not-meet-clause-walked : goal.returns-then-not-meet-clause-walked
returns-then-not-meet-clause-walked c = λ before marked.
    let step = met (words_of c.args.cells) c.loop-line.walk c.next.new.self c.in-Some.line (sym c.in-Some.is ∙ c.next.ensures.line) c.next.ensures.behind in
    walked_none c.meet.new.marks _ (walk_stops (words_of c.args.cells) (λ x. words_of c.args.cells x c.args.word) (is_new c.args.nodes.first c.args.nodes.fresh) c.args.cells.sizes.lines c.args.start (HasMarksOf c.args.marks.now c.args.met) (HasMarksOf c.loop-line.marks c.loop-line.now) c.loop-line.walk c.next.new.self c.in-Some.line step c.loop-line.invariant.going
    (λ met kept. sym (c.meet.ensures.first c.loop-line.now met kept) ∙ c.if-not-meet.true) before marked)

pub loop-line-preserved : goal.loop-line-preserved
loop-line-preserved c =
    let step = met (words_of c.args.cells) c.loop-line.walk c.next.new.self c.in-Some.line (sym c.in-Some.is ∙ c.next.ensures.line) c.next.ensures.behind in
    let counts = c.loop-line.invariant.few in
    let some = step.more in
    let left = step.left in
    record {
      going = walk_on (words_of c.args.cells) c.args.word (is_new c.args.nodes.first c.args.nodes.fresh) c.args.cells.sizes.lines c.args.start (HasMarksOf c.args.marks.now c.args.met) (HasMarksOf c.loop-line.marks c.loop-line.now) (HasMarksOf c.meet.new.marks (record { count = c.loop-line.now.count + 1; latest = c.in-Some.line })) c.loop-line.walk c.next.new.self c.in-Some.line step c.loop-line.invariant.word c.loop-line.invariant.going
          (λ met kept. (
            sym (c.meet.ensures.first c.loop-line.now met kept) ∙ c.if-not-meet.false,
            c.meet.ensures.marked c.if-not-meet.false c.loop-line.now met kept,
          ));
      word = step.word ∙ c.loop-line.invariant.word;
      size = c.meet.ensures.size ∙ c.loop-line.invariant.size;
      few = omega (arith, counts, some, left);
    }

pub returns-then-walk-eq0-clause-walked : goal.returns-then-walk-eq0-clause-walked
returns-then-walk-eq0-clause-walked c = λ before marked.
    walked_some c.loop-line.now c.loop-line.marks _ (walk_ends (words_of c.args.cells) (λ x. words_of c.args.cells x c.args.word) (is_new c.args.nodes.first c.args.nodes.fresh) c.args.cells.sizes.lines c.args.start (HasMarksOf c.args.marks.now c.args.met) (HasMarksOf c.loop-line.marks c.loop-line.now) c.loop-line.walk c.next.new.self (sym c.in_default.is ∙ c.next.ensures.line) c.next.ensures.behind c.if-walk-eq0.true c.loop-line.invariant.going before marked)

pub returns-else-walk-eq0-clause-walked : goal.returns-else-walk-eq0-clause-walked
returns-else-walk-eq0-clause-walked c = λ before marked.
    walked_none c.loop-line.marks _ (walk_tires (words_of c.args.cells) (λ x. words_of c.args.cells x c.args.word) (is_new c.args.nodes.first c.args.nodes.fresh) c.args.cells.sizes.lines c.args.start (HasMarksOf c.args.marks.now c.args.met) (HasMarksOf c.loop-line.marks c.loop-line.now) c.loop-line.walk c.next.new.self (sym c.in_default.is ∙ c.next.ensures.line) c.next.ensures.behind c.if-walk-eq0.false c.loop-line.invariant.going before marked)

use Rattle.std.proofs.Common.{◌≡◌, ◌+◌, ◌≤◌, length}
use Rattle.image_check.specs.Cells.{words_of}
use Rattle.image_check.specs.Meeting.{is_new}
use Rattle.image_check.specs.Marks.{HasMarksOf}
use Rattle.image_check.proofs.Walks.{IsGoing}
use Rattle.image_check.proofs.walking.walk.Given as goal

abbrev pub invariant-loop-line : goal.invariant-loop-line
invariant-loop-line l = record {
  going : IsGoing (λ x. words_of l.cells x l.word) (is_new l.nodes.first l.nodes.fresh) l.cells.sizes.lines l.start (HasMarksOf l.initial.marks l.fn.met) (HasMarksOf l.marks l.now) l.walk.left l.walk.line;
  word : l.walk.word ≡ l.word;
  size : length l.marks ≡ l.cells.sizes.lines;
  few : l.now.count + l.walk.left ≤ l.fn.met.count + l.cells.sizes.lines;
}

abbrev pub decreases-loop-line : goal.decreases-loop-line
decreases-loop-line l = l.walk.left

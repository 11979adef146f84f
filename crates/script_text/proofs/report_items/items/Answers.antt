use Rattle.std.proofs.Common.{◌≡◌, ℕ, List, [], ◌∷◌, ◌++◌, true, false, length, length-append, sym, ap, ◌∙◌, arith, codes, Ok}
use Rattle.seq_object.specs.declared.history.Entry.{Entry}
use Rattle.life_model.specs.declared.life.Mark.{Mark}
use Rattle.script_text.specs.Reading.{left_of}
use Rattle.script_text.specs.Pieces.{words}
use Rattle.script_text.specs.ReportReading.{begins_with, mark_at, items_at}
use Rattle.script_text.proofs.ReportSteps.{with_items, entry_step, mark_step}
use Rattle.script_text.proofs.report_items.items.Goals as goal

-- an entry more
pub loop-marks-preserved-in_ok-push : goal.loop-marks-preserved-in_ok-push
loop-marks-preserved-in_ok-push c =
    let l = c.loop-marks in
    let begins : begins_with (codes "entry") (words c.in_ok-text.text.now) ≡ true = sym c.begins.ensures ∙ c.if-begins.true in
    let pushed = c.in_ok-push.ensures.items in
    let longer = length-append l.entries.items (c.in_ok-entry.entry ∷ []) in
    record {
      near = omega (arith, l.invariant.near, c.in_ok-text.ensures.next, c.in_ok-text.ensures.shorter);
      reads =
          ap (λ (xs : List Entry). with_items xs l.marks.items (items_at l.last (length xs) (left_of c.in_ok-text.behind))) pushed
          ∙ ap (λ (n : ℕ). with_items (l.entries.items ++ c.in_ok-entry.entry ∷ []) l.marks.items (items_at l.last n (left_of c.in_ok-text.behind))) longer
          ∙ sym (entry_step l.last (length l.entries.items) (left_of l.place) c.in_ok-text.text.now (left_of c.in_ok-text.behind) c.in_ok-entry.entry l.entries.items l.marks.items c.in_ok-text.ensures.reads begins (sym c.in_ok-entry.ensures))
          ∙ l.invariant.reads;
    }

-- a mark more
pub loop-marks-preserved : goal.loop-marks-preserved
loop-marks-preserved c =
    let l = c.loop-marks in
    let other : begins_with (codes "entry") (words c.in_ok-text.text.now) ≡ false = sym c.begins.ensures ∙ c.if-begins.false in
    let begins : begins_with (codes "saved") (words c.in_ok-text.text.now) ≡ true = sym c.begins-else-begins.ensures ∙ c.if-begins-2.true in
    let is : mark_at l.place.line l.last (length l.entries.items) c.in_ok-text.text.now ≡ Ok c.in_ok-mark.mark =
    ap (λ (n : ℕ). mark_at l.place.line l.last n c.in_ok-text.text.now) (sym (c.len.ensures ∙ l.entries.ok.0)) ∙ sym c.in_ok-mark.ensures in
    record {
      near = omega (arith, l.invariant.near, c.in_ok-text.ensures.next, c.in_ok-text.ensures.shorter);
      reads =
          ap (λ (xs : List Mark). with_items l.entries.items xs (items_at c.in_ok-mark.mark.epoch (length l.entries.items) (left_of c.in_ok-text.behind))) c.in_ok-push-2.ensures.items
          ∙ sym (mark_step l.last (length l.entries.items) (left_of l.place) c.in_ok-text.text.now (left_of c.in_ok-text.behind) c.in_ok-mark.mark l.entries.items l.marks.items c.in_ok-text.ensures.reads other begins is)
          ∙ l.invariant.reads;
    }

use Rattle.std.proofs.Common.{◌≡◌, ℕ, ◌+◌, List, true, sym, ap, ◌∙◌, arith, codes}
use Rattle.script_text.specs.Reading.{left_of}
use Rattle.script_text.specs.Pieces.{words}
use Rattle.script_text.specs.ReportReading.{begins_with, held_at}
use Rattle.script_text.proofs.Fronts.{with_front_and_rest}
use Rattle.script_text.proofs.ReportSteps.{held_step}
use Rattle.script_text.proofs.report_rooms.held_rooms.Goals as goal

pub loop-rooms-preserved : goal.loop-rooms-preserved
loop-rooms-preserved c =
    let begins : begins_with (codes "held") (words c.in_ok-text.text.now) ≡ true = sym c.begins.ensures ∙ c.if-not-begins.false in
    record {
      near = omega (arith, c.loop-rooms.invariant.near, c.in_ok-text.ensures.next, c.in_ok-text.ensures.shorter);
      reads =
          ap (λ (xs : List ℕ). with_front_and_rest xs (held_at (c.in_ok-room.room + 1) (left_of c.in_ok-text.behind))) c.in_ok-push.ensures.items
          ∙ sym (held_step c.loop-rooms.low (left_of c.loop-rooms.place) c.in_ok-text.text.now (left_of c.in_ok-text.behind) c.in_ok-room.room c.loop-rooms.rooms.items c.in_ok-text.ensures.reads begins (sym c.in_ok-room.ensures.reads))
          ∙ c.loop-rooms.invariant.reads;
    }

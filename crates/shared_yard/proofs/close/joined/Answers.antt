use Rattle.std.proofs.Common.{List, ap, ◌∙◌, subst}
use Rattle.room_yard.specs.Calls.{room_held}
use Rattle.shared_yard.specs.declared.seat.YardSeat.{YardSeat}
use Rattle.shared_yard.specs.Rule.{Each}
use Rattle.shared_yard.specs.Hands.{slots_out}
use Rattle.shared_yard.specs.Seats.{IsBackAt}
use Rattle.shared_yard.proofs.Parting.{joins}
use Rattle.shared_yard.proofs.close.joined.Goals as goal

pub join_seat-requires : goal.join_seat-requires
join_seat-requires c = let back : IsBackAt c.args.table.now.shared.table_id c.in-Some-seat.seat = (subst (λ (l : List YardSeat). Each (IsBackAt c.args.table.now.shared.table_id) l) c.in-Some-seat.ensures.steps.0 c.loop-seat.invariant.left).0 in (
  c.loop-seat.invariant.table,
  c.into_table_seat.ensures.table ∙ back.0,
  c.into_table_seat.ensures.slots ∙ ap slots_out (c.in-Some-seat.seat.hand.room_is ∙ ap room_held back.1),
  c.requires.words,
  joins _ _ _ _,
)

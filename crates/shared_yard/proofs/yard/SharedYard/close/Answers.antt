use Rattle.std.proofs.Common.{sym, ap, ◌∙◌, arith}
use mathlib.Core.Option.{some}
use Rattle.std.specs.Slots.{slots_items}
use Rattle.std.specs.Mem.Slots.{slots_counts}
use Rattle.room_yard.specs.World.{WorldState}
use Rattle.shared_yard.proofs.Endings.{some_seat, are_back, leaves, many, few, fits, dead_in}
use Rattle.shared_yard.proofs.yard.SharedYard.close.Goals as goal

pub joined-all-requires-clause-some : goal.joined-all-requires-clause-some
joined-all-requires-clause-some c = some_seat c.args.self c.args.seats.items c.requires.seats

pub joined-all-requires-clause-seats : goal.joined-all-requires-clause-seats
joined-all-requires-clause-seats c = are_back c.args.self c.args.seats.items c.requires.seats

pub of-requires-clause-banks : goal.of-requires-clause-banks
of-requires-clause-banks c = let n = many c.args.self c.args.seats.items c.requires.seats c.joined-all.result.id c.joined-all.result.me.0 c.joined-all.ensures.known (slots_items c.close_with-closed.result.words) (slots_items c.close_with-closed.result.slots) c.close_with-closed.ensures.values.2 c.taken-rooms.result.items c.taken-rooms.ensures.items in
    let room = c.args.self.no_banks.1 in omega (arith, n, room)

pub of-requires-clause-numbers : goal.of-requires-clause-numbers
of-requires-clause-numbers c = let n = many c.args.self c.args.seats.items c.requires.seats c.joined-all.result.id c.joined-all.result.me.0 c.joined-all.ensures.known (slots_items c.close_with-closed.result.words) (slots_items c.close_with-closed.result.slots) c.close_with-closed.ensures.values.2 c.taken-rooms.result.items c.taken-rooms.ensures.items in
    let room = c.args.self.no_held.1 in let same = c.dead_among-held.ensures.room in omega (arith, n, room, same)

pub returns-clause-left : goal.returns-clause-left
returns-clause-left c = leaves c.args.self c.args.seats.items c.requires.seats c.joined-all.result.id c.joined-all.result.me.0 c.joined-all.ensures.known (slots_items c.close_with-closed.result.words) (slots_items c.close_with-closed.result.slots) c.close_with-closed.ensures.values.2 c.of.result
    (ap (λ (w : WorldState). w.rooms) c.of.ensures ∙ c.taken-rooms.ensures.items)
    (c.word-arrival.ensures ∙ ap (λ (w : WorldState). some w.arrival) (sym c.of.ensures))
    (c.word-clock.ensures ∙ ap (λ (w : WorldState). some w.clock) (sym c.of.ensures))
    (dead_in _ _ _ _ _ (slots_counts c.close_with-closed.result.slots).0 (ap (λ (w : WorldState). w.held) c.of.ensures) c.dead_among-held.ensures.items)

pub returns-clause-number : goal.returns-clause-number
returns-clause-number c = few c.args.self c.args.seats.items c.requires.seats c.joined-all.result.id c.joined-all.result.me.0 c.joined-all.ensures.known (slots_items c.close_with-closed.result.words) (slots_items c.close_with-closed.result.slots) c.close_with-closed.ensures.values.2 c.of.result.rooms
    (ap (λ (w : WorldState). w.rooms) c.of.ensures ∙ c.taken-rooms.ensures.items)

pub returns-clause-lines : goal.returns-clause-lines
returns-clause-lines c = fits c.args.self c.args.seats.items c.requires.seats c.joined-all.result.id c.joined-all.result.me.0 c.joined-all.ensures.known (slots_items c.close_with-closed.result.words) (slots_items c.close_with-closed.result.slots) c.close_with-closed.ensures.values.2 c.of.result.rooms
    (ap (λ (w : WorldState). w.rooms) c.of.ensures ∙ c.taken-rooms.ensures.items)

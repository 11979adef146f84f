use Rattle.std.proofs.Common.{List, map, length, Some, sym, ap, ◌∙◌, subst, arith}
use Rattle.atomic_table.specs.Table.{opening}
use Rattle.rooms.specs.declared.room.Room.{Room}
use Rattle.yard_model.specs.declared.view.Beginning.{Beginning}
use Rattle.shared_yard.specs.Rule.{IsLawfulTable, opening_knowns}
use Rattle.shared_yard.proofs.Emptying.{come_back}
use Rattle.shared_yard.proofs.Openings.{opens_table}
use Rattle.shared_yard.proofs.yard.SharedYard.opening.Goals as goal

pub new-requires : goal.new-requires
new-requires c = subst (λ (b : Beginning). IsLawfulTable (opening c.as_slice.result.now c.slotted.result.items (opening_knowns b))) (sym c.of-key.ensures)
    (opens_table c.args.beginning c.args.world c.as_slice.result.now c.slotted.result.items c.requires.opens (c.as_slice.ensures.value ∙ c.requires.lists.words)
    (c.slotted.ensures ∙ ap (λ (l : List Room). map Some l) c.into_parts-at_home.ensures.rooms))

pub of-requires-clause-banks : goal.of-requires-clause-banks
of-requires-clause-banks c = let back = come_back _ _ _ _ c.unslotted.ensures.items c.in-Err.ensures.err c.slotted.ensures in let n = ap (λ (l : List Room). length l) (back ∙ c.into_parts-at_home.ensures.rooms) in
    let room = c.into_parts-at_home.ensures.banks in omega (arith, n, room)

pub of-requires-clause-numbers : goal.of-requires-clause-numbers
of-requires-clause-numbers c = let back = come_back _ _ _ _ c.unslotted.ensures.items c.in-Err.ensures.err c.slotted.ensures in let n = ap (λ (l : List Room). length l) (back ∙ c.into_parts-at_home.ensures.rooms) in
    let room = c.into_parts-at_home.ensures.numbers in omega (arith, n, room)

pub returns-in-Err-clause-same : goal.returns-in-Err-clause-same
returns-in-Err-clause-same c = let back = come_back _ _ _ _ c.unslotted.ensures.items c.in-Err.ensures.err c.slotted.ensures in let parts = c.into_parts-at_home.ensures in
    c.of.ensures ∙ (λ j. record { rooms = (back ∙ parts.rooms) j; arrival = parts.arrival j; clock = parts.clock j; held = parts.held j })

use Rattle.std.proofs.Common.{◌≡◌, IfOk, length, sym, subst}
use Rattle.seq_object.specs.Object.{Pairs, shard_pairs}
use Rattle.seq_object.specs.Plain.{listed}
use Rattle.line_memory.specs.Line.{bank_load}
use Rattle.room_model.specs.MapRoom.{live_layout, IsMapRoom}
use Rattle.incll_var.specs.Cells.{CellBankState}
use Rattle.command_room.specs.Room.{sizes_in, contents_in, CommandRoomState}
use Rattle.planned_cells.specs.Planned.{IsAtRest}
use Rattle.locked_map.proofs.Begins.{stands_by_loads, pairs_of_room}
use Rattle.locked_map.proofs.map_room.MapRoom.entries.Goals as goal

-- what is listed, of a room at rest
listed_of : (c : goal.After-listed_pairs) → IsAtRest c.self.inside.room.cells c.self.inside.room.plan → IfOk c.listed_pairs.result (λ pairs. pairs.items ≡ listed (shard_pairs (sizes_in c.self.inside.room) c.self.inside.room.room (contents_in c.self.inside.room).pairs))
listed_of c rest =
    let s = c.self.inside.room in
    let held : Pairs = shard_pairs (sizes_in s) s.room (contents_in s).pairs in
    c.listed_pairs.ensures (sizes_in s) s.room held
    (subst (λ (k : CellBankState). s.settings.lines ≡ length k.bank.lines) (sym c.cells.ensures.cells) (sym c.self.invariant.room.lines))
    (subst (λ (k : CellBankState). IsMapRoom live_layout (sizes_in s) s.room (bank_load k.bank) held) (sym c.cells.ensures.cells) (stands_by_loads s c.self.invariant rest))

pub returns-clause-pairs : goal.returns-clause-pairs
returns-clause-pairs c =
    let s = c.self.inside.room in
    subst (λ (k : CommandRoomState). IsAtRest k.cells k.plan → IfOk c.listed_pairs.result (λ pairs. pairs.items ≡ listed (contents_in k).pairs)) c.self.view_is
    (λ rest. subst (λ (held : Pairs). IfOk c.listed_pairs.result (λ pairs. pairs.items ≡ listed held)) (sym (pairs_of_room s c.self.invariant rest)) (listed_of c rest))

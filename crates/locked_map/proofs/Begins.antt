-- The begin of a command: what a room must be to be planned in, and what the planned room is.
use Rattle.std.proofs.Common.{◌≡◌, ◌==◌, Bool, false, arith, ap, ◌∙◌, subst, if◌then◌else◌, None}
use Rattle.std.proofs.lemmas.Bool.{ne_eqb}
use Rattle.std.specs.Prelude.{MatchBool}
use Rattle.line_memory.specs.Line.{bank_load}
use Rattle.seq_object.specs.Object.{shard_pairs}
use Rattle.room_model.specs.Chains.{RoomWords}
use Rattle.room_model.specs.MapRoom.{live_layout, IsMapRoom}
use Rattle.room_model.specs.QueueRoom.{IsQueueRoom}
use Rattle.room_model.specs.Walks.{map_of, items_of}
use Rattle.room_laws.proofs.MapLaws.{layouts}
use Rattle.room_laws.proofs.Pairs.{map_pairs_law}
use Rattle.room_laws.proofs.OneContents.{only_pairs, only_items}
use Rattle.incll_var.specs.Cells.{IsRunning}
use Rattle.command_room.specs.Room.{words_of, sizes_in, contents_in, CommandRoomState}
use Rattle.locked_map.specs.Room.{IsMap}
use Rattle.planned_cells.specs.Planned.{IsAtRest}
use Rattle.planned_cells.proofs.Rests.{rest_words}
use Rattle.command_room.proofs.Plannings.{ready_rests}
use Rattle.locked_map.specs.Plans.{MayPlan}

-- a map room's number is not the queue room's
pub not_queue : (s : CommandRoomState) → IsMap s → (s.room == s.settings.shards) ≡ false
not_queue s was = let lt = was.shard in ne_eqb s.room s.settings.shards (λ e. omega (arith, e, lt))

-- a map room at rest stands by its loads for the pairs of its shard
pub stands_by_loads : (s : CommandRoomState) → IsMap s → IsAtRest s.cells s.plan → IsMapRoom live_layout (sizes_in s) s.room (bank_load s.cells.bank) (shard_pairs (sizes_in s) s.room (contents_in s).pairs)
stands_by_loads s was rest =
    subst (λ (r : RoomWords). IsMapRoom live_layout (sizes_in s) s.room r (shard_pairs (sizes_in s) s.room (contents_in s).pairs)) (rest_words s.cells s.plan rest)
    (subst (λ (b : Bool). MatchBool b (IsQueueRoom (sizes_in s) (words_of s) (contents_in s).items) (IsMapRoom live_layout (sizes_in s) s.room (words_of s) (shard_pairs (sizes_in s) s.room (contents_in s).pairs))) (not_queue s was) was.room.stands)

-- a command may be planned in a map room that runs and is idle
pub may_plan : (s : CommandRoomState) → IsMap s → IsRunning s.cells.state → s.under_way ≡ None → MayPlan live_layout (sizes_in s) s.cells
may_plan s was running idle = record {
  shard = s.room;
  pairs = shard_pairs (sizes_in s) s.room (contents_in s).pairs;
  sizes = was.room.sizes;
  running = running;
  lines = was.room.lines;
  stands = stands_by_loads s was (ready_rests s was.room running idle);
}

-- the pairs of a map room at rest are those that its loads stand for
pub pairs_of_room : (s : CommandRoomState) → IsMap s → IsAtRest s.cells s.plan → (contents_in s).pairs ≡ shard_pairs (sizes_in s) s.room (contents_in s).pairs
pairs_of_room s was rest =
    ap (λ (b : Bool). (if b then only_items (items_of (sizes_in s) (words_of s)) else only_pairs (map_of live_layout (sizes_in s) (words_of s))).pairs) (not_queue s was)
    ∙ ap (map_of live_layout (sizes_in s)) (rest_words s.cells s.plan rest)
    ∙ map_pairs_law live_layout (sizes_in s) s.room (bank_load s.cells.bank) (shard_pairs (sizes_in s) s.room (contents_in s).pairs) layouts.in_use (stands_by_loads s was rest)

-- What the begin of a command makes of a room: behind its stores the room holds what the object holds next.
use Rattle.std.proofs.Common.{◌≡◌, ℕ, ◌<◌, Bool, Some, List, [], length, arith, ap, sym, ◌∙◌, subst, eq-eqb, if◌then◌else◌}
use Rattle.seq_object.specs.declared.command.Command.{Command}
use Rattle.seq_object.specs.declared.command.Reply.{Reply}
use Rattle.seq_object.specs.Sizes.{AreValid}
use Rattle.seq_object.specs.Object.{room_of, reply_to, contents_after}
use Rattle.line_memory.specs.Line.{BankState, bank_load}
use Rattle.room_model.specs.declared.write.PlannedStore.{PlannedStore}
use Rattle.room_model.specs.declared.write.Write.{Write}
use Rattle.room_model.specs.Chains.{RoomWords, HasSameRecords}
use Rattle.room_model.specs.MapRoom.{live_layout}
use Rattle.room_model.specs.Writes.{written, writes_of, stored_in, stores_behind, command_stores, AreWithin}
use Rattle.room_model.specs.Walks.{contents_of, IsRoom}
use Rattle.room_laws.specs.Commands.{IsAfter}
use Rattle.room_laws.proofs.AllRows.{command_reply, within}
use Rattle.room_laws.proofs.MapLaws.{layouts}
use Rattle.room_laws.proofs.Planned.{all_stores}
use Rattle.room_laws.proofs.RoomSteps.{room_step}
use Rattle.incll_var.specs.Cells.{IsCellBank, HasSameCells, epoch_of}
use Rattle.incll_var.specs.Plans.{PlanState, IsPlanned, HasPlacesFor}
use Rattle.incll_var.proofs.MoreRoom.{same_planned, no_plan}
use Rattle.command_room.specs.Room.{words_of, sizes_in, contents_in, IsCommandRoom, HasPlanned, unplanned, begun, CommandRoomState, with_plan}
use Rattle.command_room.proofs.Words.{laid, running_words, same_room, HoldsSame}
use Rattle.planned_cells.proofs.Loads.{loads-same}
use Rattle.command_room.proofs.Plannings.{writes_planned}
use Rattle.planned_cells.specs.Planned.{words_in}
use Rattle.seq_object.specs.declared.sizes.Sizes.{Sizes}

-- a command of a room has the stores of its writes there
own_stores : (z : Sizes) (epoch room : ℕ) (r : RoomWords) (command : Command) → room_of z command ≡ room → command_stores live_layout z epoch room r command ≡ stores_behind epoch r [] (writes_of live_layout z r command)
own_stores z epoch room r command mine =
    ap (λ (b : Bool). if b then stores_behind epoch r [] (writes_of live_layout z r command) else []) (eq-eqb (room_of z command) room mine)

-- what a room holds behind the stores of its command
record HoldsNext (z : Sizes) (room : ℕ) (r : RoomWords) (command : Command) (next : RoomWords) : Type 0 where
  pub stands : IsRoom live_layout z room next
  pub holds : contents_of live_layout z room next ≡ contents_after z (contents_of live_layout z room r) command

-- there is a shard
some_shards : (z : Sizes) → AreValid z → 0 < z.shards
some_shards z valid = let some = valid.some_shards in omega (arith, some)

-- the writes of a command go to its room's lines
own_within : (z : Sizes) (room : ℕ) (r : RoomWords) (command : Command) → AreValid z → IsRoom live_layout z room r → room_of z command ≡ room → AreWithin z.lines (writes_of live_layout z r command)
own_within z room r command valid own mine = within live_layout z room r (contents_of live_layout z room r) command laid (some_shards z valid) own mine

-- behind the stores of its command a room holds what the object holds next
behind_command : (z : Sizes) (epoch room : ℕ) (r : RoomWords) (command : Command) → AreValid z → IsRoom live_layout z room r → room_of z command ≡ room
    → HoldsNext z room r command (stored_in r (command_stores live_layout z epoch room r command))
behind_command z epoch room r command valid own mine =
    let ws : List Write = writes_of live_layout z r command in
    let after : IsAfter live_layout z room r command (written r ws) = room_step live_layout z room r command laid (layouts.capacity z) (some_shards z valid) own mine in
    let same : HasSameRecords (stored_in r (stores_behind epoch r [] ws)) (written r ws) = all_stores epoch r [] ws in
    let there : HoldsSame z room (written r ws) (stored_in r (stores_behind epoch r [] ws)) = same_room z room (written r ws) (stored_in r (stores_behind epoch r [] ws)) after.stands same in
    subst (λ (ss : List PlannedStore). HoldsNext z room r command (stored_in r ss)) (sym (own_stores z epoch room r command mine)) (record {
      stands = there.stands;
      holds = there.holds ∙ after.holds;
    })

-- the loads of a room whose command is planned mean what the room holds
own_loads : (s : CommandRoomState) (command : Command) (reply : Reply) → HasPlanned s command reply → words_of (unplanned s) ≡ bank_load s.cells.bank
own_loads s command reply plans = running_words s.cells.state s.cells.bank [] plans.running

-- they are a room
own_room : (s : CommandRoomState) (command : Command) (reply : Reply) → HasPlanned s command reply → IsRoom live_layout (sizes_in s) s.room (bank_load s.cells.bank)
own_room s command reply plans = subst (IsRoom live_layout (sizes_in s) s.room) (own_loads s command reply plans) plans.room.stands

-- the stores of a planned command may be made
pub begin_planned_law : (s : CommandRoomState) (command : Command) (reply : Reply) → HasPlanned s command reply → IsPlanned (epoch_of s.cells.state) s.cells.bank.lines s.plan.stores
begin_planned_law s command reply plans =
    let z = sizes_in s in
    let e = epoch_of s.cells.state in
    let r = bank_load s.cells.bank in
    let lines = s.cells.bank.lines in
    let inside : AreWithin (length lines) (writes_of live_layout z r command) =
    subst (λ (n : ℕ). AreWithin n (writes_of live_layout z r command)) (sym plans.room.lines) (own_within z s.room r command plans.room.sizes (own_room s command reply plans) plans.mine) in
    subst (IsPlanned e lines) (sym (plans.stores ∙ own_stores z e s.room r command plans.mine))
    (writes_planned s.cells [] (writes_of live_layout z r command) plans.room.cells plans.running inside (no_plan e lines).0)

-- the reply of a planned command is the object's
pub reply_law : (s : CommandRoomState) (command : Command) (reply : Reply) → HasPlanned s command reply → reply_to (sizes_in s) (contents_in (unplanned s)) command ≡ Some reply
reply_law s command reply plans =
    let z = sizes_in s in
    let r = bank_load s.cells.bank in
    ap (λ (q : RoomWords). reply_to z (contents_of live_layout z s.room q) command) (own_loads s command reply plans)
    ∙ sym (command_reply live_layout z s.room r (contents_of live_layout z s.room r) command laid (layouts.capacity z) (some_shards z plans.room.sizes) (own_room s command reply plans) plans.mine)
    ∙ plans.answer

-- what the begin of a command makes of a room
pub record HasBegun (s : CommandRoomState) (command : Command) (new : CommandRoomState) : Type 0 where
  pub room : IsCommandRoom new
  pub contents : contents_in new ≡ contents_after (sizes_in s) (contents_in (unplanned s)) command

pub begin_law : (s : CommandRoomState) (command : Command) (reply : Reply) (bank : BankState) (spare : ℕ) → HasPlanned s command reply → HasSameCells s.cells.bank bank → IsCellBank (record s.cells { bank = bank }) → HasPlacesFor bank.lines s.plan.stores → 0 < spare
    → HasBegun s command (begun s bank spare command reply)
begin_law s command reply bank spare plans same whole room some =
    let z = sizes_in s in
    let e = epoch_of s.cells.state in
    let r = bank_load s.cells.bank in
    let stores = command_stores live_layout z e s.room r command in
    let next : HoldsNext z s.room r command (stored_in r stores) = behind_command z e s.room r command plans.room.sizes (own_room s command reply plans) plans.mine in
    let behind : words_in s.cells.state bank s.plan.stores ≡ stored_in r stores =
    running_words s.cells.state bank s.plan.stores plans.running
    ∙ ap (λ (q : RoomWords). stored_in q s.plan.stores) (loads-same s.cells.bank bank same)
    ∙ ap (stored_in r) plans.stores in
    record {
      room = record {
        sizes = plans.room.sizes;
        number = plans.room.number;
        cells = whole;
        lines = same.count ∙ plans.room.lines;
        stands = subst (IsRoom live_layout z s.room) (sym behind) next.stands;
        planned = same_planned e s.cells.bank bank s.plan.stores same (begin_planned_law s command reply plans);
        has_room = room;
        going = (plans.running, some);
      };
      contents = ap (contents_of live_layout z s.room) behind ∙ next.holds ∙ ap (λ (q : RoomWords). contents_after z (contents_of live_layout z s.room q) command) (sym (own_loads s command reply plans));
    }

-- a room of which no store is left holds the same with nothing planned
pub unplanned_contents : (s : CommandRoomState) (plan : PlanState) → s.plan.stores ≡ [] → contents_in (unplanned (with_plan s plan)) ≡ contents_in s
unplanned_contents s plan none = ap (λ (ss : List PlannedStore). contents_of live_layout (sizes_in s) s.room (words_in s.cells.state s.cells.bank ss)) (sym none)

-- What the begin of a command makes of the queue room: a command that the room answers is planned, and one that it does not answer
-- leaves the room as it was.
use Rattle.std.proofs.Common.{◌≡◌, ℕ, ◌<◌, None, List, [], sym, ap, ◌∙◌, subst, arith}
use Rattle.seq_object.specs.declared.command.Command.{Command}
use Rattle.seq_object.specs.declared.command.Command.TheVariants.{Take}
use Rattle.seq_object.specs.Object.{Contents, room_of, reply_to, contents_after, with_items, rest_of}
use Rattle.line_memory.specs.Line.{bank_load}
use Rattle.room_model.specs.Chains.{RoomWords}
use Rattle.room_model.specs.MapRoom.{live_layout}
use Rattle.room_model.specs.Writes.{writes_of, answer_of}
use Rattle.room_model.specs.Walks.{contents_of, IsRoom}
use Rattle.room_laws.proofs.AllRows.{command_reply}
use Rattle.room_laws.proofs.MapLaws.{layouts}
use Rattle.incll_var.specs.Cells.{IsRunning}
use Rattle.incll_var.specs.Plans.{PlanState}
use Rattle.line_alloc.specs.Headers.{planned}
use Rattle.command_room.specs.Room.{words_of, sizes_in, contents_in, CommandRoomState}
use Rattle.command_room.proofs.Words.{laid}
use Rattle.locked_queue.specs.Plans.{MayPlan}
use Rattle.locked_queue.specs.Queue.{IsQueue, items_in}
use Rattle.locked_queue.proofs.Commands.{none_written, only_takes_wait}
use Rattle.locked_queue.proofs.Queues.{ready_words, bounds_law}

-- a queue room that may begin this command
pub record MayBegin (s : CommandRoomState) (command : Command) : Type 0 where
  pub queue : IsQueue s
  pub running : IsRunning s.cells.state
  pub idle : s.under_way ≡ None
  pub mine : room_of (sizes_in s) command ≡ s.room

-- there is a shard
some_shards : (s : CommandRoomState) → IsQueue s → 0 < s.settings.shards
some_shards s queue = let some = queue.room.sizes.some_shards in omega (arith, some)

-- a command may be planned in it
pub may_plan : (s : CommandRoomState) (command : Command) → MayBegin s command → MayPlan (sizes_in s) s.cells
may_plan s command may = record {
  sizes = may.queue.room.sizes;
  running = may.running;
  lines = may.queue.room.lines;
  bounds = bounds_law s may.queue may.running may.idle;
}

-- what the room answers is the object's reply
room_reply : (s : CommandRoomState) (command : Command) → MayBegin s command → answer_of live_layout (sizes_in s) (bank_load s.cells.bank) command ≡ reply_to (sizes_in s) (contents_in s) command
room_reply s command may =
    let z = sizes_in s in
    let r : RoomWords = bank_load s.cells.bank in
    let words : words_of s ≡ r = ready_words s may.queue may.running may.idle in
    let own : IsRoom live_layout z s.room r = subst (IsRoom live_layout z s.room) words may.queue.room.stands in
    command_reply live_layout z s.room r (contents_of live_layout z s.room r) command laid (layouts.capacity z) (some_shards s may.queue) own may.mine
    ∙ ap (λ (q : RoomWords). reply_to z (contents_of live_layout z s.room q) command) (sym words)

-- a room that does not answer a command: it is a take of an empty queue, and nothing is planned or changed
pub record Waits (s : CommandRoomState) (plan : PlanState) (command : Command) : Type 0 where
  pub take : command ≡ Take
  pub empty : items_in s ≡ []
  pub same : plan ≡ s.plan
  pub reply : None ≡ reply_to (sizes_in s) (contents_in s) command
  pub contents : contents_in s ≡ contents_after (sizes_in s) (contents_in s) command

pub waits_law : (s : CommandRoomState) (plan : PlanState) (command : Command) → MayBegin s command → plan ≡ planned s.cells s.plan (writes_of live_layout (sizes_in s) (bank_load s.cells.bank) command)
    → None ≡ answer_of live_layout (sizes_in s) (bank_load s.cells.bank) command → Waits s plan command
waits_law s plan command may is answer =
    let z = sizes_in s in
    let c : Contents = contents_in s in
    let reply : None ≡ reply_to z c command = answer ∙ room_reply s command may in
    let wait : (command ≡ Take) × (c.items ≡ []) = only_takes_wait z c command (sym reply) in
    record {
      take = wait.0;
      empty = wait.1;
      same = is ∙ ap (planned s.cells s.plan) (none_written z (bank_load s.cells.bank) command (sym answer));
      reply = reply;
      contents = ap (with_items c) wait.1 ∙ sym (ap (λ (items : List ℕ). with_items c (rest_of items)) wait.1) ∙ sym (ap (contents_after z c) wait.0);
    }

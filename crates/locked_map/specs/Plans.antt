-- The plans of the commands of a map room, and the places of keys that they begin from.
use Rattle.std.specs.Prelude.{◌≡◌, ℕ, ◌<◌, Some, length}
use Rattle.seq_object.specs.declared.command.Command.{Command}
use Rattle.seq_object.specs.declared.command.Reply.{Reply}
use Rattle.seq_object.specs.Sizes.{AreValid}
use Rattle.seq_object.specs.Object.{Pairs}
use Rattle.line_memory.specs.Line.{bank_load}
use Rattle.room_model.specs.Chains.{RoomWords}
use Rattle.room_model.specs.MapRoom.{Layout, head, bucket_of, IsMapRoom}
use Rattle.room_model.specs.Writes.{node_of, node_before, writes_of, answer_of}
use Rattle.room_laws.specs.Stocks.{MapBounds}
use Rattle.incll_var.specs.Cells.{CellBankState, IsRunning}
use Rattle.incll_var.specs.Plans.{PlanState}
use Rattle.line_alloc.specs.Headers.{planned}
use Rattle.locked_map.specs.declared.find.Place.{Place}
use Rattle.seq_object.specs.declared.sizes.Sizes.{Sizes}

-- running cells that stand, by their loads, for the pairs of a shard
pub record MayPlan (layout : Layout) (z : Sizes) (cells : CellBankState) : Type 0 where
  pub shard : ℕ
  pub pairs : Pairs
  pub sizes : AreValid z
  pub running : IsRunning cells.state
  pub lines : length cells.bank.lines ≡ z.lines
  pub stands : IsMapRoom layout z shard (bank_load cells.bank) pairs

-- the place of a key in a room: its head, its node and the node before it, all of them in the room
pub record IsPlace (layout : Layout) (z : Sizes) (r : RoomWords) (key : ℕ) (place : Place) : Type 0 where
  pub head_is : place.head_line ≡ layout.head_line (bucket_of z key)
  pub word_is : place.head_word ≡ layout.head_word (bucket_of z key)
  pub first_is : place.first ≡ head layout r (bucket_of z key)
  pub node_is : place.node ≡ node_of layout z r key
  pub before_is : place.before ≡ node_before layout z r key
  pub bounds : MapBounds layout z r key
  pub word_fits : place.head_word < 3

-- the plan has the stores of a command in addition, and this is the command's reply, both by the loads of the cells
pub record IsPlanOf (layout : Layout) (z : Sizes) (cells : CellBankState) (old new : PlanState) (command : Command) (reply : Reply) : Type 0 where
  pub plan : new ≡ planned cells old (writes_of layout z (bank_load cells.bank) command)
  pub answer : answer_of layout z (bank_load cells.bank) command ≡ Some reply

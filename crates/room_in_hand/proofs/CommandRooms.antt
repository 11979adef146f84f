-- A room of commands in hand, by its state: what it stands for, and what stays known of it where a call leaves its memory.
use Rattle.std.proofs.Common.{◌≡◌, ℕ, ◌+◌, ◌*◌, ◌≤◌, ◌<◌, false, cond, List, length, ap, sym, ◌∙◌, subst, arith}
use Rattle.std.specs.Prelude.{nat_lt}
use Rattle.seq_object.specs.declared.history.Noted.{Noted}
use Rattle.seq_object.specs.declared.sizes.Sizes.{Sizes}
use Rattle.seq_object.specs.Sizes.{sizes_of, super_room}
use Rattle.seq_object.specs.Object.{Contents, part_of}
use Rattle.room_model.specs.Chains.{RoomWords}
use Rattle.room_model.specs.MapRoom.{live_layout}
use Rattle.room_model.specs.Rooms.{StandsFor, point_in}
use Rattle.room_model.specs.Banks.{memory_words}
use Rattle.room_model.specs.Walks.{contents_of}
use Rattle.room_laws.proofs.MapLaws.{layouts}
use Rattle.room_laws.proofs.OneContents.{contents}
use Rattle.command_room.specs.Room.{CommandRoomState, IsCommandRoom, words_of, sizes_in, contents_in}
use Rattle.command_room.proofs.Plannings.{whole_stands}
use Rattle.locked_map.specs.Room.{IsMap}
use Rattle.locked_queue.specs.Queue.{IsQueue}
use Rattle.rooms.specs.declared.room.Room.{Room}
use Rattle.rooms.specs.declared.room.Room.TheVariants.{Map, Queue}
use Rattle.rooms.specs.Rooms.{history_of, state_of}
use Rattle.yard_model.specs.Homes.{free_bound, position_bound}
use Rattle.room_in_hand.specs.Known.{Knowledge}
use Rattle.room_in_hand.specs.InHand.{KeepsRoom}
use Rattle.room_in_hand.proofs.Moves.{le_true}

-- a room of commands of the number that is known
pub record IsNumbered (k : Knowledge) (s : CommandRoomState) : Type 0 where
  pub whole : IsCommandRoom s
  pub low : k.room ≤ k.settings.shards
  pub number : s.room ≡ k.room
  pub settings : s.settings ≡ k.settings

pub map_numbered : (k : Knowledge) (s : CommandRoomState) → KeepsRoom k (Map s) → IsNumbered k s
map_numbered k s was = record { whole = was.whole.room; low = (let l = was.room.kind.0 in omega (arith, l)); number = was.room.kind.1; settings = was.room.kind.2 }

pub queue_numbered : (k : Knowledge) (s : CommandRoomState) → KeepsRoom k (Queue s) → IsNumbered k s
queue_numbered k s was = record { whole = was.whole.room; low = (let l = was.room.kind.0 in omega (arith, l)); number = was.room.kind.1; settings = was.room.kind.2 }

module _ (k : Knowledge) (s : CommandRoomState) (own : IsNumbered k s) where
  pub same_sizes : sizes_in s ≡ sizes_of k.settings
  same_sizes = ap sizes_of own.settings

  pub some_shards : 0 < (sizes_of k.settings).shards
  some_shards = subst (λ (z : Sizes). 0 < z.shards) same_sizes (let e = own.whole.sizes.some_shards in omega (arith, e))

  -- what it holds is its part of what it stands for
  pub part_here : (c : Contents) → StandsFor live_layout (sizes_of k.settings) k.room (words_of s) c → contents_in s ≡ part_of (sizes_of k.settings) k.room c
  part_here c stands =
      ap (λ (z : Sizes). contents_of live_layout z s.room (words_of s)) same_sizes
      ∙ ap (λ (r : ℕ). contents_of live_layout (sizes_of k.settings) r (words_of s)) own.number
      ∙ contents live_layout (sizes_of k.settings) k.room (words_of s) c layouts.in_use stands

  -- and it stands for all of which it holds its part
  pub stands_here : (c : Contents) → contents_in s ≡ part_of (sizes_of k.settings) k.room c → StandsFor live_layout (sizes_of k.settings) k.room (words_of s) c
  stands_here c part = subst (λ (r : ℕ). StandsFor live_layout (sizes_of k.settings) r (words_of s) c) own.number
      (subst (λ (z : Sizes). StandsFor live_layout z s.room (words_of s) c) same_sizes
      (whole_stands s c own.whole (part ∙ sym (ap (λ (z : Sizes). part_of z k.room c) same_sizes) ∙ sym (ap (λ (r : ℕ). part_of (sizes_in s) r c) own.number))))

-- what a call leaves of a room of commands: its settings and number, what memory has of it at an epoch, and its write-backs
pub record Leaves (epoch : ℕ) (s new : CommandRoomState) : Type 0 where
  pub settings : new.settings ≡ s.settings
  pub number : new.room ≡ s.room
  pub memory : memory_words epoch new.cells.bank ≡ memory_words epoch s.cells.bank
  pub write_backs : new.cells.bank.write_backs ≡ s.cells.bank.write_backs

-- it has as many lines
same_lines : (s new : CommandRoomState) → IsCommandRoom s → IsCommandRoom new → new.settings ≡ s.settings → length new.cells.bank.lines ≡ length s.cells.bank.lines
same_lines s new was whole settings = whole.lines ∙ ap (λ z. z.lines) settings ∙ sym was.lines

-- a map room of which so much is left is kept, with the history that it has now
pub map_kept : (k : Knowledge) (h : List Noted) (now : Contents) (s new : CommandRoomState) → KeepsRoom k (Map s) → IsMap new → Leaves k.epoch s new → new.history.entries ≡ h
    → KeepsRoom (record k { history = h; now = now }) (Map new)
map_kept k h now s new was whole left history = record {
  whole = whole;
  room = record {
    kind = (was.room.kind.0, left.number ∙ was.room.kind.1, left.settings ∙ was.room.kind.2);
    lines = same_lines s new was.whole.room whole.room left.settings ∙ was.room.lines;
  };
  history = history;
  in_memory = λ low. subst (λ (r : RoomWords). StandsFor live_layout (sizes_of k.settings) k.room r k.covered) (sym left.memory) (was.in_memory low);
  point_in_memory = λ t is. ap (point_in live_layout) left.memory ∙ was.point_in_memory t is;
  no_position = was.no_position;
  no_fewer = let n = was.no_fewer in let w = left.write_backs in omega (arith, n, w);
  counted = was.counted;
}

-- so is the queue room
pub queue_kept : (k : Knowledge) (h : List Noted) (now : Contents) (s new : CommandRoomState) → KeepsRoom k (Queue s) → IsQueue new → Leaves k.epoch s new → new.history.entries ≡ h
    → KeepsRoom (record k { history = h; now = now }) (Queue new)
queue_kept k h now s new was whole left history = record {
  whole = whole;
  room = record {
    kind = (was.room.kind.0, left.number ∙ was.room.kind.1, left.settings ∙ was.room.kind.2);
    lines = same_lines s new was.whole.room whole.room left.settings ∙ was.room.lines;
  };
  history = history;
  in_memory = λ low. subst (λ (r : RoomWords). StandsFor live_layout (sizes_of k.settings) k.room r k.covered) (sym left.memory) (was.in_memory low);
  point_in_memory = λ t is. ap (point_in live_layout) left.memory ∙ was.point_in_memory t is;
  no_position = was.no_position;
  no_fewer = let n = was.no_fewer in let w = left.write_backs in omega (arith, n, w);
  counted = was.counted;
}

-- the write-backs of a room of commands are four for each of its entries
pub low_bound : (z : Sizes) (epoch closings r : ℕ) (x : Room) → r ≤ z.shards → free_bound z epoch closings false r x ≡ 4 * length (history_of x)
low_bound z epoch closings r x low =
    ap (λ b. cond b (4 * length (history_of x)) (cond (nat_lt r (super_room z)) (position_bound epoch closings (state_of x)) (closings + 0))) (le_true r z.shards low)

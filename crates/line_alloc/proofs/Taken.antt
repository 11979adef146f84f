-- The line that is taken: it lies in the room, and stands in no chain.
use Rattle.std.proofs.Common.{◌≡◌, ◌≢◌, ℕ, ◌≤◌, ◌==◌, ◌&&◌, Bool, false, sym, ap, ◌∙◌, subst, eq-eqb, if◌then◌else◌}
use Rattle.std.proofs.lemmas.Bool.{ne_eqb}
use Rattle.std.specs.Prelude.{IfOk, Result, Ok, Err}
use Rattle.line_alloc.specs.declared.refusal.TakeRefusal.{TakeRefusal}
use Rattle.room_model.specs.Chains.{RoomWords, times}
use Rattle.room_model.specs.MapRoom.{live_layout}
use Rattle.room_model.specs.Writes.{taken_line, is_full}
use Rattle.room_laws.proofs.MapLaws.{layouts}
use Rattle.room_laws.proofs.StockLaws.{map_take_law, queue_take_law, map_bounds_law, queue_bounds_law}
use Rattle.line_alloc.specs.Headers.{IsInNoChainOfMap, IsInNoChainOfQueue}
use Rattle.line_alloc.specs.Laws.{MapHasHeaderLaw, QueueHasHeaderLaw}

-- the law on the header of a map room
pub map_has_header : MapHasHeaderLaw
map_has_header z shard r pairs room = (map_bounds_law live_layout z shard r pairs 0 layouts.in_use room).header

-- the law on the header of the queue room
pub queue_has_header : QueueHasHeaderLaw
queue_has_header z r items room = (queue_bounds_law z r items room).header

-- a line that is taken of a map room is in no chain
pub taken_of_map : (lines : ℕ) (r : RoomWords) (line : ℕ) → line ≡ taken_line r → is_full lines r ≡ false → IsInNoChainOfMap lines r line
taken_of_map lines r line is some = record {
  low = λ z shard same pairs room. subst (λ (n : ℕ). live_layout.first ≤ n) (sym is) (map_take_law live_layout z shard r pairs layouts.in_use room (subst (λ (n : ℕ). is_full n r ≡ false) (sym same) some)).0.low;
  apart = λ z shard same pairs room b lt. ap (λ (n : ℕ). times n (room.chain b)) is ∙ (map_take_law live_layout z shard r pairs layouts.in_use room (subst (λ (n : ℕ). is_full n r ≡ false) (sym same) some)).1 b lt;
}

-- a line that is taken of the queue room is not in the chain
pub taken_of_queue : (lines : ℕ) (r : RoomWords) (line : ℕ) → line ≡ taken_line r → is_full lines r ≡ false → IsInNoChainOfQueue lines r line
taken_of_queue lines r line is some = record {
  low = λ z items same room. subst (λ (n : ℕ). 2 ≤ n) (sym is) (queue_take_law z r items room (subst (λ (n : ℕ). is_full n r ≡ false) (sym same) some)).0.low;
  apart = λ z items same room. ap (λ (n : ℕ). times n room.chain) is ∙ (queue_take_law z r items room (subst (λ (n : ℕ). is_full n r ≡ false) (sym same) some)).1;
}

-- where a line is free, the first free one is taken
pub free_taken : (r : RoomWords) → r 0 0 ≢ 0 → r 0 0 ≡ taken_line r
free_taken r ne = sym (ap (λ (b : Bool). if b then r 0 1 else r 0 0) (ne_eqb (r 0 0) 0 ne))

-- and there is one left
pub free_left : (lines : ℕ) (r : RoomWords) → r 0 0 ≢ 0 → is_full lines r ≡ false
free_left lines r ne = ap (λ (b : Bool). b && (r 0 1 == lines)) (ne_eqb (r 0 0) 0 ne)

-- what is taken, if a line is, is in no chain of a map room
pub taken_map : (result : Result ℕ TakeRefusal) (lines : ℕ) (r : RoomWords) (n : ℕ) → IfOk result (λ line. line ≡ n) → n ≡ taken_line r → is_full lines r ≡ false → IfOk result (IsInNoChainOfMap lines r)
taken_map (Ok line) lines r n is told some = taken_of_map lines r line (is ∙ told) some
taken_map (Err refusal) lines r n is told some = tt

-- nor in the chain of the queue room
pub taken_queue : (result : Result ℕ TakeRefusal) (lines : ℕ) (r : RoomWords) (n : ℕ) → IfOk result (λ line. line ≡ n) → n ≡ taken_line r → is_full lines r ≡ false → IfOk result (IsInNoChainOfQueue lines r)
taken_queue (Ok line) lines r n is told some = taken_of_queue lines r line (is ∙ told) some
taken_queue (Err refusal) lines r n is told some = tt

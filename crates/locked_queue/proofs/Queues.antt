-- What the queue room's words and loads stand for.
use Rattle.std.proofs.Common.{◌≡◌, ℕ, ◌-◌, ◌+◌, ◌≤◌, ◌↔◌, Bool, Some, None, length, sym, ap, ◌∙◌, subst, arith, inl, inr}
use Rattle.std.specs.Prelude.{nat_le}
use Rattle.std.proofs.lemmas.Bool.Decides.{leb_tells}
use Rattle.seq_object.specs.declared.command.Reply.TheVariants.{Full, Done}
use Rattle.seq_object.specs.Object.{Contents, enq_reply}
use Rattle.line_memory.specs.Line.{bank_load}
use Rattle.room_model.specs.Chains.{RoomWords}
use Rattle.room_model.specs.MapRoom.{live_layout}
use Rattle.room_model.specs.QueueRoom.{IsQueueRoom}
use Rattle.room_model.specs.Rooms.{StandsFor}
use Rattle.room_laws.specs.Stocks.{QueueBounds, HeaderSays}
use Rattle.room_laws.proofs.Standing.{queue_of}
use Rattle.room_laws.proofs.StockLaws.{queue_bounds_law, queue_header_law}
use Rattle.incll_var.specs.Cells.{IsRunning}
use Rattle.command_room.specs.Room.{words_of, sizes_in, contents_in, CommandRoomState}
use Rattle.locked_queue.specs.Queue.{IsQueue, items_in}
use Rattle.planned_cells.proofs.Rests.{rest_words}
use Rattle.command_room.proofs.Plannings.{ready_rests}
use Rattle.locked_queue.specs.Laws.{ItemsLaw, FullLaw}

-- the law on the items
pub items_stand : ItemsLaw
items_stand s queue =
    let z = sizes_in s in
    let c : Contents = contents_in s in
    queue_of live_layout z (words_of s) c (subst (λ (n : ℕ). StandsFor live_layout z n (words_of s) c) queue.number queue.room.stands)

-- the words of a room that may begin a command are its loads
pub ready_words : (s : CommandRoomState) → IsQueue s → IsRunning s.cells.state → s.under_way ≡ None → words_of s ≡ bank_load s.cells.bank
ready_words s queue running idle = rest_words s.cells s.plan (ready_rests s queue.room running idle)

-- the words of a room that may begin a command name lines of the room
pub bounds_law : (s : CommandRoomState) → IsQueue s → IsRunning s.cells.state → s.under_way ≡ None → QueueBounds (sizes_in s) (bank_load s.cells.bank)
bounds_law s queue running idle =
    let stands : IsQueueRoom (sizes_in s) (bank_load s.cells.bank) (items_in s) = subst (λ (q : RoomWords). IsQueueRoom (sizes_in s) q (items_in s)) (ready_words s queue running idle) (items_stand s queue) in
    queue_bounds_law (sizes_in s) (bank_load s.cells.bank) (items_in s) stands

-- so many items are answered full exactly where they are all that fit
full_tells : (n lines : ℕ) → n + 2 ≤ lines → (Some (enq_reply (nat_le (lines - 2) n)) ≡ Some Full) ↔ (n ≡ lines - 2)
full_tells n lines fits = elim (leb_tells (lines - 2) n) [
  | inl h ↦ let more = h.1 in (λ full. omega (arith, more, fits), λ is. ap (λ (b : Bool). Some (enq_reply b)) h.0)
  | inr h ↦ let fewer = h.1 in (λ full. absurd (let done : Some Done ≡ Some Full = sym (ap (λ (b : Bool). Some (enq_reply b)) h.0) ∙ full in cc), λ is. absurd (omega (arith, fewer, is)))
]

-- the law on full queues
pub full_queue : FullLaw
full_queue s value queue =
    let header : HeaderSays 2 (sizes_in s) (length (items_in s)) (words_of s) = queue_header_law (sizes_in s) (words_of s) (items_in s) (items_stand s queue) in
    let held = header.held_fits in
    let fresh = header.fresh_fits in
    full_tells (length (items_in s)) s.settings.lines (omega (arith, held, fresh))

-- The rows of the queue, from their parts.
use Rattle.std.proofs.Common.{◌≡◌, ℕ, ◌+◌, ◌-◌, ◌≤◌, ◌==◌, zero, suc, Bool, true, false, Some, None, List, [], ◌∷◌, ◌++◌, map, length, arith, refl, ap, sym, ◌∙◌, subst, if◌then◌else◌, eq-eqb}
use Rattle.std.specs.Prelude.{nat_le}
use Rattle.std.proofs.lemmas.Bool.Decides.{nat_tests}
use Rattle.std.proofs.lemmas.Bool.{ne_eqb}
use Rattle.std.proofs.lemmas.List.{length-map}
use Rattle.seq_object.specs.declared.command.Reply.TheVariants.{Full, Done, Found, Empty}
use Rattle.seq_object.specs.Object.{is_queue_full, enq_reply, deq_reply, take_reply, rest_of}
use Rattle.room_model.specs.Chains.{IsChain, RoomWords}
use Rattle.room_model.specs.Writes.{written, is_full, enq_room, deq_item, deq_writes, enq_writes}
use Rattle.room_model.specs.QueueRoom.{IsQueueRoom}
use Rattle.room_model.specs.Walks.{items_from}
use Rattle.room_laws.specs.QueueRows.{EnqLaw, QueueFullLaw, DeqLaw, DeqEmptyLaw}
use Rattle.room_laws.specs.Rooms.{QueueItemsLaw}
use Rattle.room_laws.proofs.Stock.{full_tells, stock_size}
use Rattle.room_laws.proofs.Tests.{by_test, by_Bool}
use Rattle.room_laws.proofs.Queues.{stock_of_queue, enq_puts_last, enq_room_law, has_first, takes_first, deq_item_law, no_first}
use Rattle.seq_object.specs.declared.sizes.Sizes.{Sizes}

-- the law on an item at the back
pub enq_law : EnqLaw
enq_law z r items value room space = enq_room_law z r (written r (enq_room r value)) items value room space (enq_puts_last z r items value room space)

-- there are as many items as lines in the chain
pub items_length : (z : Sizes) (r : RoomWords) (items : List ℕ) (room : IsQueueRoom z r items) → length items ≡ length room.chain
items_length z r items room = ap (λ (xs : List ℕ). length xs) room.listed ∙ length-map room.chain (λ x. r x 0)

-- the law on a full queue room
pub queue_full_law : QueueFullLaw
queue_full_law z r items room =
    let size = items_length z r items room in
    let all = stock_size 2 z room.chain room.free r (stock_of_queue z r items room) in
    let high = room.high in
    full_tells 2 z room.chain room.free r (stock_of_queue z r items room) ∙ same_tests (length room.chain) (length items) z.lines size (omega (arith, all, high))
  where
    same_tests : (a b l : ℕ) → b ≡ a → a + 2 ≤ l → (a + 2 == l) ≡ nat_le (l - 2) b
    same_tests a b l e le = grind (arith, nat_tests)

-- the law on the front item
pub deq_law : DeqLaw
deq_law z r items room some = deq_item_law z r (written r (deq_item r)) items room some (takes_first r (has_first z r items room some).low)

-- the law on an empty queue room
pub deq_empty_law : DeqEmptyLaw
deq_empty_law z r items room none = no_first z r items room none

-- an item at the back, on all rows
pub enq_after : (z : Sizes) (r : RoomWords) (items : List ℕ) (value : ℕ) → IsQueueRoom z r items
    → IsQueueRoom z (written r (enq_writes z r value)) (if is_queue_full z items then items else items ++ value ∷ [])
enq_after z r items value room =
    subst (λ (b : Bool). IsQueueRoom z (written r (if is_full z.lines r then [] else enq_room r value)) (if b then items else items ++ value ∷ [])) (queue_full_law z r items room)
    (by_Bool (λ b. IsQueueRoom z (written r (if b then [] else enq_room r value)) (if b then items else items ++ value ∷ [])) (is_full z.lines r) (λ full. room) (λ space. enq_law z r items value room space))

-- the front item taken off, on all rows
pub deq_after : (z : Sizes) (r : RoomWords) (items : List ℕ) → IsQueueRoom z r items → IsQueueRoom z (written r (deq_writes r)) (rest_of items)
deq_after z r items room =
    by_test (λ b. IsQueueRoom z (written r (if b then [] else deq_item r)) (rest_of items)) (r 1 0) 0
    (λ none. let empty = no_first z r items room none in subst (IsQueueRoom z r) (empty ∙ sym (ap rest_of empty)) room)
    (λ some. (deq_law z r items room some).0)

-- a reply to a full queue or another, by whether it is full
back_reply : (b : Bool) → (if b then Full else Done) ≡ enq_reply b
back_reply true = refl
back_reply false = refl

-- the answer to an item at the back is the reply
pub enq_answer : (z : Sizes) (r : RoomWords) (items : List ℕ) → IsQueueRoom z r items → Some (if is_full z.lines r then Full else Done) ≡ Some (enq_reply (is_queue_full z items))
enq_answer z r items room = ap Some (back_reply (is_full z.lines r) ∙ ap enq_reply (queue_full_law z r items room))

-- the answer to taking the front item off is the reply
pub deq_answer : (z : Sizes) (r : RoomWords) (items : List ℕ) → IsQueueRoom z r items → Some (if r 1 0 == 0 then Empty else Found (r (r 1 0) 0)) ≡ Some (deq_reply items)
deq_answer z r items room =
    by_test (λ b. Some (if b then Empty else Found (r (r 1 0) 0)) ≡ Some (deq_reply items)) (r 1 0) 0
    (λ none. ap Some (sym (ap deq_reply (no_first z r items room none))))
    (λ some. ap Some (sym (ap deq_reply (deq_law z r items room some).1)))

-- and to a take, which has none where the queue is empty
pub take_answer : (z : Sizes) (r : RoomWords) (items : List ℕ) → IsQueueRoom z r items → (if r 1 0 == 0 then None else Some (Found (r (r 1 0) 0))) ≡ take_reply items
take_answer z r items room =
    by_test (λ b. (if b then None else Some (Found (r (r 1 0) 0))) ≡ take_reply items) (r 1 0) 0
    (λ none. sym (ap take_reply (no_first z r items room none)))
    (λ some. sym (ap take_reply (deq_law z r items room some).1))

-- the walk over a chain gives its values
pub walked : (r : RoomWords) (fuel start : ℕ) (xs : List ℕ) → IsChain (λ x. r x 1) start xs → length xs ≤ fuel → items_from r fuel start ≡ map (λ x. r x 0) xs
walked r zero start [] chain fits = refl
walked r zero start (x ∷ xs) chain fits = absurd (omega arith)
walked r (suc fuel) start [] chain fits = ap (λ (b : Bool). if b then [] else r start 0 ∷ items_from r fuel (r start 1)) (eq-eqb start 0 chain)
walked r (suc fuel) start (x ∷ xs) chain fits =
    let rest : items_from r fuel (r x 1) ≡ map (λ y. r y 0) xs = walked r fuel (r x 1) xs chain.2 (omega arith) in
    ap (items_from r (suc fuel)) chain.0 ∙ ap (λ (b : Bool). if b then [] else r x 0 ∷ items_from r fuel (r x 1)) (ne_eqb x 0 chain.1) ∙ ap (λ (ys : List ℕ). r x 0 ∷ ys) rest

-- the law on the items of the queue room
pub queue_items_law : QueueItemsLaw
queue_items_law z r items room =
    let size = stock_size 2 z room.chain room.free r (stock_of_queue z r items room) in
    let high = room.high in
    walked r z.lines (r 1 0) room.chain room.chained (omega (arith, size, high)) ∙ sym room.listed

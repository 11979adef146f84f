-- The writes of a command go to record words of lines of its room.
use Rattle.std.proofs.Common.{◌≡◌, ℕ, ◌+◌, ◌-◌, ◌<◌, ◌≢◌, ◌==◌, false, List, [], ◌∷◌, ◌++◌, arith, ap, if◌then◌else◌}
use Rattle.seq_object.specs.Object.{Pairs}
use Rattle.room_model.specs.Chains.{IsChain, times, RoomWords}
use Rattle.room_model.specs.Writes.{write, taken_line, is_full, take_write, give_writes, link_writes, unlink_write, node_of, node_before, put_absent, put_present, del_present, enq_room, deq_item, deq_writes, put_writes, del_writes, enq_writes, AreWithin}
use Rattle.room_model.specs.MapRoom.{Layout, IsLayout, bucket_of, IsMapRoom}
use Rattle.room_model.specs.QueueRoom.{last_line, IsQueueRoom}
use Rattle.room_laws.specs.Stocks.{IsNodeLine}
use Rattle.room_laws.proofs.Lists.{times-append}
use Rattle.room_laws.proofs.Stock.{held_node}
use Rattle.room_laws.proofs.Maps.{bucket_below}
use Rattle.room_laws.proofs.Queues.{stock_of_queue, has_first}
use Rattle.room_laws.proofs.MapLaws.{node_there, before_there}
use Rattle.room_laws.proofs.Dels.{last_in}
use Rattle.room_laws.proofs.StockLaws.{map_take_law, queue_take_law}
use Rattle.room_laws.proofs.Tests.{by_test, by_Bool}
use Rattle.seq_object.specs.declared.sizes.Sizes.{Sizes}

-- the write that takes a line is one of the header
take_within : (z : Sizes) (r : RoomWords) → 0 < z.lines → ((take_write r).line < z.lines) × ((take_write r).word < 3)
take_within z r pos = by_Bool (λ b. ((if b then write 0 1 (r 0 1 + 1) else write 0 0 (r (r 0 0) 0)).line < z.lines) × ((if b then write 0 1 (r 0 1 + 1) else write 0 0 (r (r 0 0) 0)).word < 3)) (r 0 0 == 0) (λ e. (pos, omega arith)) (λ e. (pos, omega arith))

-- a put
pub put_within : (layout : Layout) (z : Sizes) (shard : ℕ) (r : RoomWords) (pairs : Pairs) (key value : ℕ) → IsLayout layout → IsMapRoom layout z shard r pairs → AreWithin z.lines (put_writes layout z r key value)
put_within layout z shard r pairs key value laid room =
    by_test (λ b. AreWithin z.lines (if b then (if is_full z.lines r then [] else put_absent layout z r key value) else put_present (node_of layout z r key) value)) (node_of layout z r key) 0
    (λ none. by_Bool (λ b. AreWithin z.lines (if b then [] else put_absent layout z r key value)) (is_full z.lines r) (λ full. tt) (λ space. absent_within space))
    (λ some. let n = (node_there layout z shard r pairs key laid room some).1 in let high = room.high in (omega (arith, n, high), omega arith, tt))
  where
    absent_within : is_full z.lines r ≡ false → AreWithin z.lines (put_absent layout z r key value)
    absent_within space =
        let b = bucket_of z key in
        let below = bucket_below z key in
        let pos = laid.low b below in
        let first = laid.high b below in
        let node : IsNodeLine layout.first z (taken_line r) = (map_take_law layout z shard r pairs laid room space).0 in
        let low = node.low in
        let high : taken_line r < z.lines = node.high in
        let header = take_within z r (omega (arith, high)) in
        (header.0, header.1, (high, omega arith, (high, omega arith, (high, omega arith, (omega (arith, first, low, high), laid.word b below, (omega (arith, high), omega arith, tt))))))

-- a removal
pub del_within : (layout : Layout) (z : Sizes) (shard : ℕ) (r : RoomWords) (pairs : Pairs) (key : ℕ) → IsLayout layout → IsMapRoom layout z shard r pairs → AreWithin z.lines (del_writes layout z r key)
del_within layout z shard r pairs key laid room =
    by_test (λ b. AreWithin z.lines (if b then [] else del_present layout r (bucket_of z key) (node_before layout z r key) (node_of layout z r key))) (node_of layout z r key) 0 (λ none. tt)
    (λ some. let n = (node_there layout z shard r pairs key laid room some).1 in let high = room.high in let u = unlink_within some in
    (u.0, u.1, (omega (arith, n, high), omega arith, (omega (arith, n, high), omega arith, (omega (arith, n, high), omega arith, tt)))))
  where
    unlink_within : node_of layout z r key ≢ 0
        → ((unlink_write layout r (bucket_of z key) (node_before layout z r key) (node_of layout z r key)).line < z.lines) × ((unlink_write layout r (bucket_of z key) (node_before layout z r key) (node_of layout z r key)).word < 3)
    unlink_within some =
        let b = bucket_of z key in
        let n = node_of layout z r key in
        let before = node_before layout z r key in
        let below = bucket_below z key in
        let first = laid.high b below in
        let low = room.low in
        let high = room.high in
        by_test (λ q. ((if q then write (layout.head_line b) (layout.head_word b) (r n 2) else write before 2 (r n 2)).line < z.lines) × ((if q then write (layout.head_line b) (layout.head_word b) (r n 2) else write before 2 (r n 2)).word < 3)) before 0
        (λ at_head. (omega (arith, first, low, high), laid.word b below))
        (λ there. let p = (before_there layout z shard r pairs key laid room some there).1 in (omega (arith, p, high), omega arith))

-- an item at the back
pub enq_within : (z : Sizes) (r : RoomWords) (items : List ℕ) (value : ℕ) → (room : IsQueueRoom z r items) → is_full z.lines r ≡ false → AreWithin z.lines (enq_room r value)
enq_within z r items value room space =
    let taken = queue_take_law z r items room space in
    let node : IsNodeLine 2 z (taken_line r) = taken.0 in
    let low = node.low in
    let high : taken_line r < z.lines = node.high in
    let header = take_within z r (omega (arith, high)) in
    (header.0, header.1, (high, omega arith, (high, omega arith, linked (omega (arith, low, high)) taken.1)))
  where
    last_high : r 1 0 ≢ 0 → times (taken_line r) room.chain ≡ 0 → r 1 1 < r 0 1
    last_high some out = in_chain room.chain room.chained room.last (λ x t. (held_node 2 z room.chain room.free r (stock_of_queue z r items room) x t).1)
      where
        in_chain : (xs : List ℕ) → IsChain (λ x. r x 1) (r 1 0) xs → r 1 1 ≡ last_line 0 xs → ((x : ℕ) → 0 < times x xs → x < r 0 1) → r 1 1 < r 0 1
        in_chain [] chain last below = absurd (some chain)
        in_chain (x ∷ xs) chain last below =
            let there = last_in x xs [] in
            let nothing = times-append (last_line x xs) (x ∷ xs) [] in
            below (r 1 1) (let e = ap (λ (k : ℕ). times k (x ∷ xs)) last in omega (arith, there, nothing, e))

    linked : 2 < z.lines → times (taken_line r) room.chain ≡ 0 → AreWithin z.lines (link_writes r (taken_line r) ++ write 0 2 (r 0 2 + 1) ∷ [])
    linked two out =
        let high = room.high in
        by_test (λ b. AreWithin z.lines ((if b then write 1 0 (taken_line r) ∷ write 1 1 (taken_line r) ∷ [] else write (r 1 1) 1 (taken_line r) ∷ write 1 1 (taken_line r) ∷ []) ++ write 0 2 (r 0 2 + 1) ∷ [])) (r 1 0) 0
        (λ none. (omega (arith, two), omega arith, (omega (arith, two), omega arith, (omega (arith, two), omega arith, tt))))
        (λ some. let l = last_high some out in (omega (arith, l, high), omega arith, (omega (arith, two), omega arith, (omega (arith, two), omega arith, tt))))

-- the front item taken off
pub deq_within : (z : Sizes) (r : RoomWords) (items : List ℕ) → (room : IsQueueRoom z r items) → AreWithin z.lines (deq_writes r)
deq_within z r items room =
    by_test (λ b. AreWithin z.lines (if b then [] else deq_item r)) (r 1 0) 0 (λ none. tt)
    (λ some. let f = has_first z r items room some in let low = f.low in let high = f.high in let top = room.high in
    by_test (λ b. AreWithin z.lines ((if b then write 1 0 (r (r 1 0) 1) ∷ write 1 1 0 ∷ [] else write 1 0 (r (r 1 0) 1) ∷ []) ++ give_writes r (r 1 0) ++ write 0 2 (r 0 2 - 1) ∷ [])) (r (r 1 0) 1) 0
    (λ last. (omega (arith, low, high, top), omega arith, (omega (arith, low, high, top), omega arith, given (omega (arith, low, high, top)) (omega (arith, low, high, top)))))
    (λ more. (omega (arith, low, high, top), omega arith, given (omega (arith, low, high, top)) (omega (arith, low, high, top)))))
  where
    given : 0 < z.lines → r 1 0 < z.lines → AreWithin z.lines (write (r 1 0) 0 (r 0 0) ∷ write 0 0 (r 1 0) ∷ write 0 2 (r 0 2 - 1) ∷ [])
    given pos lt = (lt, omega arith, (pos, omega arith, (pos, omega arith, tt)))

-- an item at the back, on all rows
pub enq_rows_within : (z : Sizes) (r : RoomWords) (items : List ℕ) (value : ℕ) → IsQueueRoom z r items → AreWithin z.lines (enq_writes z r value)
enq_rows_within z r items value room = by_Bool (λ b. AreWithin z.lines (if b then [] else enq_room r value)) (is_full z.lines r) (λ full. tt) (λ space. enq_within z r items value room space)

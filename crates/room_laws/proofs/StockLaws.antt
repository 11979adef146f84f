-- The laws on what a room takes, on headers, and on the walk for a key.
use Rattle.std.proofs.Common.{◌≡◌, ℕ, ◌+◌, ◌<◌, ◌≤◌, ◌≢◌, zero, suc, List, [], ◌∷◌, length, arith, ap, sym, ◌∙◌, subst, inl, inr, length-append}
use Rattle.std.proofs.lemmas.Bool.Decides.{eqb_tells}
use Rattle.std.specs.FinMap.{len}
use Rattle.room_model.specs.Chains.{IsChain, times, RoomWords}
use Rattle.room_model.specs.Writes.{taken_line, node_of, node_before}
use Rattle.room_model.specs.MapRoom.{head, bucket_of}
use Rattle.room_model.specs.QueueRoom.{last_line}
use Rattle.room_model.specs.Walks.{IsWalk}
use Rattle.room_laws.specs.Stocks.{MapTakeLaw, QueueTakeLaw, HeaderSays, MapHeaderLaw, QueueHeaderLaw, WalkLaw, MapBoundsLaw, QueueBoundsLaw}
use Rattle.room_laws.proofs.Totals.{total-part}
use Rattle.room_laws.proofs.Lists.{times-append, times-here}
use Rattle.room_laws.proofs.Stock.{IsStock, IsTaken, take, stock_size, fresh_after, free_after, free_node, held_node}
use Rattle.room_laws.proofs.Keys.{joined, times-joined, length-joined}
use Rattle.room_laws.proofs.Maps.{bucket_below, stock_of, chain_node, chain_length, map_size}
use Rattle.room_laws.proofs.Queues.{stock_of_queue, enq_taken, has_first}
use Rattle.room_laws.proofs.QueueLaws.{items_length}
use Rattle.room_laws.proofs.MapLaws.{key_node, node_there, before_there}
use Rattle.room_laws.proofs.Dels.{last_in}
use Rattle.seq_object.specs.declared.sizes.Sizes.{Sizes}

-- the law on the line that a map room takes
pub map_take_law : MapTakeLaw
map_take_law layout z shard r pairs laid room space =
    let taken : IsTaken layout.first z (joined room.chain 8) r (taken_line r) (fresh_after r) (free_after r) = take layout.first z (joined room.chain 8) room.free r (stock_of layout z shard r pairs laid room) space in
    let low = taken.line_high in
    let high = taken.fresh_high in (
      record { low = taken.line_low; high = omega (arith, low, high) },
      λ b lt. let part = total-part (λ d. times (taken_line r) (room.chain d)) b 8 lt in let sum = times-joined (taken_line r) room.chain 8 in let none = taken.held_apart in omega (arith, part, sum, none),
    )

-- the law on the line that the queue room takes
pub queue_take_law : QueueTakeLaw
queue_take_law z r items room space =
    let taken = enq_taken z r items room space in
    let low = taken.line_high in
    let high = taken.fresh_high in
    (record { low = taken.line_low; high = omega (arith, low, high) }, taken.held_apart)

-- what a header says of a stock
header_says : (first : ℕ) (z : Sizes) (n : ℕ) (held free : List ℕ) (r : RoomWords) → IsStock first z held free r → n ≡ length held → r 0 2 ≡ length held → HeaderSays first z n r
header_says first z n held free r stock size count = record {
  count = count ∙ sym size;
  held_fits = let s = stock_size first z held free r stock in omega (arith, s, size);
  fresh_fits = stock.high;
  free_low = λ some. (first_free some).0;
  free_high = λ some. (first_free some).1;
}
  where
    in_list : (xs : List ℕ) → IsChain (λ x. r x 0) (r 0 0) xs → r 0 0 ≢ 0 → 0 < times (r 0 0) xs
    in_list [] chain some = absurd (some chain)
    in_list (x ∷ xs) chain some = let h = times-here x xs in let e = ap (λ (k : ℕ). times k (x ∷ xs)) chain.0 in omega (arith, h, e)

    first_free : r 0 0 ≢ 0 → (first ≤ r 0 0) × (r 0 0 < r 0 1)
    first_free some = free_node first z held free r stock (r 0 0) (in_list free stock.freed some)

-- the law on a map room's header
pub map_header_law : MapHeaderLaw
map_header_law layout z shard r pairs laid room =
    header_says layout.first z (len pairs) (joined room.chain 8) room.free r (stock_of layout z shard r pairs laid room) (map_size layout z shard r pairs room)
    (room.count ∙ sym (length-joined room.chain 8))

-- the law on the queue room's header
pub queue_header_law : QueueHeaderLaw
queue_header_law z r items room = header_says 2 z (length items) room.chain room.free r (stock_of_queue z r items room) (items_length z r items room) room.count

-- the words that name lines name lines of the room
pub queue_bounds_law : QueueBoundsLaw
queue_bounds_law z r items room = record {
  header = record { free = by_zero (r 0 0) (λ some. (header.free_low some)) (λ some. header.free_high some); fresh = room.high };
  two = let l = room.low in let h = room.high in omega (arith, l, h);
  first = by_zero (r 1 0) (λ some. (has_first z r items room some).low) (λ some. (has_first z r items room some).high);
  last = last_fits room.chain room.last (λ x t. (held_node 2 z room.chain room.free r (stock_of_queue z r items room) x t).1);
  count = let a = header.count in let b = header.held_fits in let c = header.fresh_fits in omega (arith, a, b, c);
  some = λ there. let f = (has_first z r items room there).is in let c = room.count in let l : length room.chain ≡ length (r 1 0 ∷ (has_first z r items room there).rest) = ap (λ (xs : List ℕ). length xs) f in omega (arith, c, l);
}
  where
    header : HeaderSays 2 z (length items) r
    header = queue_header_law z r items room

    by_zero : (n : ℕ) → (n ≢ 0 → 2 ≤ n) → (n ≢ 0 → n < r 0 1) → n < z.lines
    by_zero n low high = let l = room.low in let h = room.high in elim (eqb_tells n 0) [ inl e ↦ let none = e.1 in omega (arith, none, l, h) | inr e ↦ let t = high e.1 in omega (arith, t, h) ]

    last_fits : (xs : List ℕ) → r 1 1 ≡ last_line 0 xs → ((x : ℕ) → 0 < times x xs → x < r 0 1) → r 1 1 < z.lines
    last_fits [] is below = let l = room.low in let h = room.high in omega (arith, is, l, h)
    last_fits (x ∷ xs) is below =
        let there = last_in x xs [] in
        let nothing = times-append (last_line x xs) (x ∷ xs) [] in
        let lt = below (last_line x xs) (omega (arith, there, nothing)) in
        let h = room.high in
        omega (arith, is, lt, h)

-- what a key leads to lies in the room
pub map_bounds_law : MapBoundsLaw
map_bounds_law layout z shard r pairs key laid room =
    let b = bucket_of z key in
    let below : b < 8 = bucket_below z key in
    let first = laid.high b below in
    let low = room.low in
    let high = room.high in
    let header : HeaderSays layout.first z (len pairs) r = map_header_law layout z shard r pairs laid room in
    let count = header.count in
    let fits = header.held_fits in
    record {
      header = record { free = or_zero (r 0 0) (omega (arith, first, low, high)) (λ some. let f = header.free_high some in omega (arith, f, high)); fresh = high };
      count = omega (arith, count, fits, high);
      head = omega (arith, first, low, high);
      node = or_zero (node_of layout z r key) (omega (arith, first, low, high)) (λ some. let n = (node_there layout z shard r pairs key laid room some).1 in omega (arith, n, high));
      before = λ some. or_zero (node_before layout z r key) (omega (arith, first, low, high)) (λ there. let n = (before_there layout z shard r pairs key laid room some there).1 in omega (arith, n, high));
      some = λ some. counted some below;
    }
  where
    or_zero : (n : ℕ) → 0 < z.lines → (n ≢ 0 → n < z.lines) → n < z.lines
    or_zero n pos some = elim (eqb_tells n 0) [ inl e ↦ let none = e.1 in omega (arith, none, pos) | inr e ↦ some e.1 ]

    counted : node_of layout z r key ≢ 0 → bucket_of z key < 8 → 0 < r 0 2
    counted some below =
        let at = key_node layout z shard r pairs key laid room some in
        let split : length (room.chain (bucket_of z key)) ≡ length at.front + length (node_of layout z r key ∷ at.back) = ap (λ (xs : List ℕ). length xs) at.is ∙ length-append at.front (node_of layout z r key ∷ at.back) in
        let part = total-part (λ c. length (room.chain c)) (bucket_of z key) 8 below in
        let all = room.count in
        omega (arith, split, part, all)

-- a walk over a chain of the room's lines
walk : (r : RoomWords) (lines fuel start : ℕ) (xs : List ℕ) → IsChain (λ x. r x 2) start xs → ((x : ℕ) → 0 < times x xs → x < lines) → length xs ≤ fuel → IsWalk r lines fuel start
walk r lines zero start [] chain within fits = chain
walk r lines zero start (x ∷ xs) chain within fits = absurd (omega arith)
walk r lines (suc fuel) start [] chain within fits = λ some. absurd (some chain)
walk r lines (suc fuel) start (x ∷ xs) chain within fits =
    let here = times-here x xs in
    let lt : x < lines = within x (omega (arith, here)) in
    let rest : IsWalk r lines fuel (r x 2) = walk r lines fuel (r x 2) xs chain.2 (λ y t. within y (omega arith)) (omega arith) in
    subst (λ (s : ℕ). s ≢ 0 → (s < lines) × IsWalk r lines fuel (r s 2)) (sym chain.0) (λ some. (lt, rest))

-- the law on the walk for a key
pub walk_law : WalkLaw
walk_law layout z shard r pairs key laid room =
    let b = bucket_of z key in
    let below = bucket_below z key in
    let high = room.high in
    walk r z.lines z.lines (head layout r b) (room.chain b) (room.chained b below) (λ x t. let n = (chain_node layout z shard r pairs room b x below t).1 in omega (arith, n, high)) (chain_length layout z shard r pairs laid room b below)

-- Rooms that were worked out by hand, and what they stand for.
use Rattle.std.proofs.Common.{◌≡◌, ◌≢◌, ℕ, ◌+◌, ◌<◌, ◌==◌, zero, suc, List, [], ◌∷◌, Some, if◌then◌else◌, refl, sym, ap, ◌∙◌, subst, arith, eq-eqb}
use Rattle.std.specs.FinMap.{empty, get, insert}
use Rattle.std.proofs.lemmas.Bool.Decides.{nat_tests}
use Rattle.seq_object.specs.Object.{shard_of}
use Rattle.room_model.specs.Chains.{RoomWords, HasSameRecords, IsChain, times, is_node}
use Rattle.room_model.specs.MapRoom.{live_layout, AreKeys, found, bucket_of}
use Rattle.room_model.specs.QueueRoom.{IsQueueRoom, last_line}
use Rattle.line_memory.specs.Line.{loaded, line_at, load_of}
use Rattle.seq_object.proofs.Pairs.{got_key}
use Rattle.room_laws.proofs.Keys.{found-here}
use Rattle.room_laws.proofs.Words.{map_words_law}
use Rattle.room_laws.proofs.StockLaws.{queue_header_law}
use Rattle.room_laws.proofs.QueueLaws.{queue_items_law}
use Rattle.life_laws.specs.CutExamples.{small, blanks, closed_with, line_of_epoch}
use Rattle.life_laws.specs.RoomExamples.{room_with, map_room, no_heads, in_bucket, in_other_bucket, in_second_bucket, two_shards, none_held, one_held, MapRoomExamples, QueueRoomExamples, LayoutExamples}
use Rattle.life_laws.proofs.Formats.{layout_in_use}
use Rattle.life_laws.proofs.Memories.{below_eight, no_nodes, no_items, one_pair, broken, chain_none, one_shard, got_five}
use Rattle.life_laws.proofs.TriedImages.{zero_word}
use Rattle.life_laws.proofs.TriedCounts.{count_none}

-- a chain does not go round
no_end : (next : ℕ → ℕ) (start : ℕ) (xs : List ℕ) → next start ≡ start → start ≢ 0 → IsChain next start xs → ⊥
no_end next start [] round some c = some c
no_end next start (x ∷ xs) round some c =
    no_end next start xs round some (subst (λ (n : ℕ). IsChain next n xs) (sym (ap next c.0) ∙ round) c.2)

-- a room with nothing in its header but fresh
abbrev empty_room : RoomWords
empty_room = map_room (0 ∷ 9 ∷ 0 ∷ []) no_heads []

-- the room with the one pair
abbrev pair_room : RoomWords
pair_room = map_room (0 ∷ 10 ∷ 1 ∷ []) in_bucket ((5 ∷ 7 ∷ 0 ∷ []) ∷ [])

-- the room with the one item
abbrev item_room : RoomWords
item_room = room_with ((0 ∷ 3 ∷ 1 ∷ []) ∷ (2 ∷ 2 ∷ []) ∷ (6 ∷ 0 ∷ []) ∷ [])

-- a key that is chained has its own bucket
wrong_bucket : (r : RoomWords) (xs : List ℕ) → r 9 0 ≡ 5 → IsChain (λ x. r x 2) 9 xs → AreKeys small 0 4 r xs → ⊥
wrong_bucket r [] five c k = absurd (omega (arith, c))
wrong_bucket r (x ∷ xs) five c k = absurd (omega (arith, k.1, ap (λ (n : ℕ). bucket_of small (r n 0)) c.0, ap (bucket_of small) five))

-- and its own shard
wrong_shard : (r : RoomWords) (xs : List ℕ) → r 9 0 ≡ 5 → IsChain (λ x. r x 2) 9 xs → AreKeys two_shards 0 2 r xs → ⊥
wrong_shard r [] five c k = absurd (omega (arith, c))
wrong_shard r (x ∷ xs) five c k = absurd (omega (arith, k.0, ap (λ (n : ℕ). shard_of two_shards (r n 0)) c.0, ap (shard_of two_shards) five))

-- a key is not chained twice
never_twice : (r : RoomWords) (xs : List ℕ) → r 9 0 ≡ 5 → r 9 2 ≡ 10 → r 10 0 ≡ 5 → IsChain (λ x. r x 2) 9 xs → AreKeys small 0 5 r xs → ⊥
never_twice r [] five next also c k = absurd (omega (arith, c))
never_twice r (x ∷ []) five next also c k = absurd (omega (arith, c.2, ap (λ (n : ℕ). r n 2) c.0, next))
never_twice r (x ∷ y ∷ ys) five next also c k =
    let second : 10 ≡ y = sym next ∙ ap (λ (n : ℕ). r n 2) c.0 ∙ c.2.0 in
    let here : found r (r x 0) (y ∷ ys) ≡ Some (r y 1) =
    found-here r (r x 0) y ys (sym (ap (λ (n : ℕ). r n 0) second) ∙ also ∙ sym five ∙ ap (λ (n : ℕ). r n 0) c.0) in
    absurd (cc (here, k.2))

-- the value of a pair that there is
held_five : get one_held 5 ≡ Some 7
held_five = got_key (insert empty 5 7) (λ k. shard_of small k == 0) 5 (eq-eqb (shard_of small 5) 0 (one_shard 5)) ∙ got_five 5

-- what holds of each record word
below_three : (P : ℕ → Type 0) → P 0 → P 1 → P 2 → (w : ℕ) → w < 3 → P w
below_three P p0 p1 p2 zero lt = p0
below_three P p0 p1 p2 (suc zero) lt = p1
below_three P p0 p1 p2 (suc (suc zero)) lt = p2
below_three P p0 p1 p2 (suc (suc (suc w))) lt = absurd (omega arith)

-- lines of zeros, and lines that are not there
none_loaded : (n k w : ℕ) → 0 ≡ loaded (line_at (blanks n) k) w
none_loaded zero k w = refl
none_loaded (suc n) zero w = sym (zero_word w)
none_loaded (suc n) (suc k) w = none_loaded n k w

-- the map room after the put
abbrev put_room : RoomWords
put_room = load_of (closed_with (line_of_epoch 1)) 0

-- its records are those of the room with the one pair
same_records : HasSameRecords pair_room put_room
same_records zero w lt = below_three (λ w. pair_room 0 w ≡ put_room 0 w) refl refl refl w lt
same_records (suc zero) w lt = below_three (λ w. pair_room 1 w ≡ put_room 1 w) refl refl refl w lt
same_records (suc (suc zero)) w lt = below_three (λ w. pair_room 2 w ≡ put_room 2 w) refl refl refl w lt
same_records (suc (suc (suc zero))) w lt = below_three (λ w. pair_room 3 w ≡ put_room 3 w) refl refl refl w lt
same_records (suc (suc (suc (suc zero)))) w lt = below_three (λ w. pair_room 4 w ≡ put_room 4 w) refl refl refl w lt
same_records (suc (suc (suc (suc (suc zero))))) w lt = below_three (λ w. pair_room 5 w ≡ put_room 5 w) refl refl refl w lt
same_records (suc (suc (suc (suc (suc (suc zero)))))) w lt = below_three (λ w. pair_room 6 w ≡ put_room 6 w) refl refl refl w lt
same_records (suc (suc (suc (suc (suc (suc (suc zero))))))) w lt = below_three (λ w. pair_room 7 w ≡ put_room 7 w) refl refl refl w lt
same_records (suc (suc (suc (suc (suc (suc (suc (suc zero)))))))) w lt = below_three (λ w. pair_room 8 w ≡ put_room 8 w) refl refl refl w lt
same_records (suc (suc (suc (suc (suc (suc (suc (suc (suc zero))))))))) w lt = below_three (λ w. pair_room 9 w ≡ put_room 9 w) refl refl refl w lt
same_records (suc (suc (suc (suc (suc (suc (suc (suc (suc (suc line)))))))))) w lt = none_loaded 6 line w

-- the clause that holds or breaks
pub maps_tried : MapRoomExamples
maps_tried = record {
  none = no_nodes empty_room refl refl refl (below_eight (λ b. empty_room (b + 1) 0 ≡ 0) refl refl refl refl refl refl refl refl);
  one = map_words_law live_layout small 0 put_room pair_room one_held layout_in_use (one_pair (line_of_epoch 1)) same_records;
  low_fresh = λ a. absurd (omega (arith, a.low));
  high_fresh = λ a. absurd (omega (arith, a.high));
  endless = λ a. no_end (λ x. map_room (0 ∷ 10 ∷ 1 ∷ []) in_bucket ((5 ∷ 7 ∷ 9 ∷ []) ∷ []) x 2) 9 (a.chain 5) refl (λ e. omega (arith, e)) (a.chained 5 (omega arith));
  endless_free = λ a. no_end (λ x. map_room (9 ∷ 10 ∷ 0 ∷ []) no_heads ((9 ∷ 0 ∷ 0 ∷ []) ∷ []) x 0) 9 a.free refl (λ e. omega (arith, e)) a.freed;
  lost = broken (map_room (0 ∷ 10 ∷ 0 ∷ []) no_heads []) none_held refl refl
      (below_eight (λ b. map_room (0 ∷ 10 ∷ 0 ∷ []) no_heads [] (b + 1) 0 ≡ 0) refl refl refl refl refl refl refl refl);
  other_bucket = λ a. wrong_bucket (map_room (0 ∷ 10 ∷ 1 ∷ []) in_other_bucket ((5 ∷ 7 ∷ 0 ∷ []) ∷ [])) (a.chain 4) refl (a.chained 4 (omega arith)) (a.keys 4 (omega arith));
  other_shard = λ a. wrong_shard (map_room (0 ∷ 10 ∷ 1 ∷ []) in_second_bucket ((5 ∷ 7 ∷ 0 ∷ []) ∷ [])) (a.chain 2) refl (a.chained 2 (omega arith)) (a.keys 2 (omega arith));
  twice = λ a. never_twice (map_room (0 ∷ 11 ∷ 2 ∷ []) in_bucket ((5 ∷ 7 ∷ 10 ∷ []) ∷ (5 ∷ 8 ∷ 0 ∷ []) ∷ [])) (a.chain 5) refl refl refl (a.chained 5 (omega arith)) (a.keys 5 (omega arith));
  other_count = λ a. absurd (omega (arith, count_none (map_room (0 ∷ 9 ∷ 1 ∷ []) no_heads []) a));
  no_node = λ a. absurd (cc (held_five, a.keyed 5, ap (found empty_room 5) (chain_none (λ x. empty_room x 2) 0 (a.chain 5) (a.chained 5 (omega arith)) refl)));
  no_pair = λ a. absurd (omega (arith, count_none pair_room a));
}

-- a chain of the one node
one_node : (r : RoomWords) (xs : List ℕ) → r 2 1 ≡ 0 → IsChain (λ x. r x 1) 2 xs → xs ≡ 2 ∷ []
one_node r [] none c = absurd (omega (arith, c))
one_node r (x ∷ []) none c = ap (λ (n : ℕ). n ∷ []) (sym c.0)
one_node r (x ∷ y ∷ ys) none c = absurd (c.2.1 (sym c.2.0 ∙ ap (λ (n : ℕ). r n 1) (sym c.0) ∙ none))

-- the queue room with the one item
one_item : IsQueueRoom small item_room (6 ∷ [])
one_item = record {
  chain = 2 ∷ [];
  free = [];
  low = omega arith;
  high = omega arith;
  chained = (refl, (λ e. omega (arith, e)), refl);
  last = refl;
  freed = refl;
  each = once;
  count = refl;
  listed = refl;
}
  where
    once : (x : ℕ) → times x (2 ∷ []) + 0 ≡ (if is_node 2 3 x then 1 else 0)
    once x = grind (arith, nat_tests)

-- the first of these items
abbrev first_item : List ℕ → ℕ
first_item [] = 0
first_item (x ∷ xs) = x

-- a room with a lost line, and one without a last line
abbrev lost_room : RoomWords
lost_room = room_with ((0 ∷ 3 ∷ 0 ∷ []) ∷ [])

abbrev open_room : RoomWords
open_room = room_with ((0 ∷ 3 ∷ 1 ∷ []) ∷ (2 ∷ 0 ∷ []) ∷ (6 ∷ 0 ∷ []) ∷ [])

-- the clause that holds or breaks
pub queues_tried : QueueRoomExamples
queues_tried = record {
  none = no_items (room_with ((0 ∷ 2 ∷ 0 ∷ []) ∷ [])) refl refl refl refl refl;
  one = one_item;
  low_fresh = λ a. absurd (omega (arith, a.low));
  high_fresh = λ a. absurd (omega (arith, a.high));
  endless = λ a. no_end (λ x. room_with ((0 ∷ 3 ∷ 1 ∷ []) ∷ (2 ∷ 2 ∷ []) ∷ (6 ∷ 2 ∷ []) ∷ []) x 1) 2 a.chain refl (λ e. omega (arith, e)) a.chained;
  no_last = λ a. absurd (omega (arith, a.last ∙ ap (last_line 0) (one_node open_room a.chain refl a.chained)));
  endless_free = λ a. no_end (λ x. room_with ((2 ∷ 3 ∷ 0 ∷ []) ∷ [] ∷ (2 ∷ 0 ∷ []) ∷ []) x 0) 2 a.free refl (λ e. omega (arith, e)) a.freed;
  lost = λ a. absurd (omega (
    arith,
    a.each 2,
    ap (times 2) (chain_none (λ x. lost_room x 1) 0 a.chain a.chained refl),
    ap (times 2) (chain_none (λ x. lost_room x 0) 0 a.free a.freed refl),
  ));
  other_count = λ a. absurd (omega (arith, (queue_header_law small (room_with ((0 ∷ 3 ∷ 2 ∷ []) ∷ (2 ∷ 2 ∷ []) ∷ (6 ∷ 0 ∷ []) ∷ [])) (6 ∷ []) a).count));
  other_item = λ a. absurd (omega (arith, ap first_item (queue_items_law small item_room (7 ∷ []) a)));
}

-- the clause that holds or breaks
pub layouts_tried : LayoutExamples
layouts_tried = record {
  in_header = λ l. absurd (omega (arith, l.low 0 (omega arith)));
  in_node = λ l. absurd (omega (arith, l.high 7 (omega arith)));
  in_backup = λ l. absurd (omega (arith, l.word 0 (omega arith)));
  one_word = λ l. absurd (omega (arith, l.apart 0 1 (omega arith) (omega arith) refl refl));
  capacity = refl;
  other_capacity = λ e. absurd (omega (arith, e));
}

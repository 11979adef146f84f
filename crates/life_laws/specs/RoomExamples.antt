-- Rooms that were worked out by hand: some that stand for their pairs or items, and for each clause one that meets the others and not it.
use Rattle.std.specs.Prelude.{ℕ, List, [], ◌∷◌, ◌++◌, map, replicate, slice_index, slice_index_or}
use Rattle.std.specs.FinMap.{empty, insert}
use Rattle.seq_object.specs.Object.{Pairs, shard_pairs}
use Rattle.seq_object.specs.declared.sizes.Sizes.{Sizes}
use Rattle.room_model.specs.Chains.{RoomWords}
use Rattle.room_model.specs.MapRoom.{IsLayout, HasCapacity, live_layout, three_heads_a_line, IsMapRoom}
use Rattle.room_model.specs.QueueRoom.{IsQueueRoom}
use Rattle.life_laws.specs.CutExamples.{small}

-- a room with these words, and 0 where there is none
abbrev pub room_with : List (List ℕ) → RoomWords
room_with lines = λ line w. slice_index (slice_index_or lines line []) w

-- a line for each of these numbers, which names it in word 0
abbrev pub naming : List ℕ → List (List ℕ)
naming next = map (λ line. line ∷ []) next

-- a map room with this header, the heads of its eight buckets, and its nodes from line 9 on
abbrev pub map_room : List ℕ → List ℕ → List (List ℕ) → RoomWords
map_room header heads nodes = room_with (header ∷ naming heads ++ nodes)

-- no node in any bucket
abbrev pub no_heads : List ℕ
no_heads = replicate 8 0

-- node 9 in bucket 5, which is that of key 5
abbrev pub in_bucket : List ℕ
in_bucket = 0 ∷ 0 ∷ 0 ∷ 0 ∷ 0 ∷ 9 ∷ 0 ∷ 0 ∷ []

-- node 9 in bucket 4
abbrev pub in_other_bucket : List ℕ
in_other_bucket = 0 ∷ 0 ∷ 0 ∷ 0 ∷ 9 ∷ 0 ∷ 0 ∷ 0 ∷ []

-- node 9 in bucket 2, which is that of key 5 where there are two shards
abbrev pub in_second_bucket : List ℕ
in_second_bucket = 0 ∷ 0 ∷ 9 ∷ 0 ∷ 0 ∷ 0 ∷ 0 ∷ 0 ∷ []

-- two shards
abbrev pub two_shards : Sizes
two_shards = record small { shards = 2 }

-- no pair
abbrev pub none_held : Pairs
none_held = shard_pairs small 0 empty

-- the pair of 7 at key 5
abbrev pub one_held : Pairs
one_held = shard_pairs small 0 (insert empty 5 7)

-- what map rooms stand for
pub record MapRoomExamples : Type 0 where
  pub none : IsMapRoom live_layout small 0 (map_room (0 ∷ 9 ∷ 0 ∷ []) no_heads []) none_held
  pub one : IsMapRoom live_layout small 0 (map_room (0 ∷ 10 ∷ 1 ∷ []) in_bucket ((5 ∷ 7 ∷ 0 ∷ []) ∷ [])) one_held
  -- fresh is below the first node line
  pub low_fresh : IsMapRoom live_layout small 0 (map_room (0 ∷ 8 ∷ 0 ∷ []) no_heads []) none_held → ⊥
  -- fresh is beyond the room's 16 lines, and lines 9 to 16 are free
  pub high_fresh : IsMapRoom live_layout small 0 (map_room (9 ∷ 17 ∷ 0 ∷ []) no_heads (naming (10 ∷ 11 ∷ 12 ∷ 13 ∷ 14 ∷ 15 ∷ 16 ∷ 0 ∷ []))) none_held → ⊥
  -- the node names itself as the next
  pub endless : IsMapRoom live_layout small 0 (map_room (0 ∷ 10 ∷ 1 ∷ []) in_bucket ((5 ∷ 7 ∷ 9 ∷ []) ∷ [])) one_held → ⊥
  -- the free line names itself as the next
  pub endless_free : IsMapRoom live_layout small 0 (map_room (9 ∷ 10 ∷ 0 ∷ []) no_heads ((9 ∷ 0 ∷ 0 ∷ []) ∷ [])) none_held → ⊥
  -- a line that was given out is in no chain
  pub lost : IsMapRoom live_layout small 0 (map_room (0 ∷ 10 ∷ 0 ∷ []) no_heads []) none_held → ⊥
  -- a key in a bucket that is not its own, and in a shard that is not
  pub other_bucket : IsMapRoom live_layout small 0 (map_room (0 ∷ 10 ∷ 1 ∷ []) in_other_bucket ((5 ∷ 7 ∷ 0 ∷ []) ∷ [])) none_held → ⊥
  pub other_shard : IsMapRoom live_layout two_shards 0 (map_room (0 ∷ 10 ∷ 1 ∷ []) in_second_bucket ((5 ∷ 7 ∷ 0 ∷ []) ∷ []))
      (shard_pairs two_shards 0 empty) → ⊥
  -- a key twice
  pub twice : IsMapRoom live_layout small 0 (map_room (0 ∷ 11 ∷ 2 ∷ []) in_bucket ((5 ∷ 7 ∷ 10 ∷ []) ∷ (5 ∷ 8 ∷ 0 ∷ []) ∷ [])) one_held → ⊥
  -- a count of one where there is no node
  pub other_count : IsMapRoom live_layout small 0 (map_room (0 ∷ 9 ∷ 1 ∷ []) no_heads []) none_held → ⊥
  -- a pair that no node has, and a node whose pair there is not
  pub no_node : IsMapRoom live_layout small 0 (map_room (0 ∷ 9 ∷ 0 ∷ []) no_heads []) one_held → ⊥
  pub no_pair : IsMapRoom live_layout small 0 (map_room (0 ∷ 10 ∷ 1 ∷ []) in_bucket ((5 ∷ 7 ∷ 0 ∷ []) ∷ [])) none_held → ⊥

-- what the queue room stands for
pub record QueueRoomExamples : Type 0 where
  pub none : IsQueueRoom small (room_with ((0 ∷ 2 ∷ 0 ∷ []) ∷ [])) []
  pub one : IsQueueRoom small (room_with ((0 ∷ 3 ∷ 1 ∷ []) ∷ (2 ∷ 2 ∷ []) ∷ (6 ∷ 0 ∷ []) ∷ [])) (6 ∷ [])
  -- fresh is below the first node line
  pub low_fresh : IsQueueRoom small (room_with ((0 ∷ 1 ∷ 0 ∷ []) ∷ [])) [] → ⊥
  -- fresh is beyond the room's 16 lines, and lines 2 to 16 are free
  pub high_fresh : IsQueueRoom small (room_with ((2 ∷ 17 ∷ 0 ∷ []) ∷ []
      ∷ naming (3 ∷ 4 ∷ 5 ∷ 6 ∷ 7 ∷ 8 ∷ 9 ∷ 10 ∷ 11 ∷ 12 ∷ 13 ∷ 14 ∷ 15 ∷ 16 ∷ 0 ∷ []))) [] → ⊥
  -- the node names itself as the next
  pub endless : IsQueueRoom small (room_with ((0 ∷ 3 ∷ 1 ∷ []) ∷ (2 ∷ 2 ∷ []) ∷ (6 ∷ 2 ∷ []) ∷ [])) (6 ∷ []) → ⊥
  -- no last line
  pub no_last : IsQueueRoom small (room_with ((0 ∷ 3 ∷ 1 ∷ []) ∷ (2 ∷ 0 ∷ []) ∷ (6 ∷ 0 ∷ []) ∷ [])) (6 ∷ []) → ⊥
  -- the free line names itself as the next
  pub endless_free : IsQueueRoom small (room_with ((2 ∷ 3 ∷ 0 ∷ []) ∷ [] ∷ (2 ∷ 0 ∷ []) ∷ [])) [] → ⊥
  -- a line that was given out is in no chain
  pub lost : IsQueueRoom small (room_with ((0 ∷ 3 ∷ 0 ∷ []) ∷ [])) [] → ⊥
  -- a count of two where there is one node
  pub other_count : IsQueueRoom small (room_with ((0 ∷ 3 ∷ 2 ∷ []) ∷ (2 ∷ 2 ∷ []) ∷ (6 ∷ 0 ∷ []) ∷ [])) (6 ∷ []) → ⊥
  -- another item than the node has
  pub other_item : IsQueueRoom small (room_with ((0 ∷ 3 ∷ 1 ∷ []) ∷ (2 ∷ 2 ∷ []) ∷ (6 ∷ 0 ∷ []) ∷ [])) (7 ∷ []) → ⊥

-- where map rooms may have their heads
pub record LayoutExamples : Type 0 where
  -- a head in the header, and one in a node line
  pub in_header : IsLayout (record live_layout { head_line = λ b. b }) → ⊥
  pub in_node : IsLayout (record live_layout { first = 8 }) → ⊥
  -- a head outside of the record words
  pub in_backup : IsLayout (record live_layout { head_word = λ b. 3 }) → ⊥
  -- all heads at one word
  pub one_word : IsLayout (record live_layout { head_line = λ b. 1 }) → ⊥
  -- the layout in use leaves seven node lines of 16, as many as a shard can hold; with three heads a line there are twelve
  pub capacity : HasCapacity live_layout small
  pub other_capacity : HasCapacity three_heads_a_line small → ⊥

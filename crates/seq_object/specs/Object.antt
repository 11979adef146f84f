-- The sequential object: a finite map, whose keys belong to shards, and a list. One command gives one reply and one next state.
use Rattle.std.specs.Prelude.{ℕ, ◌%◌, ◌==◌, ◌++◌, Bool, true, false, nat_le, if◌then◌else◌, List, [], ◌∷◌, length, Option, Some, None}
use Rattle.std.specs.Ordering.{nat_cmp}
use Rattle.std.specs.FinMap.{FinMap, empty, get, insert, remove, retain_keys, len}
use Rattle.seq_object.specs.declared.command.Command.{Command}
use Rattle.seq_object.specs.declared.command.Command.TheVariants.{Put, Get, Del, Enq, Deq, Take}
use Rattle.seq_object.specs.declared.command.Reply.{Reply}
use Rattle.seq_object.specs.declared.command.Reply.TheVariants.{New, Old, Full, Found, Gone, Absent, Done, Empty}
use Rattle.seq_object.specs.Sizes.{map_capacity, queue_capacity}
use Rattle.seq_object.specs.declared.sizes.Sizes.{Sizes}

-- keys with their values
abbrev pub Pairs : Type 0
Pairs = FinMap nat_cmp ℕ

-- what the object holds: the pairs of its map, and the items of its queue from front to back
pub record Contents : Type 0 where
  pub pairs : Pairs
  pub items : List ℕ

-- the object as it begins
abbrev pub no_contents : Contents
no_contents = record { pairs = empty; items = [] }

-- the shard that a key belongs to
abbrev pub shard_of : Sizes → ℕ → ℕ
shard_of z key = key % z.shards

-- the pairs of one shard
abbrev pub shard_pairs : Sizes → ℕ → Pairs → Pairs
shard_pairs z shard pairs = retain_keys pairs (λ key. shard_of z key == shard)

-- whether the shard of this key has as many keys as it can hold
abbrev pub is_shard_full : Sizes → ℕ → Pairs → Bool
is_shard_full z key pairs = nat_le (map_capacity z) (len (shard_pairs z (shard_of z key) pairs))

-- whether the queue has as many items as it can hold
abbrev pub is_queue_full : Sizes → List ℕ → Bool
is_queue_full z items = nat_le (queue_capacity z) (length items)

-- the reply to a put, by the old value and whether the shard is full
abbrev pub put_reply : Option ℕ → Bool → Reply
put_reply (Some old) full = Old old
put_reply None true = Full
put_reply None false = New

-- the reply to a get, by the value
abbrev pub get_reply : Option ℕ → Reply
get_reply (Some value) = Found value
get_reply None = Absent

-- the reply to a removal, by the value
abbrev pub del_reply : Option ℕ → Reply
del_reply (Some value) = Gone value
del_reply None = Absent

-- the reply to an item at the back, by whether the queue is full
abbrev pub enq_reply : Bool → Reply
enq_reply true = Full
enq_reply false = Done

-- the reply to taking the front item off, by the items
abbrev pub deq_reply : List ℕ → Reply
deq_reply [] = Empty
deq_reply (item ∷ items) = Found item

-- a take waits where the queue is empty: it has no reply then
abbrev pub take_reply : List ℕ → Option Reply
take_reply [] = None
take_reply (item ∷ items) = Some (Found item)

-- a command that never waits: any but a take
abbrev pub IsTakeless : Command → Type 0
IsTakeless (Put key value) = Unit {0}
IsTakeless (Get key) = Unit {0}
IsTakeless (Del key) = Unit {0}
IsTakeless (Enq value) = Unit {0}
IsTakeless Deq = Unit {0}
IsTakeless Take = ⊥

-- the reply to a command; none exactly at a take where the queue is empty
abbrev pub reply_to : Sizes → Contents → Command → Option Reply
reply_to z c (Put key value) = Some (put_reply (get c.pairs key) (is_shard_full z key c.pairs))
reply_to z c (Get key) = Some (get_reply (get c.pairs key))
reply_to z c (Del key) = Some (del_reply (get c.pairs key))
reply_to z c (Enq value) = Some (enq_reply (is_queue_full z c.items))
reply_to z c Deq = Some (deq_reply c.items)
reply_to z c Take = take_reply c.items

-- the pairs after a put: a new key needs room, a key that is there does not
abbrev pub put_pairs : Pairs → ℕ → ℕ → Option ℕ → Bool → Pairs
put_pairs pairs key value (Some old) full = insert pairs key value
put_pairs pairs key value None true = pairs
put_pairs pairs key value None false = insert pairs key value

-- the list without its first item, where it has one
abbrev pub rest_of : List ℕ → List ℕ
rest_of [] = []
rest_of (item ∷ items) = items

-- the same items, and these pairs
abbrev pub with_pairs : Contents → Pairs → Contents
with_pairs c pairs = record c { pairs = pairs }

-- the same pairs, and these items
abbrev pub with_items : Contents → List ℕ → Contents
with_items c items = record c { items = items }

-- what the object holds after a command
abbrev pub contents_after : Sizes → Contents → Command → Contents
contents_after z c (Put key value) = with_pairs c (put_pairs c.pairs key value (get c.pairs key) (is_shard_full z key c.pairs))
contents_after z c (Get key) = c
contents_after z c (Del key) = with_pairs c (remove c.pairs key)
contents_after z c (Enq value) = with_items c (if is_queue_full z c.items then c.items else c.items ++ value ∷ [])
contents_after z c Deq = with_items c (rest_of c.items)
contents_after z c Take = with_items c (rest_of c.items)

-- the room of a command: that of its key's shard, and for a command of the queue the one after the shards' rooms
abbrev pub room_of : Sizes → Command → ℕ
room_of z (Put key value) = shard_of z key
room_of z (Get key) = shard_of z key
room_of z (Del key) = shard_of z key
room_of z (Enq value) = z.shards
room_of z Deq = z.shards
room_of z Take = z.shards

-- one room's part of what the object holds: a shard's pairs and no item, or the items and no pair
abbrev pub part_of : Sizes → ℕ → Contents → Contents
part_of z room c = if room == z.shards then record { pairs = empty; items = c.items } else record { pairs = shard_pairs z room c.pairs; items = [] }

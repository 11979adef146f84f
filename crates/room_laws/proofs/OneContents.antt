-- A room stands for its own part of what the object holds, which its words give.
use Rattle.std.proofs.Common.{◌≡◌, ℕ, ◌==◌, Bool, List, [], sym, ap, subst, if◌then◌else◌}
use Rattle.std.specs.FinMap.{empty}
use Rattle.seq_object.specs.Object.{Pairs, Contents, shard_pairs, part_of}
use Rattle.room_model.specs.Chains.{RoomWords}
use Rattle.room_model.specs.MapRoom.{Layout, IsLayout, IsMapRoom}
use Rattle.room_model.specs.Rooms.{StandsFor}
use Rattle.room_model.specs.Walks.{map_of, items_of, IsRoom}
use Rattle.room_laws.specs.Rooms.{ContentsLaw, PartLaw, IsRoomLaw}
use Rattle.room_laws.proofs.Tests.{by_Bool}
use Rattle.room_laws.proofs.Pairs.{map_pairs_law}
use Rattle.room_laws.proofs.QueueLaws.{queue_items_law}
use Rattle.room_laws.proofs.Shards.{shard_twice}
use Rattle.room_laws.proofs.Standing.{Stands}
use Rattle.seq_object.specs.declared.sizes.Sizes.{Sizes}

-- a contents of pairs alone
abbrev pub only_pairs : Pairs → Contents
only_pairs pairs = record { pairs = pairs; items = [] }

-- a contents of items alone
abbrev pub only_items : List ℕ → Contents
only_items items = record { pairs = empty; items = items }

-- one of the two
abbrev pub part_by : Bool → List ℕ → Pairs → Contents
part_by b items pairs = if b then only_items items else only_pairs pairs

-- the law on what a room holds
pub contents : ContentsLaw
contents layout z room r c laid h = by_Bool (λ b. Stands layout z room r c b → part_by b (items_of z r) (map_of layout z r) ≡ part_by b c.items (shard_pairs z room c.pairs)) (room == z.shards)
    (λ _ q. ap only_items (queue_items_law z r c.items q))
    (λ _ q. ap only_pairs (map_pairs_law layout z room r (shard_pairs z room c.pairs) laid q)) h

-- a room stands for its part
to_part : (layout : Layout) (z : Sizes) (room : ℕ) (r : RoomWords) (c : Contents) → StandsFor layout z room r c → StandsFor layout z room r (part_of z room c)
to_part layout z room r c h = by_Bool (λ b. Stands layout z room r c b → Stands layout z room r (part_by b c.items (shard_pairs z room c.pairs)) b) (room == z.shards)
    (λ _ q. q) (λ _ q. subst (IsMapRoom layout z room r) (sym (shard_twice z room c.pairs)) q) h

-- a room that stands for its part stands for the whole
to_whole : (layout : Layout) (z : Sizes) (room : ℕ) (r : RoomWords) (c : Contents) → StandsFor layout z room r (part_of z room c) → StandsFor layout z room r c
to_whole layout z room r c h = by_Bool (λ b. Stands layout z room r (part_by b c.items (shard_pairs z room c.pairs)) b → Stands layout z room r c b) (room == z.shards)
    (λ _ q. q) (λ _ q. subst (IsMapRoom layout z room r) (shard_twice z room c.pairs) q) h

-- a room that stands for something stands for what its words give
pub stands_itself : (layout : Layout) (z : Sizes) (room : ℕ) (r : RoomWords) (c : Contents) → IsLayout layout → StandsFor layout z room r c → IsRoom layout z room r
stands_itself layout z room r c laid h = subst (StandsFor layout z room r) (sym (contents layout z room r c laid h)) (to_part layout z room r c h)

-- the law on rooms that stand for what their words give
pub is_room : IsRoomLaw
is_room = record { stands = stands_itself; whole = λ layout z room r c own same. to_whole layout z room r c (subst (StandsFor layout z room r) same own) }

-- the law on parts
pub parts : PartLaw
parts = record { part = to_part; whole = to_whole }

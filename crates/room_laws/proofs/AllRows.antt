-- All rows at once, for a command in its room and in another.
use Rattle.std.proofs.Common.{◌≡◌, ◌≢◌, ℕ, ◌<◌, Bool, Option, Some, List, refl, sym, ap, ◌∙◌, subst, arith}
use Rattle.std.specs.Prelude.{nat_le}
use Rattle.std.specs.FinMap.{get, remove, len}
use Rattle.seq_object.specs.declared.command.Command.{Command}
use Rattle.seq_object.specs.declared.command.Command.TheVariants.{Put, Get, Del, Enq, Deq, Take}
use Rattle.seq_object.specs.Object.{Pairs, Contents, shard_of, shard_pairs, is_shard_full, put_pairs, put_reply, get_reply, del_reply, contents_after, reply_to, room_of}
use Rattle.room_model.specs.Chains.{RoomWords}
use Rattle.room_model.specs.MapRoom.{Layout, IsLayout, IsMapRoom, HasCapacity}
use Rattle.room_model.specs.Rooms.{StandsFor}
use Rattle.room_model.specs.Writes.{written, writes_of, answer_of, put_writes, del_writes, enq_writes, deq_writes, AreWithin}
use Rattle.room_laws.specs.MapRows.{IsRoomOfKey}
use Rattle.room_laws.specs.Rooms.{WithinLaw}
use Rattle.room_laws.specs.Commands.{CommandAfterLaw, CommandReplyLaw, OtherCommandLaw}
use Rattle.room_laws.proofs.MapLaws.{is_stock_full, put_after, del_after, put_answer, look_up_answer}
use Rattle.room_laws.proofs.QueueLaws.{enq_after, deq_after, enq_answer, deq_answer, take_answer}
use Rattle.room_laws.proofs.Within.{put_within, del_within, enq_rows_within, deq_within}
use Rattle.room_laws.proofs.Shards.{get_own, shard-put, shard-put_other, shard-remove, shard-remove_other}
use Rattle.room_laws.proofs.Standing.{Stands, queue_of, of_queue, map_room_of, of_map_room}
use Rattle.room_laws.proofs.Tests.{by_test}
use Rattle.seq_object.specs.declared.sizes.Sizes.{Sizes}

-- a key's room is not the queue's
no_queue : (z : Sizes) (key : ℕ) → 0 < z.shards → shard_of z key ≢ z.shards
no_queue z key pos e = omega arith

-- the room of a key, which stands for what the object holds
own_room : (layout : Layout) (z : Sizes) (r : RoomWords) (c : Contents) (key : ℕ) → IsLayout layout → 0 < z.shards → StandsFor layout z (shard_of z key) r c
    → IsRoomOfKey layout z (shard_of z key) r (shard_pairs z (shard_of z key) c.pairs) key
own_room layout z r c key laid pos stands = record { laid = laid; room = map_room_of layout z (shard_of z key) r c (no_queue z key pos) stands; mine = refl }

-- whether a shard is full, by its object and by its room
full_same : (layout : Layout) (z : Sizes) (key : ℕ) (pairs : Pairs) → HasCapacity layout z → is_shard_full z key pairs ≡ is_stock_full layout z (shard_pairs z (shard_of z key) pairs)
full_same layout z key pairs capacity = ap (λ (n : ℕ). nat_le n (len (shard_pairs z (shard_of z key) pairs))) capacity

-- a put, in its room
put_command : (layout : Layout) (z : Sizes) (r : RoomWords) (c : Contents) (key value : ℕ) → IsLayout layout → HasCapacity layout z → 0 < z.shards → StandsFor layout z (shard_of z key) r c
    → StandsFor layout z (shard_of z key) (written r (put_writes layout z r key value)) (contents_after z c (Put key value))
put_command layout z r c key value laid capacity pos stands =
    let shard = shard_of z key in
    let own = shard_pairs z shard c.pairs in
    let q = written r (put_writes layout z r key value) in
    let after : IsMapRoom layout z shard q (put_pairs own key value (get own key) (is_stock_full layout z own)) =
    put_after layout z shard r own key value (own_room layout z r c key laid pos stands) in
    let same : put_pairs own key value (get own key) (is_stock_full layout z own) ≡ shard_pairs z shard (put_pairs c.pairs key value (get c.pairs key) (is_shard_full z key c.pairs)) =
    ap (λ (o : Option ℕ). put_pairs own key value o (is_stock_full layout z own)) (get_own z key c.pairs)
    ∙ ap (put_pairs own key value (get c.pairs key)) (sym (full_same layout z key c.pairs capacity))
    ∙ sym (shard-put z shard key value c.pairs (get c.pairs key) (is_shard_full z key c.pairs) refl) in
    of_map_room layout z shard q (contents_after z c (Put key value)) (no_queue z key pos) (subst (IsMapRoom layout z shard q) same after)

-- a removal, in its room
del_command : (layout : Layout) (z : Sizes) (r : RoomWords) (c : Contents) (key : ℕ) → IsLayout layout → 0 < z.shards → StandsFor layout z (shard_of z key) r c
    → StandsFor layout z (shard_of z key) (written r (del_writes layout z r key)) (contents_after z c (Del key))
del_command layout z r c key laid pos stands =
    let shard = shard_of z key in
    let own = shard_pairs z shard c.pairs in
    let q = written r (del_writes layout z r key) in
    let after : IsMapRoom layout z shard q (remove own key) = del_after layout z shard r own key (own_room layout z r c key laid pos stands) in
    of_map_room layout z shard q (contents_after z c (Del key)) (no_queue z key pos) (subst (IsMapRoom layout z shard q) (sym (shard-remove z shard key c.pairs refl)) after)

-- the same, where the room is written as that of the command
after_in : (layout : Layout) (z : Sizes) (r : RoomWords) (c : Contents) (command : Command) → IsLayout layout → HasCapacity layout z → 0 < z.shards → StandsFor layout z (room_of z command) r c
    → StandsFor layout z (room_of z command) (written r (writes_of layout z r command)) (contents_after z c command)
after_in layout z r c (Put key value) laid capacity pos stands = put_command layout z r c key value laid capacity pos stands
after_in layout z r c (Get key) laid capacity pos stands = stands
after_in layout z r c (Del key) laid capacity pos stands = del_command layout z r c key laid pos stands
after_in layout z r c (Enq value) laid capacity pos stands =
    of_queue layout z (written r (enq_writes z r value)) (contents_after z c (Enq value)) (enq_after z r c.items value (queue_of layout z r c stands))
after_in layout z r c Deq laid capacity pos stands = of_queue layout z (written r (deq_writes r)) (contents_after z c Deq) (deq_after z r c.items (queue_of layout z r c stands))
after_in layout z r c Take laid capacity pos stands = of_queue layout z (written r (deq_writes r)) (contents_after z c Take) (deq_after z r c.items (queue_of layout z r c stands))

-- the law on what a command leaves in its room
pub command_after : CommandAfterLaw
command_after layout z room r c command laid capacity pos stands own =
    subst (λ (n : ℕ). StandsFor layout z n (written r (writes_of layout z r command)) (contents_after z c command)) own
    (after_in layout z r c command laid capacity pos (subst (λ (n : ℕ). StandsFor layout z n r c) (sym own) stands))

-- the reply, where the room is written as that of the command
reply_in : (layout : Layout) (z : Sizes) (r : RoomWords) (c : Contents) (command : Command) → IsLayout layout → HasCapacity layout z → 0 < z.shards → StandsFor layout z (room_of z command) r c
    → answer_of layout z r command ≡ reply_to z c command
reply_in layout z r c (Put key value) laid capacity pos stands =
    put_answer layout z (shard_of z key) r (shard_pairs z (shard_of z key) c.pairs) key value (own_room layout z r c key laid pos stands)
    ∙ ap (λ (o : Option ℕ). Some (put_reply o (is_stock_full layout z (shard_pairs z (shard_of z key) c.pairs)))) (get_own z key c.pairs)
    ∙ ap (λ (b : Bool). Some (put_reply (get c.pairs key) b)) (sym (full_same layout z key c.pairs capacity))
reply_in layout z r c (Get key) laid capacity pos stands =
    look_up_answer get_reply layout z (shard_of z key) r (shard_pairs z (shard_of z key) c.pairs) key (own_room layout z r c key laid pos stands) ∙ ap (λ (o : Option ℕ). Some (get_reply o)) (get_own z key c.pairs)
reply_in layout z r c (Del key) laid capacity pos stands =
    look_up_answer del_reply layout z (shard_of z key) r (shard_pairs z (shard_of z key) c.pairs) key (own_room layout z r c key laid pos stands) ∙ ap (λ (o : Option ℕ). Some (del_reply o)) (get_own z key c.pairs)
reply_in layout z r c (Enq value) laid capacity pos stands = enq_answer z r c.items (queue_of layout z r c stands)
reply_in layout z r c Deq laid capacity pos stands = deq_answer z r c.items (queue_of layout z r c stands)
reply_in layout z r c Take laid capacity pos stands = take_answer z r c.items (queue_of layout z r c stands)

-- the law on the answer of a command's room
pub command_reply : CommandReplyLaw
command_reply layout z room r c command laid capacity pos stands own = reply_in layout z r c command laid capacity pos (subst (λ (n : ℕ). StandsFor layout z n r c) (sym own) stands)

-- where the pairs that a shard sees stay, and the items too
pairs_stay : (layout : Layout) (z : Sizes) (room : ℕ) (r : RoomWords) (c : Contents) (pairs : Pairs) → shard_pairs z room pairs ≡ shard_pairs z room c.pairs
    → StandsFor layout z room r c → StandsFor layout z room r (record c { pairs = pairs })
pairs_stay layout z room r c pairs same stands =
    by_test (λ b. Stands layout z room r c b → Stands layout z room r (record c { pairs = pairs }) b) room z.shards (λ _ q. q) (λ _ q. subst (IsMapRoom layout z room r) (sym same) q) stands

-- where the room is not the queue's
items_stay : (layout : Layout) (z : Sizes) (room : ℕ) (r : RoomWords) (c : Contents) (items : List ℕ) → z.shards ≢ room → StandsFor layout z room r c → StandsFor layout z room r (record c { items = items })
items_stay layout z room r c items ne stands = of_map_room layout z room r (record c { items = items }) (λ e. ne (sym e)) (map_room_of layout z room r c (λ e. ne (sym e)) stands)

-- the law on the other rooms
pub other_command : OtherCommandLaw
other_command layout z room r c (Put key value) stands other =
    pairs_stay layout z room r c (put_pairs c.pairs key value (get c.pairs key) (is_shard_full z key c.pairs)) (shard-put_other z room key value c.pairs (get c.pairs key) (is_shard_full z key c.pairs) other) stands
other_command layout z room r c (Get key) stands other = stands
other_command layout z room r c (Del key) stands other = pairs_stay layout z room r c (remove c.pairs key) (shard-remove_other z room key c.pairs other) stands
other_command layout z room r c (Enq value) stands other = items_stay layout z room r c _ other stands
other_command layout z room r c Deq stands other = items_stay layout z room r c _ other stands
other_command layout z room r c Take stands other = items_stay layout z room r c _ other stands

-- the same, where the room is written as that of the command
within_in : (layout : Layout) (z : Sizes) (r : RoomWords) (c : Contents) (command : Command) → IsLayout layout → 0 < z.shards → StandsFor layout z (room_of z command) r c → AreWithin z.lines (writes_of layout z r command)
within_in layout z r c (Put key value) laid pos stands = put_within layout z (shard_of z key) r (shard_pairs z (shard_of z key) c.pairs) key value laid (own_room layout z r c key laid pos stands).room
within_in layout z r c (Get key) laid pos stands = tt
within_in layout z r c (Del key) laid pos stands = del_within layout z (shard_of z key) r (shard_pairs z (shard_of z key) c.pairs) key laid (own_room layout z r c key laid pos stands).room
within_in layout z r c (Enq value) laid pos stands = enq_rows_within z r c.items value (queue_of layout z r c stands)
within_in layout z r c Deq laid pos stands = deq_within z r c.items (queue_of layout z r c stands)
within_in layout z r c Take laid pos stands = deq_within z r c.items (queue_of layout z r c stands)

-- the law on where a command's writes go
pub within : WithinLaw
within layout z room r c command laid pos stands own = within_in layout z r c command laid pos (subst (λ (n : ℕ). StandsFor layout z n r c) (sym own) stands)

-- The rows of the map, from their parts.
use Rattle.std.proofs.Common.{true, false, ◌≡◌, ℕ, ◌+◌, ◌-◌, ◌<◌, ◌≤◌, ◌≢◌, ◌==◌, Bool, Option, Some, None, List, [], ◌∷◌, ◌++◌, length, arith, refl, ap, sym, ◌∙◌, subst, inl, inr, if◌then◌else◌, eq-eqb}
use Rattle.std.proofs.lemmas.Bool.Decides.{eqb_tells, nat_tests}
use Rattle.std.proofs.lemmas.Bool.{ne_eqb}
use Rattle.std.specs.Prelude.{nat_le}
use Rattle.room_model.specs.MapRoom.{one_head_a_line, three_heads_a_line}
use Rattle.std.specs.FinMap.{get, remove, len, same_map, nat_cmp-IsAntisymmetric}
use Rattle.std.proofs.lemmas.Cmp.{nat_cmp_total}
use Rattle.seq_object.specs.declared.command.Command.TheVariants.{Put}
use Rattle.seq_object.specs.declared.command.Reply.{Reply}
use Rattle.seq_object.specs.declared.command.Reply.TheVariants.{New, Old, Full}
use Rattle.seq_object.specs.Object.{put_reply, put_pairs, Pairs}
use Rattle.room_model.specs.Chains.{times, RoomWords}
use Rattle.room_model.specs.Writes.{written, is_full, node_of, node_before, put_present, put_absent, del_present, put_writes, del_writes, answer_of}
use Rattle.room_model.specs.MapRoom.{Layout, IsLayout, head, bucket_of, found, IsMapRoom}
use Rattle.room_model.specs.QueueRoom.{last_line}
use Rattle.room_laws.specs.MapRows.{IsRoomOfKey, LayoutsLaw, GetLaw, PutPresentLaw, PutAbsentLaw, MapFullLaw, DelPresentLaw, DelAbsentLaw}
use Rattle.room_laws.proofs.Stock.{take, full_tells, stock_size}
use Rattle.room_laws.proofs.Lists.{times-append, times-here}
use Rattle.seq_object.proofs.Pairs.{got_removed}
use Rattle.room_laws.proofs.Keys.{joined, found-append, found-here, or_else}
use Rattle.room_laws.proofs.Walks.{IsLocated, Located, locate}
use Rattle.room_laws.proofs.Tests.{by_test, by_Bool}
use Rattle.room_laws.proofs.Maps.{bucket_below, stock_of, chain_node, chain_length, map_size, get_found}
use Rattle.room_laws.proofs.Puts.{puts_front, put_absent_room}
use Rattle.room_laws.proofs.Values.{sets_value, put_present_room}
use Rattle.room_laws.proofs.Dels.{unlinks, del_present_room, last_in}
use Rattle.seq_object.specs.declared.sizes.Sizes.{Sizes}

-- a head a line is a layout
one_head : IsLayout one_head_a_line
one_head = record { low = λ b lt. omega arith; high = λ b lt. omega arith; word = λ b lt. omega arith; apart = λ b c lt lu e f. omega arith }

-- three heads a line is a layout
three_heads : IsLayout three_heads_a_line
three_heads = record { low = λ b lt. omega arith; high = λ b lt. omega arith; word = λ b lt. omega arith; apart = λ b c lt lu e f. omega arith }

-- the law on layouts
pub layouts : LayoutsLaw
layouts = record { one_head = one_head; three_heads = three_heads; in_use = one_head; capacity = λ z. refl }

-- where the walk for a key ends
located : (layout : Layout) (z : Sizes) (shard : ℕ) (r : RoomWords) (pairs : Pairs) (key : ℕ) → IsLayout layout → (room : IsMapRoom layout z shard r pairs)
    → Located r key (room.chain (bucket_of z key)) 0 (node_of layout z r key) (node_before layout z r key)
located layout z shard r pairs key laid room =
    let below = bucket_below z key in
    locate r key z.lines 0 (head layout r (bucket_of z key)) (room.chain (bucket_of z key)) (room.chained (bucket_of z key) below) (chain_length layout z shard r pairs laid room (bucket_of z key) below)

-- a key that has a node
pub key_node : (layout : Layout) (z : Sizes) (shard : ℕ) (r : RoomWords) (pairs : Pairs) (key : ℕ) → IsLayout layout → (room : IsMapRoom layout z shard r pairs) → node_of layout z r key ≢ 0
    → IsLocated r key (room.chain (bucket_of z key)) 0 (node_of layout z r key) (node_before layout z r key)
key_node layout z shard r pairs key laid room some = elim (located layout z shard r pairs key laid room) [
  | inl a ↦ absurd (some a.zero_line)
  | inr a ↦ a
]

-- what is found where the key has a node
found_there : (r : RoomWords) (key : ℕ) (xs : List ℕ) (start n before : ℕ) → IsLocated r key xs start n before → found r key xs ≡ Some (r n 1)
found_there r key xs start n before at =
    ap (found r key) at.is ∙ found-append r key at.front (n ∷ at.back) ∙ ap (λ (o : Option ℕ). or_else o (found r key (n ∷ at.back))) at.none ∙ found-here r key n at.back at.key_of

-- the law on a look-up
pub get_law : GetLaw
get_law layout z shard r pairs key h = elim (located layout z shard r pairs key h.laid h.room) [
  | inl a ↦
      get_found layout z shard r pairs h.room key h.mine ∙ a.none
      ∙ sym (ap (λ (b : Bool). if b then None else Some (r (node_of layout z r key) 1)) (eq-eqb (node_of layout z r key) 0 a.zero_line))
  | inr a ↦
      get_found layout z shard r pairs h.room key h.mine ∙ found_there r key (h.room.chain (bucket_of z key)) 0 (node_of layout z r key) (node_before layout z r key) a
      ∙ sym (ap (λ (b : Bool). if b then None else Some (r (node_of layout z r key) 1)) (ne_eqb (node_of layout z r key) 0 a.some_line))
]

-- a key without a node is in no pair
absent : (layout : Layout) (z : Sizes) (shard : ℕ) (r : RoomWords) (pairs : Pairs) (key : ℕ) → IsRoomOfKey layout z shard r pairs key → node_of layout z r key ≡ 0 → get pairs key ≡ None
absent layout z shard r pairs key h none = get_law layout z shard r pairs key h ∙ ap (λ (b : Bool). if b then None else Some (r (node_of layout z r key) 1)) (eq-eqb (node_of layout z r key) 0 none)

-- a key with a node has its value
present : (layout : Layout) (z : Sizes) (shard : ℕ) (r : RoomWords) (pairs : Pairs) (key : ℕ) → IsRoomOfKey layout z shard r pairs key → node_of layout z r key ≢ 0 → get pairs key ≡ Some (r (node_of layout z r key) 1)
present layout z shard r pairs key h some = get_law layout z shard r pairs key h ∙ ap (λ (b : Bool). if b then None else Some (r (node_of layout z r key) 1)) (ne_eqb (node_of layout z r key) 0 some)

-- the law on a put of a key that is there
pub put_present_law : PutPresentLaw
put_present_law layout z shard r pairs key value h some =
    let n = node_of layout z r key in
    put_present_room layout z shard key value 0 n (node_before layout z r key) r (written r (put_present n value)) pairs h.laid h.room h.mine
    (key_node layout z shard r pairs key h.laid h.room some) (sets_value n value r)

-- the law on a put of an absent key
pub put_absent_law : PutAbsentLaw
put_absent_law layout z shard r pairs key value h none space =
    let taken = take layout.first z (joined h.room.chain 8) h.room.free r (stock_of layout z shard r pairs h.laid h.room) space in
    put_absent_room layout z shard key value r (written r (put_absent layout z r key value)) pairs h.laid h.room h.mine (absent layout z shard r pairs key h none) space
    (puts_front layout z key value r h.laid taken.line_low)

-- the law on a full room
pub map_full_law : MapFullLaw
map_full_law layout z shard r pairs laid room =
    let stock = stock_of layout z shard r pairs laid room in
    let size = map_size layout z shard r pairs room in
    let all = stock_size layout.first z (joined room.chain 8) room.free r stock in
    let high = room.high in
    full_tells layout.first z (joined room.chain 8) room.free r stock
    ∙ same_tests (length (joined room.chain 8)) (len pairs) layout.first z.lines size (omega (arith, all, high))
  where
    same_tests : (a b f l : ℕ) → b ≡ a → a + f ≤ l → (a + f == l) ≡ nat_le (l - f) b
    same_tests a b f l e le = grind (arith, nat_tests)

-- the node of a key is one of the room's nodes
pub node_there : (layout : Layout) (z : Sizes) (shard : ℕ) (r : RoomWords) (pairs : Pairs) (key : ℕ) → IsLayout layout → (room : IsMapRoom layout z shard r pairs) → node_of layout z r key ≢ 0
    → (layout.first ≤ node_of layout z r key) × (node_of layout z r key < r 0 1)
node_there layout z shard r pairs key laid room some =
    let n = node_of layout z r key in
    let at = key_node layout z shard r pairs key laid room some in
    let split = ap (times n) at.is ∙ times-append n at.front (n ∷ at.back) in
    let one = times-here n at.back in
    chain_node layout z shard r pairs room (bucket_of z key) n (bucket_below z key) (omega (arith, split, one))

-- and so is the one before it, where there is one
pub before_there : (layout : Layout) (z : Sizes) (shard : ℕ) (r : RoomWords) (pairs : Pairs) (key : ℕ) → IsLayout layout → (room : IsMapRoom layout z shard r pairs) → node_of layout z r key ≢ 0
    → node_before layout z r key ≢ 0 → (layout.first ≤ node_before layout z r key) × (node_before layout z r key < r 0 1)
before_there layout z shard r pairs key laid room some there =
    let at = key_node layout z shard r pairs key laid room some in
    in_chain (bucket_below z key) (node_of layout z r key) at.back at.front at.is at.before_is
  where
    in_chain : bucket_of z key < 8 → (n : ℕ) (back front : List ℕ) → room.chain (bucket_of z key) ≡ front ++ n ∷ back → node_before layout z r key ≡ last_line 0 front
        → (layout.first ≤ node_before layout z r key) × (node_before layout z r key < r 0 1)
    in_chain below n back [] is last = absurd (there last)
    in_chain below n back (y ∷ ys) is last =
        let a = last_in y ys (n ∷ back) in
        let e = ap (times (node_before layout z r key)) is in
        let f = ap (λ (k : ℕ). times k ((y ∷ ys) ++ n ∷ back)) last in
        chain_node layout z shard r pairs room (bucket_of z key) (node_before layout z r key) below (omega (arith, a, e, f))

-- the law on a removal of a key that is there
pub del_present_law : DelPresentLaw
del_present_law layout z shard r pairs key h some =
    let b = bucket_of z key in
    let n = node_of layout z r key in
    let before = node_before layout z r key in
    let at = key_node layout z shard r pairs key h.laid h.room some in
    del_present_room layout z shard key n before r (written r (del_present layout r b before n)) pairs h.laid h.room h.mine at
    (unlinks layout b before n r h.laid (bucket_below z key) (node_there layout z shard r pairs key h.laid h.room some).0 (λ there. (before_there layout z shard r pairs key h.laid h.room some there).0))

-- the law on a removal of an absent key
pub del_absent_law : DelAbsentLaw
del_absent_law layout z shard r pairs key h none = same_map nat_cmp_total nat_cmp-IsAntisymmetric (remove pairs key) pairs (λ k. at k)
  where
    at : (k : ℕ) → get (remove pairs key) k ≡ get pairs k
    at k = elim (eqb_tells k key) [
      | inl e ↦ got_removed pairs key k ∙ ap (λ (b : Bool). if b then None else get pairs k) e.0 ∙ sym (ap (get pairs) e.1 ∙ absent layout z shard r pairs key h none)
      | inr e ↦ got_removed pairs key k ∙ ap (λ (b : Bool). if b then None else get pairs k) e.0
    ]

-- whether the shard is full, by the room's lines for nodes
abbrev pub is_stock_full : Layout → Sizes → Pairs → Bool
is_stock_full layout z pairs = nat_le (z.lines - layout.first) (len pairs)

-- a put, on all its rows
pub put_after : (layout : Layout) (z : Sizes) (shard : ℕ) (r : RoomWords) (pairs : Pairs) (key value : ℕ) → IsRoomOfKey layout z shard r pairs key
    → IsMapRoom layout z shard (written r (put_writes layout z r key value)) (put_pairs pairs key value (get pairs key) (is_stock_full layout z pairs))
put_after layout z shard r pairs key value h =
    by_test (λ b. IsMapRoom layout z shard (written r (if b then (if is_full z.lines r then [] else put_absent layout z r key value) else put_present (node_of layout z r key) value)) (put_pairs pairs key value (get pairs key) (is_stock_full layout z pairs)))
    (node_of layout z r key) 0
    (λ none. subst (λ (o : Option ℕ). IsMapRoom layout z shard (written r (if is_full z.lines r then [] else put_absent layout z r key value)) (put_pairs pairs key value o (is_stock_full layout z pairs))) (sym (absent layout z shard r pairs key h none))
    (by_full none))
    (λ some. subst (λ (o : Option ℕ). IsMapRoom layout z shard (written r (put_present (node_of layout z r key) value)) (put_pairs pairs key value o (is_stock_full layout z pairs))) (sym (present layout z shard r pairs key h some))
    (put_present_law layout z shard r pairs key value h some))
  where
    by_full : node_of layout z r key ≡ 0 → IsMapRoom layout z shard (written r (if is_full z.lines r then [] else put_absent layout z r key value)) (put_pairs pairs key value None (is_stock_full layout z pairs))
    by_full none =
        subst (λ (b : Bool). IsMapRoom layout z shard (written r (if is_full z.lines r then [] else put_absent layout z r key value)) (put_pairs pairs key value None b)) (map_full_law layout z shard r pairs h.laid h.room)
        (by_Bool (λ b. IsMapRoom layout z shard (written r (if b then [] else put_absent layout z r key value)) (put_pairs pairs key value None b)) (is_full z.lines r)
        (λ full. h.room) (λ space. put_absent_law layout z shard r pairs key value h none space))

-- a removal, on all its rows
pub del_after : (layout : Layout) (z : Sizes) (shard : ℕ) (r : RoomWords) (pairs : Pairs) (key : ℕ) → IsRoomOfKey layout z shard r pairs key
    → IsMapRoom layout z shard (written r (del_writes layout z r key)) (remove pairs key)
del_after layout z shard r pairs key h =
    by_test (λ b. IsMapRoom layout z shard (written r (if b then [] else del_present layout r (bucket_of z key) (node_before layout z r key) (node_of layout z r key))) (remove pairs key))
    (node_of layout z r key) 0
    (λ none. subst (IsMapRoom layout z shard r) (sym (del_absent_law layout z shard r pairs key h none)) h.room)
    (λ some. del_present_law layout z shard r pairs key h some)

-- a put's reply to an absent key, by whether the shard is full
absent_reply : (b : Bool) → (if b then Full else New) ≡ put_reply None b
absent_reply true = refl
absent_reply false = refl

-- the answer to a put is the reply
pub put_answer : (layout : Layout) (z : Sizes) (shard : ℕ) (r : RoomWords) (pairs : Pairs) (key value : ℕ) → IsRoomOfKey layout z shard r pairs key
    → answer_of layout z r (Put key value) ≡ Some (put_reply (get pairs key) (is_stock_full layout z pairs))
put_answer layout z shard r pairs key value h =
    by_test (λ b. Some (if b then (if is_full z.lines r then Full else New) else Old (r (node_of layout z r key) 1)) ≡ Some (put_reply (get pairs key) (is_stock_full layout z pairs))) (node_of layout z r key) 0
    (λ none. ap Some (absent_reply (is_full z.lines r) ∙ ap (put_reply None) (map_full_law layout z shard r pairs h.laid h.room) ∙ sym (ap (λ (o : Option ℕ). put_reply o (is_stock_full layout z pairs)) (absent layout z shard r pairs key h none))))
    (λ some. ap Some (sym (ap (λ (o : Option ℕ). put_reply o (is_stock_full layout z pairs)) (present layout z shard r pairs key h some))))

-- the answer to a command that only looks a key up is the reply
pub look_up_answer : (reply : Option ℕ → Reply) (layout : Layout) (z : Sizes) (shard : ℕ) (r : RoomWords) (pairs : Pairs) (key : ℕ) → IsRoomOfKey layout z shard r pairs key
    → Some (let n = node_of layout z r key in if n == 0 then reply None else reply (Some (r n 1))) ≡ Some (reply (get pairs key))
look_up_answer reply layout z shard r pairs key h =
    by_test (λ b. Some (if b then reply None else reply (Some (r (node_of layout z r key) 1))) ≡ Some (reply (get pairs key))) (node_of layout z r key) 0
    (λ none. ap Some (sym (ap reply (absent layout z shard r pairs key h none))))
    (λ some. ap Some (sym (ap reply (present layout z shard r pairs key h some))))

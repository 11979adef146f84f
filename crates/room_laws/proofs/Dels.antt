-- The row of a removal of a key that has a node.
use Rattle.std.proofs.Common.{◌≡◌, ℕ, ◌+◌, ◌-◌, ◌<◌, ◌≤◌, ◌≢◌, ◌==◌, Bool, None, List, [], ◌∷◌, ◌++◌, length, arith, ap, sym, ◌∙◌, subst, inl, inr, if◌then◌else◌, eq-eqb, length-append}
use Rattle.std.proofs.lemmas.Bool.Decides.{eqb_tells, nat_tests}
use Rattle.std.specs.FinMap.{get, remove}
use Rattle.seq_object.specs.History.{total}
use Rattle.seq_object.specs.Object.{shard_of, Pairs}
use Rattle.room_model.specs.declared.write.Write.{Write}
use Rattle.room_model.specs.Chains.{IsChain, times, is_node, RoomWords}
use Rattle.room_model.specs.Writes.{write, written, del_present}
use Rattle.room_model.specs.MapRoom.{Layout, IsLayout, head, bucket_of, found, AreKeys, IsMapRoom}
use Rattle.room_model.specs.QueueRoom.{last_line}
use Rattle.room_laws.proofs.Lists.{times-append, times-here, times-there, other_than, chain_same}
use Rattle.room_laws.proofs.Totals.{one_where, total-part}
use Rattle.seq_object.proofs.Pairs.{got_removed}
use Rattle.room_laws.proofs.Keys.{joined, found-same, found-still_none, keys-same, keys-cut, found-cut, found-cut_none}
use Rattle.room_laws.proofs.Walks.{IsLocated}
use Rattle.room_laws.proofs.Stock.{free_node, at_most_one}
use Rattle.room_laws.proofs.Maps.{bucket_below, chain_node, chain_once, chain_apart, get_found, changed, not_key, stock_of}
use Rattle.room_laws.proofs.Values.{IsPlaced, placed}
use Rattle.seq_object.specs.declared.sizes.Sizes.{Sizes}

-- node n leaves the chain of bucket b behind this node, or behind the head where that is 0, and is the first free line
pub record Unlinks (layout : Layout) (b before n : ℕ) (r r' : RoomWords) : Type 0 where
  pub free : r' 0 0 ≡ n
  pub fresh : r' 0 1 ≡ r 0 1
  pub count : r' 0 2 ≡ r 0 2 - 1
  pub next_free : r' n 0 ≡ r 0 0
  pub heads : (c : ℕ) → c < 8 → c ≢ b → head layout r' c ≡ head layout r c
  pub at_head : before ≡ 0 → head layout r' b ≡ r n 2
  pub at_node : before ≢ 0 → r' before 2 ≡ r n 2
  pub head_same : before ≢ 0 → head layout r' b ≡ head layout r b
  pub nodes : (x w : ℕ) → layout.first ≤ x → (x ≡ n → w ≢ 0) → (x ≡ before → w ≢ 2) → r' x w ≡ r x w

-- the same, over plain numbers: line and word are the head's place
record UnlinkWritten (before n line word first : ℕ) (r r' : RoomWords) : Type 0 where
  free : r' 0 0 ≡ n
  fresh : r' 0 1 ≡ r 0 1
  count : r' 0 2 ≡ r 0 2 - 1
  next_free : r' n 0 ≡ r 0 0
  at_head : before ≡ 0 → r' line word ≡ r n 2
  at_node : before ≢ 0 → r' before 2 ≡ r n 2
  places : (x w : ℕ) → x ≢ 0 → (x ≡ n → w ≢ 0) → (x ≡ before → w ≢ 2) → (before ≡ 0 → x ≡ line → w ≢ word) → r' x w ≡ r x w

-- a room behind the write that takes node n out of its chain and those that make it free
abbrev unlink_all : RoomWords → Write → ℕ → RoomWords
unlink_all r u n = written r (u ∷ write n 0 (r 0 0) ∷ write 0 0 n ∷ write 0 2 (r 0 2 - 1) ∷ [])

-- what these writes change, over plain numbers
unlink_written : (before n line word first : ℕ) (r : RoomWords) → 0 < line → line < first → first ≤ n → (before ≢ 0 → first ≤ before)
    → UnlinkWritten before n line word first r (unlink_all r (if before == 0 then write line word (r n 2) else write before 2 (r n 2)) n)
unlink_written before n line word first r pos high low node = elim (eqb_tells before 0) [
  | inl h ↦ subst (λ (q : Bool). UnlinkWritten before n line word first r (unlink_all r (if q then write line word (r n 2) else write before 2 (r n 2)) n)) (sym h.0) (record {
    free = grind (arith, nat_tests);
    fresh = grind (arith, nat_tests);
    count = grind (arith, nat_tests);
    next_free = grind (arith, nat_tests);
    at_head = λ e. grind (arith, nat_tests);
    at_node = λ ne. absurd (ne h.1);
    places = λ x w a b c d. let f = d h.1 in grind (arith, nat_tests);
  })
  | inr h ↦ let more = node h.1 in subst (λ (q : Bool). UnlinkWritten before n line word first r (unlink_all r (if q then write line word (r n 2) else write before 2 (r n 2)) n)) (sym h.0) (record {
    free = grind (arith, nat_tests);
    fresh = grind (arith, nat_tests);
    count = grind (arith, nat_tests);
    next_free = grind (arith, nat_tests);
    at_head = λ e. absurd (h.1 e);
    at_node = λ ne. grind (arith, nat_tests);
    places = λ x w a b c d. grind (arith, nat_tests);
  })
]

-- what the writes of a removal change
pub unlinks : (layout : Layout) (b before n : ℕ) (r : RoomWords) → IsLayout layout → b < 8 → layout.first ≤ n → (before ≢ 0 → layout.first ≤ before) → Unlinks layout b before n r (written r (del_present layout r b before n))
unlinks layout b before n r laid below low node =
    let pos = laid.low b below in
    let high = laid.high b below in
    let u = unlink_written before n (layout.head_line b) (layout.head_word b) layout.first r pos high low node in
    record {
      free = u.free;
      fresh = u.fresh;
      count = u.count;
      next_free = u.next_free;
      heads = λ c lt ne. let cp = laid.low c lt in let ch = laid.high c lt in
          u.places (layout.head_line c) (layout.head_word c) (omega (arith, cp)) (λ e. absurd (omega (arith, e, ch, low))) (λ e. absurd (not_before layout before (layout.head_line c) node cp ch e)) (λ z e f. ne (laid.apart c b lt below e f));
      at_head = u.at_head;
      at_node = u.at_node;
      head_same = λ ne. let far = node ne in u.places (layout.head_line b) (layout.head_word b) (omega (arith, pos)) (λ e. absurd (omega (arith, e, high, low))) (λ e. absurd (omega (arith, e, high, far))) (λ z. absurd (ne z));
      nodes = λ x w far a c. u.places x w (omega (arith, far, pos, high)) a c (λ z e. absurd (omega (arith, e, high, far)));
    }
  where
    not_before : (layout : Layout) (before line : ℕ) → (before ≢ 0 → layout.first ≤ before) → 0 < line → line < layout.first → line ≡ before → ⊥
    not_before layout before line node pos high e = let far = node (omega (arith, e, pos)) in omega (arith, e, high, far)

-- the last of a list is in it
pub last_in : (y : ℕ) (ys more : List ℕ) → 1 ≤ times (last_line y ys) ((y ∷ ys) ++ more)
last_in y [] more = let h = times-here y more in omega (arith, h)
last_in y (z ∷ zs) more = let h = last_in z zs more in omega (arith, h)

-- the line behind the last of the front is taken out
pub chain_without : (next next' : ℕ → ℕ) (s x n : ℕ) (front back : List ℕ) → next' (last_line x front) ≡ next n → ((y : ℕ) → 0 < times y ((x ∷ front) ++ n ∷ back) → y ≢ last_line x front → next' y ≡ next y)
    → times (last_line x front) ((x ∷ front) ++ n ∷ back) ≡ 1 → IsChain next s ((x ∷ front) ++ n ∷ back) → IsChain next' s ((x ∷ front) ++ back)
chain_without next next' s x n [] back link same once h =
    let one = times-here x (n ∷ back) in
    let none : times x back ≡ 0 = omega (arith, one, once) in
    let rest : IsChain next' (next n) back = chain_same next next' (next n) back (λ y t. same y (omega arith) (other_than x y back none t)) h.2.2 in
    (h.0, h.1, subst (λ (k : ℕ). IsChain next' k back) (sym link) rest)
chain_without next next' s x n (y ∷ ys) back link same once h =
    let last = last_line y ys in
    let there : 1 ≤ times last ((y ∷ ys) ++ n ∷ back) = last_in y ys (n ∷ back) in
    let ne : x ≢ last = λ e. let two = ap (λ (b : Bool). (if b then 1 else 0) + times last ((y ∷ ys) ++ n ∷ back)) (eq-eqb x last e) in omega (arith, there, two, once) in
    let less = times-there last x ((y ∷ ys) ++ n ∷ back) ne in
    let one = times-here x ((y ∷ ys) ++ n ∷ back) in
    let rest = chain_without next next' (next x) y n ys back link (λ z t. same z (omega arith)) (omega (arith, less, once)) h.2 in
    (h.0, h.1, subst (λ (k : ℕ). IsChain next' k ((y ∷ ys) ++ back)) (sym (same x (omega (arith, one)) ne)) rest)

-- the chain of the bucket, without its node n
without : (layout : Layout) (b before n : ℕ) (r r' : RoomWords) (front back : List ℕ) → Unlinks layout b before n r r' → before ≡ last_line 0 front → 0 < layout.first
    → ((y : ℕ) → 0 < times y (front ++ n ∷ back) → layout.first ≤ y) → ((y : ℕ) → times y (front ++ n ∷ back) ≤ 1)
    → IsChain (λ x. r x 2) (head layout r b) (front ++ n ∷ back) → IsChain (λ x. r' x 2) (head layout r' b) (front ++ back)
without layout b before n r r' [] back u is pos far once h =
    subst (λ (s : ℕ). IsChain (λ x. r' x 2) s back) (sym (u.at_head is))
    (chain_same (λ x. r x 2) (λ x. r' x 2) (r n 2) back (λ y t. let low = far y (omega arith) in u.nodes y 2 low (λ e. λ (z : 2 ≡ 0). omega (arith, z)) (λ e. absurd (omega (arith, e, is, low, pos)))) h.2)
without layout b before n r r' (x ∷ front) back u is pos far once h =
    let in_front : 1 ≤ times (last_line x front) ((x ∷ front) ++ n ∷ back) = last_in x front (n ∷ back) in
    let low : layout.first ≤ last_line x front = far (last_line x front) (omega (arith, in_front)) in
    let some : before ≢ 0 = λ e. omega (arith, e, is, low, pos) in
    let link : r' (last_line x front) 2 ≡ r n 2 = ap (λ (k : ℕ). r' k 2) (sym is) ∙ u.at_node some in
    let one = once (last_line x front) in
    let rest = chain_without (λ y. r y 2) (λ y. r' y 2) (head layout r b) x n front back link
    (λ y t ne. u.nodes y 2 (far y t) (λ e. λ (z : 2 ≡ 0). omega (arith, z)) (λ e. absurd (ne (e ∙ is)))) (omega (arith, in_front, one)) h in
    subst (λ (s : ℕ). IsChain (λ y. r' y 2) s ((x ∷ front) ++ back)) (sym (u.head_same some)) rest

-- a room whose node has left its chain stands for the pairs without its key
pub del_present_room : (layout : Layout) (z : Sizes) (shard key n before : ℕ) (r r' : RoomWords) (pairs : Pairs) → IsLayout layout → (room : IsMapRoom layout z shard r pairs)
    → shard_of z key ≡ shard → IsLocated r key (room.chain (bucket_of z key)) 0 n before → Unlinks layout (bucket_of z key) before n r r' → IsMapRoom layout z shard r' (remove pairs key)
del_present_room layout z shard key n before r r' pairs laid room mine at u =
    let b = bucket_of z key in
    let below : b < 8 = bucket_below z key in
    let xs = at.front ++ at.back in
    let stock = stock_of layout z shard r pairs laid room in
    let pos = stock.positive in
    let place : IsPlaced layout z shard r pairs room b n at.front at.back = placed layout z shard r pairs room b n at.front at.back below at.is in
    let far : (y : ℕ) → 0 < times y (at.front ++ n ∷ at.back) → layout.first ≤ y = λ y t. (chain_node layout z shard r pairs room b y below (let e = ap (times y) at.is in omega (arith, e, t))).0 in
    let once : (y : ℕ) → times y (at.front ++ n ∷ at.back) ≤ 1 = λ y. let o = chain_once layout z shard r pairs room b y below in let e = ap (times y) at.is in omega (arith, e, o) in
    let words : (x w : ℕ) → 0 < times x xs → w < 2 → r' x w ≡ r x w = λ x w t l.
    u.nodes x w (far x (more x t)) (λ e. absurd (other_than n x xs place.out t e)) (λ e z. omega (arith, z, l)) in
    let old_chain : IsChain (λ x. r x 2) (head layout r b) (at.front ++ n ∷ at.back) = subst (IsChain (λ x. r x 2) (head layout r b)) at.is (room.chained b below) in
    let old_keys : AreKeys z shard b r (at.front ++ n ∷ at.back) = subst (AreKeys z shard b r) at.is (room.keys b below) in
    changed layout z shard b r r' pairs (remove pairs key) room xs (n ∷ room.free) (record {
      below = below;
      low = let e = u.fresh in let l = room.low in omega (arith, e, l);
      high = let e = u.fresh in let l = room.high in omega (arith, e, l);
      chained = without layout b before n r r' at.front at.back u at.before_is pos far once old_chain;
      freed = (u.free, at.some_line, subst (λ (s : ℕ). IsChain (λ x. r' x 0) s room.free) (sym u.next_free) (chain_same (λ x. r x 0) (λ x. r' x 0) (r 0 0) room.free (λ x t. free_word x t below) room.freed));
      heads = u.heads;
      others = λ c lt ne x w t l. u.nodes x w (chain_node layout z shard r pairs room c x lt t).0
          (λ e. absurd (other_than n x (room.chain c) (place.away c lt ne) t e))
          (λ e. absurd (not_before c lt ne x t e below pos));
      each = λ x. let e = ap (times x) at.is in let f = ap (λ (k : ℕ). one_where (is_node layout.first k x)) u.fresh in let a = times-append x at.front (n ∷ at.back) in let c = times-append x at.front at.back in omega (arith, e, f, a, c);
      keys = keys-same r r' z shard b xs (λ x t. words x 0 t (omega arith)) (keys-cut r z shard b n at.front at.back old_keys);
      count = counts below;
      here = λ k s d. here k s d words old_keys;
      there = λ k away. got_removed pairs key k ∙ ap (λ (q : Bool). if q then None else get pairs k) (not_key z shard key k mine away);
    })
  where
    more : (x : ℕ) → 0 < times x (at.front ++ at.back) → 0 < times x (at.front ++ n ∷ at.back)
    more x t = let a = times-append x at.front (n ∷ at.back) in let c = times-append x at.front at.back in omega (arith, a, c, t)

    -- the last of the front is in this chain, and in no other
    before_there : (bucket_of z key < 8) → before ≢ 0 → 0 < times before (room.chain (bucket_of z key))
    before_there below some = in_front at.front at.before_is at.is
      where
        in_front : (front : List ℕ) → before ≡ last_line 0 front → room.chain (bucket_of z key) ≡ front ++ n ∷ at.back → 0 < times before (room.chain (bucket_of z key))
        in_front [] is chain_is = absurd (some is)
        in_front (y ∷ ys) is chain_is = let a = last_in y ys (n ∷ at.back) in let e = ap (times before) chain_is in let f = ap (λ (k : ℕ). times k ((y ∷ ys) ++ n ∷ at.back)) is in omega (arith, a, e, f)

    some_before : (x : ℕ) → x ≡ before → layout.first ≤ x → 0 < layout.first → before ≢ 0
    some_before x e low pos z = omega (arith, e, z, low, pos)

    not_before : (c : ℕ) → c < 8 → c ≢ bucket_of z key → (x : ℕ) → 0 < times x (room.chain c) → x ≡ before → bucket_of z key < 8 → 0 < layout.first → ⊥
    not_before c lt ne x t e below pos =
        let low = (chain_node layout z shard r pairs room c x lt t).0 in
        let there = before_there below (some_before x e low pos) in
        let apart = chain_apart layout z shard r pairs room (bucket_of z key) c before below lt ne there in
        other_than before x (room.chain c) apart t e

    not_n : (x : ℕ) → times x (room.chain (bucket_of z key)) ≡ 0 → x ≡ n → ⊥
    not_n x none e =
        let a = ap (times n) at.is ∙ times-append n at.front (n ∷ at.back) in let c = times-here n at.back in let f = ap (λ (k : ℕ). times k (room.chain (bucket_of z key))) e in omega (arith, a, c, f, none)

    free_word : (x : ℕ) → 0 < times x room.free → bucket_of z key < 8 → r' x 0 ≡ r x 0
    free_word x t below =
        let low = (free_node layout.first z (joined room.chain 8) room.free r (stock_of layout z shard r pairs laid room) x t).0 in
        let part = total-part (λ c. times x (room.chain c)) (bucket_of z key) 8 below in
        let one = at_most_one (is_node layout.first (r 0 1) x) (total (λ c. times x (room.chain c)) 8 + times x room.free) (room.each x) in
        let none : times x (room.chain (bucket_of z key)) ≡ 0 = omega (arith, part, one, t) in
        u.nodes x 0 low (λ e. absurd (not_n x none e)) (λ e z. omega (arith, z))

    counts : bucket_of z key < 8 → r' 0 2 + length (room.chain (bucket_of z key)) ≡ r 0 2 + length (at.front ++ at.back)
    counts below =
        let e : length (room.chain (bucket_of z key)) ≡ length (at.front ++ n ∷ at.back) = ap (λ (ys : List ℕ). length ys) at.is in
        let a : length (at.front ++ n ∷ at.back) ≡ length at.front + length (n ∷ at.back) = length-append at.front (n ∷ at.back) in
        let c : length (at.front ++ at.back) ≡ length at.front + length at.back = length-append at.front at.back in
        let f = u.count in
        let part = total-part (λ d. length (room.chain d)) (bucket_of z key) 8 below in
        let all = room.count in
        omega (arith, e, a, c, f, part, all)

    here : (k : ℕ) → shard_of z k ≡ shard → bucket_of z k ≡ bucket_of z key → ((x w : ℕ) → 0 < times x (at.front ++ at.back) → w < 2 → r' x w ≡ r x w)
        → AreKeys z shard (bucket_of z key) r (at.front ++ n ∷ at.back) → get (remove pairs key) k ≡ found r' k (at.front ++ at.back)
    here k s d words old_keys = elim (eqb_tells k key) [
      | inl h ↦
          let old : found r (r n 0) (at.front ++ at.back) ≡ None = found-cut_none r z shard (bucket_of z key) n at.front at.back old_keys (ap (λ (q : ℕ). found r q at.front) at.key_of ∙ at.none) in
          got_removed pairs key k ∙ ap (λ (q : Bool). if q then None else get pairs k) h.0
          ∙ sym (found-still_none r r' k (at.front ++ at.back) (λ x t. words x 0 t (omega arith)) (ap (λ (q : ℕ). found r q (at.front ++ at.back)) (h.1 ∙ sym at.key_of) ∙ old))
      | inr h ↦
          let other : r n 0 ≢ k = λ e. h.1 (sym e ∙ at.key_of) in
          got_removed pairs key k ∙ ap (λ (q : Bool). if q then None else get pairs k) h.0 ∙ get_found layout z shard r pairs room k s
          ∙ ap (λ (c : ℕ). found r k (room.chain c)) d ∙ ap (found r k) at.is ∙ found-cut r k n at.front at.back other
          ∙ sym (found-same r r' k (at.front ++ at.back) words)
    ]

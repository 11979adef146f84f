-- The two rows of a put that changes the map.
use Rattle.std.proofs.Common.{◌≡◌, ℕ, ◌+◌, ◌<◌, ◌≤◌, ◌≢◌, Bool, false, Some, None, List, [], ◌∷◌, arith, refl, ap, sym, ◌∙◌, subst, inl, inr, if◌then◌else◌}
use Rattle.std.proofs.lemmas.Bool.Decides.{eqb_tells, nat_tests}
use Rattle.std.specs.FinMap.{get, insert}
use Rattle.seq_object.specs.Object.{shard_of, Pairs}
use Rattle.room_model.specs.declared.write.Write.{Write}
use Rattle.room_model.specs.Chains.{IsChain, times, is_node, with_word, RoomWords}
use Rattle.room_model.specs.Writes.{write, written, taken_line, is_full, take_write, put_absent}
use Rattle.room_model.specs.MapRoom.{Layout, IsLayout, head, bucket_of, found, IsMapRoom}
use Rattle.room_laws.proofs.Lists.{other_than, chain_same}
use Rattle.room_laws.proofs.Totals.{total-part, one_where}
use Rattle.room_laws.proofs.Stock.{IsTaken, TakesLine, take_written, take, free_after, fresh_after}
use Rattle.seq_object.proofs.Pairs.{got_put}
use Rattle.room_laws.proofs.Keys.{joined, times-joined, found-here, found-there, found-same, found-still_none, keys-same}
use Rattle.room_laws.proofs.Maps.{bucket_below, stock_of, chain_node, get_found, changed, not_key}
use Rattle.seq_object.specs.declared.sizes.Sizes.{Sizes}

-- a pair is put at the front of its bucket, in line n
pub record PutsFront (layout : Layout) (b n key value : ℕ) (r r' : RoomWords) : Type 0 where
  pub free : r' 0 0 ≡ free_after r
  pub fresh : r' 0 1 ≡ fresh_after r
  pub count : r' 0 2 ≡ r 0 2 + 1
  pub first : head layout r' b ≡ n
  pub key_of : r' n 0 ≡ key
  pub value_of : r' n 1 ≡ value
  pub next_of : r' n 2 ≡ head layout r b
  pub heads : (c : ℕ) → c < 8 → c ≢ b → head layout r' c ≡ head layout r c
  pub nodes : (x w : ℕ) → layout.first ≤ x → x ≢ n → r' x w ≡ r x w

-- the last five writes of a put of an absent key
abbrev pub front_writes : ℕ → ℕ → ℕ → ℕ → ℕ → ℕ → ℕ → List Write
front_writes n key value next line word count = write n 0 key ∷ write n 1 value ∷ write n 2 next ∷ write line word n ∷ write 0 2 count ∷ []

-- the place of a head against another
head_apart : (layout : Layout) → IsLayout layout → (b c : ℕ) → b < 8 → c < 8 → c ≢ b → layout.head_line c ≡ layout.head_line b → layout.head_word c ≢ layout.head_word b
head_apart layout laid b c lt lu ne same e = ne (laid.apart c b lu lt same e)

-- where each word is after these writes, of which the head's place is apart from the header and the nodes
record FrontWritten (n key value next line word count first : ℕ) (q r' : RoomWords) : Type 0 where
  free : r' 0 0 ≡ q 0 0
  fresh : r' 0 1 ≡ q 0 1
  count_of : r' 0 2 ≡ count
  head_of : r' line word ≡ n
  key_of : r' n 0 ≡ key
  value_of : r' n 1 ≡ value
  next_of : r' n 2 ≡ next
  places : (x w : ℕ) → x ≢ 0 → x ≢ n → (x ≡ line → w ≢ word) → r' x w ≡ q x w

-- what these writes change, over plain numbers
front_written : (n key value next line word count first : ℕ) (q : RoomWords) → 0 < line → line < first → first ≤ n → FrontWritten n key value next line word count first q (written q (front_writes n key value next line word count))
front_written n key value next line word count first q pos below low = record {
  free = grind (arith, nat_tests);
  fresh = grind (arith, nat_tests);
  count_of = grind (arith, nat_tests);
  head_of = grind (arith, nat_tests);
  key_of = grind (arith, nat_tests);
  value_of = grind (arith, nat_tests);
  next_of = grind (arith, nat_tests);
  places = λ x w a b c. grind (arith, nat_tests);
}

-- what the writes of a put of an absent key change
pub puts_front : (layout : Layout) (z : Sizes) (key value : ℕ) (r : RoomWords) → IsLayout layout → layout.first ≤ taken_line r
    → PutsFront layout (bucket_of z key) (taken_line r) key value r (written r (put_absent layout z r key value))
puts_front layout z key value r laid low =
    let b = bucket_of z key in
    let n = taken_line r in
    let q = with_word r (take_write r).line (take_write r).word (take_write r).value in
    let takes : TakesLine r q = take_written r in
    let below : b < 8 = bucket_below z key in
    let pos = laid.low b below in
    let high = laid.high b below in
    let f = front_written n key value (head layout r b) (layout.head_line b) (layout.head_word b) (r 0 2 + 1) layout.first q pos high low in
    record {
      free = f.free ∙ takes.free;
      fresh = f.fresh ∙ takes.fresh;
      count = f.count_of;
      first = f.head_of;
      key_of = f.key_of;
      value_of = f.value_of;
      next_of = f.next_of;
      heads = λ c lt ne. let cp = laid.low c lt in let ch = laid.high c lt in
          f.places (layout.head_line c) (layout.head_word c) (omega (arith, cp)) (omega (arith, ch, low)) (head_apart layout laid b c below lt ne) ∙ takes.others (layout.head_line c) (layout.head_word c) (omega (arith, cp));
      nodes = λ x w node ne. f.places x w (omega (arith, node, pos, high)) ne (λ e. absurd (omega (arith, e, node, high))) ∙ takes.others x w (omega (arith, node, pos, high));
    }

-- a pair at the front of its bucket joins the map
pub put_absent_room : (layout : Layout) (z : Sizes) (shard key value : ℕ) (r r' : RoomWords) (pairs : Pairs) → IsLayout layout → IsMapRoom layout z shard r pairs
    → shard_of z key ≡ shard → get pairs key ≡ None → is_full z.lines r ≡ false → PutsFront layout (bucket_of z key) (taken_line r) key value r r' → IsMapRoom layout z shard r' (insert pairs key value)
put_absent_room layout z shard key value r r' pairs laid room mine absent space put =
    let n = taken_line r in
    let b = bucket_of z key in
    let below : b < 8 = bucket_below z key in
    let stock = stock_of layout z shard r pairs laid room in
    let taken : IsTaken layout.first z (joined room.chain 8) r n (fresh_after r) (free_after r) = take layout.first z (joined room.chain 8) room.free r stock space in
    let apart : (c : ℕ) → c < 8 → times n (room.chain c) ≡ 0 = λ c lt.
    let part = total-part (λ d. times n (room.chain d)) c 8 lt in let sum = times-joined n room.chain 8 in let none = taken.held_apart in omega (arith, part, sum, none) in
    let same : (c : ℕ) → c < 8 → (x w : ℕ) → 0 < times x (room.chain c) → r' x w ≡ r x w = λ c lt x w t.
    put.nodes x w (chain_node layout z shard r pairs room c x lt t).0 (other_than n x (room.chain c) (apart c lt) t) in
    let some : n ≢ 0 = λ e. let low = taken.line_low in let pos = stock.positive in omega (arith, e, low, pos) in
    let old : IsChain (λ x. r' x 2) (head layout r b) (room.chain b) = chain_same (λ x. r x 2) (λ x. r' x 2) (head layout r b) (room.chain b) (λ x t. same b below x 2 t) (room.chained b below) in
    let none : found r key (room.chain b) ≡ None = sym (get_found layout z shard r pairs room key mine) ∙ absent in
    let free_same : (x : ℕ) → 0 < times x taken.rest → r' x 0 ≡ r x 0 = λ x t.
    put.nodes x 0 (let e = taken.each x in rest_node layout.first (fresh_after r) x (times x (n ∷ joined room.chain 8)) (times x taken.rest) t e) (other_than n x taken.rest taken.rest_apart t) in
    changed layout z shard b r r' pairs (insert pairs key value) room (n ∷ room.chain b) taken.rest (record {
      below = below;
      low = let e = put.fresh in let l = taken.fresh_low in omega (arith, e, l);
      high = let e = put.fresh in let l = taken.fresh_high in omega (arith, e, l);
      chained = (put.first, some, subst (λ (s : ℕ). IsChain (λ x. r' x 2) s (room.chain b)) (sym put.next_of) old);
      freed = subst (λ (s : ℕ). IsChain (λ x. r' x 0) s taken.rest) (sym put.free) (chain_same (λ x. r x 0) (λ x. r' x 0) (free_after r) taken.rest free_same taken.freed);
      heads = put.heads;
      others = λ c lt ne x w t l. same c lt x w t;
      each = λ x. counts x taken.rest (taken.each x) (stock.each x) put.fresh;
      keys = rw put.key_of (mine, refl, found-still_none r r' key (room.chain b) (λ x t. same b below x 0 t) none, keys-same r r' z shard b (room.chain b) (λ x t. same b below x 0 t) (room.keys b below));
      count = let e = put.count in omega (arith, e);
      here = λ k s d. here k s d (same b below);
      there = λ k away. got_put pairs key value k ∙ ap (λ (q : Bool). if q then Some value else get pairs k) (not_key z shard key k mine away);
    })
  where
    rest_node : (first fresh x h t : ℕ) → 0 < t → h + t ≡ one_where (is_node first fresh x) → first ≤ x
    rest_node first fresh x h t pos e = grind (arith, nat_tests)

    counts : (x : ℕ) (rest : List ℕ) → times x (taken_line r ∷ joined room.chain 8) + times x rest ≡ one_where (is_node layout.first (fresh_after r) x)
        → times x (joined room.chain 8) + times x room.free ≡ one_where (is_node layout.first (r 0 1) x) → r' 0 1 ≡ fresh_after r
        → times x (taken_line r ∷ room.chain (bucket_of z key)) + times x rest + one_where (is_node layout.first (r 0 1) x) ≡ times x (room.chain (bucket_of z key)) + times x room.free + one_where (is_node layout.first (r' 0 1) x)
    counts x rest new old fresh = let e = ap (λ (f : ℕ). one_where (is_node layout.first f x)) fresh in omega (arith, new, old, e)

    here : (k : ℕ) → shard_of z k ≡ shard → bucket_of z k ≡ bucket_of z key → ((x w : ℕ) → 0 < times x (room.chain (bucket_of z key)) → r' x w ≡ r x w)
        → get (insert pairs key value) k ≡ found r' k (taken_line r ∷ room.chain (bucket_of z key))
    here k s d same = elim (eqb_tells k key) [
      | inl h ↦
          got_put pairs key value k ∙ ap (λ (q : Bool). if q then Some value else get pairs k) h.0
          ∙ sym (found-here r' k (taken_line r) (room.chain (bucket_of z key)) (put.key_of ∙ sym h.1) ∙ ap Some put.value_of)
      | inr h ↦
          got_put pairs key value k ∙ ap (λ (q : Bool). if q then Some value else get pairs k) h.0 ∙ get_found layout z shard r pairs room k s
          ∙ ap (λ (c : ℕ). found r k (room.chain c)) d
          ∙ sym (found-same r r' k (room.chain (bucket_of z key)) (λ x w t l. same x w t))
          ∙ sym (found-there r' k (taken_line r) (room.chain (bucket_of z key)) (λ e. h.1 (sym e ∙ put.key_of)))
    ]

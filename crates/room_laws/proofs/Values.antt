-- The row of a put of a key that has a node.
use Rattle.std.proofs.Common.{◌≡◌, ℕ, ◌+◌, ◌<◌, ◌≤◌, ◌≢◌, Bool, Option, Some, List, ◌∷◌, ◌++◌, length, arith, ap, sym, ◌∙◌, subst, inl, inr, if◌then◌else◌}
use Rattle.std.proofs.lemmas.Bool.Decides.{eqb_tells, nat_tests}
use Rattle.std.specs.FinMap.{get, insert}
use Rattle.seq_object.specs.Object.{shard_of, Pairs}
use Rattle.room_model.specs.Chains.{IsChain, times, is_node, RoomWords}
use Rattle.room_model.specs.Writes.{written, put_present}
use Rattle.room_model.specs.MapRoom.{Layout, IsLayout, head, bucket_of, found, AreKeys, IsMapRoom}
use Rattle.room_laws.proofs.Lists.{times-append, times-here, other_than, chain_same}
use Rattle.room_laws.proofs.Totals.{one_where}
use Rattle.seq_object.proofs.Pairs.{got_put}
use Rattle.room_laws.proofs.Keys.{found-here, found-append, found-same, found-still_none, keys-same, found-cut, or_else}
use Rattle.room_laws.proofs.Walks.{IsLocated}
use Rattle.room_laws.proofs.Maps.{bucket_below, chain_node, chain_once, chain_apart, get_found, changed, not_key}
use Rattle.seq_object.specs.declared.sizes.Sizes.{Sizes}

-- line n has a new value
pub record SetsValue (n value : ℕ) (r r' : RoomWords) : Type 0 where
  pub value_of : r' n 1 ≡ value
  pub others : (x w : ℕ) → (x ≡ n → w ≢ 1) → r' x w ≡ r x w

-- what the write of a value changes
pub sets_value : (n value : ℕ) (r : RoomWords) → SetsValue n value r (written r (put_present n value))
sets_value n value r = record { value_of = grind (arith, nat_tests); others = λ x w ne. grind (arith, nat_tests) }

-- where the node of a key stands
pub record IsPlaced (layout : Layout) (z : Sizes) (shard : ℕ) (r : RoomWords) (pairs : Pairs) (room : IsMapRoom layout z shard r pairs) (b n : ℕ) (front back : List ℕ) : Type 0 where
  pub low : layout.first ≤ n
  pub out : times n (front ++ back) ≡ 0
  pub away : (c : ℕ) → c < 8 → c ≢ b → times n (room.chain c) ≡ 0

-- where the node of a key stands in its room
pub placed : (layout : Layout) (z : Sizes) (shard : ℕ) (r : RoomWords) (pairs : Pairs) (room : IsMapRoom layout z shard r pairs) (b n : ℕ) (front back : List ℕ) → b < 8 → room.chain b ≡ front ++ n ∷ back
    → IsPlaced layout z shard r pairs room b n front back
placed layout z shard r pairs room b n front back below is =
    let in_chain : times n (room.chain b) ≡ times n front + (1 + times n back) = ap (times n) is ∙ times-append n front (n ∷ back) ∙ ap (λ (k : ℕ). times n front + k) (times-here n back) in
    let once = chain_once layout z shard r pairs room b n below in
    let node = chain_node layout z shard r pairs room b n below (omega (arith, in_chain)) in
    record {
      low = node.0;
      out = let a = times-append n front back in omega (arith, a, in_chain, once);
      away = λ c lt ne. chain_apart layout z shard r pairs room b c n below lt ne (omega (arith, in_chain));
    }

-- a room whose node has a new value stands for the pairs with that value
pub put_present_room : (layout : Layout) (z : Sizes) (shard key value start n before : ℕ) (r r' : RoomWords) (pairs : Pairs) → IsLayout layout → (room : IsMapRoom layout z shard r pairs)
    → shard_of z key ≡ shard → IsLocated r key (room.chain (bucket_of z key)) start n before → SetsValue n value r r' → IsMapRoom layout z shard r' (insert pairs key value)
put_present_room layout z shard key value start n before r r' pairs laid room mine at sets =
    let b = bucket_of z key in
    let below : b < 8 = bucket_below z key in
    let xs = at.front ++ n ∷ at.back in
    let place : IsPlaced layout z shard r pairs room b n at.front at.back = placed layout z shard r pairs room b n at.front at.back below at.is in
    let some : n ≢ 0 = at.some_line in
    let header : (w : ℕ) → r' 0 w ≡ r 0 w = λ w. sets.others 0 w (λ (e : 0 ≡ n). absurd (some (sym e))) in
    let heads : (c : ℕ) → c < 8 → head layout r' c ≡ head layout r c = λ c lt. let high = laid.high c lt in let low = place.low in
    sets.others (layout.head_line c) (layout.head_word c) (λ (e : layout.head_line c ≡ n). absurd (omega (arith, e, high, low))) in
    let word : (x w : ℕ) → w ≢ 1 → r' x w ≡ r x w = λ x w ne. sets.others x w (λ (e : x ≡ n). ne) in
    let key_same : (x : ℕ) → r' x 0 ≡ r x 0 = λ x. word x 0 (omega arith) in
    changed layout z shard b r r' pairs (insert pairs key value) room xs room.free (record {
      below = below;
      low = let e = header 1 in let l = room.low in omega (arith, e, l);
      high = let e = header 1 in let l = room.high in omega (arith, e, l);
      chained = subst (λ (s : ℕ). IsChain (λ x. r' x 2) s xs) (sym (heads b below))
          (chain_same (λ x. r x 2) (λ x. r' x 2) (head layout r b) xs (λ x t. word x 2 (omega arith)) (subst (IsChain (λ x. r x 2) (head layout r b)) at.is (room.chained b below)));
      freed = subst (λ (s : ℕ). IsChain (λ x. r' x 0) s room.free) (sym (header 0)) (chain_same (λ x. r x 0) (λ x. r' x 0) (r 0 0) room.free (λ x t. key_same x) room.freed);
      heads = λ c lt ne. heads c lt;
      others = λ c lt ne x w t l. sets.others x w (λ (e : x ≡ n). absurd (other_than n x (room.chain c) (place.away c lt ne) t e));
      each = λ x. let e = ap (times x) at.is in let f = ap (λ (k : ℕ). one_where (is_node layout.first k x)) (header 1) in omega (arith, e, f);
      keys = keys-same r r' z shard b xs (λ x t. key_same x) (subst (AreKeys z shard b r) at.is (room.keys b below));
      count = let e : length (room.chain b) ≡ length xs = ap (λ (ys : List ℕ). length ys) at.is in let f = header 2 in omega (arith, e, f);
      here = λ k s d. here k s d key_same place.out;
      there = λ k off. got_put pairs key value k ∙ ap (λ (q : Bool). if q then Some value else get pairs k) (not_key z shard key k mine off);
    })
  where
    here : (k : ℕ) → shard_of z k ≡ shard → bucket_of z k ≡ bucket_of z key → ((x : ℕ) → r' x 0 ≡ r x 0) → times n (at.front ++ at.back) ≡ 0
        → get (insert pairs key value) k ≡ found r' k (at.front ++ n ∷ at.back)
    here k s d key_same out = elim (eqb_tells k key) [
      | inl h ↦
          got_put pairs key value k ∙ ap (λ (q : Bool). if q then Some value else get pairs k) h.0
          ∙ sym (found-append r' k at.front (n ∷ at.back)
          ∙ ap (λ (o : Option ℕ). or_else o (found r' k (n ∷ at.back))) (ap (λ (q : ℕ). found r' q at.front) h.1 ∙ found-still_none r r' key at.front (λ x t. key_same x) at.none)
          ∙ found-here r' k n at.back (key_same n ∙ at.key_of ∙ sym h.1) ∙ ap Some sets.value_of)
      | inr h ↦
          let other : r n 0 ≢ k = λ e. h.1 (sym e ∙ at.key_of) in
          got_put pairs key value k ∙ ap (λ (q : Bool). if q then Some value else get pairs k) h.0 ∙ get_found layout z shard r pairs room k s
          ∙ ap (λ (c : ℕ). found r k (room.chain c)) d ∙ ap (found r k) at.is ∙ found-cut r k n at.front at.back other
          ∙ sym (found-same r r' k (at.front ++ at.back) (λ x w t l. sets.others x w (λ (e : x ≡ n). absurd (other_than n x (at.front ++ at.back) out t e))))
          ∙ sym (found-cut r' k n at.front at.back (λ e. other (sym (key_same n) ∙ e)))
    ]

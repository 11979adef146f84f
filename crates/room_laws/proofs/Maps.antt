-- A map room in which one bucket's chain is changed.
use Rattle.std.proofs.Common.{◌≡◌, ℕ, ◌+◌, ◌<◌, ◌≤◌, ◌≢◌, ◌==◌, Bool, false, Option, None, List, length, arith, refl, ap, sym, ◌∙◌, subst, inl, inr, if◌then◌else◌, eq-eqb}
use Rattle.std.proofs.lemmas.Bool.Decides.{eqb_tells}
use Rattle.std.proofs.lemmas.Bool.{ne_eqb}
use Rattle.std.specs.FinMap.{get, len}
use Rattle.seq_object.specs.History.{total}
use Rattle.seq_object.specs.Object.{shard_of, Pairs}
use Rattle.room_model.specs.Chains.{IsChain, times, is_node, RoomWords}
use Rattle.room_model.specs.MapRoom.{Layout, IsLayout, head, bucket_of, found, AreKeys, IsMapRoom}
use Rattle.room_laws.proofs.Totals.{total-changed, total-part, total-two_parts, one_where}
use Rattle.room_laws.proofs.Lists.{chain_same}
use Rattle.room_laws.proofs.Stock.{IsStock, stock_size, at_most_one, node}
use Rattle.room_laws.proofs.Keys.{joined, times-joined, length-joined, found-same, keys-same, apart-joined, found-joined, found-joined_none, len-lines}
use Rattle.seq_object.specs.declared.sizes.Sizes.{Sizes}

-- the chains with this one in place of that of bucket b
abbrev pub with_chain : (ℕ → List ℕ) → ℕ → List ℕ → ℕ → List ℕ
with_chain chain b xs c = if c == b then xs else chain c

-- the chain of this bucket
pub with_chain-here : (chain : ℕ → List ℕ) (b : ℕ) (xs : List ℕ) (c : ℕ) → c ≡ b → with_chain chain b xs c ≡ xs
with_chain-here chain b xs c e = ap (λ (q : Bool). if q then xs else chain c) (eq-eqb c b e)

-- the chain of another bucket
pub with_chain-there : (chain : ℕ → List ℕ) (b : ℕ) (xs : List ℕ) (c : ℕ) → c ≢ b → with_chain chain b xs c ≡ chain c
with_chain-there chain b xs c ne = ap (λ (q : Bool). if q then xs else chain c) (ne_eqb c b ne)

-- what holds of the new chain and of the others holds of each
each_chain : (P : ℕ → List ℕ → Type 0) (chain : ℕ → List ℕ) (b n : ℕ) (xs : List ℕ) → P b xs → ((c : ℕ) → c < n → c ≢ b → P c (chain c)) → (c : ℕ) → c < n → P c (with_chain chain b xs c)
each_chain P chain b n xs new old c lt = elim (eqb_tells c b) [
  | inl h ↦ subst (P c) (sym (with_chain-here chain b xs c h.1)) (subst (λ (d : ℕ). P d xs) (sym h.1) new)
  | inr h ↦ subst (P c) (sym (with_chain-there chain b xs c h.1)) (old c lt h.1)
]

-- a sum over the chains, where one is changed
total_chains : (f : List ℕ → ℕ) (chain : ℕ → List ℕ) (b n : ℕ) (xs : List ℕ) → b < n → total (λ c. f (with_chain chain b xs c)) n + f (chain b) ≡ total (λ c. f (chain c)) n + f xs
total_chains f chain b n xs lt =
    let changed = total-changed (λ c. f (chain c)) (λ c. f (with_chain chain b xs c)) b n lt (λ c l ne. ap f (with_chain-there chain b xs c ne)) in
    let new : f (with_chain chain b xs b) ≡ f xs = ap f (with_chain-here chain b xs b refl) in
    omega (arith, changed, new)

-- there are eight buckets
pub bucket_below : (z : Sizes) (key : ℕ) → bucket_of z key < 8
bucket_below z key = omega arith

-- the room's lines as held and free ones
pub stock_of : (layout : Layout) (z : Sizes) (shard : ℕ) (r : RoomWords) (pairs : Pairs) → IsLayout layout → (room : IsMapRoom layout z shard r pairs) → IsStock layout.first z (joined room.chain 8) room.free r
stock_of layout z shard r pairs laid room = record {
  positive = let a = laid.low 0 (omega arith) in let b = laid.high 0 (omega arith) in omega (arith, a, b);
  low = room.low;
  high = room.high;
  freed = room.freed;
  each = λ x. let a = times-joined x room.chain 8 in let b = room.each x in omega (arith, a, b);
}

-- a line of a chain is a node, in this chain once and in no other
pub chain_node : (layout : Layout) (z : Sizes) (shard : ℕ) (r : RoomWords) (pairs : Pairs) (room : IsMapRoom layout z shard r pairs) (b x : ℕ) → b < 8 → 0 < times x (room.chain b) → (layout.first ≤ x) × (x < r 0 1)
chain_node layout z shard r pairs room b x lt pos =
    let part = total-part (λ c. times x (room.chain c)) b 8 lt in
    node layout.first (r 0 1) x (total (λ c. times x (room.chain c)) 8 + times x room.free) (omega (arith, part)) (room.each x)

-- a line stands in a chain at most once
pub chain_once : (layout : Layout) (z : Sizes) (shard : ℕ) (r : RoomWords) (pairs : Pairs) (room : IsMapRoom layout z shard r pairs) (b x : ℕ) → b < 8 → times x (room.chain b) ≤ 1
chain_once layout z shard r pairs room b x lt =
    let part = total-part (λ c. times x (room.chain c)) b 8 lt in
    let one = at_most_one (is_node layout.first (r 0 1) x) (total (λ c. times x (room.chain c)) 8 + times x room.free) (room.each x) in
    omega (arith, part, one)

-- a line of a chain stands in no other
pub chain_apart : (layout : Layout) (z : Sizes) (shard : ℕ) (r : RoomWords) (pairs : Pairs) (room : IsMapRoom layout z shard r pairs) (b c x : ℕ) → b < 8 → c < 8 → c ≢ b → 0 < times x (room.chain b) → times x (room.chain c) ≡ 0
chain_apart layout z shard r pairs room b c x lt lu ne pos =
    let parts = total-two_parts (λ d. times x (room.chain d)) b c 8 lt lu (λ e. ne (sym e)) in
    let one = at_most_one (is_node layout.first (r 0 1) x) (total (λ d. times x (room.chain d)) 8 + times x room.free) (room.each x) in
    omega (arith, parts, one, pos)

-- a chain has no more lines than the room
pub chain_length : (layout : Layout) (z : Sizes) (shard : ℕ) (r : RoomWords) (pairs : Pairs) → IsLayout layout → (room : IsMapRoom layout z shard r pairs) (b : ℕ) → b < 8 → length (room.chain b) ≤ z.lines
chain_length layout z shard r pairs laid room b lt =
    let size = stock_size layout.first z (joined room.chain 8) room.free r (stock_of layout z shard r pairs laid room) in
    let sum = length-joined room.chain 8 in
    let part = total-part (λ c. length (room.chain c)) b 8 lt in
    let high = room.high in
    omega (arith, size, sum, part, high)

-- what the pairs have at a key is what all chains have
pub get_joined : (layout : Layout) (z : Sizes) (shard : ℕ) (r : RoomWords) (pairs : Pairs) (room : IsMapRoom layout z shard r pairs) (key : ℕ) → get pairs key ≡ found r key (joined room.chain 8)
get_joined layout z shard r pairs room key = room.keyed key ∙ at key
  where
    at : (key : ℕ) → (if shard_of z key == shard then found r key (room.chain (bucket_of z key)) else None) ≡ found r key (joined room.chain 8)
    at key = elim (eqb_tells (shard_of z key) shard) [
      | inl h ↦ ap (λ (b : Bool). if b then found r key (room.chain (bucket_of z key)) else None) h.0 ∙ sym (found-joined r z shard room.chain 8 key room.keys (bucket_below z key))
      | inr h ↦ ap (λ (b : Bool). if b then found r key (room.chain (bucket_of z key)) else None) h.0 ∙ sym (found-joined_none r z shard room.chain 8 key room.keys h.1)
    ]

-- there are as many keys as the chains have lines
pub map_size : (layout : Layout) (z : Sizes) (shard : ℕ) (r : RoomWords) (pairs : Pairs) (room : IsMapRoom layout z shard r pairs) → len pairs ≡ length (joined room.chain 8)
map_size layout z shard r pairs room =
    len-lines r (joined room.chain 8) pairs (apart-joined r z shard room.chain 8 room.keys) (λ key. get_joined layout z shard r pairs room key)

-- what the pairs have at a key of the shard
pub get_found : (layout : Layout) (z : Sizes) (shard : ℕ) (r : RoomWords) (pairs : Pairs) (room : IsMapRoom layout z shard r pairs) (key : ℕ) → shard_of z key ≡ shard → get pairs key ≡ found r key (room.chain (bucket_of z key))
get_found layout z shard r pairs room key mine = room.keyed key ∙ ap (λ (b : Bool). if b then found r key (room.chain (bucket_of z key)) else None) (eq-eqb (shard_of z key) shard mine)

-- bucket b's chain and the free list are changed, the others are not
pub record ChangesBucket (layout : Layout) (z : Sizes) (shard b : ℕ) (r r' : RoomWords) (pairs pairs' : Pairs) (room : IsMapRoom layout z shard r pairs) (xs free : List ℕ) : Type 0 where
  pub below : b < 8
  pub low : layout.first ≤ r' 0 1
  pub high : r' 0 1 ≤ z.lines
  pub chained : IsChain (λ x. r' x 2) (head layout r' b) xs
  pub freed : IsChain (λ x. r' x 0) (r' 0 0) free
  pub heads : (c : ℕ) → c < 8 → c ≢ b → head layout r' c ≡ head layout r c
  pub others : (c : ℕ) → c < 8 → c ≢ b → (x w : ℕ) → 0 < times x (room.chain c) → w < 3 → r' x w ≡ r x w
  pub each : (x : ℕ) → times x xs + times x free + one_where (is_node layout.first (r 0 1) x) ≡ times x (room.chain b) + times x room.free + one_where (is_node layout.first (r' 0 1) x)
  pub keys : AreKeys z shard b r' xs
  pub count : r' 0 2 + length (room.chain b) ≡ r 0 2 + length xs
  pub here : (key : ℕ) → shard_of z key ≡ shard → bucket_of z key ≡ b → get pairs' key ≡ found r' key xs
  pub there : (key : ℕ) → (shard_of z key ≡ shard → bucket_of z key ≡ b → ⊥) → get pairs' key ≡ get pairs key

-- then the room stands for the new pairs
pub changed : (layout : Layout) (z : Sizes) (shard b : ℕ) (r r' : RoomWords) (pairs pairs' : Pairs) (room : IsMapRoom layout z shard r pairs) (xs free : List ℕ)
    → ChangesBucket layout z shard b r r' pairs pairs' room xs free → IsMapRoom layout z shard r' pairs'
changed layout z shard b r r' pairs pairs' room xs free new = record {
  chain = with_chain room.chain b xs;
  free = free;
  low = new.low;
  high = new.high;
  chained = each_chain (λ c ys. IsChain (λ x. r' x 2) (head layout r' c) ys) room.chain b 8 xs new.chained
      (λ c lt ne. subst (λ (s : ℕ). IsChain (λ x. r' x 2) s (room.chain c)) (sym (new.heads c lt ne)) (chain_same (λ x. r x 2) (λ x. r' x 2) (head layout r c) (room.chain c) (λ x t. new.others c lt ne x 2 t (omega arith)) (room.chained c lt)));
  freed = new.freed;
  each = λ x. let a = total_chains (times x) room.chain b 8 xs new.below in let e = new.each x in let o = room.each x in omega (arith, a, e, o);
  keys = each_chain (λ c ys. AreKeys z shard c r' ys) room.chain b 8 xs new.keys (λ c lt ne. keys-same r r' z shard c (room.chain c) (λ x t. new.others c lt ne x 0 t (omega arith)) (room.keys c lt));
  count = let a = total_chains (λ ys. length ys) room.chain b 8 xs new.below in let e = new.count in let o = room.count in omega (arith, a, e, o);
  keyed = keyed;
}
  where
    -- another bucket's answer
    elsewhere : (key : ℕ) → (bucket_of z key ≢ b) → found r' key (with_chain room.chain b xs (bucket_of z key)) ≡ found r key (room.chain (bucket_of z key))
    elsewhere key ne = ap (found r' key) (with_chain-there room.chain b xs (bucket_of z key) ne)
        ∙ found-same r r' key (room.chain (bucket_of z key)) (λ x w t l. new.others (bucket_of z key) (bucket_below z key) ne x w t (omega arith))

    keyed : (key : ℕ) → get pairs' key ≡ (if shard_of z key == shard then found r' key (with_chain room.chain b xs (bucket_of z key)) else None)
    keyed key = elim (eqb_tells (shard_of z key) shard) [
      | inl h ↦
          let mine = λ (o : Option ℕ). ap (λ (q : Bool). if q then o else None) h.0 in
          elim (eqb_tells (bucket_of z key) b) [
            | inl g ↦ new.here key h.1 g.1 ∙ sym (ap (found r' key) (with_chain-here room.chain b xs (bucket_of z key) g.1)) ∙ sym (mine (found r' key (with_chain room.chain b xs (bucket_of z key))))
            | inr g ↦
                new.there key (λ s d. g.1 d) ∙ get_found layout z shard r pairs room key h.1 ∙ sym (elsewhere key g.1)
                ∙ sym (mine (found r' key (with_chain room.chain b xs (bucket_of z key))))
          ]
      | inr h ↦
          new.there key (λ s d. h.1 s) ∙ room.keyed key ∙ ap (λ (q : Bool). if q then found r key (room.chain (bucket_of z key)) else None) h.0
          ∙ sym (ap (λ (q : Bool). if q then found r' key (with_chain room.chain b xs (bucket_of z key)) else None) h.0)
    ]

-- a key of another place is another key
pub not_key : (z : Sizes) (shard key k : ℕ) → shard_of z key ≡ shard → (shard_of z k ≡ shard → bucket_of z k ≡ bucket_of z key → ⊥) → (k == key) ≡ false
not_key z shard key k mine away = elim (eqb_tells k key) [
  | inl h ↦ absurd (away (ap (shard_of z) h.1 ∙ mine) (ap (bucket_of z) h.1))
  | inr h ↦ h.0
]

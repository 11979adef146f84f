-- An image recovers to one state.
use Rattle.std.proofs.Common.{◌≡◌, ◌≢◌, ℕ, ◌<◌, ◌≤◌, ◌==◌, suc, Bool, List, [], ◌∷◌, length, map, None, if◌then◌else◌, refl, sym, ap, ◌∙◌, subst, arith, eq-eqb}
use Rattle.std.specs.Prelude.{MatchBool}
use Rattle.std.proofs.lemmas.Bool.{ne_eqb}
use Rattle.std.specs.FinMap.{get}
use Rattle.seq_object.specs.Object.{Pairs, Contents, shard_of, shard_pairs}
use Rattle.seq_object.specs.History.{State, point_at}
use Rattle.seq_object.proofs.Pairs.{one_map, got_key}
use Rattle.room_model.specs.Image.{ImageRooms, Recovers, recovered_room}
use Rattle.room_model.specs.Chains.{IsChain}
use Rattle.room_model.specs.MapRoom.{Layout, head, found, bucket_of, IsMapRoom}
use Rattle.room_model.specs.QueueRoom.{IsQueueRoom}
use Rattle.room_model.specs.Rooms.{StandsFor}
use Rattle.life_laws.specs.ImageLaws.{OneStateLaw}
use Rattle.seq_object.specs.declared.history.RestartPoint.{RestartPoint}
use Rattle.seq_object.specs.declared.sizes.Sizes.{Sizes}

-- a chain is told by where it starts
chain_one : (next : ℕ → ℕ) (start : ℕ) (xs ys : List ℕ) → IsChain next start xs → IsChain next start ys → xs ≡ ys
chain_one next start [] [] a b = refl
chain_one next start [] (y ∷ ys) a b = absurd (b.1 (sym b.0 ∙ a))
chain_one next start (x ∷ xs) [] a b = absurd (a.1 (sym a.0 ∙ b))
chain_one next start (x ∷ xs) (y ∷ ys) a b =
    let same : x ≡ y = sym a.0 ∙ b.0 in
    let rest : IsChain next (next x) ys = subst (λ (k : ℕ). IsChain next (next k) ys) (sym same) b.2 in
    let tails : xs ≡ ys = chain_one next (next x) xs ys a.2 rest in
    cc

-- a map room stands for one map
one_pairs : (layout : Layout) (z : Sizes) (shard : ℕ) (r : ℕ → ℕ → ℕ) (m n : Pairs) → IsMapRoom layout z shard r m → IsMapRoom layout z shard r n
    → (key : ℕ) → get m key ≡ get n key
one_pairs layout z shard r m n a b key =
    let bucket = bucket_of z key in
    let below : bucket < 8 = omega arith in
    let chains : a.chain bucket ≡ b.chain bucket =
    chain_one (λ x. r x 2) (head layout r bucket) (a.chain bucket) (b.chain bucket) (a.chained bucket below) (b.chained bucket below) in
    a.keyed key ∙ ap (λ (xs : List ℕ). if shard_of z key == shard then found r key xs else None) chains ∙ sym (b.keyed key)

-- a queue room stands for one list
one_items : (z : Sizes) (r : ℕ → ℕ → ℕ) (l k : List ℕ) → IsQueueRoom z r l → IsQueueRoom z r k → l ≡ k
one_items z r l k a b = a.listed ∙ ap (map (λ x. r x 0)) (chain_one (λ x. r x 1) (r 1 0) a.chain b.chain a.chained b.chained) ∙ sym b.listed

-- lists of restart points are one that have one length and the same at each index
one_list : (xs ys : List RestartPoint) → length xs ≡ length ys → ((i : ℕ) → i < length xs → point_at xs i ≡ point_at ys i) → xs ≡ ys
one_list [] [] e f = refl
one_list [] (y ∷ ys) e f = absurd (omega arith)
one_list (x ∷ xs) [] e f = absurd (omega arith)
one_list (x ∷ xs) (y ∷ ys) e f =
    let here : x ≡ y = f 0 (omega arith) in
    let rest : xs ≡ ys = one_list xs ys (omega arith) (λ i lt. f (suc i) (omega arith)) in
    cc

-- a room below the queue room stands for its shard's pairs
as_map : (layout : Layout) (z : Sizes) (room : ℕ) (r : ℕ → ℕ → ℕ) (c : Contents) → room ≢ z.shards → StandsFor layout z room r c
    → IsMapRoom layout z room r (shard_pairs z room c.pairs)
as_map layout z room r c ne s = subst (λ (b : Bool). MatchBool b (IsQueueRoom z r c.items) (IsMapRoom layout z room r (shard_pairs z room c.pairs)))
    (ne_eqb room z.shards ne) s

-- the queue room stands for the items
as_queue : (layout : Layout) (z : Sizes) (r : ℕ → ℕ → ℕ) (c : Contents) → StandsFor layout z z.shards r c → IsQueueRoom z r c.items
as_queue layout z r c s = subst
    (λ (b : Bool). MatchBool b (IsQueueRoom z r c.items) (IsMapRoom layout z z.shards r (shard_pairs z z.shards c.pairs)))
    (eq-eqb z.shards z.shards refl) s

-- a key's value in its shard is its value
own_pair : (z : Sizes) (key : ℕ) (m : Pairs) → get (shard_pairs z (shard_of z key) m) key ≡ get m key
own_pair z key m = got_key m (λ k. shard_of z k == shard_of z key) key (eq-eqb (shard_of z key) (shard_of z key) refl)

module _ (layout : Layout) (z : Sizes) (image : ImageRooms) (s t : State) (a : Recovers layout z image s) (b : Recovers layout z image t) where
  -- each key has one value
  same_pairs : (key : ℕ) → get s.contents.pairs key ≡ get t.contents.pairs key
  same_pairs key =
      let room = shard_of z key in
      let r = recovered_room z image room in
      let some : 1 ≤ z.shards = a.valid.some_shards in
      let low : room ≤ z.shards = omega arith in
      let ne : room ≢ z.shards = λ e. omega arith in
      sym (own_pair z key s.contents.pairs)
      ∙ one_pairs layout z room r (shard_pairs z room s.contents.pairs) (shard_pairs z room t.contents.pairs)
      (as_map layout z room r s.contents ne (a.rooms room low)) (as_map layout z room r t.contents ne (b.rooms room low)) key
      ∙ own_pair z key t.contents.pairs

  -- there is one list of items
  same_items : s.contents.items ≡ t.contents.items
  same_items =
      let r = recovered_room z image z.shards in
      one_items z r s.contents.items t.contents.items (as_queue layout z r s.contents (a.rooms z.shards (omega arith)))
      (as_queue layout z r t.contents (b.rooms z.shards (omega arith)))

  -- there is one list of restart points
  same_points : s.points ≡ t.points
  same_points = one_list s.points t.points (a.threads ∙ sym b.threads)
      (λ i lt. let below : i < z.threads = subst (λ (n : ℕ). i < n) a.threads lt in a.points i below ∙ sym (b.points i below))

  -- so there is one state
  one : s ≡ t
  one =
      let pairs : s.contents.pairs ≡ t.contents.pairs = one_map s.contents.pairs t.contents.pairs same_pairs in
      λ m. record { contents = record { pairs = pairs m; items = same_items m }; points = same_points m }

-- for every layout and image
pub one_state : OneStateLaw
one_state = one

-- What a whole image recovers to has numbers of 64 bits.
use Rattle.std.proofs.Common.{◌≡◌, ◌≢◌, ℕ, zero, suc, ◌<◌, ◌≤◌, ◌^◌, ◌==◌, Bool, true, false, if◌then◌else◌, List, [], ◌∷◌, map, Option, Some, None, refl, sym, subst, arith, inl, inr, eq-eqb, All}
use Rattle.std.specs.Prelude.{slice_index}
use Rattle.std.specs.FinMap.{get}
use Rattle.std.specs.List.{AllByRecursion}
use Rattle.std.proofs.Math.ListN.{get_or, get_or-eq_default}
use Rattle.std.proofs.lemmas.List.Elements.{All-nil, All-get_or}
use Rattle.std.proofs.lemmas.Option.{slice_get_cases}
use Rattle.seq_object.specs.declared.sizes.Sizes.{Sizes}
use Rattle.seq_object.specs.Object.{Pairs, shard_of, shard_pairs}
use Rattle.seq_object.specs.History.{State}
use Rattle.seq_object.proofs.Pairs.{got_key}
use Rattle.room_model.specs.Cell.{tag_of, record_of, backup_of}
use Rattle.room_model.specs.Chains.{RoomWords}
use Rattle.room_model.specs.MapRoom.{Layout, IsMapRoom, found, bucket_of}
use Rattle.room_model.specs.QueueRoom.{IsQueueRoom}
use Rattle.room_model.specs.Image.{ImageRooms as Rooms, Recovers, recovered_room, lines_at, words_at, epoch_at}
use Rattle.room_laws.proofs.Standing.{queue_of, map_room_of}
use Rattle.power_cut.specs.Image.{HaveWords, IsLineOfWords}
use Rattle.respct.proofs.Replies.{IsWordOr, HoldsWords}

-- a number of 64 bits
abbrev IsWord : ℕ → Type 0
IsWord n = n < 2 ^ 64

-- what stands at a place, or the default, has the property that all have
anywhere : {X : Type 0} (P : X → Type 0) (xs : List X) (i : ℕ) (d : X) → P d → All P xs → P (get_or xs i d)
anywhere P xs i d own all = elim (slice_get_cases xs i).1 [
  | inl s ↦ All-get_or P xs i d s.1 all
  | inr s ↦ subst P (sym (get_or-eq_default xs d s.0)) own
]

-- the words of a line
line_words : (lines : List (List ℕ)) (i : ℕ) → All IsLineOfWords lines → All IsWord (get_or lines i [])
line_words lines i all = elim (slice_get_cases lines i).1 [
  | inl s ↦ (All-get_or IsLineOfWords lines i [] s.1 all).small
  | inr s ↦ subst (All IsWord) (sym (get_or-eq_default lines [] s.0)) (All-nil IsWord)
]

-- of three words
three_words : (a b c w : ℕ) → IsWord a → IsWord b → IsWord c → IsWord (slice_index (a ∷ b ∷ c ∷ []) w)
three_words a b c zero first second third = first
three_words a b c (suc zero) first second third = second
three_words a b c (suc (suc zero)) first second third = third
three_words a b c (suc (suc (suc w))) first second third = omega arith

-- of either triple of a cell
either_words : (b : Bool) (words : List ℕ) (w : ℕ) → All IsWord words → IsWord (slice_index (if b then backup_of words else record_of words) w)
either_words true words w all = three_words _ _ _ w (anywhere IsWord words 3 0 (omega arith) all) (anywhere IsWord words 4 0 (omega arith) all) (anywhere IsWord words 5 0 (omega arith) all)
either_words false words w all = three_words _ _ _ w (anywhere IsWord words 0 0 (omega arith) all) (anywhere IsWord words 1 0 (omega arith) all) (anywhere IsWord words 2 0 (omega arith) all)

-- of the recovered rooms of a whole image
room_words : (z : Sizes) (rooms : Rooms) (room line w : ℕ) → HaveWords rooms → IsWord (recovered_room z rooms room line w)
room_words z rooms room line w have =
    let lines : All IsLineOfWords (lines_at rooms room) = anywhere (λ r. All IsLineOfWords r) rooms room [] (All-nil IsLineOfWords) have in
    either_words (tag_of (words_at rooms room line) == epoch_at z rooms) (words_at rooms room line) w (line_words (lines_at rooms room) line lines)

-- what a chain's lines hold
chain_words : (r : RoomWords) (chain : List ℕ) → ((line w : ℕ) → IsWord (r line w)) → AllByRecursion IsWord (map (λ x. r x 0) chain)
chain_words r [] small = tt
chain_words r (x ∷ xs) small = (small x 0, chain_words r xs small)

-- a value that is found in a chain, where its line is the key's or not
either_value : (r : RoomWords) (x : ℕ) (b : Bool) (rest : Option ℕ) → ((line w : ℕ) → IsWord (r line w)) → IsWordOr rest → IsWordOr (if b then Some (r x 1) else rest)
either_value r x true rest small own = small x 1
either_value r x false rest small own = own

found_words : (r : RoomWords) (key : ℕ) (chain : List ℕ) → ((line w : ℕ) → IsWord (r line w)) → IsWordOr (found r key chain)
found_words r key [] small = tt
found_words r key (x ∷ xs) small = either_value r x (r x 0 == key) (found r key xs) small (found_words r key xs small)

-- a value, in its shard or in none
shard_words : (b : Bool) (value : Option ℕ) → IsWordOr value → IsWordOr (if b then value else None)
shard_words true value own = own
shard_words false value own = tt

-- the value of a key, from the room of its shard
key_words : (layout : Layout) (z : Sizes) (r : RoomWords) (pairs : Pairs) (key : ℕ) → IsMapRoom layout z (shard_of z key) r (shard_pairs z (shard_of z key) pairs) → ((line w : ℕ) → IsWord (r line w))
    → IsWordOr (get pairs key)
key_words layout z r pairs key room small =
    let own : get (shard_pairs z (shard_of z key) pairs) key ≡ get pairs key =
    got_key pairs (λ k. shard_of z k == shard_of z key) key (eq-eqb (shard_of z key) (shard_of z key) refl) in
    subst IsWordOr own (subst IsWordOr (sym (room.keyed key)) (shard_words (shard_of z key == shard_of z key) (found r key (room.chain (bucket_of z key))) (found_words r key (room.chain (bucket_of z key)) small)))

-- what a whole image recovers to
pub image_words : (layout : Layout) (z : Sizes) (rooms : Rooms) (state : State) → HaveWords rooms → Recovers layout z rooms state → HoldsWords state.contents
image_words layout z rooms state have is = record {
  pairs = λ key.
      let some : 1 ≤ z.shards = is.valid.some_shards in
      let low : shard_of z key < z.shards = omega (arith, some) in
      let ne : shard_of z key ≢ z.shards = λ e. omega (arith, e, low) in
      let within : shard_of z key ≤ z.shards = omega (arith, low) in
      key_words layout z (recovered_room z rooms (shard_of z key)) state.contents.pairs key
      (map_room_of layout z (shard_of z key) (recovered_room z rooms (shard_of z key)) state.contents ne (is.rooms (shard_of z key) within)) (λ line w. room_words z rooms (shard_of z key) line w have);
  items =
      let room : IsQueueRoom z (recovered_room z rooms z.shards) state.contents.items = queue_of layout z (recovered_room z rooms z.shards) state.contents (is.rooms z.shards (omega arith)) in
      subst (AllByRecursion IsWord) (sym room.listed) (chain_words (recovered_room z rooms z.shards) room.chain (λ line w. room_words z rooms z.shards line w have));
}

-- The meaning of a room rests on its record words.
use Rattle.std.proofs.Common.{ℕ, ◌==◌, Option, None, arith, ap, sym, ◌∙◌, subst, if◌then◌else◌}
use Rattle.seq_object.specs.Object.{shard_of}
use Rattle.room_model.specs.Chains.{IsChain, is_node}
use Rattle.room_model.specs.MapRoom.{head, bucket_of}
use Rattle.room_laws.specs.Rooms.{WordsLaw, MapWordsLaw, QueueWordsLaw, PointWordsLaw}
use Rattle.room_laws.proofs.Totals.{one_where}
use Rattle.room_laws.proofs.Lists.{chain_same}
use Rattle.room_laws.proofs.Keys.{found-same, keys-same}
use Rattle.room_laws.proofs.Queues.{map_same}
use Rattle.room_laws.proofs.Tests.{by_Bool}
use Rattle.room_laws.proofs.Standing.{Stands}
use Rattle.seq_object.specs.Object.{shard_pairs}

-- the law on the words of a map room
pub map_words_law : MapWordsLaw
map_words_law layout z shard r r' pairs laid room same = record {
  chain = room.chain;
  free = room.free;
  low = let e = same 0 1 (omega arith) in let l = room.low in omega (arith, e, l);
  high = let e = same 0 1 (omega arith) in let l = room.high in omega (arith, e, l);
  chained = λ b lt. subst (λ (s : ℕ). IsChain (λ x. r' x 2) s (room.chain b)) (sym (same (layout.head_line b) (layout.head_word b) (laid.word b lt)))
      (chain_same (λ x. r x 2) (λ x. r' x 2) (head layout r b) (room.chain b) (λ x t. same x 2 (omega arith)) (room.chained b lt));
  freed = subst (λ (s : ℕ). IsChain (λ x. r' x 0) s room.free) (sym (same 0 0 (omega arith))) (chain_same (λ x. r x 0) (λ x. r' x 0) (r 0 0) room.free (λ x t. same x 0 (omega arith)) room.freed);
  each = λ x. room.each x ∙ ap (λ (k : ℕ). one_where (is_node layout.first k x)) (sym (same 0 1 (omega arith)));
  keys = λ b lt. keys-same r r' z shard b (room.chain b) (λ x t. same x 0 (omega arith)) (room.keys b lt);
  count = same 0 2 (omega arith) ∙ room.count;
  keyed = λ key. room.keyed key ∙ ap (λ (o : Option ℕ). if shard_of z key == shard then o else None) (sym (found-same r r' key (room.chain (bucket_of z key)) (λ x w t l. same x w (omega (arith, l)))));
}

-- the law on the words of the queue room
pub queue_words_law : QueueWordsLaw
queue_words_law z r r' items room same = record {
  chain = room.chain;
  free = room.free;
  low = let e = same 0 1 (omega arith) in let l = room.low in omega (arith, e, l);
  high = let e = same 0 1 (omega arith) in let l = room.high in omega (arith, e, l);
  chained = subst (λ (s : ℕ). IsChain (λ x. r' x 1) s room.chain) (sym (same 1 0 (omega arith))) (chain_same (λ x. r x 1) (λ x. r' x 1) (r 1 0) room.chain (λ x t. same x 1 (omega arith)) room.chained);
  last = same 1 1 (omega arith) ∙ room.last;
  freed = subst (λ (s : ℕ). IsChain (λ x. r' x 0) s room.free) (sym (same 0 0 (omega arith))) (chain_same (λ x. r x 0) (λ x. r' x 0) (r 0 0) room.free (λ x t. same x 0 (omega arith)) room.freed);
  each = λ x. room.each x ∙ ap (λ (k : ℕ). one_where (is_node 2 k x)) (sym (same 0 1 (omega arith)));
  count = same 0 2 (omega arith) ∙ room.count;
  listed = room.listed ∙ sym (map_same (λ x. r x 0) (λ x. r' x 0) room.chain (λ x t. same x 0 (omega arith)));
}

-- the law on the words of a room
pub words : WordsLaw
words layout z room r r' c laid stands same = by_Bool (λ b. Stands layout z room r c b → Stands layout z room r' c b) (room == z.shards)
    (λ _ q. queue_words_law z r r' c.items q same) (λ _ q. map_words_law layout z room r r' (shard_pairs z room c.pairs) laid q same) stands

-- the restart point of a thread's room rests on the record words alone
pub point_words : PointWordsLaw
point_words layout r other same = ap (λ (n : ℕ). record { position = n }) (same 0 0 (omega arith))

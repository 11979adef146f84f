-- What formatted rooms stand for.
use Rattle.std.proofs.Common.{◌≡◌, ℕ, ◌<◌, ◌≤◌, ◌==◌, Bool, true, false, Option, None, [], arith, refl, ap, sym, ◌∙◌, subst, if◌then◌else◌}
use Rattle.std.proofs.lemmas.Bool.Decides.{nat_tests}
use Rattle.std.specs.Ordering.{nat_cmp}
use Rattle.std.specs.FinMap.{get-empty}
use Rattle.seq_object.specs.Object.{shard_of}
use Rattle.room_model.specs.Chains.{is_node}
use Rattle.room_model.specs.Formatted.{formatted}
use Rattle.room_model.specs.MapRoom.{IsMapRoom}
use Rattle.room_laws.specs.Rooms.{FormattedLaw, MapFormattedLaw, QueueFormattedLaw}
use Rattle.room_laws.proofs.Totals.{one_where}
use Rattle.room_laws.proofs.Tests.{by_Bool}
use Rattle.room_laws.proofs.Standing.{Stands}
use Rattle.seq_object.proofs.Pairs.{one_map}
use Rattle.room_laws.proofs.Shards.{get_shard}
use Rattle.std.specs.FinMap.{empty}
use Rattle.std.proofs.Common.{cond}
use Rattle.seq_object.specs.Object.{shard_pairs, no_contents}
use Rattle.seq_object.specs.declared.sizes.Sizes.{Sizes}

-- the law on a formatted map room
pub map_formatted_law : MapFormattedLaw
map_formatted_law layout z shard laid fits = record {
  chain = λ b. [];
  free = [];
  low = omega arith;
  high = fits;
  chained = λ b lt. let pos = laid.low b lt in at_head (layout.head_line b) (layout.head_word b) pos;
  freed = refl;
  each = λ x. no_node layout.first x;
  keys = λ b lt. tt;
  count = refl;
  keyed = λ key. get-empty nat_cmp key ∙ either (shard_of z key == shard) None;
}
  where
    at_head : (line word : ℕ) → 0 < line → formatted layout.first line word ≡ 0
    at_head line word pos = grind (arith, nat_tests)

    no_node : (first x : ℕ) → 0 ≡ one_where (is_node first first x)
    no_node first x = grind (arith, nat_tests)

    either : (b : Bool) (o : Option ℕ) → o ≡ (if b then o else o)
    either true o = refl
    either false o = refl

-- the law on the formatted queue room
pub queue_formatted_law : QueueFormattedLaw
queue_formatted_law z fits = record {
  chain = [];
  free = [];
  low = omega arith;
  high = fits;
  chained = refl;
  last = refl;
  freed = refl;
  each = λ x. no_node x;
  count = refl;
  listed = refl;
}
  where
    no_node : (x : ℕ) → 0 ≡ one_where (is_node 2 2 x)
    no_node x = grind (arith, nat_tests)

-- no pairs have no pair of a shard
no_pairs : (z : Sizes) (shard : ℕ) → empty ≡ shard_pairs z shard empty
no_pairs z shard = one_map _ _ (λ q. get-empty nat_cmp q ∙ sym (get_shard z shard empty q ∙ ap (λ (o : Option ℕ). cond (shard_of z q == shard) o None) (get-empty nat_cmp q) ∙ either (shard_of z q == shard) None))
  where
    either : (b : Bool) (o : Option ℕ) → cond b o o ≡ o
    either true o = refl
    either false o = refl

-- the law on a formatted room
pub formatted_room : FormattedLaw
formatted_room layout z room laid fits = by_Bool (λ b. (if b then 2 else layout.first) ≤ z.lines → Stands layout z room (formatted (if b then 2 else layout.first)) no_contents b) (room == z.shards)
    (λ _ le. queue_formatted_law z le) (λ _ le. subst (IsMapRoom layout z room (formatted layout.first)) (no_pairs z room) (map_formatted_law layout z room laid le)) fits

-- One command on the object as a program keeps it.
use Rattle.std.proofs.Common.{◌≡◌, ℕ, ◌+◌, ◌-◌, ◌≤◌, ◌%◌, zero, suc, true, false, cond, Option, Some, None, List, [], length, refl, sym, ap, ◌∙◌, subst, arith}
use Rattle.std.specs.Prelude.{slice_index, slice_set, is_some, replicate}
use Rattle.std.specs.Ordering.{nat_cmp, is_eq}
use Rattle.std.specs.FinMap.{get, insert, from_entries}
use Rattle.seq_object.specs.declared.command.Command.TheVariants.{Put}
use Rattle.seq_object.specs.declared.settings.Settings.{Settings}
use Rattle.seq_object.specs.Sizes.{sizes_of}
use Rattle.seq_object.specs.Object.{Pairs, with_pairs, put_pairs, is_shard_full}
use Rattle.seq_object.specs.Plain.{PlainState, plain_after, plain_state, AreCounts, IsKept}
use Rattle.seq_object.proofs.Entries.{found, got_entry, entries_put, entries_removed}
use Rattle.seq_object.proofs.Counters.{some_count, counts_new, counts_gone, counts_old, none_counts}

-- the object's map has at a key what the tree finds
pub seen : (s : PlainState) (settings : Settings) (es : List (ℕ × ℕ)) (items : List ℕ) (k : ℕ) → plain_state settings es items ≡ s → get s.contents.pairs k ≡ found es k
seen s settings es items k is = ap (λ (t : PlainState). get t.contents.pairs k) (sym is) ∙ got_entry es k

-- what a test does not find is not there
pub not_some : (o : Option ℕ) → is_some o ≡ false → o ≡ None
not_some None lacks = refl
not_some (Some v) lacks = absurd (cc (lacks))

-- what is not there is not found
pub not_none : (o : Option ℕ) → o ≡ None → is_some o ≡ true → ⊥
not_none None none has = absurd (cc (has))
not_none (Some v) none has = absurd (cc (none))

-- the object with other pairs
abbrev pub changed : PlainState → Pairs → PlainState
changed s pairs = record s { contents = with_pairs s.contents pairs }

-- a put of a new key in a full shard changes nothing
pub put_full : (s : PlainState) (k v : ℕ) → get s.contents.pairs k ≡ None → is_shard_full s.sizes k s.contents.pairs ≡ true → s ≡ plain_after s (Put k v)
put_full s k v none full = sym (λ m. changed s (put_pairs s.contents.pairs k v (none m) (full m)))

-- a put of a new key where there is room puts it in
pub put_new : (s : PlainState) (k v : ℕ) (news : Pairs) → get s.contents.pairs k ≡ None → is_shard_full s.sizes k s.contents.pairs ≡ false → news ≡ insert s.contents.pairs k v → changed s news ≡ plain_after s (Put k v)
put_new s k v news none room is = ap (changed s) is ∙ sym (λ m. changed s (put_pairs s.contents.pairs k v (none m) (room m)))

-- a put of a key that is there sets its value
pub put_old : (s : PlainState) (k v old : ℕ) (news : Pairs) → get s.contents.pairs k ≡ Some old → news ≡ insert s.contents.pairs k v → changed s news ≡ plain_after s (Put k v)
put_old s k v old news some is = ap (changed s) is ∙ sym (λ m. changed s (put_pairs s.contents.pairs k v (some m) (is_shard_full s.sizes k s.contents.pairs)))

-- a look-up after one key was changed
abbrev pub IsChanged : List (ℕ × ℕ) → List (ℕ × ℕ) → ℕ → Option ℕ → Type 0
IsChanged es fs k o = (q : ℕ) → found fs q ≡ cond (is_eq (nat_cmp k q)) o (found es q)

-- the counters stay right where a new key comes
pub kept_new : (s : Settings) (es fs : List (ℕ × ℕ)) (counts : List ℕ) (k v : ℕ) → length counts ≡ 8 → IsKept s es counts → found es k ≡ None → IsChanged es fs k (Some v)
    → IsKept s fs (slice_set counts (k % s.shards) (slice_index counts (k % s.shards) + 1))
kept_new s es fs counts k v eight kept none put =
    let some = kept.sizes.some_shards in
    let few = kept.sizes.few_shards in
    let right = counts_new (sizes_of s) (from_entries es) counts k v (omega arith) (omega arith) kept.counts_keys (got_entry es k ∙ none) in
    record {
      sizes = kept.sizes;
      counts_keys = subst (λ (p : Pairs). AreCounts (sizes_of s) p (slice_set counts (k % s.shards) (slice_index counts (k % s.shards) + 1))) (sym (entries_put es fs k v put)) right;
    }

-- the counters stay right where a key has a new value
pub kept_old : (s : Settings) (es fs : List (ℕ × ℕ)) (counts : List ℕ) (k v old : ℕ) → IsKept s es counts → found es k ≡ Some old → IsChanged es fs k (Some v) → IsKept s fs counts
kept_old s es fs counts k v old kept some put = record {
  sizes = kept.sizes;
  counts_keys = subst (λ (p : Pairs). AreCounts (sizes_of s) p counts) (sym (entries_put es fs k v put)) (counts_old (sizes_of s) (from_entries es) counts k v old kept.counts_keys (got_entry es k ∙ some));
}

-- the counters stay right where a key goes
pub kept_gone : (s : Settings) (es fs : List (ℕ × ℕ)) (counts : List ℕ) (k v : ℕ) → length counts ≡ 8 → IsKept s es counts → found es k ≡ Some v → IsChanged es fs k None
    → IsKept s fs (slice_set counts (k % s.shards) (slice_index counts (k % s.shards) - 1))
kept_gone s es fs counts k v eight kept some gone =
    let one = kept.sizes.some_shards in
    let few = kept.sizes.few_shards in
    let right = counts_gone (sizes_of s) (from_entries es) counts k v (omega arith) (omega arith) kept.counts_keys (got_entry es k ∙ some) in
    record {
      sizes = kept.sizes;
      counts_keys = subst (λ (p : Pairs). AreCounts (sizes_of s) p (slice_set counts (k % s.shards) (slice_index counts (k % s.shards) - 1))) (sym (entries_removed es fs k gone)) right;
    }

-- the counter of a key that is there can be lowered
pub may_lower : (s : Settings) (es : List (ℕ × ℕ)) (counts : List ℕ) (k v : ℕ) → IsKept s es counts → found es k ≡ Some v → 1 ≤ slice_index counts (k % s.shards)
may_lower s es counts k v kept some =
    let one = kept.sizes.some_shards in
    some_count (sizes_of s) (from_entries es) counts k v (omega arith) kept.counts_keys (got_entry es k ∙ some)

-- each of so many zeros is 0
zero_at : (n i : ℕ) → slice_index (replicate n 0) i ≡ 0
zero_at zero i = refl
zero_at (suc n) zero = refl
zero_at (suc n) (suc i) = zero_at n i

-- the counters of an object without pairs are right
pub zero_counts : (s : Settings) → AreCounts (sizes_of s) (from_entries []) (replicate 8 0)
zero_counts s = none_counts (sizes_of s) (replicate 8 0) (λ shard below. zero_at 8 shard)

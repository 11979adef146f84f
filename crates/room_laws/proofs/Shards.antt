-- The pairs of one shard: what a change of the pairs does to them.
use Rattle.std.proofs.Common.{◌≡◌, ◌≢◌, ℕ, ◌==◌, Bool, cond, Option, None, refl, eq-eqb}
use Rattle.std.proofs.lemmas.Bool.{ne_eqb}
use Rattle.std.specs.FinMap.{get, remove}
use Rattle.seq_object.specs.Object.{Pairs, shard_of, shard_pairs, put_pairs}
use Rattle.seq_object.proofs.Pairs.{got_kept, got_key, kept_twice, kept_put_pairs, lost_put_pairs, kept_removed, lost_removed}
use Rattle.seq_object.specs.declared.sizes.Sizes.{Sizes}

-- what a shard's pairs have at a key
pub get_shard : (z : Sizes) (shard : ℕ) (pairs : Pairs) (q : ℕ) → get (shard_pairs z shard pairs) q ≡ cond (shard_of z q == shard) (get pairs q) None
get_shard z shard pairs q = got_kept pairs (λ k. shard_of z k == shard) q

-- at a key of the shard they have what all pairs have
pub get_own : (z : Sizes) (key : ℕ) (pairs : Pairs) → get (shard_pairs z (shard_of z key) pairs) key ≡ get pairs key
get_own z key pairs = got_key pairs (λ k. shard_of z k == shard_of z key) key (eq-eqb (shard_of z key) (shard_of z key) refl)

-- a shard's pairs of a shard's pairs
pub shard_twice : (z : Sizes) (shard : ℕ) (pairs : Pairs) → shard_pairs z shard (shard_pairs z shard pairs) ≡ shard_pairs z shard pairs
shard_twice z shard pairs = kept_twice pairs (λ k. shard_of z k == shard)

-- a put of a key of the shard
pub shard-put : (z : Sizes) (shard key value : ℕ) (pairs : Pairs) (old : Option ℕ) (full : Bool) → shard_of z key ≡ shard
    → shard_pairs z shard (put_pairs pairs key value old full) ≡ put_pairs (shard_pairs z shard pairs) key value old full
shard-put z shard key value pairs old full mine = kept_put_pairs pairs (λ k. shard_of z k == shard) key value old full (eq-eqb (shard_of z key) shard mine)

-- a put of a key of another shard
pub shard-put_other : (z : Sizes) (shard key value : ℕ) (pairs : Pairs) (old : Option ℕ) (full : Bool) → shard_of z key ≢ shard
    → shard_pairs z shard (put_pairs pairs key value old full) ≡ shard_pairs z shard pairs
shard-put_other z shard key value pairs old full other = lost_put_pairs pairs (λ k. shard_of z k == shard) key value old full (ne_eqb (shard_of z key) shard other)

-- a removal of a key of the shard
pub shard-remove : (z : Sizes) (shard key : ℕ) (pairs : Pairs) → shard_of z key ≡ shard → shard_pairs z shard (remove pairs key) ≡ remove (shard_pairs z shard pairs) key
shard-remove z shard key pairs mine = kept_removed pairs (λ k. shard_of z k == shard) key (eq-eqb (shard_of z key) shard mine)

-- a removal of a key of another shard
pub shard-remove_other : (z : Sizes) (shard key : ℕ) (pairs : Pairs) → shard_of z key ≢ shard → shard_pairs z shard (remove pairs key) ≡ shard_pairs z shard pairs
shard-remove_other z shard key pairs other = lost_removed pairs (λ k. shard_of z k == shard) key (ne_eqb (shard_of z key) shard other)

-- How many keys each shard has after a change.
use Rattle.std.proofs.Common.{◌≡◌, ℕ, ◌+◌, ◌-◌, ◌==◌, Bool, cond, Option, Some, None, if◌then◌else◌, refl, sym, ap, ◌∙◌, inl, inr}
use Rattle.std.specs.Prelude.{is_some, is_none, ◌&&◌}
use Rattle.std.specs.FinMap.{get, len, len-insert, len-remove}
use Rattle.std.proofs.lemmas.Cmp.{nat_cmp_total}
use Rattle.std.proofs.lemmas.Bool.Decides.{eqb_tells}
use Rattle.seq_object.specs.Object.{shard_of, shard_pairs}
use Rattle.seq_object.specs.Laws.{ShardPutLaw, ShardRemoveLaw}
use Rattle.seq_object.proofs.Pairs.{got_key, kept_put, lost_put, kept_removed, lost_removed}

-- a key counts where it was not there
by_none : (o : Option ℕ) (n : ℕ) → cond (is_some o) n (n + 1) ≡ (if is_none o then n + 1 else n)
by_none None n = refl
by_none (Some v) n = refl

-- how many keys each shard has after a put
pub shard_put : ShardPutLaw
shard_put z pairs key value shard = elim (eqb_tells (shard_of z key) shard) [
  | inl h ↦
      ap len (kept_put pairs (λ k. shard_of z k == shard) key value h.0) ∙ len-insert nat_cmp_total (shard_pairs z shard pairs) key value
      ∙ ap (λ (o : Option ℕ). cond (is_some o) (len (shard_pairs z shard pairs)) (len (shard_pairs z shard pairs) + 1)) (got_key pairs (λ k. shard_of z k == shard) key h.0)
      ∙ by_none (get pairs key) (len (shard_pairs z shard pairs))
      ∙ sym (ap (λ (b : Bool). if b && is_none (get pairs key) then len (shard_pairs z shard pairs) + 1 else len (shard_pairs z shard pairs)) h.0)
  | inr h ↦
      ap len (lost_put pairs (λ k. shard_of z k == shard) key value h.0)
      ∙ sym (ap (λ (b : Bool). if b && is_none (get pairs key) then len (shard_pairs z shard pairs) + 1 else len (shard_pairs z shard pairs)) h.0)
]

-- how many keys each shard has after a removal
pub shard_remove : ShardRemoveLaw
shard_remove z pairs key shard = elim (eqb_tells (shard_of z key) shard) [
  | inl h ↦
      ap len (kept_removed pairs (λ k. shard_of z k == shard) key h.0) ∙ len-remove nat_cmp_total (shard_pairs z shard pairs) key
      ∙ ap (λ (o : Option ℕ). cond (is_some o) (len (shard_pairs z shard pairs) - 1) (len (shard_pairs z shard pairs))) (got_key pairs (λ k. shard_of z k == shard) key h.0)
      ∙ sym (ap (λ (b : Bool). if b && is_some (get pairs key) then len (shard_pairs z shard pairs) - 1 else len (shard_pairs z shard pairs)) h.0)
  | inr h ↦
      ap len (lost_removed pairs (λ k. shard_of z k == shard) key h.0)
      ∙ sym (ap (λ (b : Bool). if b && is_some (get pairs key) then len (shard_pairs z shard pairs) - 1 else len (shard_pairs z shard pairs)) h.0)
]

use Rattle.std.proofs.Common.{ℕ, ◌≡◌, ◌-◌, ◌%◌, ◌≤◌, Option, Some, sym, ap, ◌∙◌, subst}
use Rattle.std.specs.Prelude.{slice_index, slice_set}
use Rattle.seq_object.specs.Object.{del_reply, shard_of}
use Rattle.seq_object.specs.Plain.{PlainState, plain_state, IsKept}
use Rattle.seq_object.proofs.Entries.{entries_removed}
use Rattle.seq_object.proofs.Steps.{seen, changed, kept_gone, may_lower}
use Rattle.seq_object.proofs.plain.Plain.del.Goals as goal

-- the counter that is set is that of the key's shard
at : (c : goal.After-self-1) → c.args.key % c.self.inside.settings.shards ≡ c.shard_of-shard.result
at c = ap (λ (s : PlainState). shard_of s.sizes c.args.key) c.self.view_is ∙ sym c.shard_of-shard.ensures.shard

pub overflow_sub-self : goal.overflow_sub-self
overflow_sub-self c = subst (λ (n : ℕ). 1 ≤ slice_index c.self.inside.counts n) (at c) (may_lower c.self.inside.settings c.self.inside.pairs.entries c.self.inside.counts c.args.key c.in-Some.value c.self.invariant (sym c.in-Some.ensures.value))

pub invariant_of-self-2 : goal.invariant_of-self-2
invariant_of-self-2 c = subst (λ (n : ℕ). IsKept c.self.inside.settings c.remove.new.self.entries (slice_set c.self.inside.counts n (slice_index c.self.inside.counts n - 1))) (at c)
    (kept_gone c.self.inside.settings c.self.inside.pairs.entries c.remove.new.self.entries c.self.inside.counts c.args.key c.in-Some.value c.self.told c.self.invariant (sym c.in-Some.ensures.value) c.in-Some.ensures.updates.0)

pub returns-clause-reply : goal.returns-clause-reply
returns-clause-reply c = ap (λ (o : Option ℕ). Some (del_reply o)) (seen c.args.self.now c.self.inside.settings c.self.inside.pairs.entries c.self.inside.items.items c.args.key c.self.view_is ∙ sym c.in-Some.ensures.value)

pub returns-clause-after : goal.returns-clause-after
returns-clause-after c = rw (← c.self.view_is) (ap (changed (plain_state c.self.inside.settings c.self.inside.pairs.entries c.self.inside.items.items)) (entries_removed c.self.inside.pairs.entries c.remove.new.self.entries c.args.key c.in-Some.ensures.updates.0))

pub returns-in_default-clause-reply : goal.returns-in_default-clause-reply
returns-in_default-clause-reply c = ap (λ (o : Option ℕ). Some (del_reply o)) (seen c.args.self.now c.self.inside.settings c.self.inside.pairs.entries c.self.inside.items.items c.args.key c.self.view_is ∙ sym c.in_default.ensures.value)

pub returns-in_default-clause-after : goal.returns-in_default-clause-after
returns-in_default-clause-after c = rw (← c.self.view_is) (ap (changed (plain_state c.self.inside.settings c.self.inside.pairs.entries c.self.inside.items.items)) (entries_removed c.self.inside.pairs.entries c.remove.new.self.entries c.args.key c.in_default.ensures.updates.0))

use Rattle.std.proofs.Common.{ℕ, ◌≡◌, ◌+◌, ◌%◌, false, Option, Some, None, sym, ap, ◌∙◌, subst}
use Rattle.std.specs.Prelude.{slice_index, slice_set}
use Rattle.std.specs.FinMap.{get}
use Rattle.seq_object.specs.Object.{put_reply, shard_of, is_shard_full}
use Rattle.seq_object.specs.Plain.{PlainState, plain_state, IsKept}
use Rattle.seq_object.proofs.Entries.{found, entries_put}
use Rattle.seq_object.proofs.Steps.{seen, not_some, not_none, put_full, put_new, put_old, kept_new, kept_old}
use Rattle.seq_object.proofs.plain.Plain.put.Goals as goal
use Rattle.seq_object.proofs.plain.Plain.put.Goals.{else-not-contains_key-via-then-not-contains_key+else-is_shard_full, else-not-contains_key-via-else-not-contains_key}

-- the key is not there
none_there : (c : goal.Then-is_shard_full) → get c.args.self.now.contents.pairs c.args.key ≡ None
none_there c = seen c.args.self.now c.self.inside.settings c.self.inside.pairs.entries c.self.inside.items.items c.args.key c.self.view_is ∙ not_some _ (sym c.contains_key.ensures ∙ c.if-not-contains_key.true)

pub returns-then-is_shard_full-clause-reply : goal.returns-then-is_shard_full-clause-reply
returns-then-is_shard_full-clause-reply c = λ m. Some (put_reply (none_there c m) (sym c.if-is_shard_full.ensures m))

pub returns-then-is_shard_full-clause-ok : goal.returns-then-is_shard_full-clause-ok
returns-then-is_shard_full-clause-ok c = put_full c.args.self.now c.args.key c.args.value (none_there c) (sym c.if-is_shard_full.ensures)

-- the key was there
old_found : (c : goal.In-Some) → found c.self.inside.pairs.entries c.args.key ≡ Some c.in-Some.old
old_found c = sym c.in_ok-old.ensures.old ∙ c.in-Some.is

-- the map has the old value
old_there : (c : goal.In-Some) → get c.args.self.now.contents.pairs c.args.key ≡ Some c.in-Some.old
old_there c = seen c.args.self.now c.self.inside.settings c.self.inside.pairs.entries c.self.inside.items.items c.args.key c.self.view_is ∙ old_found c

pub invariant_of-self-in-Some : goal.invariant_of-self-in-Some
invariant_of-self-in-Some c = kept_old c.self.inside.settings c.self.inside.pairs.entries c.insert.new.self.entries c.self.inside.counts c.args.key c.args.value c.in-Some.old c.self.invariant (old_found c) c.in_ok-old.ensures.updates.0

pub returns-in-Some-clause-reply : goal.returns-in-Some-clause-reply
returns-in-Some-clause-reply c = ap (λ (o : Option ℕ). Some (put_reply o (is_shard_full c.args.self.now.sizes c.args.key c.args.self.now.contents.pairs))) (old_there c)

pub returns-in-Some-clause-ok : goal.returns-in-Some-clause-ok
returns-in-Some-clause-ok c =
    let old = old_there c in
    rw (← c.self.view_is) (put_old (plain_state c.self.inside.settings c.self.inside.pairs.entries c.self.inside.items.items) c.args.key c.args.value c.in-Some.old _ (rw (← c.self.view_is) at old)
    (entries_put c.self.inside.pairs.entries c.insert.new.self.entries c.args.key c.args.value c.in_ok-old.ensures.updates.0))

-- the key is new, and there is room
new_found : (c : goal.After-self-1) → found c.self.inside.pairs.entries c.args.key ≡ None
new_found c = sym c.in_ok-old.ensures.old ∙ c.in-None.is

-- the map does not have the key
new_there : (c : goal.After-self-1) → get c.args.self.now.contents.pairs c.args.key ≡ None
new_there c = seen c.args.self.now c.self.inside.settings c.self.inside.pairs.entries c.self.inside.items.items c.args.key c.self.view_is ∙ new_found c

-- the shard has room
has_room : (c : goal.After-self-1) → is_shard_full c.args.self.now.sizes c.args.key c.args.self.now.contents.pairs ≡ false
has_room c = elim c.else-not-contains_key.branch [
  | else-not-contains_key-via-then-not-contains_key+else-is_shard_full w ↦ sym w.is_shard_full.ensures ∙ w.if-is_shard_full.false
  | else-not-contains_key-via-else-not-contains_key w ↦ absurd (not_none (found c.self.inside.pairs.entries c.args.key) (new_found c) (sym c.contains_key.ensures ∙ w.if-not-contains_key.false))
]

-- the counter that is set is that of the key's shard
at : (c : goal.After-self-1) → c.args.key % c.self.inside.settings.shards ≡ c.shard_of-shard.result
at c = ap (λ (s : PlainState). shard_of s.sizes c.args.key) c.self.view_is ∙ sym c.shard_of-shard.ensures.shard

pub invariant_of-self-in-None : goal.invariant_of-self-in-None
invariant_of-self-in-None c = subst (λ (n : ℕ). IsKept c.self.inside.settings c.insert.new.self.entries (slice_set c.self.inside.counts n (slice_index c.self.inside.counts n + 1))) (at c)
    (kept_new c.self.inside.settings c.self.inside.pairs.entries c.insert.new.self.entries c.self.inside.counts c.args.key c.args.value c.self.told c.self.invariant (new_found c) c.in_ok-old.ensures.updates.0)

pub returns-in-None-clause-reply : goal.returns-in-None-clause-reply
returns-in-None-clause-reply c = λ m. Some (put_reply (new_there c m) (has_room c m))

pub returns-in-None-clause-ok : goal.returns-in-None-clause-ok
returns-in-None-clause-ok c =
    let none = new_there c in
    let room = has_room c in
    rw (← c.self.view_is) (put_new (plain_state c.self.inside.settings c.self.inside.pairs.entries c.self.inside.items.items) c.args.key c.args.value _ (rw (← c.self.view_is) at none) (rw (← c.self.view_is) at room)
    (entries_put c.self.inside.pairs.entries c.insert.new.self.entries c.args.key c.args.value c.in_ok-old.ensures.updates.0))

use Rattle.std.proofs.Common.{◌≡◌, ℕ, Option, Some, None, is_some, is_none, Bool, true, false, not, refl, ◌∙◌, ap, sym}
use Rattle.seq_object.proofs.Entries.{got_entry, entries_put}
use Rattle.image_check.proofs.chains.keep_pair.Goals as goal

pub returns-clause-answer : goal.returns-clause-answer
returns-clause-answer c =
    none_kept c.in_ok-insert.field-0 c.is_none.result c.is_none.ensures ∙ ap is_none (c.in_ok-insert.ensures.old ∙ sym (got_entry c.args.pairs.now.entries c.args.key))
  where
    none_kept : (o : Option ℕ) (b : Bool) → is_some o ≡ not b → b ≡ is_none o
    none_kept None true h = refl
    none_kept None false h = h
    none_kept (Some v) true h = h
    none_kept (Some v) false h = refl

pub returns-clause-kept : goal.returns-clause-kept
returns-clause-kept c = entries_put c.args.pairs.now.entries c.insert.new.self.entries c.args.key c.args.value c.in_ok-insert.ensures.updates.0

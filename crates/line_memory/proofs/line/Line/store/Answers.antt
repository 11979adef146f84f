use Rattle.std.proofs.Common.{◌≡◌, ◌∷◌, ◌++◌, [], set, arith, ap, sym, ◌∙◌}
use Rattle.std.proofs.lemmas.Grind.{common_steps}
use Rattle.line_memory.specs.Line.{applied, store_to}
use Rattle.line_memory.proofs.Stores.{applied-append}
use Rattle.line_memory.proofs.line.Line.store.Goals as goal

-- the store is made in the words kept, as it is behind the stores that were pending
pub invariant_of-self : goal.invariant_of-self
invariant_of-self c =
    let base = c.self.inside.base in
    let pending = c.self.inside.pending.items in
    let pushed : c.push.new.self.items ≡ pending ++ store_to c.args.word c.args.value ∷ [] = grind (arith, common_steps) in (
      omega arith,
      omega arith,
      grind (arith, common_steps),
      c.self.invariant.3,
      c.put_word.ensures ∙ ap (λ words. set words c.args.word c.args.value) c.self.invariant.4 ∙ sym (applied-append base pending (store_to c.args.word c.args.value ∷ [])) ∙ ap (applied base) (sym pushed),
    )

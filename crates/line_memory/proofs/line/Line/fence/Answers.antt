use Rattle.std.proofs.Common.{◌≡◌, length, take, drop, arith, ap, sym, ◌∙◌}
use Rattle.std.proofs.lemmas.Grind.{common_steps}
use Rattle.std.proofs.lemmas.List.{take-append-drop}
use Rattle.line_memory.specs.Line.{applied}
use Rattle.line_memory.proofs.Stores.{length-applied, applied-append}
use Rattle.line_memory.proofs.line.Line.fence.Goals as goal

-- the stores that stay, made in the new base, are all stores made in the old one
pub invariant_of-self : goal.invariant_of-self
invariant_of-self c =
    let base = c.self.inside.base in
    let pending = c.self.inside.pending.items in
    let moved = take c.self.inside.asked pending in
    let stay = drop c.self.inside.asked pending in
    let made : c.apply.new.words ≡ applied base moved = c.apply.ensures ∙ ap (λ stores. applied base (take c.self.inside.asked stores)) c.as_slice.ensures.value in
    let rest : c.truncate.new.self.items ≡ stay = grind (arith, common_steps) in (
      omega arith,
      omega arith,
      omega arith,
      ap length made ∙ length-applied base moved ∙ c.self.invariant.3,
      c.self.invariant.4 ∙ ap (applied base) (sym (take-append-drop c.self.inside.asked pending)) ∙ applied-append base moved stay ∙ cc,
    )

use Rattle.std.proofs.Common.{ℕ, Option, Some, sym, ap, ◌∙◌}
use Rattle.seq_object.specs.Object.{get_reply}
use Rattle.seq_object.proofs.Steps.{seen}
use Rattle.seq_object.proofs.plain.Plain.get.Goals as goal

pub returns-in-Some : goal.returns-in-Some
returns-in-Some c = ap (λ (o : Option ℕ). Some (get_reply o)) (seen c.args.self.now c.self.inside.settings c.self.inside.pairs.entries c.self.inside.items.items c.args.key c.self.view_is ∙ sym c.in-Some.ensures.value)

pub returns-in-None : goal.returns-in-None
returns-in-None c = ap (λ (o : Option ℕ). Some (get_reply o)) (seen c.args.self.now c.self.inside.settings c.self.inside.pairs.entries c.self.inside.items.items c.args.key c.self.view_is ∙ sym c.in-None.ensures.value)

use Rattle.std.proofs.Common.{ℕ, List, ◌∷◌, [], sym, subst}
use Rattle.seq_object.specs.Plain.{IsKept}
use Rattle.seq_object.proofs.Steps.{zero_counts}
use Rattle.seq_object.proofs.plain.Plain.new.Goals as goal

pub invariant_of-result : goal.invariant_of-result
invariant_of-result c = subst (λ (es : List (ℕ × ℕ)). IsKept c.args.settings es (0 ∷ 0 ∷ 0 ∷ 0 ∷ 0 ∷ 0 ∷ 0 ∷ 0 ∷ [])) (sym c.new.ensures.empty) record { sizes = c.requires.sizes; counts_keys = zero_counts c.args.settings }

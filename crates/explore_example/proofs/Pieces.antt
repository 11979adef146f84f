-- What is written grows into the text.
use Rattle.std.proofs.Common.{◌≡◌, ℕ, List, ◌++◌, ap, ◌∙◌, append_assoc}

-- what was written, and more
pub grown : (new was start before more : List ℕ) → new ≡ was ++ more → was ≡ start ++ before → new ≡ start ++ (before ++ more)
grown new was start before more e f = e ∙ ap (λ (t : List ℕ). t ++ more) f ∙ append_assoc start before more

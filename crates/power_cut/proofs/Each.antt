-- Facts of each thing of a list.
use Rattle.std.proofs.Common.{ℕ, zero, suc, ◌<◌, List, [], ◌∷◌, ◌++◌, length, get_or, arith}
use Rattle.std.specs.List.{All}
use Rattle.std.proofs.lemmas.List.Elements.{All-append}

-- of the first thing
pub All-first : {X : Type 0} (P : X → Type 0) (x : X) (xs : List X) → All P (x ∷ xs) → P x
All-first P x xs each = each 0 x (omega arith)

-- of the others
pub All-others : {X : Type 0} (P : X → Type 0) (x : X) (xs : List X) → All P (x ∷ xs) → All P xs
All-others P x xs each = λ k d within. each (suc k) d (omega arith)

-- of no thing
pub All-none : {X : Type 0} (P : X → Type 0) → All P []
All-none P = λ k d within. absurd (omega arith)

-- of one more thing at the front
at_place : {X : Type 0} (P : X → Type 0) (x : X) (xs : List X) → P x → All P xs → (k : ℕ) (d : X) → k < length (x ∷ xs) → P (get_or (x ∷ xs) k d)
at_place P x xs first others zero d within = first
at_place P x xs first others (suc k) d within = others k d (omega arith)

pub All-cons : {X : Type 0} (P : X → Type 0) (x : X) (xs : List X) → P x → All P xs → All P (x ∷ xs)
All-cons P x xs first others = λ k d within. at_place P x xs first others k d within

-- of one more thing at the end
pub All-more : {X : Type 0} (P : X → Type 0) (xs : List X) (x : X) → All P xs → P x → All P (xs ++ x ∷ [])
All-more P xs x each last = All-append P xs (x ∷ []) each (All-cons P x [] last (All-none P))

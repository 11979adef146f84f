-- A state as it is printed.
use Rattle.std.proofs.Common.{◌≡◌, ℕ, Option, Some, List, [], ◌∷◌, refl, ap, codes}
use Rattle.std.specs.Fmt.{decimal, debug_items, debug_list, option_append}
use Rattle.explore_example.specs.Words.{values_text, state_text}

-- the values behind these words
printed_values : (lead xs : List ℕ) → debug_items (λ (n : ℕ). Some (decimal n)) lead xs ≡ Some (values_text lead xs)
printed_values lead [] = refl
printed_values lead (x ∷ xs) = ap (λ (o : Option (List ℕ)). option_append (Some lead) (option_append (Some (decimal x)) o)) (printed_values (codes ", ") xs)

-- a state is printed as its values in brackets
pub printed_state : (xs : List ℕ) → debug_list (λ (n : ℕ). Some (decimal n)) xs ≡ Some (state_text xs)
printed_state xs = ap (λ (o : Option (List ℕ)). option_append (Some (codes "[")) (option_append o (Some (codes "]")))) (printed_values [] xs)

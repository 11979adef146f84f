-- What was read before, in front of what is still read.
use Rattle.std.proofs.Common.{◌≡◌, List, [], ◌∷◌, ◌++◌, Result, Ok, Err, refl, ap, append_assoc}
use Rattle.script_text.specs.declared.fault.ScriptFault.{ScriptFault}
use Rattle.script_text.specs.Faults.{◌>>=◌}
use Rattle.script_text.specs.Reading.{Left}

-- a list that was read before, and what is still read
abbrev pub with_front : {A : Type 0} → List A → Result (List A) ScriptFault → Result (List A) ScriptFault
with_front front read = read >>= λ xs. Ok (front ++ xs)

-- a list that was read before, what is still read, and what is left behind it
abbrev pub with_front_and_rest : {A : Type 0} → List A → Result (List A × Left) ScriptFault → Result (List A × Left) ScriptFault
with_front_and_rest front read = read >>= λ x. Ok (front ++ x.0, x.1)

-- one more is in front
pub front_and_rest_more : {A : Type 0} (front : List A) (x : A) (read : Result (List A × Left) ScriptFault) → with_front_and_rest front (read >>= λ xs. Ok (x ∷ xs.0, xs.1)) ≡ with_front_and_rest (front ++ x ∷ []) read
front_and_rest_more {A} front x (Ok xs) = ap (λ (ys : List A). Ok (ys, xs.1)) (simp append_assoc)
front_and_rest_more {A} front x (Err f) = refl

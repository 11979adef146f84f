-- Bytes taken from a source, and bytes appended to a sink, step by step.
use Rattle.std.proofs.Common.{◌≡◌, ℕ, ◌+◌, ◌-◌, ◌++◌, List, Option, Some, None, take, drop, length, arith, sym, ◌∙◌, ap, append_assoc}
use Rattle.std.proofs.Math.Seq.{take-add}
use Rattle.std.proofs.lemmas.List.{take_all, length-drop}
use Rattle.byte_ports.specs.Bytes.{TookSoFar, Appended}

-- more bytes were taken
pub took_more : (old mid new : Option (List ℕ)) (first second : List ℕ) → TookSoFar old mid first → TookSoFar mid new second → TookSoFar old new (first ++ second)
took_more None mid new first second a b = tt
took_more (Some old) None new first second a b = absurd a
took_more (Some old) (Some mid) None first second a b = absurd b
took_more (Some old) (Some mid) (Some new) first second a b = a ∙ ap (λ (xs : List ℕ). first ++ xs) b ∙ sym (append_assoc first second new)

-- more bytes were appended
pub appended_more : (old mid new : Option (List ℕ)) (first second : List ℕ) → Appended old mid first → Appended mid new second → Appended old new (first ++ second)
appended_more None mid new first second a b = tt
appended_more (Some old) None new first second a b = absurd a
appended_more (Some old) (Some mid) None first second a b = absurd b
appended_more (Some old) (Some mid) (Some new) first second a b = b ∙ ap (λ (xs : List ℕ). xs ++ second) a ∙ append_assoc old first second

-- the first of what is left, behind what is done
pub take_further : (xs : List ℕ) (done n : ℕ) → take (done + n) xs ≡ take done xs ++ take n (take (length xs - done) (drop done xs))
take_further xs done n = take-add done n xs ∙ ap (λ (ys : List ℕ). take done xs ++ take n ys) (sym (take_all (length xs - done) (drop done xs) (omega (arith, length-drop done xs))))

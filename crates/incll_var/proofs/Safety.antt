-- Cells behind one store.
use Rattle.std.proofs.Common.{◌≡◌, ℕ, ◌<◌, ◌≢◌, List, [], ◌∷◌, length, get_or, set, arith, refl, sym, subst, inl, inr}
use Rattle.std.proofs.lemmas.Grind.{common_steps}
use Rattle.std.proofs.lemmas.Bool.{cases_lt}
use Rattle.std.proofs.Math.Seq.{take-length}
use Rattle.line_memory.specs.Line.{LineState, applied, loaded_words, loaded, stored, store_to}
use Rattle.line_memory.specs.declared.store.Store.{Store}
use Rattle.line_memory.proofs.Stores.{latest-applied}
use Rattle.line_memory.proofs.Survivors.{left-stored, left-stored_last}
use Rattle.room_model.specs.Cell.{tag_of, triple_of, IsSafe, IsRecoverable}
use Rattle.incll_var.specs.Plans.{AreSafe}

-- what holds of eight words holds of words that are eight
pub from_eight : (P : List ℕ → Type 0) → ((a b c d x f g h : ℕ) → P (a ∷ b ∷ c ∷ d ∷ x ∷ f ∷ g ∷ h ∷ [])) → (ws : List ℕ) → length ws ≡ 8 → P ws
from_eight P all [] e = absurd (omega arith)
from_eight P all (a ∷ []) e = absurd (omega arith)
from_eight P all (a ∷ b ∷ []) e = absurd (omega arith)
from_eight P all (a ∷ b ∷ c ∷ []) e = absurd (omega arith)
from_eight P all (a ∷ b ∷ c ∷ d ∷ []) e = absurd (omega arith)
from_eight P all (a ∷ b ∷ c ∷ d ∷ x ∷ []) e = absurd (omega arith)
from_eight P all (a ∷ b ∷ c ∷ d ∷ x ∷ f ∷ []) e = absurd (omega arith)
from_eight P all (a ∷ b ∷ c ∷ d ∷ x ∷ f ∷ g ∷ []) e = absurd (omega arith)
from_eight P all (a ∷ b ∷ c ∷ d ∷ x ∷ f ∷ g ∷ h ∷ []) e = all a b c d x f g h
from_eight P all (a ∷ b ∷ c ∷ d ∷ x ∷ f ∷ g ∷ h ∷ i ∷ ws) e = absurd (omega arith)

-- one more store makes one more survivor
pub kept-stored : (e : ℕ) (l : LineState) (word value : ℕ) → IsRecoverable e l → IsSafe e (triple_of e l.base) (set (loaded_words l) word value) → IsRecoverable e (stored l word value)
kept-stored e l word value kept safe k = elim (cases_lt (length l.pending) k) [
  | inr le ↦ subst (λ (ws : List ℕ). IsSafe e (triple_of e l.base) ws) (sym (left-stored l word value k le)) (kept k)
  | inl lt ↦ subst (λ (ws : List ℕ). IsSafe e (triple_of e l.base) ws) (sym (left-stored_last l word value k lt)) safe
]

-- a cell with the epoch's tag stays safe behind a store to its record
pub safe-one : (e : ℕ) (t ws : List ℕ) (word value : ℕ) → word < 3 → IsSafe e t ws → tag_of ws ≡ e → IsSafe e t (set ws word value)
safe-one e t ws word value lt safe tagged = record { eight = grind (arith, common_steps); tag = grind (arith, common_steps); recovers = grind (arith, common_steps) }

-- a cell with another tag stays safe behind each of the five stores of its first write
pub safe-five : (e : ℕ) (t ws : List ℕ) (word value : ℕ) → word < 3 → IsSafe e t ws → tag_of ws ≢ e
    → AreSafe e t ws (store_to 3 (get_or ws 0 0) ∷ store_to 4 (get_or ws 1 0) ∷ store_to 5 (get_or ws 2 0) ∷ store_to 6 e ∷ store_to word value ∷ [])
safe-five e t ws word value lt safe other =
    from_eight
    (λ us. IsSafe e t us → tag_of us ≢ e → AreSafe e t us (store_to 3 (get_or us 0 0) ∷ store_to 4 (get_or us 1 0) ∷ store_to 5 (get_or us 2 0) ∷ store_to 6 e ∷ store_to word value ∷ []))
    (λ a b c d x f g h s o.
    let kept : a ∷ b ∷ c ∷ [] ≡ t = grind (arith, common_steps) in
    let first : IsSafe e t (a ∷ b ∷ c ∷ a ∷ x ∷ f ∷ g ∷ h ∷ []) = record { eight = refl; tag = s.tag; recovers = grind (arith, common_steps) } in
    let second : IsSafe e t (a ∷ b ∷ c ∷ a ∷ b ∷ f ∷ g ∷ h ∷ []) = record { eight = refl; tag = s.tag; recovers = grind (arith, common_steps) } in
    let third : IsSafe e t (a ∷ b ∷ c ∷ a ∷ b ∷ c ∷ g ∷ h ∷ []) = record { eight = refl; tag = s.tag; recovers = grind (arith, common_steps) } in
    let fourth : IsSafe e t (a ∷ b ∷ c ∷ a ∷ b ∷ c ∷ e ∷ h ∷ []) = record { eight = refl; tag = omega arith; recovers = grind (arith, common_steps) } in
    (first, (second, (third, (fourth, (safe-one e t _ word value lt fourth refl, tt)))))) ws safe.eight safe other

-- a kept cell is safe by loads
pub whole_safe : (e : ℕ) (l : LineState) → IsRecoverable e l → IsSafe e (triple_of e l.base) (loaded_words l)
whole_safe e l kept = subst (λ (ss : List Store). IsSafe e (triple_of e l.base) (applied l.base ss)) (take-length l.pending) (kept (length l.pending))

-- a load of a kept cell is its word
pub loaded-whole : (e : ℕ) (l : LineState) (w : ℕ) → IsRecoverable e l → w < 8 → loaded l w ≡ get_or (loaded_words l) w 0
loaded-whole e l w kept lt = latest-applied l.base l.pending w (omega (arith, (kept 0).eight))

-- The walk, step by step.
use Rattle.std.proofs.Common.{◌≡◌, ℕ, ◌-◌, ◌<◌, ◌≤◌, ◌≢◌, ◌==◌, zero, suc, Bool, arith, refl, ap, sym, ◌∙◌, subst, if◌then◌else◌, eq-eqb}
use Rattle.std.proofs.lemmas.Bool.{ne_eqb}
use Rattle.room_model.specs.Writes.{line_with, line_before}
use Rattle.room_model.specs.Walks.{IsWalk}

-- what is left of the walk comes to what the whole comes to
pub record IsFinding (r : ℕ → ℕ → ℕ) (lines key head left before line : ℕ) : Type 0 where
  pub node : line_with r key left line ≡ line_with r key lines head
  pub before_is : line_before r key left before line ≡ line_before r key lines 0 head
  pub walk : IsWalk r lines left line

-- where the walk came to its end
pub record IsFound (r : ℕ → ℕ → ℕ) (lines key head node before : ℕ) : Type 0 where
  pub node_is : node ≡ line_with r key lines head
  pub before_is : before ≡ line_before r key lines 0 head

pub at_end : (r : ℕ → ℕ → ℕ) (lines key head before line : ℕ) → IsFinding r lines key head 0 before line → IsFound r lines key head 0 before
at_end r lines key head before line h = record { node_is = h.node; before_is = h.before_is }

pub at_zero : (r : ℕ → ℕ → ℕ) (lines key head left before line : ℕ) → line ≡ 0 → IsFinding r lines key head left before line → IsFound r lines key head 0 before
at_zero r lines key head zero before line none h = record { node_is = h.node; before_is = h.before_is }
at_zero r lines key head (suc m) before line none h = record {
  node_is = sym (ap (λ (b : Bool). if b then 0 else if r line 0 == key then line else line_with r key m (r line 2)) (eq-eqb line 0 none)) ∙ h.node;
  before_is = sym (ap (λ (b : Bool). if b then before else if r line 0 == key then before else line_before r key m line (r line 2)) (eq-eqb line 0 none)) ∙ h.before_is;
}

pub at_key : (r : ℕ → ℕ → ℕ) (lines key head left before line : ℕ) → 0 < left → line ≢ 0 → r line 0 ≡ key → IsFinding r lines key head left before line → IsFound r lines key head line before
at_key r lines key head zero before line pos some is h = absurd (omega arith)
at_key r lines key head (suc m) before line pos some is h = record {
  node_is = sym (ap (λ (b : Bool). if b then 0 else if r line 0 == key then line else line_with r key m (r line 2)) (ne_eqb line 0 some) ∙ ap (λ (b : Bool). if b then line else line_with r key m (r line 2)) (eq-eqb (r line 0) key is)) ∙ h.node;
  before_is = sym (ap (λ (b : Bool). if b then before else if r line 0 == key then before else line_before r key m line (r line 2)) (ne_eqb line 0 some) ∙ ap (λ (b : Bool). if b then before else line_before r key m line (r line 2)) (eq-eqb (r line 0) key is)) ∙ h.before_is;
}

pub further : (r : ℕ → ℕ → ℕ) (lines key head left before line : ℕ) → 0 < left → line ≢ 0 → r line 0 ≢ key → IsFinding r lines key head left before line → IsFinding r lines key head (left - 1) line (r line 2)
further r lines key head zero before line pos some other h = absurd (omega arith)
further r lines key head (suc m) before line pos some other h =
    let less : m ≡ suc m - 1 = omega arith in
    subst (λ (k : ℕ). IsFinding r lines key head k line (r line 2)) less (record {
      node = sym (ap (λ (b : Bool). if b then 0 else if r line 0 == key then line else line_with r key m (r line 2)) (ne_eqb line 0 some) ∙ ap (λ (b : Bool). if b then line else line_with r key m (r line 2)) (ne_eqb (r line 0) key other)) ∙ h.node;
      before_is = sym (ap (λ (b : Bool). if b then before else if r line 0 == key then before else line_before r key m line (r line 2)) (ne_eqb line 0 some) ∙ ap (λ (b : Bool). if b then before else line_before r key m line (r line 2)) (ne_eqb (r line 0) key other)) ∙ h.before_is;
      walk = (h.walk some).1;
    })

-- a line of the walk is one of the room
pub in_room : (r : ℕ → ℕ → ℕ) (lines left line : ℕ) → 0 < left → line ≢ 0 → IsWalk r lines left line → line < lines
in_room r lines zero line pos some h = absurd (omega arith)
in_room r lines (suc m) line pos some h = (h some).0

-- the first line of a walk is one of the room, or 0
pub first_small : (r : ℕ → ℕ → ℕ) (lines left first n : ℕ) → lines ≤ n → 0 < n → IsWalk r lines left first → first < n
first_small r lines zero first n fits pos w = omega (arith, w, pos)
first_small r lines (suc m) zero n fits pos w = pos
first_small r lines (suc m) (suc k) n fits pos w = let lt = (w (λ (e : suc k ≡ 0). omega (arith, e))).0 in omega (arith, lt, fits)

-- a walk that meets no more has come to its end
pub at_stop : (r : ℕ → ℕ → ℕ) (lines key head left before line : ℕ) → (line ≢ 0 → left ≡ 0) → IsFinding r lines key head left before line → IsFound r lines key head 0 before
at_stop r lines key head left before zero ends h = at_zero r lines key head left before 0 refl h
at_stop r lines key head left before (suc k) ends h =
    let none : left ≡ 0 = ends (λ (e : suc k ≡ 0). omega (arith, e)) in
    at_end r lines key head before (suc k) (subst (λ (n : ℕ). IsFinding r lines key head n before (suc k)) none h)

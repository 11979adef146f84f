-- The steps of a walk, and what a walk over a queue still meets.
use Rattle.std.proofs.Common.{◌≡◌, ◌≢◌, ℕ, ◌-◌, ◌<◌, ◌==◌, ◌||◌, zero, suc, Bool, true, false, Option, Some, None, List, [], ◌∷◌, ◌++◌, refl, sym, ap, ◌∙◌, subst, arith, eq-eqb, append_assoc, inl, inr, if◌then◌else◌}
use Rattle.std.proofs.lemmas.Bool.{ne_eqb}
use Rattle.std.proofs.lemmas.Bool.Decides.{eqb_tells}
use Rattle.std.proofs.lemmas.List.{append-nil}
use Rattle.std.proofs.lemmas.Option.{none-some, same_Some}
use Rattle.room_model.specs.Chains.{RoomWords}
use Rattle.room_model.specs.Walks.{items_from}
use Rattle.room_walks.specs.declared.walk.Walk.{Walk}
use Rattle.room_walks.specs.Walking.{has_ended, next_line, behind_next}

-- a walk met a line
pub record HasMet (r : RoomWords) (old new : Walk) (line : ℕ) : Type 0 where
  pub here : line ≡ old.line
  pub some : old.line ≢ 0
  pub more : 0 < old.left
  pub next : new.line ≡ r old.line old.word
  pub word : new.word ≡ old.word
  pub left : new.left ≡ old.left - 1

pub met : (r : RoomWords) (old new : Walk) (line : ℕ) → Some line ≡ next_line old → new ≡ behind_next r old → HasMet r old new line
met r old new line is behind = elim (eqb_tells old.line 0) [
  | inl e ↦ absurd (none-some line (sym (is ∙ ap (λ (b : Bool). if b || (old.left == 0) then None else Some old.line) e.0)))
  | inr e ↦ elim (eqb_tells old.left 0) [
    | inl f ↦ absurd (none-some line (sym (is ∙ ap (λ (b : Bool). if b || (old.left == 0) then None else Some old.line) e.0 ∙ ap (λ (b : Bool). if b then None else Some old.line) f.0)))
    | inr f ↦
        let goes : has_ended old ≡ false = ap (λ (b : Bool). b || (old.left == 0)) e.0 ∙ f.0 in
        let stands : new ≡ record { line = r old.line old.word; word = old.word; left = old.left - 1 } =
        behind ∙ ap (λ (b : Bool). if b then old else record { line = r old.line old.word; word = old.word; left = old.left - 1 }) goes in
        let some_left = f.1 in
        record {
          here = same_Some line old.line (is ∙ ap (λ (b : Bool). if b then None else Some old.line) goes);
          some = e.1;
          more = omega (arith, some_left);
          next = ap (λ (w : Walk). w.line) stands;
          word = ap (λ (w : Walk). w.word) stands;
          left = ap (λ (w : Walk). w.left) stands;
        }
  ]
]

-- where a walk meets none, its chain has ended or it may meet no more
pub stopped : (old : Walk) → None ≡ next_line old → old.line ≢ 0 → old.left ≡ 0
stopped old is some = elim (eqb_tells old.left 0) [
  | inl e ↦ e.1
  | inr e ↦ absurd (none-some old.line (is ∙ ap (λ (b : Bool). if b || (old.left == 0) then None else Some old.line) (ne_eqb old.line 0 some) ∙ ap (λ (b : Bool). if b then None else Some old.line) e.0))
]

-- a walk over a queue that meets none has met all items
pub no_more : (r : RoomWords) (walk : Walk) (items all : List ℕ) → None ≡ next_line walk → items ++ items_from r walk.left walk.line ≡ all → items ≡ all
no_more r walk items all is so_far =
    sym (append-nil items) ∙ ap (λ (xs : List ℕ). items ++ xs) (sym (none walk.left walk.line (stopped walk is))) ∙ so_far
  where
    none : (left line : ℕ) → (line ≢ 0 → left ≡ 0) → items_from r left line ≡ []
    none zero line ends = refl
    none (suc n) zero ends = refl
    none (suc n) (suc line) ends = absurd (let e = ends (λ (z : suc line ≡ 0). omega (arith, z)) in omega (arith, e))

-- one more item behind those so far
pub one_more : (r : RoomWords) (items now all : List ℕ) (old new : Walk) (line value : ℕ) → HasMet r old new line → old.word ≡ 1 → value ≡ r line 0 → now ≡ items ++ value ∷ []
    → items ++ items_from r old.left old.line ≡ all → now ++ items_from r new.left new.line ≡ all
one_more r items now all old new line value step by is pushed so_far =
    ap (λ (xs : List ℕ). xs ++ items_from r new.left new.line) (pushed ∙ ap (λ (v : ℕ). items ++ v ∷ []) (is ∙ ap (λ (k : ℕ). r k 0) step.here))
    ∙ ap (λ (k : ℕ). (items ++ r old.line 0 ∷ []) ++ items_from r k new.line) step.left
    ∙ ap (λ (k : ℕ). (items ++ r old.line 0 ∷ []) ++ items_from r (old.left - 1) k) (step.next ∙ ap (r old.line) by)
    ∙ on old.left old.line step.more step.some
    ∙ so_far
  where
    on : (left line : ℕ) → 0 < left → line ≢ 0 → (items ++ r line 0 ∷ []) ++ items_from r (left - 1) (r line 1) ≡ items ++ items_from r left line
    on zero line some ne = absurd (omega (arith, some))
    on (suc n) line some ne =
        let e : suc n - 1 ≡ n = omega arith in
        append_assoc items (r line 0 ∷ []) (items_from r (suc n - 1) (r line 1))
        ∙ ap (λ (k : ℕ). items ++ r line 0 ∷ items_from r k (r line 1)) e
        ∙ sym (ap (λ (b : Bool). items ++ (if b then [] else r line 0 ∷ items_from r n (r line 1))) (ne_eqb line 0 ne))

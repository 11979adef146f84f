-- The first survivor that is wrong, found while an odometer goes through all of them.
use Rattle.std.proofs.Common.{◌≡◌, ℕ, ◌<◌, ◌≤◌, Bool, true, false, Option, Some, None, List, sum, ap, sym, ◌∙◌, subst, arith, inl, inr, ◌⊎◌, IsTrue, ◌↔◌}
use Rattle.crash_explorer.specs.declared.verdict.Miss.{Miss}
use Rattle.crash_explorer.specs.declared.verdict.Found.{Found}
use Rattle.crash_explorer.specs.Cut.{AreWithin}
use Rattle.crash_explorer.specs.Order.{Earlier, Precedes}
use Rattle.crash_explorer.specs.Better.{IsFewer, Names, IsBetter}

-- the survivor that was found is wrong, and of those that were met none that keeps fewer is, nor of all one that comes before it with as many
pub record IsFound (met : List ℕ → Type 0) (Right : List ℕ → Type 0) (Wrong : List ℕ → Miss → Type 0) (ms : List ℕ) (found : Found) : Type 0 where
  pub within : AreWithin found.kept.items ms
  pub wrong : Wrong found.kept.items found.miss
  pub stores : found.stores ≡ sum found.kept.items
  pub fewer : (v : List ℕ) → AreWithin v ms → met v → sum v < found.stores → Right v
  pub same : (v : List ℕ) → AreWithin v ms → sum v ≡ found.stores → Earlier v found.kept.items → Right v

-- of the survivors that were met: all are right, or this is found
abbrev pub IsBest : (List ℕ → Type 0) → (List ℕ → Type 0) → (List ℕ → Miss → Type 0) → List ℕ → Option Found → Type 0
IsBest met Right Wrong ms None = (v : List ℕ) → AreWithin v ms → met v → Right v
IsBest met Right Wrong ms (Some found) = IsFound met Right Wrong ms found

-- those before these counts
abbrev pub before : List ℕ → List ℕ → Type 0
before now = λ v. Earlier v now

-- those before these counts, and these
abbrev pub up_to : List ℕ → List ℕ → Type 0
up_to now = λ v. Earlier v now ⊎ (v ≡ now)

-- where fewer were met, what was found still stands
pub best-less : (met less : List ℕ → Type 0) (Right : List ℕ → Type 0) (Wrong : List ℕ → Miss → Type 0) (ms : List ℕ) (best : Option Found) → ((v : List ℕ) → AreWithin v ms → less v → met v)
    → IsBest met Right Wrong ms best → IsBest less Right Wrong ms best
best-less met less Right Wrong ms None goes b = λ v w m. b v w (goes v w m)
best-less met less Right Wrong ms (Some found) goes b = record { within = b.within; wrong = b.wrong; stores = b.stores; fewer = λ v w m lt. b.fewer v w (goes v w m) lt; same = b.same }

-- a survivor that is right changes nothing
pub right-met : (Right : List ℕ → Type 0) (Wrong : List ℕ → Miss → Type 0) (ms now : List ℕ) (best : Option Found) → Right now → IsBest (before now) Right Wrong ms best → IsBest (up_to now) Right Wrong ms best
right-met Right Wrong ms now None right b = λ v w m. elim m [
  | inl e ↦ b v w e
  | inr is ↦ subst Right (sym is) right
]
right-met Right Wrong ms now (Some found) right b = record {
  within = b.within;
  wrong = b.wrong;
  stores = b.stores;
  fewer = λ v w m lt. elim m [
    | inl e ↦ b.fewer v w e lt
    | inr is ↦ subst Right (sym is) right
  ];
  same = b.same;
}

-- before these counts none with fewer stores than all that was found is wrong
fewer-right : (Right : List ℕ → Type 0) (Wrong : List ℕ → Miss → Type 0) (ms now v : List ℕ) (best : Option Found) → IsBest (before now) Right Wrong ms best → IsFewer (sum now) best → AreWithin v ms → Earlier v now
    → sum v ≤ sum now → Right v
fewer-right Right Wrong ms now v None b less w e le = b v w e
fewer-right Right Wrong ms now v (Some found) b less w e le = b.fewer v w e (omega (arith, less))

-- a wrong survivor that keeps fewer stores is found in place of what was
new-met : (Right : List ℕ → Type 0) (Wrong : List ℕ → Miss → Type 0) (ms now : List ℕ) (miss : Miss) (best new : Option Found) → AreWithin now ms → Wrong now miss
    → IsBest (before now) Right Wrong ms best → IsFewer (sum now) best → Names now miss new → IsBest (up_to now) Right Wrong ms new
new-met Right Wrong ms now miss best None w wrong b less names = absurd names
new-met Right Wrong ms now miss best (Some found) w wrong b less names = record {
  within = subst (λ (ks : List ℕ). AreWithin ks ms) (sym names.0) w;
  wrong = subst (λ (ks : List ℕ). Wrong ks found.miss) (sym names.0) (subst (λ (m : Miss). Wrong now m) (sym names.2) wrong);
  stores = names.1 ∙ ap (λ (ks : List ℕ). sum ks) (sym names.0);
  fewer = λ v within m lt. elim m [
    | inl e ↦ fewer-right Right Wrong ms now v best b less within e (omega (arith, names.1))
    | inr is ↦ absurd (omega (arith, names.1, ap (λ (ks : List ℕ). sum ks) is))
  ];
  same = λ v within same e. fewer-right Right Wrong ms now v best b less within (subst (λ (ks : List ℕ). Earlier v ks) names.0 e) (omega (arith, names.1));
}

-- a wrong survivor that keeps as many stores or more changes nothing
old-met : (Right : List ℕ → Type 0) (Wrong : List ℕ → Miss → Type 0) (ms now : List ℕ) (best : Option Found) → (IsFewer (sum now) best → ⊥) → IsBest (before now) Right Wrong ms best → IsBest (up_to now) Right Wrong ms best
old-met Right Wrong ms now None more b = absurd (more tt)
old-met Right Wrong ms now (Some found) more b = record {
  within = b.within;
  wrong = b.wrong;
  stores = b.stores;
  fewer = λ v w m lt. elim m [
    | inl e ↦ b.fewer v w e lt
    | inr is ↦ absurd (more (omega (arith, ap (λ (ks : List ℕ). sum ks) is)))
  ];
  same = b.same;
}

-- one more survivor that is wrong was tried
pub wrong-met : (Right : List ℕ → Type 0) (Wrong : List ℕ → Miss → Type 0) (ms now : List ℕ) (miss : Miss) (best new : Option Found) → AreWithin now ms → Wrong now miss
    → IsBetter best now miss new → IsBest (before now) Right Wrong ms best → IsBest (up_to now) Right Wrong ms new
wrong-met Right Wrong ms now miss best new w wrong better b = elim better [
  | inl p ↦ new-met Right Wrong ms now miss best new w wrong b p.0 p.1
  | inr p ↦ subst (IsBest (up_to now) Right Wrong ms) (sym p.1) (old-met Right Wrong ms now best p.0 b)
]

-- and then there is one that was found
pub wrong-some : (now : List ℕ) (miss : Miss) (best new : Option Found) → IsBetter best now miss new → new ≡ None → ⊥
wrong-some now miss best (Some found) better none = cc
wrong-some now miss None None better none = elim better [
  | inl p ↦ p.1
  | inr p ↦ p.0 tt
]
wrong-some now miss (Some found) None better none = elim better [
  | inl p ↦ p.1
  | inr p ↦ cc
]

-- where all were met, what was found is the first
pub best-first : (Right : List ℕ → Type 0) (Wrong : List ℕ → Miss → Type 0) (ms now : List ℕ) (found : Found) → ((v : List ℕ) → AreWithin v ms → up_to now v) → IsFound (up_to now) Right Wrong ms found
    → (v : List ℕ) → AreWithin v ms → Precedes v found.kept.items → Right v
best-first Right Wrong ms now found all b = λ v w p. elim p [
  | inl lt ↦ b.fewer v w (all v w) (omega (arith, b.stores))
  | inr e ↦ b.same v w (e.0 ∙ sym b.stores) e.1
]

-- whether stores are fewer was asked
pub not_fewer : (asked : Bool) (stores n : ℕ) (best : Option Found) → asked ≡ false → (IsTrue asked ↔ IsFewer stores best) → stores ≡ n → IsFewer n best → ⊥
not_fewer asked stores n best is means same fewer = let holds : IsTrue asked = means.1 (subst (λ (m : ℕ). IsFewer m best) (sym same) fewer) in cc

-- and they are
pub are_fewer : (asked : Bool) (stores n : ℕ) (best : Option Found) → asked ≡ true → (IsTrue asked ↔ IsFewer stores best) → stores ≡ n → IsFewer n best
are_fewer asked stores n best is means same = let holds : IsTrue asked = is in subst (λ (m : ℕ). IsFewer m best) same (means.0 holds)

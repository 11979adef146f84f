-- Behind each answer the views that are told are those before it, with the thread's own as it is now.
use Rattle.std.proofs.Common.{◌≡◌, ℕ, zero, suc, List, [], ◌∷◌, Option, Some, None, set, refl, sym, ap, ◌∙◌}
use mathlib.Core.Option.{some, some-injective}
use lib.ListN.{get_elem?}
use Rattle.yard_model.specs.declared.view.View.{View}
use Rattle.room_yard.specs.Told.{Told, IsTold, BothTell}
use Rattle.room_yard.specs.Answers.{StandIsRefused}
use Rattle.room_yard.specs.declared.answers.HoldsLock.{HoldsLock}
use Rattle.room_yard.specs.Laws.{SetsOwnView, AnswersSetOwnViewLaw}

-- what is told at both, by another fact of both
both_tell : (t u : Option Told) (one other : Told → Told → Type 0) → ((a b : Told) → one a b → other a b) → BothTell t u one → BothTell t u other
both_tell None None one other f is = is
both_tell None (Some b) one other f is = is
both_tell (Some a) None one other f is = is
both_tell (Some a) (Some b) one other f is = f a b is

-- what is set to what it was stays
set_as_it_was : (l : List View) (i : ℕ) (v : View) → get_elem? l i ≡ some v → set l i v ≡ l
set_as_it_was [] i v at = refl
set_as_it_was (x ∷ xs) zero v at = ap (λ (y : View). y ∷ xs) (sym (some-injective x v at))
set_as_it_was (x ∷ xs) (suc i) v at = ap (λ (l : List View). x ∷ l) (set_as_it_was xs i v at)

refused : (v w : View) (t u : Option Told) (held : HoldsLock) → IsTold t v → StandIsRefused v t held w u → SetsOwnView v t w u
refused v w None None held told is = is.world
refused v w None (Some b) held told is = is.world
refused v w (Some a) None held told is = is.world
refused v w (Some a) (Some b) held told is = ap (λ (c : Told). c.world.views) is.world
    ∙ (sym (set_as_it_was a.world.views v.thread v told.1) ∙ ap (set a.world.views v.thread) (sym is.view))

pub answers_set_own_view : AnswersSetOwnViewLaw
answers_set_own_view = record {
  left = λ v w t u end epoch is. both_tell t u _ _ (λ a b f. ap (λ (c : Told). c.world.views) f.1) is.world;
  leave_rests = λ v w t u end rest is. both_tell t u _ _ (λ a b f. ap (λ (c : Told). c.world.views) f.2) is.world;
  locked = λ v w t u r x is. both_tell t u _ _ (λ a b f. ap (λ (c : Told). c.world.views) f.3) is.world;
  held = λ v w t u r held is. both_tell t u _ _ (λ a b f. ap (λ (c : Told). c.world.views) f.1) is.world;
  unlocked = λ v w t u r x is. both_tell t u _ _ (λ a b f. ap (λ (c : Told). c.world.views) f) is.world;
  retreated = λ v w t u r x is. both_tell t u _ _ (λ a b f. ap (λ (c : Told). c.world.views) f) is.world;
  drew = λ v w t u e place is. both_tell t u _ _ (λ a b f. ap (λ (c : Told). c.world.views) f.1) is.world;
  stood = λ v w t u is. both_tell t u _ _ (λ a b f. ap (λ (c : Told). c.world.views) f) is.world;
  refused = λ v w t u held told is. refused v w t u held told is;
  claimed = λ v w t u is. both_tell t u _ _ (λ a b f. ap (λ (c : Told). c.world.views) f.1) is.world;
  claim_rests = λ v w t u rest is. both_tell t u _ _ (λ a b f. ap (λ (c : Told). c.world.views) f.2) is.world;
  ended = λ v w t u over fed m is. both_tell t u _ _ (λ a b f. ap (λ (c : Told). c.world.views) f.1) is.world;
  saw_power = λ v w t u on is. both_tell t u _ _ (λ a b f. ap (λ (c : Told). c.world.views) f.1) is.world;
  ticked = λ v w t u is. both_tell t u _ _ (λ a b f. ap (λ (c : Told). c.world.views) f) is.world;
  turned_off = λ v w t u is. both_tell t u _ _ (λ a b f. ap (λ (c : Told). c.world.views) f) is.world;
}

-- Who rests, or finds a lock taken, looked.
use Rattle.std.proofs.Common.{◌≡◌, ℕ, ◌+◌, ◌⊎◌, refl, sym, subst, ⊎_elim, arith}
use Rattle.yard_model.specs.declared.view.View.{View}
use Rattle.yard_model.specs.Views.{looked}
use Rattle.room_yard.specs.declared.answers.Rest.{Rest}
use Rattle.yard_model.specs.Conditions.{MayLeave, MayClaim}
use Rattle.room_yard.specs.Calls.{ForbidsLeave, ForbidsClaim}
use Rattle.room_yard.specs.Answers.{HasLooked, FoundForbidden, MetAnother}
use Rattle.room_yard.specs.Laws.{LeaveRestLooksLaw, ClaimRestLooksLaw, HeldLooksLaw}

-- by one look, and by two
looks_once : (v w : View) (word found : ℕ) → w ≡ looked v word found → HasLooked v w word found
looks_once v w word found is = subst (λ (u : View). HasLooked v u word found) (sym is) (record { rose = omega arith; last = (refl, refl) })

looks_twice : (v w : View) (first word found : ℕ) → w ≡ looked (looked v word first) word found → HasLooked v w word found
looks_twice v w first word found is = subst (λ (u : View). HasLooked v u word found) (sym is) (record { rose = omega arith; last = (refl, refl) })

rest_looks : (v w : View) (rest : Rest) (forbids allows : Type 0) → FoundForbidden v rest forbids w ⊎ MetAnother v rest allows w → HasLooked v w 2 rest.met
rest_looks v w rest forbids allows cause = ⊎_elim
    (λ (c : FoundForbidden v rest forbids w). subst (λ (n : ℕ). HasLooked v w 2 n) (sym c.same) (looks_once v w 2 rest.found c.view))
    (λ (c : MetAnother v rest allows w). looks_twice v w rest.found 2 rest.met c.view)
    cause

pub leave_rest_looks : LeaveRestLooksLaw
leave_rest_looks v w t u end rest is = rest_looks v w rest (ForbidsLeave v end rest.found) (MayLeave v end rest.found) is.cause

pub claim_rest_looks : ClaimRestLooksLaw
claim_rest_looks v w t u rest is = rest_looks v w rest (ForbidsClaim v rest.found) (MayClaim v rest.found) is.cause

pub held_looks : HeldLooksLaw
held_looks v w t u r held is = looks_once v w (3 + r) held.by is.view

-- A map room may go home as lock gave it, and the view is then what it was.
use Rattle.std.proofs.Common.{rules, ◌≡◌, ℕ, ◌<◌, Option, refl, sym, ap, subst, ◌∙◌}
use Rattle.rooms.specs.declared.room.Room.{Room}
use Rattle.yard_model.specs.declared.view.Phase.TheVariants.{Running}
use Rattle.yard_model.specs.declared.view.View.{View}
use Rattle.yard_model.specs.Knows.{sizes_known}
use Rattle.yard_model.specs.Views.{grip_on, freed}
use Rattle.yard_model.specs.Conditions.{MayLock, MayUnlock}
use Rattle.room_yard.specs.Told.{Told}
use Rattle.room_yard.specs.Calls.{MayReturn}
use Rattle.room_yard.specs.Answers.{Locked, Unlocked}
use Rattle.room_yard.specs.Untouched.{ReturnsUntouchedLaw}

pub returns_untouched : ReturnsUntouchedLaw
returns_untouched v r x saved may running shard given = search rules

-- what lock answers meets what unlock asks
pub unlocks : {v w : View} {t u : Option Told} {r : ℕ} {x : Room} → MayLock v r → v.phase ≡ Running → r < (sizes_known v).shards → Locked v t r x w u → MayReturn w r x
unlocks {v} {w} {t} {u} {r} {x} may running shard is = (grip_on v r x is.covered, refl, subst (λ (z : View). MayUnlock z (grip_on v r x is.covered) x) (sym is.view) (returns_untouched v r x is.covered may running shard is.given).0)

-- and behind both the view is what it was
pub goes_back : {v w z : View} {t u q : Option Told} {r : ℕ} {x : Room} → MayLock v r → v.phase ≡ Running → r < (sizes_known v).shards → Locked v t r x w u → Unlocked w u r x z q → z ≡ v
goes_back {v} {w} {z} {t} {u} {q} {r} {x} may running shard is done = done.view (grip_on v r x is.covered) (ap (λ (a : View). a.grip) is.view)
    ∙ (ap (λ (a : View). freed a (grip_on v r x is.covered) x) is.view ∙ (returns_untouched v r x is.covered may running shard is.given).1)

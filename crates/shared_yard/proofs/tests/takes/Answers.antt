use Rattle.std.proofs.Common.{rules, arith, ◌≡◌, ℕ, ◌≤◌, false, inl, refl, sym, ap, ◌∙◌, subst, Option, None}
use Rattle.rooms.specs.declared.room.Room.{Room}
use Rattle.yard_model.specs.declared.view.Phase.{Phase}
use Rattle.yard_model.specs.declared.view.Phase.TheVariants.{Running}
use Rattle.yard_model.specs.declared.view.View.{View}
use Rattle.yard_model.specs.Knows.{sizes_known, MayHold}
use Rattle.yard_model.specs.Views.{grip_on, gripped, freed}
use Rattle.yard_model.specs.Conditions.{MayLock, MayUnlock, IsGiven}
use Rattle.room_yard.specs.Told.{Told}
use Rattle.room_yard.specs.Calls.{MayReturn}
use Rattle.room_yard.specs.Answers.{Locked, Unlocked}
use Rattle.shared_yard.specs.Rule.{one_view}
use Rattle.shared_yard.proofs.tests.takes.Goals as goal

may_lock : (v : View) (r : ℕ) → v.phase ≡ Running → v.saw_off ≡ false → v.grip ≡ None → r ≤ (sizes_known v).shards → MayLock v r
may_lock v r runs on free le = record {
  on = on;
  nothing_held = free;
  may_hold = subst (λ (p : Phase). MayHold (sizes_known v) v.thread p v.closed.rooms r) (sym runs) (inl le);
  within = omega (arith, le);
}

may_unlock : (v : View) (r : ℕ) (x : Room) (covered : ℕ) → MayLock v r → v.phase ≡ Running → r ≤ (sizes_known v).shards → IsGiven v r x covered → MayUnlock (gripped v r x covered) (grip_on v r x covered) x
may_unlock v r x covered may running le given = search rules

may_return : (v w : View) (t u : Option Told) (r : ℕ) (x : Room) → MayLock v r → v.phase ≡ Running → r ≤ (sizes_known v).shards → Locked v t r x w u → MayReturn w r x
may_return v w t u r x may running le is = (grip_on v r x is.covered, refl, subst (λ (z : View). MayUnlock z (grip_on v r x is.covered) x) (sym is.view) (may_unlock v r x is.covered may running le is.given))

-- the view behind the lock and the unlock
behind : (v w z : View) (t u q : Option Told) (r : ℕ) (x : Room) (is : Locked v t r x w u) → Unlocked w u r x z q → z ≡ freed (gripped v r x is.covered) (grip_on v r x is.covered) x
behind v w z t u q r x is done = done.view (grip_on v r x is.covered) (ap (λ (a : View). a.grip) is.view) ∙ ap (λ (a : View). freed a (grip_on v r x is.covered) x) is.view

pub unlock-requires : goal.unlock-requires
unlock-requires g c = record {
  may = may_return (one_view c.args.post.now.seat.me.0) (one_view c.lock.new.self.seat.me.0) None None c.args.room c.in_ok-value.value (may_lock (one_view c.args.post.now.seat.me.0) c.args.room c.requires.runs c.requires.on c.requires.free c.requires.room) c.requires.runs c.requires.room c.in_ok-value.ensures.locked;
}

pub returns-clause-runs : goal.returns-clause-runs
returns-clause-runs g c = ap (λ (z : View). z.phase) (behind _ _ _ None None None _ _ c.in_ok-value.ensures.locked c.unlock.ensures.done) ∙ c.requires.runs

pub returns-clause-on : goal.returns-clause-on
returns-clause-on g c = ap (λ (z : View). z.saw_off) (behind _ _ _ None None None _ _ c.in_ok-value.ensures.locked c.unlock.ensures.done) ∙ c.requires.on

pub returns-clause-free : goal.returns-clause-free
returns-clause-free g c = ap (λ (z : View). z.grip) (behind _ _ _ None None None _ _ c.in_ok-value.ensures.locked c.unlock.ensures.done)

pub returns-clause-thread : goal.returns-clause-thread
returns-clause-thread g c = ap (λ (z : View). z.thread) (behind _ _ _ None None None _ _ c.in_ok-value.ensures.locked c.unlock.ensures.done)

pub returns-clause-begins : goal.returns-clause-begins
returns-clause-begins g c = ap (λ (z : View). z.beginning) (behind _ _ _ None None None _ _ c.in_ok-value.ensures.locked c.unlock.ensures.done)

-- What an answer leaves of a state that is told: of all answers but a drawn entry and an ended epoch, the views with the thread's own as it is
-- now, and the history and the checkpoints as they were.
use Rattle.std.proofs.Common.{◌≡◌, ℕ, zero, suc, ⊎_elim, List, [], ◌∷◌, Option, Some, None, set, refl, sym, ap, ◌∙◌, subst}
use mathlib.Core.Option.{some, some-injective}
use lib.ListN.{get_elem?}
use Rattle.restart_point.specs.declared.thread_end.ThreadEnd.{ThreadEnd}
use Rattle.rooms.specs.declared.room.Room.{Room}
use Rattle.yard_model.specs.declared.view.View.{View}
use Rattle.yard_model.specs.World.{YardState}
use Rattle.room_yard.specs.declared.answers.Rest.{Rest}
use Rattle.room_yard.specs.declared.answers.Held.{Held}
use Rattle.room_yard.specs.Told.{Told, BothTell, in_world}
use Rattle.room_yard.specs.Answers.{HasLeft, LeaveRests, Locked, LockIsHeld, Unlocked, Retreated, Stood, Claimed, ClaimRests, TurnedOff}

-- what is told at both, by another fact of both
pub both_tell : (t u : Option Told) (one other : Told → Told → Type 0) → ((a b : Told) → one a b → other a b) → BothTell t u one → BothTell t u other
both_tell None None one other f is = is
both_tell None (Some b) one other f is = is
both_tell (Some a) None one other f is = is
both_tell (Some a) (Some b) one other f is = f a b is

-- a fact of each state and itself is told where the state is the same
tells_itself : (t : Option Told) (fact : Told → Told → Type 0) → ((a : Told) → fact a a) → BothTell t t fact
tells_itself None fact f = tt
tells_itself (Some a) fact f = f a

pub same_tells : (t u : Option Told) (fact : Told → Told → Type 0) → ((a : Told) → fact a a) → u ≡ t → BothTell t u fact
same_tells t u fact f same = subst (λ (o : Option Told). BothTell t o fact) (sym same) (tells_itself t fact f)

-- what is set to what it was stays, and what is set twice is what was set last
pub set_as_it_was : (l : List View) (i : ℕ) (v : View) → get_elem? l i ≡ some v → set l i v ≡ l
set_as_it_was [] i v at = refl
set_as_it_was (x ∷ xs) zero v at = ap (λ (y : View). y ∷ xs) (sym (some-injective x v at))
set_as_it_was (x ∷ xs) (suc i) v at = ap (λ (l : List View). x ∷ l) (set_as_it_was xs i v at)

pub set_twice : (l : List View) (i : ℕ) (a c : View) → set (set l i a) i c ≡ set l i c
set_twice [] i a c = refl
set_twice (x ∷ xs) zero a c = refl
set_twice (x ∷ xs) (suc i) a c = ap (λ (l : List View). x ∷ l) (set_twice xs i a c)

-- only the views are others, and of them only this one
pub record Stays (i : ℕ) (w : View) (a b : Told) : Type 0 where
  pub views : b.world.views ≡ set a.world.views i w
  pub history : b.history ≡ a.history
  pub checkpoints : b.checkpoints ≡ a.checkpoints

abbrev pub IsQuiet : View → Option Told → View → Option Told → Type 0
IsQuiet v t w u = BothTell t u (Stays v.thread w)

-- a state with another world, in which this view is set
in_its_world : (i : ℕ) (w : View) (a b : Told) (world : YardState) → world.views ≡ set a.world.views i w → b ≡ in_world a world → Stays i w a b
in_its_world i w a b world views is = record {
  views = ap (λ (c : Told). c.world.views) is ∙ views;
  history = ap (λ (c : Told). c.history) is;
  checkpoints = ap (λ (c : Told). c.checkpoints) is;
}

-- EACH ANSWER.

pub left : (v w : View) (t u : Option Told) (end : ThreadEnd) (epoch : ℕ) → HasLeft v t end epoch w u → IsQuiet v t w u
left v w t u end epoch is = both_tell t u _ _ (λ a b f. in_its_world v.thread w a b _ refl f.1) is.world

pub leave_rests : (v w : View) (t u : Option Told) (end : ThreadEnd) (rest : Rest) → LeaveRests v t end rest w u → IsQuiet v t w u
leave_rests v w t u end rest is = both_tell t u _ _ (λ a b f. in_its_world v.thread w a b _ refl f.2) is.world

pub locked : (v w : View) (t u : Option Told) (r : ℕ) (x : Room) → Locked v t r x w u → IsQuiet v t w u
locked v w t u r x is = both_tell t u _ _ (λ a b f. in_its_world v.thread w a b _ refl f.3) is.world

pub held : (v w : View) (t u : Option Told) (r : ℕ) (met : Held) → LockIsHeld v t r met w u → IsQuiet v t w u
held v w t u r met is = both_tell t u _ _ (λ a b f. in_its_world v.thread w a b _ refl f.1) is.world

pub unlocked : (v w : View) (t u : Option Told) (r : ℕ) (x : Room) → Unlocked v t r x w u → IsQuiet v t w u
unlocked v w t u r x is = both_tell t u _ _ (λ a b f. in_its_world v.thread w a b _ refl f) is.world

pub retreated : (v w : View) (t u : Option Told) (r : ℕ) (x : Room) → Retreated v t r x w u → IsQuiet v t w u
retreated v w t u r x is = both_tell t u _ _ (λ a b f. in_its_world v.thread w a b _ refl f) is.world

pub stood : (v w : View) (t u : Option Told) → Stood v t w u → IsQuiet v t w u
stood v w t u is = both_tell t u _ _ (λ a b f. in_its_world v.thread w a b _ refl f) is.world

pub claimed : (v w : View) (t u : Option Told) → Claimed v t w u → IsQuiet v t w u
claimed v w t u is = both_tell t u _ _ (λ a b f. in_its_world v.thread w a b _ refl f.1) is.world

pub claim_rests : (v w : View) (t u : Option Told) (rest : Rest) → ClaimRests v t rest w u → IsQuiet v t w u
claim_rests v w t u rest is = both_tell t u _ _ (λ a b f. in_its_world v.thread w a b _ refl f.2) is.world

pub turned_off : (v w : View) (t u : Option Told) → TurnedOff v t w u → IsQuiet v t w u
turned_off v w t u is = both_tell t u _ _ (λ a b f. in_its_world v.thread w a b _ refl f) is.world

-- TWO ANSWERS. The thread's number is the same behind a lock, and behind a leave at rest.

pub locked_thread : (v w : View) (t u : Option Told) (r : ℕ) (x : Room) → Locked v t r x w u → w.thread ≡ v.thread
locked_thread v w t u r x is = ap (λ (o : View). o.thread) is.view

pub rested_thread : (v w : View) (t u : Option Told) (end : ThreadEnd) (rest : Rest) → LeaveRests v t end rest w u → w.thread ≡ v.thread
rested_thread v w t u end rest is = ⊎_elim (λ f. ap (λ (o : View). o.thread) f.view) (λ m. ap (λ (o : View). o.thread) m.view) is.cause

stays_twice : (i j : ℕ) (m w : View) (a b c : Told) → j ≡ i → Stays i m a b → Stays j w b c → Stays i w a c
stays_twice i j m w a b c same one two = record {
  views = two.views ∙ ((λ k. set (one.views k) (same k) w) ∙ set_twice a.world.views i m w);
  history = two.history ∙ one.history;
  checkpoints = two.checkpoints ∙ one.checkpoints;
}

pub quiet_twice : (v m w : View) (t s u : Option Told) → m.thread ≡ v.thread → IsQuiet v t m s → IsQuiet m s w u → IsQuiet v t w u
quiet_twice v m w None None None same one two = tt
quiet_twice v m w None None (Some c) same one two = two
quiet_twice v m w None (Some b) u same one two = absurd one
quiet_twice v m w (Some a) None u same one two = absurd one
quiet_twice v m w (Some a) (Some b) None same one two = two
quiet_twice v m w (Some a) (Some b) (Some c) same one two = stays_twice v.thread m.thread m w a b c same one two

-- Where the rooms of a replay are, at home or in a worker's hand, and what a turn makes of them.
use Rattle.std.proofs.Common.{◌≡◌, ◌≢◌, ℕ, zero, suc, ◌+◌, ◌<◌, ◌⊎◌, inl, inr, List, [], ◌∷◌, length, set, Option, Some, refl, sym, ap, ◌∙◌, subst, arith}
use Rattle.std.specs.Prelude.{slice_get}
use Rattle.std.proofs.lemmas.Option.{slice_get_within}
use mathlib.Core.Option.{some}
use lib.ListN.{get_elem?}
use mathlib.Core.Logic.{dite}
use native.Mathlib.Decide.{ℕ_discrete}
use Rattle.rooms.specs.declared.room.Room.{Room}
use Rattle.yard_model.specs.declared.view.View.{View}
use Rattle.yard_model.specs.declared.view.Grip.{Grip}
use Rattle.yard_model.specs.World.{ViewIs, Home, lock_of, dead}
use Rattle.yard_model.specs.Opens.{opening_view}
use Rattle.yard_laws.proofs.Lists.{there}
use Rattle.yard_laws.proofs.Arrivals.{few_threads}
use Rattle.plain_yard.specs.Shown.{view_at}
use Rattle.plain_yard.proofs.Views.{read_at}
use Rattle.worker_model.specs.Workers.{WorkerState}
use Rattle.replay_model.specs.Replays.{ReplayState}
use Rattle.replay_model.specs.Kept.{IsReplay}
use Rattle.replay_laws.proofs.Keeps.{others_at}
use Rattle.replay_progress.specs.Shown.{room_in}

-- the room of this number is this one, in a thread's hand
pub record IsInHandAt (s : ReplayState) (r : ℕ) (x : Room) : Type 0 where
  pub thread : ℕ
  pub worker : WorkerState
  pub grip : Grip
  pub is_worker : slice_get s.workers thread ≡ Some worker
  pub in_hand : room_in worker.hand ≡ Some x
  pub held : (view_at s.yard thread).grip ≡ Some grip
  pub room : grip.room ≡ r

-- it is this one, at home or in a hand
abbrev pub IsAt : ReplayState → ℕ → Room → Type 0
IsAt s r x = Home s.yard.told.world r x ⊎ IsInHandAt s r x

module _ (s : ReplayState) (was : IsReplay s) where
  -- each worker's thread has its view
  pub viewed : (i : ℕ) (c : WorkerState) → slice_get s.workers i ≡ Some c → ViewIs s.yard.told.world i (view_at s.yard i)
  viewed i c at =
      let lt = slice_get_within s.workers i c at in
      let n = was.number in
      let t = there s.yard.told.world.views i (omega (arith, lt, n)) in
      t.1 ∙ ap some (sym (read_at s.yard.told.world.views i t.0 (opening_view s.yard.beginning i) t.1))

  -- the lock of a room in a hand names the thread
  locked : (r : ℕ) (x : Room) (a : IsInHandAt s r x) → lock_of s.yard.told.world r ≡ a.thread + 1
  locked r x a = subst (λ (k : ℕ). lock_of s.yard.told.world k ≡ a.thread + 1) a.room
      ((was.lawful.locks.views a.thread (view_at s.yard a.thread) (viewed a.thread a.worker a.is_worker)).held a.grip a.held)

  not_home : (r : ℕ) (x y : Room) → IsInHandAt s r x → Home s.yard.told.world r y → ⊥
  not_home r x y a home =
      let lock = locked r x a in
      let few = few_threads s.yard.beginning s.yard.told.world s.yard.told.history s.yard.told.checkpoints was.lawful a.thread (view_at s.yard a.thread) (viewed a.thread a.worker a.is_worker) in
      by a.thread (lock_of s.yard.told.world r) few lock (was.lawful.locks.home r y home)
    where
      by : (n k : ℕ) → n < 16 → k ≡ n + 1 → (k ≡ 0) ⊎ (k ≡ dead) → ⊥
      by n k few lock (inl free) = omega (arith, few, lock, free)
      by n k few lock (inr is_dead) = omega (arith, few, lock, is_dead)

  one_hand : (r : ℕ) (x y : Room) → IsInHandAt s r x → IsInHandAt s r y → x ≡ y
  one_hand r x y a b =
      let p = locked r x a in
      let q = locked r y b in
      let same : b.thread ≡ a.thread = omega (arith, p, q) in
      let worker : Some b.worker ≡ Some a.worker = sym b.is_worker ∙ ((λ k. slice_get s.workers (same k)) ∙ a.is_worker) in
      let one : b.worker ≡ a.worker = cc in
      let room : Some x ≡ Some y = sym a.in_hand ∙ (ap (λ (c : WorkerState). room_in c.hand) (sym one) ∙ b.in_hand) in
      cc

  -- a room is at one place
  pub unique : (r : ℕ) (x y : Room) → IsAt s r x → IsAt s r y → x ≡ y
  unique r x y (inl a) (inl b) = let q : some (Some x) ≡ some (Some y) = sym a ∙ b in cc
  unique r x y (inl a) (inr b) = absurd (not_home r y x b a)
  unique r x y (inr a) (inl b) = absurd (not_home r x y a b)
  unique r x y (inr a) (inr b) = one_hand r x y a b

-- a turn of this thread, of which the worker was this one and is that one now
pub record IsTurn (i : ℕ) (s s' : ReplayState) (c d : WorkerState) : Type 0 where
  pub before : IsReplay s
  pub behind : IsReplay s'
  pub is_worker : slice_get s.workers i ≡ Some c
  pub workers : s'.workers ≡ set s.workers i d
  pub beginning : s'.yard.beginning ≡ s.yard.beginning
  pub views : s'.yard.told.world.views ≡ set s.yard.told.world.views i (view_at s'.yard i)

-- the room of this number was this one and is that one now, and each other is what it was
pub record ChangesRoom (s s' : ReplayState) (r : ℕ) (x y : Room) : Type 0 where
  pub was : IsAt s r x
  pub is : IsAt s' r y
  pub others : (k : ℕ) (z : Room) → k ≢ r → IsAt s' k z → IsAt s k z

-- each room is what it was
abbrev pub KeepsRooms : ReplayState → ReplayState → Type 0
KeepsRooms s s' = (k : ℕ) (z : Room) → IsAt s' k z → IsAt s k z

set_here : (l : List WorkerState) (i : ℕ) (a : WorkerState) → i < length l → slice_get (set l i a) i ≡ Some a
set_here [] i a lt = absurd (omega (arith, lt))
set_here (x ∷ xs) zero a lt = refl
set_here (x ∷ xs) (suc i) a lt = set_here xs i a (omega (arith, lt))

set_else : (l : List WorkerState) (i j : ℕ) (a : WorkerState) → j ≢ i → slice_get (set l i a) j ≡ slice_get l j
set_else [] i j a ne = refl
set_else (x ∷ xs) zero zero a ne = absurd (ne refl)
set_else (x ∷ xs) zero (suc j) a ne = refl
set_else (x ∷ xs) (suc i) zero a ne = refl
set_else (x ∷ xs) (suc i) (suc j) a ne = set_else xs i j a (λ e. ne (ap suc e))

module _ (i : ℕ) (s s' : ReplayState) (c d : WorkerState) (turn : IsTurn i s s' c d) where
  pub worker_here : slice_get s'.workers i ≡ Some d
  worker_here = ap (λ (l : List WorkerState). slice_get l i) turn.workers ∙ set_here s.workers i d (slice_get_within s.workers i c turn.is_worker)

  pub worker_else : (j : ℕ) → j ≢ i → slice_get s'.workers j ≡ slice_get s.workers j
  worker_else j ne = ap (λ (l : List WorkerState). slice_get l j) turn.workers ∙ set_else s.workers i j d ne

  pub view_else : (j : ℕ) → j ≢ i → view_at s'.yard j ≡ view_at s.yard j
  view_else = others_at s.yard s'.yard i (view_at s'.yard i) turn.beginning turn.views

  -- a room in another thread's hand is where it was
  in_other : (k : ℕ) (z : Room) (a : IsInHandAt s' k z) → a.thread ≢ i → IsInHandAt s k z
  in_other k z a ne = record {
    thread = a.thread;
    worker = a.worker;
    grip = a.grip;
    is_worker = sym (worker_else a.thread ne) ∙ a.is_worker;
    in_hand = a.in_hand;
    held = ap (λ (v : View). v.grip) (sym (view_else a.thread ne)) ∙ a.held;
    room = a.room;
  }

  -- what is in the thread's own hand
  in_own : (k : ℕ) (z : Room) (a : IsInHandAt s' k z) → a.thread ≡ i → (room_in d.hand ≡ Some z) × ((view_at s'.yard i).grip ≡ Some a.grip)
  in_own k z a same =
      let worker : Some d ≡ Some a.worker = sym worker_here ∙ ((λ j. slice_get s'.workers (sym same j)) ∙ a.is_worker) in
      let one : d ≡ a.worker = cc in
      (ap (λ (e : WorkerState). room_in e.hand) one ∙ a.in_hand, (λ j. (view_at s'.yard (sym same j)).grip) ∙ a.held)

  pub changed : (r : ℕ) (x y : Room) → IsAt s r x → IsAt s' r y
      → ((k : ℕ) (z : Room) → k ≢ r → Home s'.yard.told.world k z → Home s.yard.told.world k z)
      → ((z : Room) (g : Grip) → room_in d.hand ≡ Some z → (view_at s'.yard i).grip ≡ Some g → g.room ≡ r) → ChangesRoom s s' r x y
  changed r x y was is homes own = record { was = was; is = is; others = others }
    where
      others : (k : ℕ) (z : Room) → k ≢ r → IsAt s' k z → IsAt s k z
      others k z ne (inl home) = inl (homes k z ne home)
      others k z ne (inr a) = dite (ℕ_discrete a.thread i)
          (λ same. let o = in_own k z a same in absurd (ne (sym a.room ∙ own z a.grip o.0 o.1)))
          (λ other. inr (in_other k z a other))

  pub keeps_rooms : s'.yard.told.world.rooms ≡ s.yard.told.world.rooms → ((z : Room) → room_in d.hand ≡ Some z → ⊥) → KeepsRooms s s'
  keeps_rooms same none k z (inl home) = inl (subst (λ (l : List (Option Room)). get_elem? l k ≡ some (Some z)) same home)
  keeps_rooms same none k z (inr a) = dite (ℕ_discrete a.thread i) (λ here. absurd (none z (in_own k z a here).0)) (λ other. inr (in_other k z a other))

-- A replay that goes on right shows hands.
use Rattle.std.proofs.Common.{◌≡◌, ◌≢◌, ℕ, ◌<◌, ◌≤◌, true, false, length, Option, Some, None, refl, sym, ap, ◌∙◌, subst, inl, inr, arith}
use Rattle.std.specs.Prelude.{slice_get}
use Rattle.std.proofs.lemmas.Option.{none-some, slice_get_cases}
use Rattle.seq_object.specs.declared.command.Command.{Command}
use Rattle.seq_object.specs.declared.settings.Settings.{Settings}
use Rattle.seq_object.specs.Sizes.{sizes_of, thread_room, super_room}
use Rattle.life_model.specs.Life.{next_command}
use Rattle.epoch_word.specs.declared.stage.EpochStage.TheVariants.{Before, Stored, AskedFor, InMemory}
use Rattle.restart_point.specs.declared.thread_end.ThreadEnd.TheVariants.{Ready}
use Rattle.rooms.specs.declared.room.Room.{Room}
use Rattle.rooms.specs.declared.room.Room.TheVariants.{Map, Queue, Thread, Super}
use Rattle.rooms.specs.Rooms.{end_of, IsKindOf}
use Rattle.yard_model.specs.declared.view.Phase.{Phase}
use Rattle.yard_model.specs.declared.view.Phase.TheVariants.{Standing, Running, Closing}
use Rattle.yard_model.specs.declared.view.Beginning.{Beginning}
use Rattle.yard_model.specs.declared.view.View.{View}
use Rattle.yard_model.specs.declared.view.Grip.{Grip}
use Rattle.yard_model.specs.Beginnings.{opening_of, sizes_at, epoch_now}
use Rattle.yard_model.specs.Knows.{stands, next_of}
use Rattle.yard_model.specs.World.{ViewIs, Home}
use Rattle.yard_model.specs.Opens.{opening_view}
use Rattle.yard_laws.proofs.Lists.{at_inside}
use Rattle.yard_laws.proofs.Knowns.{known_next}
use Rattle.coordinator.specs.declared.hand.Hand.{Hand as InClosing}
use Rattle.coordinator.specs.declared.hand.Hand.TheVariants.{Empty as NextRoom, Flushing, Flushed, Shut, Epoch, AllDone, Over}
use Rattle.coordinator.specs.declared.learnt.Learnt.{Learnt}
use Rattle.coordinator.specs.Closers.{HandIs}
use Rattle.plain_yard.specs.Shown.{view_at}
use Rattle.plain_yard.proofs.Views.{read_at}
use Rattle.worker_model.specs.declared.hand.Hand.{Hand}
use Rattle.worker_model.specs.declared.hand.Hand.TheVariants.{Empty, Commands, Drawn, NoItem, Own, Closes, Refused}
use Rattle.worker_model.specs.Workers.{WorkerState, IsWorker, HandFits}
use Rattle.replay_model.specs.Replays.{ReplayState}
use Rattle.replay_model.specs.Kept.{IsReplay}
use Rattle.yard_progress.specs.Shown.{IsAbout}
use Rattle.replay_progress.specs.Shown.{stage_of, with_nothing, activity_of, activity_in, activities_of, end_told, ends_of, GoesOnRight}
use Rattle.replay_progress.specs.Laws.{HandsShownLaw}

-- THE HAND OF A CLOSING: it is at one of four stages, and but for the first it has a room.
pub few_stages : (hand : InClosing) → stage_of hand ≤ 3
few_stages NextRoom = omega arith
few_stages (Flushing x) = omega arith
few_stages (Flushed x) = omega arith
few_stages (Shut x) = omega arith
few_stages (Epoch Before x) = omega arith
few_stages (Epoch Stored x) = omega arith
few_stages (Epoch AskedFor x) = omega arith
few_stages (Epoch InMemory x) = omega arith
few_stages AllDone = omega arith
few_stages Over = omega arith

-- what is there is something
something : {A : Type 0} → (o : Option A) (a : A) → o ≡ Some a → o ≢ None
something o a is none = none-some a (sym none ∙ is)

closes_with : (s : Settings) (l : Learnt) (hand : InClosing) (v : View) → HandIs s l hand v → stage_of hand ≢ 0 → v.grip ≢ None
closes_with s l NextRoom v is later = absurd (later refl)
closes_with s l (Flushing x) v is later = something v.grip is.grip is.held
closes_with s l (Flushed x) v is later = something v.grip is.grip is.held
closes_with s l (Shut x) v is later = something v.grip is.grip is.held
closes_with s l (Epoch stage x) v is later = something v.grip is.grip is.held
closes_with s l AllDone v is later = absurd (later refl)
closes_with s l Over v is later = absurd is

-- THE HAND OF A WORKER, while its thread saw the power on.
about_nothing : (phase : Phase) (grip : Option Grip) (done : ℕ) (next : Option Command) → grip ≡ None → (phase ≡ Closing → ⊥) → IsAbout phase grip done next (with_nothing phase)
about_nothing Standing grip done next none not_closing = refl
about_nothing Running grip done next none not_closing = (refl, none)
about_nothing Closing grip done next none not_closing = absurd (not_closing refl)

module _ (c : WorkerState) (v : View) (on : v.saw_off ≡ false) where
  saw_on : v.saw_off ≡ true → ⊥
  saw_on off = let q : true ≡ false = sym off ∙ on in absurd (grind arith)

  -- what is in the hand is what the view allows
  about_hand : (next : Option Command) → next_of v ≡ next → (hand : Hand) → HandFits c hand v → IsAbout v.phase v.grip v.closed.rooms next (activity_of hand v.phase)
  about_hand next is Empty fits = about_nothing v.phase v.grip v.closed.rooms next fits.none (λ closes. saw_on (fits.closing closes))
  about_hand next is (Commands reply x) fits = (fits.holds.phase, something v.grip fits.grip fits.holds.held, something next fits.command (sym is ∙ fits.next))
  about_hand next is (Drawn x) fits = (fits.holds.phase, something v.grip fits.grip fits.holds.held)
  about_hand next is (NoItem x) fits = (fits.holds.phase, something v.grip fits.grip fits.holds.held)
  about_hand next is (Own x) fits = (fits.holds.phase, something v.grip fits.grip fits.holds.held)
  about_hand next is (Closes closer) fits = (
    fits.closes.phase,
    fits.closes.learnt.rooms,
    few_stages closer.hand,
    closes_with closer.settings closer.learnt closer.hand v fits.closes.hand,
  )
  about_hand next is (Refused x) fits = absurd (saw_on fits.off)

  -- a thread that closes wrote its own room
  closing_wrote : (hand : Hand) → HandFits c hand v → v.phase ≡ Closing → v.wrote ≡ true
  closing_wrote Empty fits closes = absurd (saw_on (fits.closing closes))
  closing_wrote (Commands reply x) fits closes = let q : Running ≡ Closing = sym fits.holds.phase ∙ closes in absurd (grind arith)
  closing_wrote (Drawn x) fits closes = let q : Running ≡ Closing = sym fits.holds.phase ∙ closes in absurd (grind arith)
  closing_wrote (NoItem x) fits closes = let q : Running ≡ Closing = sym fits.holds.phase ∙ closes in absurd (grind arith)
  closing_wrote (Own x) fits closes = let q : Running ≡ Closing = sym fits.holds.phase ∙ closes in absurd (grind arith)
  closing_wrote (Closes closer) fits closes = fits.closes.wrote
  closing_wrote (Refused x) fits closes = absurd (saw_on fits.off)

  -- so one that stands behind its run did
  stood_wrote : IsWorker c v → (phase : Phase) → v.phase ≡ phase → stands phase ≡ true → 0 < v.ran → v.wrote ≡ true
  stood_wrote worker Standing is stand ran = worker.told.stood is ran
  stood_wrote worker Running is stand ran = let q : false ≡ true = stand in absurd (grind arith)
  stood_wrote worker Closing is stand ran = closing_wrote c.hand worker.hand is

-- a whole quota is no more than that
whole_quota : (c : WorkerState) (v : View) → IsWorker c v → v.beginning.settings.every ≤ v.quota → v.quota ≡ v.beginning.settings.every
whole_quota c v worker whole =
    let same : c.settings.every ≡ v.beginning.settings.every = ap (λ (s : Settings). s.every) worker.fits.settings in
    let most = worker.within.quota in
    let ahead = worker.fits.quota in
    omega (arith, whole, same, most, ahead)

-- a room that is no thread's is ready
none_s_end : (s : Settings) (r : ℕ) (x : Room) → IsKindOf s r x → super_room (sizes_of s) ≤ r → end_of x ≡ Ready
none_s_end s r (Map x) kind past = refl
none_s_end s r (Queue x) kind past = refl
none_s_end s r (Thread x) kind past = absurd (omega (arith, kind.1, past))
none_s_end s r (Super x) kind past = refl

-- EACH THREAD has a worker and a view.
worker_there : (s : ReplayState) (i : ℕ) → i < length s.workers → (c : WorkerState) × (slice_get s.workers i ≡ Some c)
worker_there s i lt = elim (slice_get_cases s.workers i).1 [
  | inl found ↦ (found.0, found.2)
  | inr past ↦ absurd (omega (arith, lt, past.0))
]

module _ (s : ReplayState) (replay : IsReplay s) (right : GoesOnRight s) where
  view_is : (i : ℕ) (v : View) → ViewIs s.yard.told.world i v → view_at s.yard i ≡ v
  view_is i v at = read_at s.yard.told.world.views i v (opening_view s.yard.beginning i) at

  worker_at : (i : ℕ) (v : View) → ViewIs s.yard.told.world i v → (c : WorkerState) × (slice_get s.workers i ≡ Some c)
  worker_at i v at =
      let inside = at_inside s.yard.told.world.views i v at in
      let number = replay.number in
      worker_there s i (omega (arith, inside, number))

  is_worker : (i : ℕ) (v : View) (c : WorkerState) → ViewIs s.yard.told.world i v → slice_get s.workers i ≡ Some c → IsWorker c v
  is_worker i v c at there = subst (IsWorker c) (view_is i v at) (replay.workers i c there)

  is_on : (i : ℕ) (v : View) → ViewIs s.yard.told.world i v → v.saw_off ≡ false
  is_on i v at =
      let inside = at_inside s.yard.told.world.views i v at in
      let number = replay.number in
      ap (λ (u : View). u.saw_off) (sym (view_is i v at)) ∙ right.on i (omega (arith, inside, number))

  about : (i : ℕ) (v : View) → ViewIs s.yard.told.world i v
      → IsAbout v.phase v.grip v.closed.rooms (next_command (opening_of s.yard.beginning) s.yard.told.history i) (activities_of s i)
  about i v at =
      let w = worker_at i v at in
      let next = known_next s.yard.beginning s.yard.told.world s.yard.told.history s.yard.told.checkpoints i v replay.lawful at in
      subst (λ (p : Option WorkerState × View). IsAbout v.phase v.grip v.closed.rooms (next_command (opening_of s.yard.beginning) s.yard.told.history i) (activity_in p.0 p.1.phase))
      (λ k. (sym w.1 k, sym (view_is i v at) k))
      (about_hand w.0 v (is_on i v at) (next_command (opening_of s.yard.beginning) s.yard.told.history i) next w.0.hand (is_worker i v w.0 at w.1).hand)

  told : (i : ℕ) (x : Room) → Home s.yard.told.world (thread_room (sizes_at s.yard.beginning) i) x → ends_of s i ≡ end_of x
  told i x home = elim (slice_get_cases s.workers i).1 [
    | inl found ↦ ap end_told found.2 ∙ right.told i found.0 x found.2 home
    | inr past ↦
        let number = replay.number in
        let views = replay.lawful.sized.views in
        ap end_told past.1 ∙ sym (none_s_end s.yard.beginning.settings (thread_room (sizes_at s.yard.beginning) i) x
        (replay.lawful.sized.kinds (thread_room (sizes_at s.yard.beginning) i) x home).kind (omega (arith, past.0, number, views)))
  ]

  waits : (i : ℕ) (v : View) → ViewIs s.yard.told.world i v → v.wrote ≡ true → s.yard.beginning.settings.every ≤ v.quota → ends_of s i ≢ Ready
  waits i v at wrote whole ready =
      let w = worker_at i v at in
      let worker = is_worker i v w.0 at w.1 in
      let same : v.beginning.settings.every ≡ s.yard.beginning.settings.every = ap (λ (b : Beginning). b.settings.every) (replay.lawful.sized.beginnings i v at) in
      worker.told.waits wrote (whole_quota w.0 v worker (omega (arith, same, whole))) (sym (ap end_told w.1) ∙ ready)

  wrote : (i : ℕ) (v : View) → ViewIs s.yard.told.world i v → stands v.phase ≡ true → v.ran ≡ epoch_now s.yard.beginning s.yard.told.checkpoints → v.wrote ≡ true
  wrote i v at stand ran =
      let w = worker_at i v at in
      let early = replay.lawful.bounds.beginning.epoch in
      stood_wrote w.0 v (is_on i v at) (is_worker i v w.0 at w.1) v.phase refl stand (omega (arith, ran, early))

pub hands_shown : HandsShownLaw
hands_shown s replay right = record {
  about = about s replay right;
  told = told s replay right;
  few_write_backs = right.few;
  goes_on = right.goes_on;
  waits = waits s replay right;
  wrote = wrote s replay right;
}

-- In a state that is told each call has an answer. The law of its step keeps the state lawful.
use Rattle.std.proofs.lemmas.Bool.Decides.{leb_tells}
use Rattle.std.proofs.Common.{leb, ⊎_elim, ◌≡◌, ℕ, zero, suc, ◌+◌, ◌^◌, ◌<◌, ◌≤◌, inl, nat_lt, nat_le, not, Bool, true, false, List, [], ◌∷◌, ◌++◌, Option, Some, None, set, refl, sym, ap, subst, ◌∙◌, arith}
use mathlib.Core.Option.{some}
use lib.ListN.{get_elem?}
use Rattle.restart_point.specs.ArrivalWord.{arrival_of}
use Rattle.rooms.specs.declared.room.Room.{Room}
use Rattle.yard_model.specs.declared.view.Phase.TheVariants.{Standing, Closing}
use Rattle.yard_model.specs.declared.view.View.{View}
use Rattle.yard_model.specs.declared.view.Grip.{Grip}
use Rattle.yard_model.specs.declared.view.Checkpoint.{Checkpoint}
use Rattle.yard_model.specs.World.{YardState, ViewIs, Home, tick_word, clock, arrival, lock_of, is_called_off, Shows}
use Rattle.yard_model.specs.Lawful.{Lawful}
use Rattle.yard_model.specs.Views.{gripped, freed, retreated, left_in, stood, drew, claimed, entries_noted, released, looked, saw_power, ticked, turned_off}
use Rattle.yard_model.specs.Conditions.{IsGiven, MayLeave, MayClaim, MayRelease}
use Rattle.yard_model.specs.Steps.{with_view, covered_in, at_lock, at_unlock, at_retreat, at_leave, at_stand, at_claim, at_release, at_draw, at_tick, at_off, checkpoint_at}
use Rattle.yard_laws.proofs.Lists.{set_here, at_inside}
use Rattle.yard_laws.proofs.Views.{total_part}
use Rattle.yard_laws.proofs.Looks.{look_keeps, power_keeps, tick_keeps, off_keeps}
use Rattle.yard_laws.proofs.Stand.{stand_keeps}
use Rattle.yard_laws.proofs.Leave.{leave_keeps}
use Rattle.yard_laws.proofs.Claim.{claim_keeps}
use Rattle.yard_laws.proofs.Note.{note_keeps}
use Rattle.yard_laws.proofs.Lock.{lock_keeps}
use Rattle.yard_laws.proofs.Given.{lock_gives}
use Rattle.yard_laws.proofs.Free.{closer_finds_free}
use Rattle.yard_laws.proofs.Unlock.{unlock_keeps}
use Rattle.yard_laws.proofs.Retreat.{retreat_keeps}
use Rattle.yard_laws.proofs.Draw.{draw_keeps}
use Rattle.yard_laws.proofs.Epochs.{epoch_fits}
use Rattle.yard_laws.proofs.Release.{release_keeps}
use Rattle.room_yard.specs.Told.{Told, IsTold, in_world, with_entry, with_checkpoint}
use Rattle.room_yard.proofs.Words.{next_word_shows}
use Rattle.room_yard.specs.Answers.{next_word}
use Rattle.yard_model.specs.Beginnings.{first_epoch, epoch_now}
use Rattle.room_yard.specs.Laws.{LeaveAnswersLaw, LeaveRestAnswersLaw, ClaimAnswersLaw, ClaimRestAnswersLaw, LockAnswersLaw, HeldAnswersLaw, UnlockAnswersLaw, RetreatAnswersLaw, DrawAnswersLaw, StandAnswersLaw, RefusalAnswersLaw, ReleaseAnswersLaw, PowerAnswersLaw, TickAnswersLaw, OffAnswersLaw}

-- the view that was set is there
here : (w : YardState) (i : ℕ) (v u : View) → ViewIs w i v → get_elem? (set w.views i u) i ≡ some u
here w i v u at = set_here w.views i u (at_inside w.views i v at)

-- what is set twice is what was set last
set_twice : (l : List View) (i : ℕ) (a c : View) → set (set l i a) i c ≡ set l i c
set_twice [] i a c = refl
set_twice (x ∷ xs) zero a c = refl
set_twice (x ∷ xs) (suc i) a c = ap (λ (l : List View). x ∷ l) (set_twice xs i a c)

module _ (a : Told) (v : View) (l : Lawful v.beginning a.world a.history a.checkpoints) (at : ViewIs a.world v.thread v) where
  -- a step behind another step of the view alone
  behind : (words : List ℕ) (cs : List Checkpoint) (u w : View) → Lawful v.beginning (record { words = words; rooms = a.world.rooms; views = set (set a.world.views v.thread u) v.thread w }) a.history cs
      → Lawful v.beginning (record { words = words; rooms = a.world.rooms; views = set a.world.views v.thread w }) a.history cs
  behind words cs u w is = subst (λ (vs : List View). Lawful v.beginning (record { words = words; rooms = a.world.rooms; views = vs }) a.history cs) (set_twice a.world.views v.thread u w) is

pub off_answers : OffAnswersLaw
off_answers a v told = (turned_off v, in_world a (at_off a.world v.thread (turned_off v)), (off_keeps v.beginning a.world a.history a.checkpoints v.thread v told.0 told.1, here a.world v.thread v (turned_off v) told.1), record { view = refl; world = refl })

pub tick_answers : TickAnswersLaw
tick_answers a v told may = (ticked v, in_world a (at_tick a.world v.thread (ticked v)), (tick_keeps v.beginning a.world a.history a.checkpoints v.thread v told.0 told.1 may, here a.world v.thread v (ticked v) told.1), record { view = refl; world = refl })

pub stand_answers : StandAnswersLaw
stand_answers a v told may free = (
  stood v,
  in_world a (at_stand a.world v.thread (stood v)),
  (stand_keeps v.beginning a.world a.history a.checkpoints v.thread v told.0 told.1 (may.free free), here a.world v.thread v (stood v) told.1),
  record { allowed = may.free free; view = refl; world = refl },
)

pub refusal_answers : RefusalAnswersLaw
refusal_answers a v g told held = (v, a, told, record { holds = (g, held, refl); view = refl; world = refl })

-- LEAVE and CLAIM. A look comes first.
module _ (a : Told) (v : View) (told : IsTold (Some a) v) where
  abbrev met : View
  met = looked v 2 (arrival a.world)

  met_keeps : Lawful v.beginning (with_view a.world v.thread met) a.history a.checkpoints
  met_keeps = look_keeps v.beginning a.world a.history a.checkpoints v.thread v 2 (arrival a.world) told.0 told.1

  met_here : ViewIs (with_view a.world v.thread met) v.thread met
  met_here = here a.world v.thread v met told.1

pub leave_rest_answers : LeaveRestAnswersLaw
leave_rest_answers a v end told forbidden = (
  met a v told,
  in_world a (with_view a.world v.thread (met a v told)),
  (met_keeps a v told, met_here a v told),
  record { cause = inl (record { forbidden = forbidden; same = refl; view = refl }); world = (refl, refl, refl) },
)

pub claim_rest_answers : ClaimRestAnswersLaw
claim_rest_answers a v told forbidden = (
  met a v told,
  in_world a (with_view a.world v.thread (met a v told)),
  (met_keeps a v told, met_here a v told),
  record { cause = inl (record { forbidden = forbidden; same = refl; view = refl }); world = (refl, refl, refl) },
)

pub leave_answers : LeaveAnswersLaw
leave_answers a v end told may = (w, in_world a (at_leave a.world v.thread w), (lawful, here a.world v.thread v w told.1), record { found = arrival a.world; allowed = may; shown = refl; within = within; view = refl; world = (refl, refl) })
  where
    w : View
    w = left_in (met a v told) (arrival_of (arrival a.world)).epoch

    within : first_epoch v.beginning ≤ (arrival_of (arrival a.world)).epoch
    within = let now = told.0.arrival.word.epoch in omega (arith, now)

    may_here : MayLeave (met a v told) end (arrival a.world)
    may_here = record { on = may.on; phase = may.phase; not_ended = may.not_ended; next = may.next; not_closing = may.not_closing; not_over = may.not_over; later = may.later; allowed = may.allowed }

    lawful : Lawful v.beginning (at_leave a.world v.thread w) a.history a.checkpoints
    lawful = behind a v told.0 told.1 (at_leave a.world v.thread w).words a.checkpoints (met a v told) w
        (leave_keeps v.beginning (with_view a.world v.thread (met a v told)) a.history a.checkpoints v.thread (met a v told) end (met_keeps a v told) (met_here a v told) may_here)

pub claim_answers : ClaimAnswersLaw
claim_answers a v told may = (w, in_world a (at_claim a.world v.thread w), (lawful, here a.world v.thread v w told.1), record { found = arrival a.world; allowed = may; ran = some; within = within; once = once; view = refl; world = (refl, refl) })
  where
    w : View
    w = claimed (met a v told)

    -- the word shows the epoch, in which the thread last ran
    ran_now : v.ran ≡ epoch_now v.beginning a.checkpoints
    ran_now = sym may.epoch ∙ told.0.arrival.word.epoch

    within : first_epoch v.beginning ≤ v.ran
    within = let now = ran_now in omega (arith, now)

    some : 0 < v.ran
    some = let now = ran_now in let one = told.0.bounds.beginning.epoch in omega (arith, now, one)

    once : v.last_checkpoint ≤ v.ran
    once = let now = ran_now in let last = told.0.epochs.last v.thread v told.1 in omega (arith, now, last)

    may_here : MayClaim (met a v told) (arrival a.world)
    may_here = record { on = may.on; phase = may.phase; few_checkpoints = may.few_checkpoints; all_stand = may.all_stand; not_closing = may.not_closing; not_over = may.not_over; epoch = may.epoch }

    lawful : Lawful v.beginning (at_claim a.world v.thread w) a.history a.checkpoints
    lawful = behind a v told.0 told.1 (at_claim a.world v.thread w).words a.checkpoints (met a v told) w
        (claim_keeps v.beginning (with_view a.world v.thread (met a v told)) a.history a.checkpoints v.thread (met a v told) (met_keeps a v told) (met_here a v told) may_here)

-- ROOMS.
pub lock_answers : LockAnswersLaw
lock_answers a v r told may free = (
  x,
  (
    w,
    in_world a (at_lock a.world v.thread r w),
    (lock_keeps v.beginning a.world a.history a.checkpoints v.thread v r x told.0 told.1 may free there.1, here a.world v.thread v w told.1),
    record { covered = covered; given = gives; early = early; view = refl; world = (free, there.1, refl, refl) },
  ),
)
  where
    there : (x : Room) × Home a.world r x
    there = told.0.locks.free r may.within (inl free)

    gives : IsGiven v r there.0 (covered_in v.beginning a.history a.checkpoints r)
    gives = lock_gives v.beginning a.world a.history a.checkpoints v.thread v r there.0 told.0 told.1 may free there.1

    early : v.ran + 1 < 2 ^ 32
    early = let now = epoch_fits v.beginning a.world a.history a.checkpoints told.0 in let ran = (told.0.epochs.views v.thread v told.1).no_later in omega (arith, now, ran)

    x : Room
    x = there.0

    covered : ℕ
    covered = covered_in v.beginning a.history a.checkpoints r

    w : View
    w = gripped v r x covered

pub held_answers : HeldAnswersLaw
held_answers a v r told may taken = (
  w,
  in_world a (with_view a.world v.thread w),
  (look_keeps v.beginning a.world a.history a.checkpoints v.thread v (3 + r) (lock_of a.world r) told.0 told.1, here a.world v.thread v w told.1),
  record { taken = taken; not_closing = λ c. taken (closer_finds_free v.beginning a.world a.history a.checkpoints v.thread v r told.0 told.1 may c); view = refl; world = (refl, refl) },
)
  where
    w : View
    w = looked v (3 + r) (lock_of a.world r)

-- one view holds one room
abbrev grip_or : Grip → Option Grip → Grip
grip_or g None = g
grip_or g (Some k) = k

one_grip : (v : View) (g k : Grip) → v.grip ≡ Some g → v.grip ≡ Some k → g ≡ k
one_grip v g k e f = ap (grip_or g) (sym e ∙ f)

pub unlock_answers : UnlockAnswersLaw
unlock_answers a v r x told may = (
  w,
  in_world a (at_unlock a.world v.thread r x w),
  (lawful, here a.world v.thread v w told.1),
  record { view = λ k e. ap (λ (g : Grip). freed v g x) (one_grip v may.0 k may.2.held e); world = refl },
)
  where
    w : View
    w = freed v may.0 x

    lawful : Lawful v.beginning (at_unlock a.world v.thread r x w) a.history a.checkpoints
    lawful = subst (λ (q : ℕ). Lawful v.beginning (at_unlock a.world v.thread q x w) a.history a.checkpoints) may.1
        (unlock_keeps v.beginning a.world a.history a.checkpoints v.thread v may.0 x told.0 told.1 may.2)

pub retreat_answers : RetreatAnswersLaw
retreat_answers a v r x told may = (
  w,
  in_world a (at_retreat a.world v.thread r x w),
  (lawful, here a.world v.thread v w told.1),
  record { view = λ k e. ap (retreated v) (one_grip v may.0 k may.2.held e); world = refl },
)
  where
    w : View
    w = retreated v may.0

    lawful : Lawful v.beginning (at_retreat a.world v.thread r x w) a.history a.checkpoints
    lawful = subst (λ (q : ℕ). Lawful v.beginning (at_retreat a.world v.thread q x w) a.history a.checkpoints) may.1
        (retreat_keeps v.beginning a.world a.history a.checkpoints v.thread v may.0 x told.0 told.1 may.2)

-- ENTRIES and CHECKPOINTS.
pub draw_answers : DrawAnswersLaw
draw_answers a v e told may = (
  w,
  with_entry a (at_draw a.world v.thread w) e,
  (draw_keeps v.beginning a.world a.history a.checkpoints v.thread v may.0 e told.0 told.1 may.1, here a.world v.thread v w told.1),
  record { view = λ k is. ap (λ (g : Grip). drew v g (clock a.world) e) (one_grip v may.0 k may.1.held is); world = (refl, refl) },
)
  where
    w : View
    w = drew v may.0 (clock a.world) e

pub release_answers : ReleaseAnswersLaw
release_answers a v over fed told may = (
  w,
  with_checkpoint a (at_release a.world word v.thread w) (checkpoint_at (clock a.world) over),
  (lawful, here a.world v.thread v w told.1),
  record { epoch = refl; view = refl; world = (refl, refl) },
)
  where
    word : ℕ
    word = next_word v.beginning.settings.threads over fed (v.ran + 1)

    runs : v.ran ≡ epoch_now v.beginning a.checkpoints
    runs = (told.0.epochs.views v.thread v told.1).runs (λ (e : v.phase ≡ Standing). let f : Standing ≡ Closing = sym e ∙ may.note.phase in absurd (cc))

    shows : Shows word (λ (i : ℕ). nat_lt i v.beginning.settings.threads) false over fed (v.ran + 1)
    shows = let early = epoch_fits v.beginning a.world a.history a.checkpoints told.0 in next_word_shows v.beginning.settings.threads over fed (v.ran + 1) told.0.bounds.beginning.settings.sizes.few_threads (omega (arith, early, runs))

    w : View
    w = released v

    u : View
    u = entries_noted v (clock a.world)

    may_here : MayRelease u over fed (clock a.world)
    may_here = record { on = may.note.on; phase = may.note.phase; nothing_held = may.note.nothing_held; all_done = may.note.all_done; noted = refl; learnt_fed = may.learnt_fed; is_over = may.is_over }

    lawful : Lawful v.beginning (at_release a.world word v.thread w) a.history (a.checkpoints ++ checkpoint_at (clock a.world) over ∷ [])
    lawful = behind a v told.0 told.1 (at_release a.world word v.thread w).words (a.checkpoints ++ checkpoint_at (clock a.world) over ∷ []) u w
        (release_keeps v.beginning (with_view a.world v.thread u) a.history a.checkpoints v.thread u over fed (clock a.world) word
        (note_keeps v.beginning a.world a.history a.checkpoints v.thread v told.0 told.1 may.note) (here a.world v.thread v u told.1) may_here shows)

-- POWER.
pub power_answers : PowerAnswersLaw
power_answers a v told = (
  w,
  in_world a (with_view a.world v.thread w),
  (power_keeps v.beginning a.world a.history a.checkpoints v.thread v told.0 told.1, here a.world v.thread v w told.1),
  record { found = tick_word a.world; is = refl; view = refl; stays_off = stays; few_ticks = few; world = (refl, refl) },
)
  where
    w : View
    w = saw_power v (tick_word a.world)

    stays : v.saw_off ≡ true → not (nat_le v.beginning.limit (tick_word a.world)) ≡ false
    stays off = let f = (told.0.locks.views v.thread v told.1).off off in ⊎_elim
        (λ (t : (leb v.beginning.limit (tick_word a.world) ≡ true) × (v.beginning.limit ≤ tick_word a.world)). ap not t.0)
        (λ (t : (leb v.beginning.limit (tick_word a.world) ≡ false) × (tick_word a.world < v.beginning.limit)). let g = t.1 in absurd (omega (arith, f, g)))
        (leb_tells v.beginning.limit (tick_word a.world))

    below : tick_word a.world < v.beginning.limit → (called : Bool) → is_called_off a.world.views ≡ called → v.ticks < v.beginning.limit
    below lt false e = let f = told.0.bounds.ticks e in let p = total_part (λ (c : View). c.ticks) a.world.views v.thread v told.1 in omega (arith, f, lt, p)
    below lt true e = let f = (told.0.bounds.off e).0 in let m = told.0.bounds.beginning.limit in absurd (omega (arith, f, lt, m))

    few : not (nat_le v.beginning.limit (tick_word a.world)) ≡ true → v.ticks < v.beginning.limit
    few on = ⊎_elim
        (λ (t : (leb v.beginning.limit (tick_word a.world) ≡ true) × (v.beginning.limit ≤ tick_word a.world)). let f : false ≡ true = sym (ap not t.0) ∙ on in absurd (cc))
        (λ (t : (leb v.beginning.limit (tick_word a.world) ≡ false) × (tick_word a.world < v.beginning.limit)). below t.1 (is_called_off a.world.views) refl)
        (leb_tells v.beginning.limit (tick_word a.world))

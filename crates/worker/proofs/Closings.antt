-- A thread that closes: each step of its closer keeps the worker.
use Rattle.std.proofs.Common.{◌≡◌, ℕ, ◌+◌, ◌*◌, ◌<◌, ◌≤◌, ◌&&◌, ◌||◌, ◌==◌, Bool, true, false, Option, Some, None, refl, ap, sym, ◌∙◌, subst, arith}
use Rattle.std.specs.Prelude.{nat_lt}
use Rattle.std.proofs.lemmas.Bool.{lt-leb}
use Rattle.std.proofs.lemmas.List.{length_push}
use Rattle.seq_object.specs.declared.settings.Settings.{Settings}
use Rattle.seq_object.specs.Sizes.{sizes_of, thread_room, room_count, line_count}
use Rattle.seq_object.specs.History.{total}
use Rattle.life_model.specs.declared.life.Mark.{Mark}
use Rattle.life_model.specs.Work.{closing_events}
use Rattle.block_allow.specs.declared.judgement.Verdict.{Verdict}
use Rattle.line_memory.specs.Line.{BankState}
use Rattle.epoch_word.specs.declared.stage.EpochStage.{EpochStage}
use Rattle.epoch_word.specs.declared.stage.EpochStage.TheVariants.{Before, Stored, AskedFor, InMemory}
use Rattle.rooms.specs.declared.room.Room.{Room}
use Rattle.rooms.specs.declared.room.Room.TheVariants.{Super}
use Rattle.yard_model.specs.declared.view.Phase.{Phase}
use Rattle.yard_model.specs.declared.view.Phase.TheVariants.{Standing, Running, Closing}
use Rattle.yard_model.specs.declared.view.Closed.{Closed}
use Rattle.yard_model.specs.declared.view.Grip.{Grip}
use Rattle.yard_model.specs.declared.view.View.{View}
use Rattle.yard_model.specs.Views.{grip_on, freed, wrote_after, found_after, closed_after, learnt_from, released}
use Rattle.room_yard.specs.Told.{Told}
use Rattle.room_yard.specs.Answers.{Locked, Unlocked}
use Rattle.room_in_hand.specs.InHand.{shut, writing_epoch}
use Rattle.coordinator.specs.declared.hand.Hand.{Hand as ClosingHand}
use Rattle.coordinator.specs.declared.hand.Hand.TheVariants.{Empty as NoneInHand, Flushing, Flushed, Shut, Epoch, AllDone, Over as ClosingOver}
use Rattle.coordinator.specs.declared.closer.CloseStep.TheVariants.{Released}
use Rattle.coordinator.specs.Closers.{CloserState, Closes as ClosesFor, IsCloser, HandIs, Holds, HasAllDone, most_on, least_on, most_in_hand, least_in_hand, most_events, least_events}
use Rattle.coordinator.specs.Steps.{DoesRow, DoesEpoch, DoesNext, Releases}
use Rattle.coordinator.proofs.Totals.{most_all, least_all}
use Rattle.worker_model.specs.declared.hand.Hand.TheVariants.{Closes}
use Rattle.worker_model.specs.Counts.{when, may_claim}
use Rattle.worker_model.specs.Workers.{WorkerState, IsWorker}
use Rattle.worker_model.specs.Turns.{with_hand, did, closed_by}
use Rattle.worker.specs.Rows.{MayTakeRow}

-- WHAT A STEP LEAVES OF THE VIEW. All but what is held and what is done.
pub record IsSameButHand (v w : View) : Type 0 where
  pub grip : Option Grip
  pub closed : Closed
  pub is : w ≡ record v { grip = grip; closed = closed }

module _ (c d : CloserState) (v w : View) (t u : Option Told) (was : ClosesFor c v) where
  wrote_stays : (g : Grip) → wrote_after v g ≡ v.wrote
  wrote_stays g = ap (λ (b : Bool). b || (g.room == thread_room (sizes_of v.beginning.settings) v.thread)) was.wrote ∙ sym was.wrote

  same : w ≡ v → IsSameButHand v w
  same is = record { grip = v.grip; closed = v.closed; is = is }

  took : (r : ℕ) (x : Room) → Locked v t r x w u → IsSameButHand v w
  took r x locked = record { grip = Some (grip_on v r x locked.covered); closed = v.closed; is = locked.view }

  went_home : (r : ℕ) (x : Room) (g : Grip) → v.grip ≡ Some g → Unlocked v t r x w u → IsSameButHand v w
  went_home r x g held home =
      let wrote : wrote_after v g ≡ v.wrote = wrote_stays g in
      let found : found_after v.phase v g x ≡ v.found_empty = ap (λ (p : Phase). found_after p v g x) was.phase in
      let done : closed_after v.phase v g x ≡ learnt_from v g x = ap (λ (p : Phase). closed_after p v g x) was.phase in
      let all : freed v g x ≡ record v { grip = None; closed = learnt_from v g x } = λ j. record v { grip = None; wrote = wrote j; found_empty = found j; closed = done j } in
      record { grip = None; closed = learnt_from v g x; is = home.view g held ∙ all }

  in_hand : (hand : ClosingHand) → c.hand ≡ hand → HandIs c.settings c.learnt hand v
  in_hand hand is = subst (λ (h : ClosingHand). HandIs c.settings c.learnt h v) is was.hand

  by_stage : (stage : EpochStage) (x : BankState) → c.hand ≡ Epoch stage x → DoesEpoch stage x c v t d w u → IsSameButHand v w
  by_stage Before x is does = same does.1
  by_stage Stored x is does = same does.1
  by_stage AskedFor x is does = same does.1
  by_stage InMemory x is does =
      let holds : Holds (writing_epoch InMemory) v (Super x) = in_hand (Epoch InMemory x) is in
      went_home c.learnt.rooms (Super x) holds.grip holds.held does.unlocked

  by_row : (hand : ClosingHand) → c.hand ≡ hand → DoesRow hand c v t d w u → IsSameButHand v w
  by_row NoneInHand is does = took c.learnt.rooms does.room does.locked
  by_row (Flushing x) is does = same does.alone.1
  by_row (Flushed x) is does = same does.1
  by_row (Shut x) is does =
      let holds : Holds shut v x = in_hand (Shut x) is in
      went_home c.learnt.rooms x holds.grip holds.held does.unlocked
  by_row (Epoch stage x) is does = by_stage stage x is does
  by_row AllDone is does = absurd does
  by_row ClosingOver is does = absurd does

  pub step_leaves : DoesNext c v t d w u → IsSameButHand v w
  step_leaves does = by_row c.hand refl does.row

-- one more of each
once_more : (n a : ℕ) → n * (a + 1) ≡ n * a + n
once_more n a = omega arith

-- THE WORKER BEHIND A STEP.
module _ (c : WorkerState) (closer : CloserState) (v : View) (t : Option Told) (may : MayTakeRow c (Closes closer) v t) where
  was : IsWorker (with_hand c (Closes closer)) v
  was = may.worker

  closes : ClosesFor closer v
  closes = was.hand.closes

  pub is_closer : IsCloser closer v
  is_closer = record { on = may.on; closes = closes }

  pub some_spare : 0 < c.spare
  some_spare = was.hand.spare

  keeps : (d : CloserState) (grip : Option Grip) (closed : Closed) → IsCloser d (record v { grip = grip; closed = closed })
      → least_events v.thread d ≤ least_events v.thread closer + 1 → most_events closer + 1 ≤ most_events d
      → IsWorker (did c (Closes d)) (record v { grip = grip; closed = closed })
  keeps d grip closed is least most =
      let l = was.least in
      let m = was.most in
      record {
        fits = record {
          thread = was.fits.thread;
          settings = was.fits.settings;
          script = was.fits.script;
          place = was.fits.place;
          quota = was.fits.quota;
          epoch = was.fits.epoch;
          wrote = was.fits.wrote;
          found_empty = was.fits.found_empty;
          marks = was.fits.marks;
        };
        within = record { valid = was.within.valid; thread = was.within.thread; short = was.within.short; position = was.within.position; quota = was.within.quota };
        hand = record { closes = is.closes; spare = some_spare };
        told = record { standing = was.told.standing; written = was.told.written; waits = was.told.waits; stood = was.told.stood; found = was.told.found };
        run = record { first = was.run.first; last = was.run.last; running = was.run.running; given = was.run.given };
        least = omega (arith, l, least);
        most = omega (arith, m, most);
      }

  pub went : (d : CloserState) (w : View) (u : Option Told) (e : WorkerState) → e ≡ did c (Closes d) → DoesNext closer v t d w u
      → least_events v.thread d ≤ least_events v.thread closer + 1 → most_events closer + 1 ≤ most_events d
      → IsWorker e w
  went d w u e is does least most =
      let same = step_leaves closer d v w t u closes does in
      subst (λ (x : WorkerState). IsWorker x w) (sym is) (subst (λ (x : View). IsWorker (did c (Closes d)) x) (sym same.is)
      (keeps d same.grip same.closed (subst (IsCloser d) same.is does.closer) least most))

  -- the release
  all_done : closer.hand ≡ AllDone → HasAllDone closer.settings closer.learnt v
  all_done is = subst (λ (h : ClosingHand). HandIs closer.settings closer.learnt h v) is closes.hand

  same_settings : closer.settings ≡ c.settings
  same_settings = closes.settings ∙ sym was.fits.settings

  thread_within : v.thread < (sizes_of c.settings).threads
  thread_within = let h = was.within.thread in let e = was.fits.thread in omega (arith, h, e)

  least_total : closer.hand ≡ AllDone → least_events v.thread closer + 11 ≡ 2 * room_count (sizes_of c.settings) + 16
  least_total is =
      let law = least_all (sizes_of c.settings) v.thread thread_within in
      let own : ℕ → ℕ = least_on (sizes_of c.settings) (thread_room (sizes_of c.settings) v.thread) in
      let hand = ap (least_in_hand (closer.learnt.rooms == thread_room (sizes_of closer.settings) v.thread)) is in
      let settings = ap (λ (s : Settings). total (least_on (sizes_of s) (thread_room (sizes_of s) v.thread)) closer.learnt.rooms) same_settings in
      let all = ap (total own) ((all_done is).all ∙ ap (λ (s : Settings). room_count (sizes_of s)) same_settings) in
      omega (arith, law, hand, settings, all)

  most_total : closer.hand ≡ AllDone → most_events closer + 2 ≡ closing_events (sizes_of c.settings)
  most_total is =
      let law = most_all (sizes_of c.settings) in
      let hand = ap (most_in_hand (line_count (sizes_of closer.settings) closer.learnt.rooms)) is in
      let settings = ap (λ (s : Settings). total (most_on (sizes_of s)) closer.learnt.rooms) same_settings in
      let all = ap (total (most_on (sizes_of c.settings))) ((all_done is).all ∙ ap (λ (s : Settings). room_count (sizes_of s)) same_settings) in
      omega (arith, law, hand, settings, all)

  none_claims : when 9 (may_claim (released v)) ≡ 0
  none_claims = ap (λ (b : Bool). when 9 (nat_lt 0 v.ran && b)) (lt-leb (v.ran + 1) v.ran (omega arith)) ∙ by (nat_lt 0 v.ran)
    where
      by : (b : Bool) → when 9 (b && false) ≡ 0
      by true = refl
      by false = refl

  stands_again : (mark : Mark) (verdict : Verdict) (d : CloserState) → closer.hand ≡ AllDone → IsWorker (closed_by (Released mark verdict) c d) (released v)
  stands_again mark verdict d is =
      let l = was.least in
      let m = was.most in
      let k = none_claims in
      let lt = least_total is in
      let mt = most_total is in
      let lo = once_more (2 * room_count (sizes_of c.settings) + 16) v.checkpoints in
      let mo = once_more (closing_events (sizes_of c.settings)) v.checkpoints in
      let n = was.fits.marks in
      let p = length_push c.marks mark in
      record {
        fits = record {
          thread = was.fits.thread;
          settings = was.fits.settings;
          script = was.fits.script;
          place = was.fits.place;
          quota = was.fits.quota;
          epoch = was.fits.epoch;
          wrote = was.fits.wrote;
          found_empty = was.fits.found_empty;
          marks = omega (arith, n, p);
        };
        within = record { valid = was.within.valid; thread = was.within.thread; short = was.within.short; position = was.within.position; quota = was.within.quota };
        hand = record { none = (all_done is).none; closing = λ e. absurd (let x : Standing ≡ Closing = e in cc) };
        told = record {
          standing = λ _. was.told.standing (λ e. let x : Closing ≡ Running = sym closes.phase ∙ e in cc);
          written = was.told.written;
          waits = was.told.waits;
          stood = λ _ _. closes.wrote;
          found = was.told.found;
        };
        run = record {
          first = was.run.first;
          last = omega arith;
          running = λ e. absurd (e refl);
          given = was.run.given;
        };
        least = omega (arith, l, k, lt, lo);
        most = omega (arith, m, mt, mo);
      }

  pub closed_worker : (d : CloserState) (w : View) (u : Option Told) (mark : Mark) (verdict : Verdict) (e : WorkerState) → e ≡ closed_by (Released mark verdict) c d → Releases closer v t mark verdict d w u
      → IsWorker e w
  closed_worker d w u mark verdict e is ends = subst (λ (x : WorkerState). IsWorker x w) (sym is)
      (subst (λ (x : View). IsWorker (closed_by (Released mark verdict) c d) x) (sym ends.ended.view) (stands_again mark verdict d ends.all_done))

-- A turn in the progress that a replay shows: of its thread by its worker, and of no other thread.
use Rattle.std.proofs.Common.{◌≡◌, ◌≢◌, ℕ, ◌-◌, List, length, Option, Some, sym, ap, ◌∙◌, subst, arith}
use Rattle.std.specs.Prelude.{slice_get}
use mathlib.Core.Option.{some}
use mathlib.Core.Logic.{dite}
use native.Mathlib.Decide.{ℕ_discrete}
use lib.ListN.{get_elem?}
use Rattle.seq_object.specs.declared.command.Command.{Command}
use Rattle.life_model.specs.Life.{next_command}
use Rattle.yard_model.specs.declared.view.Phase.{Phase}
use Rattle.yard_model.specs.declared.view.View.{View}
use Rattle.yard_model.specs.Beginnings.{opening_of, sizes_at, epoch_now, covered_by, is_over, is_fed}
use Rattle.yard_laws.proofs.Lists.{set_else}
use Rattle.plain_yard.specs.Shown.{view_at}
use Rattle.worker_model.specs.Workers.{WorkerState, IsWorker, ahead}
use Rattle.replay_model.specs.Replays.{ReplayState}
use Rattle.replay_model.specs.Kept.{IsReplay}
use Rattle.rounds.specs.Progress.{ThreadProgress, SharedProgress}
use Rattle.rounds.specs.Events.{ThreadEvent, MayHappen, ThreadBehind, shared_behind, MakesEvent}
use Rattle.yard_progress.specs.Shown.{thread_told}
use Rattle.replay_progress.specs.Shown.{activity_of, activity_in, end_told, shown_by}
use Rattle.replay_progress.proofs.TurnRooms.{viewed, IsTurn, worker_here, worker_else, view_else}

-- the thread of a worker in this phase, with this command next
abbrev pub worker_shown : WorkerState → Phase → Option Command → ThreadProgress
worker_shown c phase next = record {
  activity = activity_of c.hand phase;
  ran = c.epoch;
  quota = c.quota - ahead c.hand;
  wrote = c.wrote;
  found_empty = c.found_empty;
  next = next;
  end = c.end;
}

abbrev pub next_in : ReplayState → ℕ → Option Command
next_in s i = next_command (opening_of s.yard.beginning) s.yard.told.history i

-- what all threads share of a replay, with so many write-backs
abbrev pub shared_of : ReplayState → ℕ → SharedProgress
shared_of s n = (shown_by s n).shared

pub shown_here : (s : ReplayState) (i : ℕ) (c : WorkerState) (n : ℕ) → IsReplay s → slice_get s.workers i ≡ Some c → (shown_by s n).threads i ≡ worker_shown c (view_at s.yard i).phase (next_in s i)
shown_here s i c n was at =
    (λ k. thread_told (viewed s was i c at k) (activity_in (at k) (view_at s.yard i).phase) (next_in s i) (end_told (at k)))
    ∙ fields (view_at s.yard i) (was.workers i c at)
  where
    fields : (v : View) → IsWorker c v → thread_told (some v) (activity_of c.hand v.phase) (next_in s i) c.end ≡ worker_shown c v.phase (next_in s i)
    fields v is =
        let quota : v.quota ≡ c.quota - ahead c.hand = let f = is.fits.quota in omega (arith, f) in
        λ k. record {
          activity = activity_of c.hand v.phase;
          ran = sym is.fits.epoch k;
          quota = quota k;
          wrote = sym is.fits.wrote k;
          found_empty = sym is.fits.found_empty k;
          next = next_in s i;
          end = c.end;
        }

module _ (i : ℕ) (s s' : ReplayState) (c d : WorkerState) (turn : IsTurn i s s' c d) (n n' : ℕ) where
  pub shown_else : (j : ℕ) → j ≢ i → next_in s' j ≡ next_in s j → (shown_by s' n').threads j ≡ (shown_by s n).threads j
  shown_else j ne next =
      let view = ap (λ (l : List View). get_elem? l j) turn.views ∙ set_else s.yard.told.world.views i j (view_at s'.yard i) ne in
      let worker = worker_else i s s' c d turn j ne in
      let phase = ap (λ (v : View). v.phase) (view_else i s s' c d turn j ne) in
      λ k. thread_told (view k) (activity_in (worker k) (phase k)) (next k) (end_told (worker k))

  abbrev IsBehind : ThreadEvent → Type 0
  IsBehind e = ThreadBehind e s.yard.beginning.settings.every (shared_of s n) (worker_shown c (view_at s.yard i).phase (next_in s i)) (worker_shown d (view_at s'.yard i).phase (next_in s' i))

  -- an event, by the workers
  pub makes_event : (e : ThreadEvent) → MayHappen (sizes_at s.yard.beginning) e (shared_of s n) (worker_shown c (view_at s.yard i).phase (next_in s i)) → IsBehind e
      → shared_of s' n' ≡ shared_behind e (shared_of s n) → ((j : ℕ) → j ≢ i → next_in s' j ≡ next_in s j)
      → MakesEvent (sizes_at s.yard.beginning) s.yard.beginning.settings.every i (shown_by s n) (shown_by s' n')
  makes_event e may behind shared next = record {
    event = e;
    may = subst (MayHappen (sizes_at s.yard.beginning) e (shared_of s n)) (sym (shown_here s i c n turn.before turn.is_worker)) may;
    behind = subst (λ (p : ThreadProgress × ThreadProgress). ThreadBehind e s.yard.beginning.settings.every (shared_of s n) p.0 p.1)
        (λ k. (sym (shown_here s i c n turn.before turn.is_worker) k, sym (shown_here s' i d n' turn.behind (worker_here i s s' c d turn)) k)) behind;
    shared = shared;
    others = λ j ne. shown_else j ne (next j ne);
  }

  module _ (history : s'.yard.told.history ≡ s.yard.told.history) (checkpoints : s'.yard.told.checkpoints ≡ s.yard.told.checkpoints) where
    pub next_same : (j : ℕ) → next_in s' j ≡ next_in s j
    next_same j = λ k. next_command (opening_of (turn.beginning k)) (history k) j

    pub shared_same : shared_of s' n' ≡ record (shared_of s n) { write_backs = n' }
    shared_same = λ k. record {
      epoch = epoch_now (turn.beginning k) (checkpoints k);
      fed = is_fed (turn.beginning k) (history k) (checkpoints k);
      over = is_over (turn.beginning k) (checkpoints k);
      closed = length (checkpoints k);
      covered = covered_by (checkpoints k);
      entries = length (history k);
      write_backs = n';
    }

    -- one that draws and releases nothing
    pub quiet_event : (e : ThreadEvent) → MayHappen (sizes_at s.yard.beginning) e (shared_of s n) (worker_shown c (view_at s.yard i).phase (next_in s i)) → IsBehind e
        → record (shared_of s n) { write_backs = n' } ≡ shared_behind e (shared_of s n)
        → MakesEvent (sizes_at s.yard.beginning) s.yard.beginning.settings.every i (shown_by s n) (shown_by s' n')
    quiet_event e may behind shared = makes_event e may behind (shared_same ∙ shared) (λ j ne. next_same j)

    -- a turn that leaves the worker's thread as it was leaves the progress
    pub rests_same : n' ≡ n → worker_shown d (view_at s'.yard i).phase (next_in s' i) ≡ worker_shown c (view_at s.yard i).phase (next_in s i) → shown_by s' n' ≡ shown_by s n
    rests_same count same = λ k. record {
      shared = (shared_same ∙ (λ j. record (shared_of s n) { write_backs = count j })) k;
      threads = λ j. each j k;
    }
      where
        each : (j : ℕ) → (shown_by s' n').threads j ≡ (shown_by s n).threads j
        each j = dite (ℕ_discrete j i)
            (λ e. subst (λ (k : ℕ). (shown_by s' n').threads k ≡ (shown_by s n).threads k) (sym e)
            (shown_here s' i d n' turn.behind (worker_here i s s' c d turn) ∙ (same ∙ sym (shown_here s i c n turn.before turn.is_worker))))
            (λ ne. shown_else j ne (next_same j))

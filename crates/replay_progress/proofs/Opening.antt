-- A replay that opens goes on right.
use Rattle.std.proofs.Common.{◌≡◌, ◌≢◌, ℕ, ◌-◌, ◌^◌, ◌<◌, List, length, Some, refl, sym, ap, ◌∙◌, arith}
use Rattle.std.specs.Prelude.{slice_get}
use Rattle.std.proofs.lemmas.Option.{none-some, slice_get_within}
use Rattle.seq_object.specs.Sizes.{thread_room, room_count}
use Rattle.seq_object.proofs.Totals.{total-same, total_none}
use Rattle.restart_point.specs.declared.thread_end.ThreadEnd.{ThreadEnd}
use Rattle.restart_point.specs.declared.thread_end.ThreadEnd.TheVariants.{Ready, Waits, Ended}
use Rattle.rooms.specs.declared.room.Room.{Room}
use Rattle.rooms.specs.Rooms.{end_of}
use Rattle.yard_model.specs.declared.view.Phase.TheVariants.{Standing, Running}
use Rattle.yard_model.specs.declared.view.Beginning.{Beginning}
use Rattle.yard_model.specs.declared.view.View.{View}
use Rattle.yard_model.specs.declared.view.Grip.{Grip}
use Rattle.yard_model.specs.Beginnings.{sizes_at, write_backs_at}
use Rattle.yard_model.specs.World.{Home}
use Rattle.yard_model.specs.Opens.{opening_view}
use Rattle.yard_model.specs.WriteBacks.{rise_of}
use Rattle.room_yard.specs.World.{WorldState, Opens, opening_yard}
use Rattle.plain_yard.specs.Shown.{view_at}
use Rattle.replay_laws.proofs.Opens.{opening_at}
use Rattle.worker_model.specs.Workers.{WorkerState, IsWorker}
use Rattle.replay_model.specs.Laws.{opening_replay}
use Rattle.yard_progress.proofs.Moves.{opens_going}
use Rattle.replay_progress.specs.Shown.{GoesOnRight}
use Rattle.replay_progress.specs.Laws.{OpensRightLaw}

-- two ends that are ended at once, of which none waits, are the same
same_end : (c d : ThreadEnd) → (c ≡ Ended → d ≡ Ended) → (d ≡ Ended → c ≡ Ended) → c ≢ Waits → d ≢ Waits → c ≡ d
same_end Ready Ready to from a b = refl
same_end Ready Ended to from a b = from refl
same_end Ready Waits to from a b = absurd (b refl)
same_end Ended Ready to from a b = sym (to refl)
same_end Ended Ended to from a b = refl
same_end Ended Waits to from a b = absurd (b refl)
same_end Waits d to from a b = absurd (a refl)

-- nothing rose
rose_none : (b : Beginning) → rise_of b (write_backs_at b) ≡ 0
rose_none b = total-same (λ r. 0) (λ r. write_backs_at b r - write_backs_at b r) (room_count (sizes_at b)) (λ r lt. omega arith) ∙ total_none (room_count (sizes_at b))

module _ (b : Beginning) (w : WorldState) (workers : List WorkerState) (opens : Opens b w) (number : length workers ≡ b.settings.threads) where
  -- no view holds a room
  none_held : (i : ℕ) (g : Grip) → i < length workers → (view_at (opening_replay b w workers).yard i).grip ≡ Some g → ⊥
  none_held i g lt held = none-some g (ap (λ (v : View). v.grip) (sym (opening_at b w workers opens number i lt)) ∙ held)

  module _ (fit : (i : ℕ) (c : WorkerState) → slice_get workers i ≡ Some c → IsWorker c (opening_view b i))
      (none_waits : (i : ℕ) (c : WorkerState) → slice_get workers i ≡ Some c → c.end ≢ Waits) where
    -- each thread's room has its worker's end
    told : (i : ℕ) (c : WorkerState) (x : Room) → slice_get workers i ≡ Some c → Home (opening_yard b w) (thread_room (sizes_at b) i) x → c.end ≡ end_of x
    told i c x there home =
        let lt = slice_get_within workers i c there in
        let position = opens.yard.positions i x (omega (arith, lt, number)) home in
        let fits = (fit i c there).told.standing (λ q. let e : Standing ≡ Running = q in absurd (grind arith)) in
        same_end c.end (end_of x) (λ e. position.ended.1 (fits.ended.0 e)) (λ e. fits.ended.1 (position.ended.0 e)) (none_waits i c there) position.no_wait

    right : ((r : ℕ) → write_backs_at b r < 2 ^ 63) → GoesOnRight (opening_replay b w workers)
    right early = record {
      on = λ i lt. ap (λ (v : View). v.saw_off) (opening_at b w workers opens number i lt);
      told = told;
      told_in_hand = λ i j c d x g there here in_hand held own. absurd (none_held j g (slice_get_within workers j d here) held);
      early = early;
      goes_on = opens_going b (opening_yard b w) opens.yard;
      counts = write_backs_at b;
      are_counts = record {
        home = λ r x home. sym (opens.yard.rooms r x home).write_backs;
        in_hand = λ i c x g there in_hand held. absurd (none_held i g (slice_get_within workers i c there) held);
      };
      few = let none = rose_none b in omega (arith, none);
    }

pub opens_right : OpensRightLaw
opens_right b w workers opens number fit none_waits early = right b w workers opens number fit none_waits early

-- The rows of a thread that closes an epoch.
use Rattle.std.proofs.Common.{◌≡◌, ◌≢◌, ℕ, suc, ◌-◌, ◌+◌, ◌*◌, ◌≤◌, ◌<◌, ◌^◌, ◌⊎◌, inl, inr, cond, Bool, true, false, List, [], ◌∷◌, ◌++◌, length, set, Option, Some, None, Result, refl, sym, ap, ◌∙◌, subst, arith, length-append}
use Rattle.std.specs.declared.alloc.AllocError.{AllocError}
use Rattle.std.proofs.lemmas.Bool.{le-leb, lt-leb, cases_lt}
use Rattle.seq_object.specs.declared.history.Entry.{Entry}
use Rattle.seq_object.specs.declared.settings.Settings.{Settings}
use Rattle.seq_object.specs.Sizes.{sizes_of, room_count, thread_room}
use Rattle.seq_object.specs.History.{of_room, of_thread}
use Rattle.seq_object.proofs.Histories.{in_script}
use Rattle.seq_object.proofs.Totals.{thread_count, room_count as count_rooms}
use Rattle.line_memory.specs.Line.{BankState}
use Rattle.life_model.specs.declared.life.Mark.{Mark}
use Rattle.life_model.specs.Life.{script_of, opening_place, next_command}
use Rattle.epoch_word.specs.declared.stage.EpochStage.{EpochStage}
use Rattle.epoch_word.specs.declared.stage.EpochStage.TheVariants.{Before, Stored, AskedFor, InMemory}
use Rattle.block_allow.specs.declared.judgement.Verdict.{Verdict}
use Rattle.block_allow.specs.Verdicts.{leaves}
use Rattle.rooms.specs.declared.room.Room.{Room}
use Rattle.rooms.specs.declared.room.Room.TheVariants.{Map, Queue, Thread, Super}
use Rattle.rooms.specs.Rooms.{bank_of, end_of}
use Rattle.yard_model.specs.declared.view.Phase.TheVariants.{Standing}
use Rattle.yard_model.specs.declared.view.Beginning.{Beginning}
use Rattle.yard_model.specs.declared.view.View.{View}
use Rattle.yard_model.specs.declared.view.Grip.{Grip}
use Rattle.yard_model.specs.declared.view.Checkpoint.{Checkpoint}
use Rattle.yard_model.specs.Beginnings.{opening_of, sizes_at, epoch_now, covered_by, is_over, is_fed, write_backs_at}
use Rattle.yard_model.specs.Conditions.{MayRelease}
use Rattle.yard_model.specs.Knows.{sizes_known}
use Rattle.yard_model.specs.Views.{grip_on, entries_noted, released}
use Rattle.yard_model.specs.Steps.{with_view, at_release, checkpoint_at}
use Rattle.yard_model.specs.World.{YardState, ViewIs, clock}
use Rattle.yard_model.specs.WriteBacks.{most_write_backs, rise_of}
use Rattle.yard_model.specs.Lawful.{Lawful}
use Rattle.yard_laws.proofs.Lists.{set_here, at_inside}
use Rattle.yard_laws.proofs.Epochs.{total_few, epoch_fits}
use Rattle.yard_laws.proofs.Note.{note_keeps}
use Rattle.yard_laws.proofs.Release.{last_here, fed_right, over_right}
use Rattle.room_yard.specs.Told.{Told}
use Rattle.room_yard.specs.Answers.{next_word}
use Rattle.plain_yard.specs.Shown.{view_at}
use Rattle.room_in_hand.specs.Known.{knows}
use Rattle.room_in_hand.specs.InHand.{flushing, writing_epoch}
use Rattle.room_in_hand.specs.Events.{begun, written, fenced, has_lines, epoch_stored, epoch_written, epoch_fenced}
use Rattle.coordinator.specs.declared.hand.Hand.{Hand as InClosing}
use Rattle.coordinator.specs.declared.hand.Hand.TheVariants.{Empty as NextRoom, Flushing, Flushed, Shut, Epoch, AllDone, Over}
use Rattle.coordinator.specs.declared.closer.CloseStep.{CloseStep}
use Rattle.coordinator.specs.declared.closer.CloseStep.TheVariants.{Did as ClosingWent, Released}
use Rattle.coordinator.specs.Closers.{CloserState, HandIs, Holds, with_hand}
use Rattle.coordinator.specs.Learnts.{ends_life}
use Rattle.coordinator.specs.Steps.{begun_hand, taken_hand, written_hand, one_done, DoesRow, DoesEpoch, StepIs, EndsRoom, Releases, TakesRoom, WritesLine}
use Rattle.coordinator.proofs.Ended.{one_more}
use Rattle.coordinator.proofs.Verdicts.{ends_where_none_leaves}
use Rattle.worker_model.specs.declared.hand.Hand.{Hand}
use Rattle.worker_model.specs.declared.hand.Hand.TheVariants.{Empty, Closes}
use Rattle.worker_model.specs.declared.hand.Turn.{Turn}
use Rattle.worker_model.specs.Workers.{WorkerState, IsWorker, HandFits, IsClosing, ahead}
use Rattle.worker_model.specs.Turns.{did, closed_by, ClosesOn}
use Rattle.replay_model.specs.Replays.{ReplayState}
use Rattle.replay_laws.proofs.Answered.{set_twice}
use Rattle.rounds.specs.Progress.{AtPoint, OnClosing, SharedProgress}
use Rattle.rounds.specs.Events.{ClosesFurther, ClosesNextRoom, ReleasesEpoch, at_stage, one_room_more, shared_behind}
use Rattle.rounds.proofs.Sums.{total-has}
use Rattle.yard_progress.specs.Shown.{GoesOn}
use Rattle.yard_progress.proofs.Moves.{releases_going}
use lib.ListN.{get_elem?}
use mathlib.Core.Option.{some}
use Rattle.replay_progress.specs.Shown.{activity_of, room_closing, room_in, stage_of, GoesOnRight}
use Rattle.replay_progress.proofs.Hands.{few_stages}
use Rattle.replay_progress.proofs.TurnRooms.{viewed, IsTurn, ChangesRoom, keeps_rooms}
use Rattle.replay_progress.proofs.TurnFew.{flushing_few, in_hand_few, most_same, opened_same}
use Rattle.replay_progress.proofs.TurnShown.{next_in, shared_of, makes_event}
use Rattle.replay_progress.proofs.TurnKept.{GoesOnIn, GoesOnWith, going_moves, right_calm}
use Rattle.replay_progress.proofs.TurnMakes.{fields_of, fields_with, Shows, same_but, closing_moves, same_told, is_thread, on_before, next_here, May, Behind, rise, room_event, write_back, stays_in_hand, comes_to_hand, goes_home}
use Rattle.replay_progress.proofs.TurnRoomEvents.{CountsAlike, begun_closing_alike, fenced_alike, written_end, written_count, one_counted}

-- COUNTS ARE FAR from their type's end.
module _ (b : Beginning) (w : YardState) (h : List Entry) (cs : List Checkpoint) (l : Lawful b w h cs) where
  few_of : (j : ℕ) → j < b.settings.threads → length (of_thread j h) ≤ 4096
  few_of j lt =
      let s = l.bounds.beginning.short j [] (let n = l.bounds.beginning.scripts in omega (arith, lt, n)) in
      let a = in_script (script_of b.scripts j) (opening_place (opening_of b) j) (of_thread j h) (l.epochs.order.commands j) (l.bounds.beginning.places j lt) in
      omega (arith, s, a)

  few_entries : length h ≤ 65536
  few_entries =
      let all = thread_count b.settings.threads h l.entries.known in
      let sum = total_few (λ j. length (of_thread j h)) 4096 b.settings.threads few_of in
      let n = l.bounds.beginning.settings.sizes.few_threads in
      omega (arith, all, sum, n)

  few_closings : length cs < 2 ^ 32
  few_closings = let e = epoch_fits b w h cs l in omega (arith, e)

  most_few : (r : ℕ) → most_write_backs (sizes_at b) h (length cs) r < 2 ^ 62
  most_few r = elim (cases_lt b.settings.shards r) [
    | inr small ↦
        let each = total-has (λ k. length (of_room (sizes_at b) k h)) r (b.settings.shards + 1) (omega (arith, small)) in
        let all = count_rooms (sizes_at b) l.bounds.beginning.settings.sizes.some_shards h in
        let here : most_write_backs (sizes_at b) h (length cs) r ≡ 4 * length (of_room (sizes_at b) r h) =
        ap (λ (c : Bool). cond c (4 * length (of_room (sizes_at b) r h)) (length cs + 1)) (le-leb r b.settings.shards small) in
        let few = few_entries in
        omega (arith, each, all, here, few)
    | inl large ↦
        let here : most_write_backs (sizes_at b) h (length cs) r ≡ length cs + 1 =
        ap (λ (c : Bool). cond c (4 * length (of_room (sizes_at b) r h)) (length cs + 1)) (lt-leb r b.settings.shards large) in
        let few = few_closings in
        omega (arith, here, few)
  ]

-- WHAT A STEP LEAVES IN HAND.
record IsTaken (x : Room) (hand : InClosing) : Type 0 where
  pub room : Room
  pub in_hand : room_closing hand ≡ Some room
  pub alike : CountsAlike x room
  pub stage : 0 < stage_of hand

begun_taken : (some_lines : Bool) (x : Room) → IsTaken x (begun_hand some_lines (begun x))
begun_taken true x = record { room = begun x; in_hand = refl; alike = begun_closing_alike x; stage = omega arith }
begun_taken false x = record { room = begun x; in_hand = refl; alike = begun_closing_alike x; stage = omega arith }

taken : (x : Room) → IsTaken x (taken_hand x)
taken (Map x) = begun_taken (has_lines (Map x)) (Map x)
taken (Queue x) = begun_taken (has_lines (Queue x)) (Queue x)
taken (Thread x) = begun_taken (has_lines (Thread x)) (Thread x)
taken (Super x) = record { room = Super x; in_hand = refl; alike = record { end = refl; write_backs = refl }; stage = omega arith }

written_room : (some_lines : Bool) (x : Room) → room_closing (written_hand some_lines x) ≡ Some x
written_room true x = refl
written_room false x = refl

written_stage : (some_lines : Bool) (x : Room) → stage_of (written_hand some_lines x) ≡ 1
written_stage true x = refl
written_stage false x = refl

module _ (i : ℕ) (s s' : ReplayState) (c d : WorkerState) (turn : IsTurn i s s' c d) (right : GoesOnRight s) (closer : CloserState) (hand_is : c.hand ≡ Closes closer) where
  abbrev v : View
  v = view_at s.yard i

  abbrev u : View
  u = view_at s'.yard i

  abbrev b : Beginning
  b = s.yard.beginning

  worker : IsWorker c v
  worker = turn.before.workers i c turn.is_worker

  fits : IsClosing c closer v
  fits = subst (λ (h : Hand). HandFits c h v) hand_is worker.hand

  at : ViewIs s.yard.told.world i v
  at = viewed s turn.before i c turn.is_worker

  about : activity_of c.hand v.phase ≡ OnClosing closer.learnt.rooms (stage_of closer.hand)
  about = ap (λ (h : Hand). activity_of h v.phase) hand_is

  room_before : room_in c.hand ≡ room_closing closer.hand
  room_before = ap room_in hand_is

  on : v.saw_off ≡ false
  on = on_before i s s' c d turn right

  fields_now : (other : Hand) → ahead other ≡ 0 → fields_of d ≡ fields_with c other → fields_of d ≡ fields_of c
  fields_now other none now = now ∙ (λ k. (c.epoch, c.quota - (none ∙ sym (ap ahead hand_is)) k, c.wrote, c.found_empty, c.end))

  -- ONE EVENT, behind which the closer is this one.
  module _ (behind : CloserState) (is : d ≡ did c (Closes behind)) where
    fields_did : fields_of d ≡ fields_of c
    fields_did = fields_now (Closes behind) refl (ap fields_of is)

    end_did : d.end ≡ c.end
    end_did = ap (λ (o : WorkerState). o.end) is

    about_did : activity_of d.hand u.phase ≡ OnClosing behind.learnt.rooms (stage_of behind.hand)
    about_did = ap (λ (o : WorkerState). activity_of o.hand u.phase) is

    room_did : room_in d.hand ≡ room_closing behind.hand
    room_did = ap (λ (o : WorkerState). room_in o.hand) is

    module _ (history : s'.yard.told.history ≡ s.yard.told.history) (checkpoints : s'.yard.told.checkpoints ≡ s.yard.told.checkpoints)
        (phase : u.phase ≡ v.phase) (saw_off : u.saw_off ≡ v.saw_off) where
      on_now : u.saw_off ≡ false
      on_now = saw_off ∙ on

      going : GoesOnIn s'
      going = going_moves i s s' c d turn (closing_moves u.phase (phase ∙ fits.closes.phase))

      abbrev next : next_in s' i ≡ next_in s i
      next = next_here i s s' c d turn right history checkpoints

      module _ (r : ℕ) (x y : Room) (changes : ChangesRoom s s' r x y) where
        further : (hand : InClosing) → behind ≡ with_hand closer hand → stage_of closer.hand < stage_of hand → CountsAlike x y → Shows i s s' right
        further hand made less alike =
            let rooms : behind.learnt.rooms ≡ closer.learnt.rooms = ap (λ (o : CloserState). o.learnt.rooms) made in
            let stage : stage_of behind.hand ≡ stage_of hand = ap (λ (o : CloserState). stage_of o.hand) made in
            room_event i s s' c d turn right history checkpoints on_now going r x y changes (inl (end_did, alike.end)) alike.write_backs
            (ClosesFurther (stage_of hand)) (closer.learnt.rooms, stage_of closer.hand, about, less)
            (same_but c d v.phase u.phase (next_in s i) (next_in s' i) (at_stage (stage_of hand) (activity_of c.hand v.phase)) fields_did next
            (about_did ∙ ((λ k. OnClosing (rooms k) (stage k)) ∙ sym (ap (at_stage (stage_of hand)) about)))) refl

        ends_room : (hand : InClosing) (z : Room) → behind ≡ one_done closer z hand → stage_of hand ≡ 0 → CountsAlike x y → Shows i s s' right
        ends_room hand z made none alike =
            let more = one_more closer.learnt z in
            let learnt = ap (λ (o : CloserState). o.learnt.rooms) made in
            let rooms : behind.learnt.rooms ≡ suc closer.learnt.rooms = omega (arith, more, learnt) in
            let stage : stage_of behind.hand ≡ 0 = ap (λ (o : CloserState). stage_of o.hand) made ∙ none in
            room_event i s s' c d turn right history checkpoints on_now going r x y changes (inl (end_did, alike.end)) alike.write_backs
            ClosesNextRoom (closer.learnt.rooms, stage_of closer.hand, about, few_stages closer.hand)
            (same_but c d v.phase u.phase (next_in s i) (next_in s' i) (one_room_more (activity_of c.hand v.phase)) fields_did next
            (about_did ∙ ((λ k. OnClosing (rooms k) (stage k)) ∙ sym (ap one_room_more about)))) refl

        writes : (hand : InClosing) → behind ≡ with_hand closer hand → stage_of hand ≡ stage_of closer.hand → end_of y ≡ end_of x
            → r < room_count (sizes_at b) → write_backs_at b r ≤ (bank_of x).write_backs → (bank_of y).write_backs ≡ (bank_of x).write_backs + 1 → Shows i s s' right
        writes hand made same end lt no_fewer more =
            let rooms : behind.learnt.rooms ≡ closer.learnt.rooms = ap (λ (o : CloserState). o.learnt.rooms) made in
            let stage : stage_of behind.hand ≡ stage_of closer.hand = ap (λ (o : CloserState). stage_of o.hand) made ∙ same in
            write_back i s s' c d turn right history checkpoints on_now going r x y changes (inl (end_did, end)) lt no_fewer more
            (closer.learnt.rooms, stage_of closer.hand, about)
            (same_but c d v.phase u.phase (next_in s i) (next_in s' i) (activity_of c.hand v.phase) fields_did next
            (about_did ∙ ((λ k. OnClosing (rooms k) (stage k)) ∙ sym about)))

  -- THE ROWS. An event on the room in hand alone.
  module _ (behind : CloserState) (is : d ≡ did c (Closes behind)) where
    module _ (alone : (u ≡ v) × (Some s'.yard.told ≡ Some s.yard.told)) where
      told : s'.yard.told ≡ s.yard.told
      told = same_told s.yard.told s'.yard.told alone.1

      abbrev history : s'.yard.told.history ≡ s.yard.told.history
      history = ap (λ (t : Told). t.history) told

      abbrev checkpoints : s'.yard.told.checkpoints ≡ s.yard.told.checkpoints
      checkpoints = ap (λ (t : Told). t.checkpoints) told

      abbrev phase : u.phase ≡ v.phase
      phase = ap (λ (o : View). o.phase) alone.0

      abbrev saw_off : u.saw_off ≡ v.saw_off
      saw_off = ap (λ (o : View). o.saw_off) alone.0

      in_place : (g : Grip) (x y : Room) (hand : InClosing) → v.grip ≡ Some g → room_closing closer.hand ≡ Some x → behind ≡ with_hand closer hand → room_closing hand ≡ Some y → ChangesRoom s s' g.room x y
      in_place g x y hand held was made now = stays_in_hand i s s' c d turn g x y g refl
          (room_did behind is ∙ (ap (λ (o : CloserState). room_closing o.hand) made ∙ now), ap (λ (o : View). o.grip) alone.0 ∙ held)
          (room_before ∙ was, held) (ap (λ (t : Told). t.world.rooms) told)

      further_alone : (hand other : InClosing) (g : Grip) (x y : Room) → closer.hand ≡ hand → v.grip ≡ Some g → room_closing hand ≡ Some x → behind ≡ with_hand closer other → room_closing other ≡ Some y
          → stage_of hand < stage_of other → CountsAlike x y → Shows i s s' right
      further_alone hand other g x y was held room made now less alike =
          further behind is history checkpoints phase saw_off g.room x y (in_place g x y other held (ap room_closing was ∙ room) made now) other made
          (let e = ap stage_of was in omega (arith, e, less)) alike

      writes_alone : (hand other : InClosing) (g : Grip) (x y : Room) → closer.hand ≡ hand → v.grip ≡ Some g → room_closing hand ≡ Some x → behind ≡ with_hand closer other → room_closing other ≡ Some y
          → stage_of other ≡ stage_of hand → end_of y ≡ end_of x → write_backs_at v.beginning g.room ≤ (bank_of x).write_backs → (bank_of y).write_backs ≡ (bank_of x).write_backs + 1 → Shows i s s' right
      writes_alone hand other g x y was held room made now same end no_fewer more =
          writes behind is history checkpoints phase saw_off g.room x y (in_place g x y other held (ap room_closing was ∙ room) made now) other made
          (same ∙ sym (ap stage_of was)) end ((turn.before.lawful.locks.views i v at).may_hold g held).1
          (let o = opened_same b s.yard.told.world s.yard.told.history s.yard.told.checkpoints i v g turn.before.lawful at held in omega (arith, o, no_fewer)) more

    -- the next room is locked
    takes_room : closer.hand ≡ NextRoom → TakesRoom closer v (Some s.yard.told) behind u (Some s'.yard.told) → Shows i s s' right
    takes_room was does =
        let t : IsTaken does.room (taken_hand does.room) = taken does.room in
        let g = grip_on v closer.learnt.rooms does.room does.locked.covered in
        let view = does.locked.view in
        let changes : ChangesRoom s s' closer.learnt.rooms does.room t.room = comes_to_hand i s s' c d turn g does.room t.room g refl
        (room_did behind is ∙ (ap (λ (o : CloserState). room_closing o.hand) does.taken ∙ t.in_hand), ap (λ (o : View). o.grip) view) does.locked.world.1
        (ap (λ (o : Told). o.world.rooms) does.locked.world.3) in
        further behind is (ap (λ (o : Told). o.history) does.locked.world.3) (ap (λ (o : Told). o.checkpoints) does.locked.world.3) (ap (λ (o : View). o.phase) view) (ap (λ (o : View). o.saw_off) view)
        closer.learnt.rooms does.room t.room changes (taken_hand does.room) does.taken (let e = ap stage_of was in let p = t.stage in omega (arith, e, p)) t.alike

    -- a room goes home
    home : (hand other : InClosing) (g : Grip) (x : Room) → closer.hand ≡ hand → v.grip ≡ Some g → g.room ≡ closer.learnt.rooms → room_closing hand ≡ Some x → room_closing other ≡ None → stage_of other ≡ 0
        → EndsRoom closer x other v (Some s.yard.told) behind u (Some s'.yard.told) → Shows i s s' right
    home hand other g x was held next room none stage does =
        let view = does.unlocked.view g held in
        let rooms : s'.yard.told.world.rooms ≡ set s.yard.told.world.rooms g.room (Some x) = ap (λ (o : Told). o.world.rooms) does.unlocked.world ∙ (λ k. set s.yard.told.world.rooms (sym next k) (Some x)) in
        let empty : (z : Room) → room_in d.hand ≡ Some z → ⊥ =
        λ z has. (let q : None ≡ Some z = sym none ∙ (sym (room_did behind is ∙ ap (λ (o : CloserState). room_closing o.hand) does.done) ∙ has) in cc) in
        let changes = goes_home i s s' c d turn g x x (room_before ∙ (ap room_closing was ∙ room), held) rooms empty in
        ends_room behind is (ap (λ (o : Told). o.history) does.unlocked.world) (ap (λ (o : Told). o.checkpoints) does.unlocked.world) (ap (λ (o : View). o.phase) view) (ap (λ (o : View). o.saw_off) view)
        g.room x x changes other x does.done stage (record { end = refl; write_backs = refl })

    next_room : (g : Grip) → g.room ≡ v.closed.rooms → g.room ≡ closer.learnt.rooms
    next_room g next = next ∙ sym fits.closes.learnt.rooms

    far : (g : Grip) (n : ℕ) → v.grip ≡ Some g → n ≤ write_backs_at v.beginning g.room + most_write_backs (sizes_at b) s.yard.told.history (length s.yard.told.checkpoints) g.room → n < 2 ^ 64 - 1
    far g n held few =
        let o = opened_same b s.yard.told.world s.yard.told.history s.yard.told.checkpoints i v g turn.before.lawful at held in
        let early = right.early g.room in
        let most = most_few b s.yard.told.world s.yard.told.history s.yard.told.checkpoints turn.before.lawful g.room in
        omega (arith, few, o, early, most)

    writes_line : (x : Room) → closer.hand ≡ Flushing x → Holds flushing v x → WritesLine closer x v (Some s.yard.told) behind u (Some s'.yard.told) → Shows i s s' right
    writes_line x was f does =
        let few = flushing_few (knows v f.grip) x f.in_hand in
        let most = most_same b s.yard.told.world s.yard.told.history s.yard.told.checkpoints i v f.grip turn.before.lawful at f.held in
        let less = far f.grip (bank_of x).write_backs f.held (omega (arith, few, most)) in
        writes_alone (does.alone.1, does.alone.2) (Flushing x) (written_hand (has_lines (written x)) (written x)) f.grip x (written x) was f.held refl does.alone.0 (written_room (has_lines (written x)) (written x))
        (written_stage (has_lines (written x)) (written x)) (written_end x) f.in_hand.kept.no_fewer (written_count x f.in_hand.used.0.cells less)

    writes_epoch : (x : BankState) → closer.hand ≡ Epoch Stored x → Holds (writing_epoch Stored) v (Super x) → (behind ≡ with_hand closer (Epoch AskedFor (epoch_written x))) × (u ≡ v) × (Some s'.yard.told ≡ Some s.yard.told) → Shows i s s' right
    writes_epoch x was f does =
        let few = in_hand_few (knows v f.grip) (writing_epoch Stored) (Super x) f.in_hand in
        let most = most_same b s.yard.told.world s.yard.told.history s.yard.told.checkpoints i v f.grip turn.before.lawful at f.held in
        let less = far f.grip x.write_backs f.held (omega (arith, few, most)) in
        writes_alone (does.1, does.2) (Epoch Stored x) (Epoch AskedFor (epoch_written x)) f.grip (Super x) (Super (epoch_written x)) was f.held refl does.0 refl
        refl refl f.in_hand.kept.no_fewer (one_counted x.write_backs less)

    does_epoch : (stage : EpochStage) (x : BankState) → closer.hand ≡ Epoch stage x → Holds (writing_epoch stage) v (Super x) → DoesEpoch stage x closer v (Some s.yard.told) behind u (Some s'.yard.told) → Shows i s s' right
    does_epoch Before x was f does = further_alone (does.1, does.2) (Epoch Before x) (Epoch Stored (epoch_stored x)) f.grip (Super x) (Super (epoch_stored x)) was f.held refl does.0 refl (omega arith)
        (record { end = refl; write_backs = refl })
    does_epoch Stored x was f does = writes_epoch x was f does
    does_epoch AskedFor x was f does = further_alone (does.1, does.2) (Epoch AskedFor x) (Epoch InMemory (epoch_fenced x)) f.grip (Super x) (Super (epoch_fenced x)) was f.held refl does.0 refl (omega arith)
        (record { end = refl; write_backs = refl })
    does_epoch InMemory x was f does = home (Epoch InMemory x) AllDone f.grip (Super x) was f.held (next_room f.grip f.next) refl refl refl does

    does_row : (hand : InClosing) → closer.hand ≡ hand → HandIs closer.settings closer.learnt hand v → DoesRow hand closer v (Some s.yard.told) behind u (Some s'.yard.told) → Shows i s s' right
    does_row NextRoom was f does = takes_room was does
    does_row (Flushing x) was f does = writes_line x was f does
    does_row (Flushed x) was f does = further_alone (does.1, does.2) (Flushed x) (Shut (fenced x)) f.grip x (fenced x) was f.held refl does.0 refl (omega arith) (fenced_alike x)
    does_row (Shut x) was f does = home (Shut x) NextRoom f.grip x was f.held (next_room f.grip f.next) refl refl refl does
    does_row (Epoch stage x) was f does = does_epoch stage x was f does
    does_row AllDone was f does = absurd does
    does_row Over was f does = absurd does

  -- THE RELEASE.
  releases : (mark : Mark) (verdict : Verdict) (behind : CloserState) → Releases closer v (Some s.yard.told) mark verdict behind u (Some s'.yard.told)
      → d ≡ closed_by (Released mark verdict) c behind → Shows i s s' right
  releases mark verdict behind does is =
      (right'.0, (is_thread i s s' c d turn right, inl (makes_event i s s' c d turn (rise i s s' c d turn right) (rise_of s.yard.beginning right'.0.counts) (ReleasesEpoch over does.fed) may_happen released_thread (more ∙ shared) others)))
    where
      w : YardState
      w = s.yard.told.world

      h : List Entry
      h = s.yard.told.history

      cs : List Checkpoint
      cs = s.yard.told.checkpoints

      over : Bool
      over = ends_life verdict

      done : HandIs closer.settings closer.learnt AllDone v
      done = subst (λ (o : InClosing). HandIs closer.settings closer.learnt o v) does.all_done fits.closes.hand

      settings : closer.settings ≡ v.beginning.settings
      settings = fits.closes.settings

      known : v.beginning ≡ b
      known = turn.before.lawful.sized.beginnings i v at

      all_rooms : v.closed.rooms ≡ room_count (sizes_known v)
      all_rooms = sym fits.closes.learnt.rooms ∙ (done.all ∙ ap (λ (z : Settings). room_count (sizes_of z)) settings)

      -- the thread with the number of entries noted
      noted : View
      noted = entries_noted v (clock w)

      w_noted : YardState
      w_noted = with_view w i noted

      lawful : Lawful b w_noted h cs
      lawful = note_keeps b w h cs i v turn.before.lawful at (record { on = on; phase = fits.closes.phase; nothing_held = done.none; all_done = all_rooms })

      at_noted : ViewIs w_noted i noted
      at_noted = set_here w.views i noted (at_inside w.views i v at)

      may : MayRelease noted over does.fed (clock w)
      may = record {
        on = on;
        phase = fits.closes.phase;
        nothing_held = done.none;
        all_done = all_rooms;
        noted = refl;
        learnt_fed = does.fed_is;
        is_over = ap ends_life does.verdict_is ∙ ends_where_none_leaves v.closed.ends does.fed;
      }

      marked : List Checkpoint
      marked = cs ++ checkpoint_at (clock w) over ∷ []

      word : ℕ
      word = next_word v.beginning.settings.threads over does.fed mark.epoch

      history : s'.yard.told.history ≡ h
      history = ap (λ (t : Told). t.history) does.ended.world.1

      checkpoints : s'.yard.told.checkpoints ≡ marked
      checkpoints = ap (λ (t : Told). t.checkpoints) does.ended.world.1 ∙ (λ k. cs ++ checkpoint_at (does.ended.world.0 k) over ∷ [])

      rooms : s'.yard.told.world.rooms ≡ w.rooms
      rooms = ap (λ (t : Told). t.world.rooms) does.ended.world.1

      views : s'.yard.told.world.views ≡ set (set w.views i noted) i (released noted)
      views = turn.views ∙ ((λ k. set w.views i (does.ended.view k)) ∙ sym (set_twice w.views i noted (released noted)))

      goes : GoesOn b (at_release w_noted word i (released noted)) h marked
      goes = releases_going b w_noted h cs i noted over does.fed (clock w) word lawful at_noted may

      -- what goes on is said of rooms and views alone
      going : GoesOnIn s'
      going not_over =
          let g = goes ((λ k. is_over (sym turn.beginning k) (sym checkpoints k)) ∙ not_over) in
          subst (λ (p : Beginning × List (Option Room) × List View × List Entry × List Checkpoint).
          (j : ℕ) × (o : View) × (get_elem? p.2 j ≡ some o)
          × ((o.ran ≡ epoch_now p.0 p.4) ⊎ ((x : Room) × (get_elem? p.1 (thread_room (sizes_at p.0) j) ≡ some (Some x)) × (leaves (end_of x) (is_fed p.0 p.3 p.4) ≡ true))))
          (λ k. (sym turn.beginning k, sym rooms k, sym views k, sym history k, sym checkpoints k)) g

      hand_now : d.hand ≡ Empty
      hand_now = ap (λ (o : WorkerState). o.hand) is

      stands : u.phase ≡ Standing
      stands = ap (λ (o : View). o.phase) does.ended.view

      none : (z : Room) → room_in d.hand ≡ Some z → ⊥
      none z has = let q : None ≡ Some z = sym (ap room_in hand_now) ∙ has in cc

      right' : GoesOnWith s' right.counts
      right' = right_calm i s s' c d turn right (ap (λ (o : View). o.saw_off) does.ended.view ∙ on) going (ap (λ (o : WorkerState). o.end) is) (keeps_rooms i s s' c d turn rooms none)

      may_happen : May i s s' c d turn right (ReleasesEpoch over does.fed)
      may_happen = about ∙ (λ k. OnClosing ((done.all ∙ ap (λ (z : Settings). room_count (sizes_of z)) (settings ∙ ap (λ (o : Beginning). o.settings) known)) k) (stage_of (does.all_done k)))

      shared_at : Beginning → List Entry → List Checkpoint → ℕ → SharedProgress
      shared_at b h cs n = record { epoch = epoch_now b cs; fed = is_fed b h cs; over = is_over b cs; closed = length cs; covered = covered_by cs; entries = length h; write_backs = n }

      more : shared_of s' (rise_of s.yard.beginning right'.0.counts) ≡ shared_at b h marked (rise i s s' c d turn right)
      more = λ k. shared_at (turn.beginning k) (history k) (checkpoints k) (rise_of s.yard.beginning (right'.1 k))

      one_closed : length marked ≡ suc (length cs)
      one_closed = let f = length-append cs (checkpoint_at (clock w) over ∷ []) in omega (arith, f)

      later : epoch_now b marked ≡ suc (epoch_now b cs)
      later = let f = one_closed in omega (arith, f)

      shared : shared_at b h marked (rise i s s' c d turn right) ≡ shared_behind (ReleasesEpoch over does.fed) (shared_of s (rise i s s' c d turn right))
      shared = λ k. record {
        epoch = later k;
        fed = fed_right b w_noted h cs i noted over does.fed (clock w) word lawful at_noted may k;
        over = over_right b w_noted h cs i noted over does.fed (clock w) word lawful at_noted may k;
        closed = one_closed k;
        covered = last_here b w_noted h cs i noted over does.fed (clock w) word lawful at_noted may k;
        entries = length h;
        write_backs = rise i s s' c d turn right;
      }

      others : (j : ℕ) → j ≢ i → next_in s' j ≡ next_in s j
      others j ne = λ k. next_command (opening_of (turn.beginning k)) (history k) j

      released_thread : Behind i s s' c d turn right (ReleasesEpoch over does.fed)
      released_thread = same_but c d v.phase u.phase (next_in s i) (next_in s' i) AtPoint (fields_now Empty refl (ap fields_of is)) (λ k. next_command (opening_of (turn.beginning k)) (history k) i)
          (λ k. activity_of (hand_now k) (stands k))

  steps : (step : CloseStep) (behind : CloserState) → StepIs step closer v (Some s.yard.told) behind u (Some s'.yard.told) → d ≡ closed_by step c behind → Shows i s s' right
  steps ClosingWent behind does is = does_row behind is closer.hand refl fits.closes.hand does.row
  steps (Released mark verdict) behind does is = releases mark verdict behind does is

  pub closing_shown : (r : Result Turn AllocError) → ClosesOn closer c v (Some s.yard.told) r d u (Some s'.yard.told) → Shows i s s' right
  closing_shown r does = steps does.step does.behind does.is does.worker

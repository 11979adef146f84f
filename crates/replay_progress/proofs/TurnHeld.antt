-- The rows of a thread that runs and holds a room.
use Rattle.std.proofs.Common.{◌≡◌, ◌≢◌, ℕ, suc, ◌-◌, inl, Bool, true, false, List, [], ◌∷◌, ◌++◌, length, Option, Some, None, Result, refl, sym, ap, ◌∙◌, subst, arith, append-nil, length-append}
use Rattle.std.specs.Prelude.{slice_get, nat_lt, option_to_list}
use Rattle.std.specs.declared.alloc.AllocError.{AllocError}
use Rattle.seq_object.specs.declared.command.Command.{Command}
use Rattle.seq_object.specs.declared.command.Reply.{Reply}
use Rattle.seq_object.specs.declared.history.Entry.{Entry}
use Rattle.seq_object.specs.declared.history.Noted.{Noted}
use Rattle.seq_object.specs.Object.{room_of, reply_to}
use Rattle.seq_object.specs.Sizes.{sizes_of}
use Rattle.life_model.specs.Life.{next_command}
use Rattle.command_room.specs.declared.under_way.UnderWay.{UnderWay}
use Rattle.rooms.specs.declared.room.Room.{Room}
use Rattle.rooms.specs.declared.room.Room.TheVariants.{Map, Queue, Thread, Super}
use Rattle.yard_model.specs.declared.view.Phase.TheVariants.{Running}
use Rattle.yard_model.specs.declared.view.View.{View}
use Rattle.yard_model.specs.declared.view.Grip.{Grip}
use Rattle.yard_model.specs.Beginnings.{opening_of, epoch_now, covered_by, is_over, is_fed}
use Rattle.yard_model.specs.Entries.{placed}
use Rattle.yard_model.specs.Knows.{sizes_known, next_of, place_of}
use Rattle.yard_model.specs.Views.{with_drawn, drew}
use Rattle.yard_model.specs.Conditions.{behind, MayDraw}
use Rattle.yard_laws.proofs.Draw.{fed_same, next_same}
use Rattle.room_yard.specs.Told.{Told}
use Rattle.plain_yard.specs.Shown.{view_at}
use Rattle.room_in_hand.specs.Known.{Knowledge, knows}
use Rattle.room_in_hand.specs.InHand.{working, IsInHand, WorksAt}
use Rattle.room_in_hand.specs.Working.{stores_left, stored, entry_noted}
use Rattle.worker_model.specs.declared.hand.Hand.{Hand}
use Rattle.worker_model.specs.declared.hand.Hand.TheVariants.{Empty, Commands, Drawn, NoItem, Own}
use Rattle.worker_model.specs.declared.hand.Turn.{Turn}
use Rattle.worker_model.specs.Workers.{WorkerState, IsWorker, HandFits, IsCommanding, HasDrawn, FindsNone, WritesOwn, ahead}
use Rattle.worker_model.specs.Turns.{entry_of, one_carried_out, with_none_found, with_own_written, DoesAlone, Draws, Unlocks, GoesOnCommand, GoesOnOwn}
use Rattle.replay_model.specs.Replays.{ReplayState}
use Rattle.rounds.specs.Progress.{Activity, EmptyHanded, OnCommand, OnDrawn, OnOwnRoom, SharedProgress}
use Rattle.rounds.specs.Events.{ThreadEvent, StoresForCommand, DrawsEntry, UnlocksCommand, UnlocksEmptyQueue, StoresToOwn, UnlocksOwn, shared_behind}
use Rattle.yard_model.specs.WriteBacks.{rise_of}
use Rattle.yard_model.specs.declared.view.Beginning.{Beginning}
use Rattle.yard_model.specs.declared.view.Checkpoint.{Checkpoint}
use Rattle.yard_model.specs.World.{ViewIs}
use Rattle.replay_progress.specs.Shown.{activity_of, room_in, GoesOnRight}
use Rattle.replay_progress.proofs.TurnRooms.{viewed, IsTurn, ChangesRoom}
use Rattle.replay_progress.proofs.TurnShown.{next_in, shared_of, makes_event}
use Rattle.replay_progress.proofs.TurnKept.{GoesOnWith, going_moves, right_changed}
use Rattle.replay_progress.proofs.TurnMakes.{fields_of, fields_with, Shows, same_but, running_moves, some_left, none_left, same_told, is_thread, on_before, next_here, May, Behind, rise, room_event, stays_in_hand, goes_home}
use Rattle.replay_progress.proofs.TurnRoomEvents.{stored_alike, stores_fewer, few_for_command, few_for_point, noted_alike}

-- a room in which a command is under way is the command's, and the reply is the object's
pub record IsAtWork (under : UnderWay) (k : Knowledge) : Type 0 where
  pub here : room_of (sizes_of k.settings) under.command ≡ k.room
  pub reply : reply_to (sizes_of k.settings) k.now under.command ≡ Some under.reply

at_work : (under : UnderWay) (k : Knowledge) (x : Room) → WorksAt under k x → IsAtWork under k
at_work under k (Map s) is = record { here = is.here; reply = is.reply }
at_work under k (Queue s) is = record { here = is.here; reply = is.reply }
at_work under k (Thread s) is = absurd is
at_work under k (Super s) is = absurd is

module _ (i : ℕ) (s s' : ReplayState) (c d : WorkerState) (turn : IsTurn i s s' c d) (right : GoesOnRight s) (r : Result Turn AllocError) where
  abbrev v : View
  v = view_at s.yard i

  abbrev u : View
  u = view_at s'.yard i

  worker : IsWorker c v
  worker = turn.before.workers i c turn.is_worker

  fits : (hand : Hand) → c.hand ≡ hand → HandFits c hand v
  fits hand is = subst (λ (h : Hand). HandFits c h v) is worker.hand

  fields_kept : (hand other : Hand) → c.hand ≡ hand → ahead other ≡ ahead hand → fields_of d ≡ fields_with c other → fields_of d ≡ fields_of c
  fields_kept hand other is same now = now ∙ ((λ k. (c.epoch, c.quota - same k, c.wrote, c.found_empty, c.end)) ∙ ap (fields_with c) (sym is))

  -- a store in the room in hand
  stores : (hand : Hand) (x : Room) (g : Grip) (other : Hand) (e : ThreadEvent) (activity : Activity) → c.hand ≡ hand → v.phase ≡ Running → v.grip ≡ Some g
      → room_in hand ≡ Some x → room_in other ≡ Some (stored x) → ahead other ≡ ahead hand → activity_of other u.phase ≡ activity
      → DoesAlone other c v (Some s.yard.told) r d u (Some s'.yard.told)
      → May i s s' c d turn right e → ((fields_of d ≡ fields_of c) → (activity_of d.hand u.phase ≡ activity) → next_in s' i ≡ next_in s i → Behind i s s' c d turn right e)
      → shared_of s (rise i s s' c d turn right) ≡ shared_behind e (shared_of s (rise i s s' c d turn right)) → Shows i s s' right
  stores hand x g other e activity hand_is phase held room room_now same about does may behind shared =
      let told = same_told s.yard.told s'.yard.told does.same.1 in
      let history = ap (λ (t : Told). t.history) told in
      let checkpoints = ap (λ (t : Told). t.checkpoints) told in
      let moves = running_moves u.phase (ap (λ (o : View). o.phase) does.same.0 ∙ phase) in
      let changes = stays_in_hand i s s' c d turn g x (stored x) g refl (ap (λ (o : WorkerState). room_in o.hand) does.worker ∙ room_now, ap (λ (o : View). o.grip) does.same.0 ∙ held)
      (ap room_in hand_is ∙ room, held) (ap (λ (t : Told). t.world.rooms) told) in
      room_event i s s' c d turn right history checkpoints (ap (λ (o : View). o.saw_off) does.same.0 ∙ on_before i s s' c d turn right) (going_moves i s s' c d turn moves)
      g.room x (stored x) changes (inl (ap (λ (o : WorkerState). o.end) does.worker, (stored_alike x).end)) (stored_alike x).write_backs e may
      (behind (fields_kept hand other hand_is same (ap fields_of does.worker)) (ap (λ (o : WorkerState). activity_of o.hand u.phase) does.worker ∙ about) (next_here i s s' c d turn right history checkpoints)) shared

  store_for_command : (reply : Reply) (x : Room) → c.hand ≡ Commands reply x → nat_lt 0 (stores_left x) ≡ true
      → DoesAlone (Commands reply (stored x)) c v (Some s.yard.told) r d u (Some s'.yard.told) → Shows i s s' right
  store_for_command reply x hand_is left does =
      let f : IsCommanding reply x v = fits (Commands reply x) hand_is in
      let fewer = stores_fewer x (some_left (stores_left x) left) in
      let few = few_for_command _ (knows v f.grip) x f.holds.in_hand in
      let n = stores_left (stored x) in
      stores (Commands reply x) x f.grip (Commands reply (stored x)) (StoresForCommand n) (OnCommand n) hand_is f.holds.phase f.holds.held refl refl refl refl does
      (ap (λ (h : Hand). activity_of h v.phase) hand_is ∙ ap OnCommand fewer, omega (arith, few, fewer))
      (λ fields about next. same_but c d v.phase u.phase (next_in s i) (next_in s' i) (OnCommand n) fields next about) refl

  store_to_own : (x : Room) → c.hand ≡ Own x → nat_lt 0 (stores_left x) ≡ true
      → DoesAlone (Own (stored x)) c v (Some s.yard.told) r d u (Some s'.yard.told) → Shows i s s' right
  store_to_own x hand_is left does =
      let f : WritesOwn c.end x v = fits (Own x) hand_is in
      let fewer = stores_fewer x (some_left (stores_left x) left) in
      let few = few_for_point _ c.end (knows v f.grip) x f.holds.in_hand in
      let n = stores_left (stored x) in
      stores (Own x) x f.grip (Own (stored x)) (StoresToOwn n) (OnOwnRoom n) hand_is f.holds.phase f.holds.held refl refl refl refl does
      (ap (λ (h : Hand). activity_of h v.phase) hand_is ∙ ap OnOwnRoom fewer, omega (arith, few, fewer))
      (λ fields about next. same_but c d v.phase u.phase (next_in s i) (next_in s' i) (OnOwnRoom n) fields next about) refl

  -- A DRAW.
  draws : (reply : Reply) (x : Room) → c.hand ≡ Commands reply x → nat_lt 0 (stores_left x) ≡ false
      → Draws reply x c v (Some s.yard.told) r d u (Some s'.yard.told) → Shows i s s' right
  draws reply x hand_is left does =
      (right'.0, (is_thread i s s' c d turn right, inl (makes_event i s s' c d turn (rise i s s' c d turn right) rise_now DrawsEntry may behind_draw (more ∙ shared) others)))
    where
      f : IsCommanding reply x v
      f = fits (Commands reply x) hand_is

      e : Entry
      e = entry_of c does.command reply

      place : c.position ≡ place_of v
      place = let p = worker.fits.place in let none : ahead c.hand ≡ 0 = ap ahead hand_is in omega (arith, p, none)

      in_script : next_of v ≡ Some does.command
      in_script = sym (λ k. slice_get (worker.fits.script k) (place k)) ∙ does.next

      same_command : f.command ≡ does.command
      same_command = let q : Some f.command ≡ Some does.command = sym f.next ∙ in_script in cc

      works : IsAtWork (record { command = does.command; reply = reply }) (knows v f.grip)
      works = at_work _ (knows v f.grip) x (subst (λ (a : Command). IsInHand (working (record { command = a; reply = reply })) (knows v f.grip) x) same_command f.holds.in_hand).used

      history_taken : f.grip.history ++ option_to_list f.grip.drawn ≡ f.grip.history
      history_taken = ap (λ (o : Option Noted). f.grip.history ++ option_to_list o) f.none_drawn ∙ append-nil f.grip.history

      may_draw : MayDraw v f.grip e
      may_draw = record {
        on = on_before i s s' c d turn right;
        phase = f.holds.phase;
        held = f.holds.held;
        once = f.none_drawn;
        room = sym works.here;
        thread = worker.fits.thread;
        index = place;
        command = in_script;
        reply = subst (λ (ns : List Noted). reply_to (sizes_known v) (behind v f.grip.room ns) does.command ≡ Some reply) history_taken works.reply;
        quota = f.quota;
        unwritten = f.unwritten;
      }

      history : s'.yard.told.history ≡ s.yard.told.history ++ e ∷ []
      history = ap (λ (t : Told). t.history) does.drew.world.1

      checkpoints : s'.yard.told.checkpoints ≡ s.yard.told.checkpoints
      checkpoints = ap (λ (t : Told). t.checkpoints) does.drew.world.1

      view : u ≡ drew v f.grip does.ticket e
      view = does.drew.view f.grip f.holds.held

      on_now : u.saw_off ≡ false
      on_now = ap (λ (o : View). o.saw_off) view ∙ on_before i s s' c d turn right

      moves : u.phase ≡ Running
      moves = ap (λ (o : View). o.phase) view ∙ f.holds.phase

      changes : ChangesRoom s s' f.grip.room x (entry_noted x does.ticket e)
      changes = stays_in_hand i s s' c d turn f.grip x (entry_noted x does.ticket e) (with_drawn f.grip (placed does.ticket e)) refl
          (ap (λ (o : WorkerState). room_in o.hand) does.worker, ap (λ (o : View). o.grip) view) (ap room_in hand_is, f.holds.held) (ap (λ (t : Told). t.world.rooms) does.drew.world.1)

      right' : GoesOnWith s' right.counts
      right' = right_changed i s s' c d turn right on_now (going_moves i s s' c d turn (running_moves u.phase moves)) f.grip.room x (entry_noted x does.ticket e) changes
          (inl (ap (λ (o : WorkerState). o.end) does.worker, (noted_alike x does.ticket e).end)) (noted_alike x does.ticket e).write_backs

      rise_now : ℕ
      rise_now = rise_of s.yard.beginning right'.0.counts

      one_more : length (s.yard.told.history ++ e ∷ []) ≡ suc (length s.yard.told.history)
      one_more = let n = length-append s.yard.told.history (e ∷ []) in omega (arith, n)

      at : ViewIs s.yard.told.world i v
      at = viewed s turn.before i c turn.is_worker

      shared_at : Beginning → List Entry → List Checkpoint → ℕ → SharedProgress
      shared_at b h cs n = record { epoch = epoch_now b cs; fed = is_fed b h cs; over = is_over b cs; closed = length cs; covered = covered_by cs; entries = length h; write_backs = n }

      more : shared_of s' rise_now ≡ shared_at s.yard.beginning (s.yard.told.history ++ e ∷ []) s.yard.told.checkpoints (rise i s s' c d turn right)
      more = λ k. shared_at (turn.beginning k) (history k) (checkpoints k) (rise_of s.yard.beginning (right'.1 k))

      shared : shared_at s.yard.beginning (s.yard.told.history ++ e ∷ []) s.yard.told.checkpoints (rise i s s' c d turn right) ≡ shared_behind DrawsEntry (shared_of s (rise i s s' c d turn right))
      shared = λ k. record (shared_of s (rise i s s' c d turn right)) {
        fed = fed_same s.yard.beginning s.yard.told.world s.yard.told.history s.yard.told.checkpoints i v f.grip e turn.before.lawful at may_draw k;
        entries = one_more k;
      }

      others : (j : ℕ) → j ≢ i → next_in s' j ≡ next_in s j
      others j ne = (λ k. next_command (opening_of (turn.beginning k)) (history k) j)
          ∙ next_same s.yard.beginning s.yard.told.world s.yard.told.history s.yard.told.checkpoints i v f.grip e turn.before.lawful at may_draw j ne

      may : May i s s' c d turn right DrawsEntry
      may = (
        ap (λ (h : Hand). activity_of h v.phase) hand_is ∙ ap OnCommand (none_left (stores_left x) left),
        let q = worker.fits.quota in let some = f.quota in omega (arith, q, some),
      )

      behind_draw : Behind i s s' c d turn right DrawsEntry
      behind_draw =
          let now : fields_of d ≡ (c.epoch, c.quota - 1, c.wrote, c.found_empty, c.end) = ap fields_of does.worker in
          let none : ahead c.hand ≡ 0 = ap ahead hand_is in
          let quota : c.quota - 1 ≡ (c.quota - ahead c.hand) - 1 = omega (arith, none) in
          let about : activity_of d.hand u.phase ≡ OnDrawn = ap (λ (o : WorkerState). activity_of o.hand u.phase) does.worker in
          let epoch : d.epoch ≡ c.epoch = ap (λ (o : WorkerState). o.epoch) does.worker in
          λ k. record {
            activity = about k;
            ran = (now k).0;
            quota = ((λ j. (now j).1) ∙ quota) k;
            wrote = (now k).2;
            found_empty = (now k).3;
            next = next_in s' i;
            end = (now k).4;
          }

  -- A ROOM GOES HOME.
  unlocks : (hand : Hand) (x : Room) (after : WorkerState) (e : ThreadEvent) → c.hand ≡ hand → v.phase ≡ Running → room_in hand ≡ Some x → after.hand ≡ Empty → after.end ≡ c.end
      → Unlocks x after v (Some s.yard.told) r d u (Some s'.yard.told) → May i s s' c d turn right e
      → ((activity_of d.hand u.phase ≡ EmptyHanded) → next_in s' i ≡ next_in s i → Behind i s s' c d turn right e)
      → shared_of s (rise i s s' c d turn right) ≡ shared_behind e (shared_of s (rise i s s' c d turn right)) → Shows i s s' right
  unlocks hand x after e hand_is phase room empty end does may behind shared =
      let view = does.unlocked.view does.grip does.held in
      let history = ap (λ (t : Told). t.history) does.unlocked.world in
      let checkpoints = ap (λ (t : Told). t.checkpoints) does.unlocked.world in
      let running : u.phase ≡ Running = ap (λ (o : View). o.phase) view ∙ phase in
      let hand_now : d.hand ≡ Empty = ap (λ (o : WorkerState). o.hand) does.worker ∙ empty in
      let none : (z : Room) → room_in d.hand ≡ Some z → ⊥ = λ z is. (let q : None ≡ Some z = sym (ap room_in hand_now) ∙ is in cc) in
      let changes = goes_home i s s' c d turn does.grip x x (ap room_in hand_is ∙ room, does.held) (ap (λ (t : Told). t.world.rooms) does.unlocked.world) none in
      room_event i s s' c d turn right history checkpoints (ap (λ (o : View). o.saw_off) view ∙ on_before i s s' c d turn right) (going_moves i s s' c d turn (running_moves u.phase running))
      does.grip.room x x changes (inl (ap (λ (o : WorkerState). o.end) does.worker ∙ end, refl)) refl e may
      (behind (λ k. activity_of (hand_now k) (running k)) (next_here i s s' c d turn right history checkpoints)) shared

  -- a command's room, and the queue room that was found empty
  pub drawn_shown : (x : Room) → c.hand ≡ Drawn x → Unlocks x (one_carried_out c) v (Some s.yard.told) r d u (Some s'.yard.told) → Shows i s s' right
  drawn_shown x hand_is does =
      let f : HasDrawn x v = fits (Drawn x) hand_is in
      let quota : (c.quota - 1) - 0 ≡ c.quota - 1 = omega arith in
      unlocks (Drawn x) x (one_carried_out c) UnlocksCommand hand_is f.holds.phase refl refl refl does
      (ap (λ (h : Hand). activity_of h v.phase) hand_is, worker.fits.wrote ∙ f.unwritten)
      (λ about next. same_but c d v.phase u.phase (next_in s i) (next_in s' i) EmptyHanded (ap fields_of does.worker ∙ ((λ k. (c.epoch, quota k, c.wrote, c.found_empty, c.end)) ∙ ap (fields_with c) (sym hand_is))) next about) refl

  pub no_item_shown : (x : Room) → c.hand ≡ NoItem x → Unlocks x (with_none_found c) v (Some s.yard.told) r d u (Some s'.yard.told) → Shows i s s' right
  no_item_shown x hand_is does =
      let f : FindsNone x v = fits (NoItem x) hand_is in
      let now = ap fields_of does.worker in
      unlocks (NoItem x) x (with_none_found c) UnlocksEmptyQueue hand_is f.holds.phase refl refl refl does
      (ap (λ (h : Hand). activity_of h v.phase) hand_is, worker.fits.wrote ∙ f.unwritten, worker.fits.found_empty ∙ f.not_found)
      (λ about next. (λ k. record {
        activity = about k;
        ran = (now k).0;
        quota = ((λ j. (now j).1) ∙ ap (λ (h : Hand). c.quota - ahead h) (sym hand_is)) k;
        wrote = (now k).2;
        found_empty = (now k).3;
        next = next k;
        end = (now k).4;
      })) refl

  own_goes_home : (x : Room) → c.hand ≡ Own x → nat_lt 0 (stores_left x) ≡ false → Unlocks x (with_own_written c) v (Some s.yard.told) r d u (Some s'.yard.told) → Shows i s s' right
  own_goes_home x hand_is left does =
      let f : WritesOwn c.end x v = fits (Own x) hand_is in
      let now = ap fields_of does.worker in
      unlocks (Own x) x (with_own_written c) (UnlocksOwn c.end) hand_is f.holds.phase refl refl refl does
      (ap (λ (h : Hand). activity_of h v.phase) hand_is ∙ ap OnOwnRoom (none_left (stores_left x) left), worker.fits.wrote ∙ f.unwritten)
      (λ about next. (λ k. record {
        activity = about k;
        ran = (now k).0;
        quota = ((λ j. (now j).1) ∙ ap (λ (h : Hand). c.quota - ahead h) (sym hand_is)) k;
        wrote = (now k).2;
        found_empty = (now k).3;
        next = next k;
        end = (now k).4;
      })) refl

  pub command_shown : (some_stores : Bool) (reply : Reply) (x : Room) → c.hand ≡ Commands reply x → nat_lt 0 (stores_left x) ≡ some_stores
      → GoesOnCommand some_stores reply x c v (Some s.yard.told) r d u (Some s'.yard.told) → Shows i s s' right
  command_shown true reply x hand_is left does = store_for_command reply x hand_is left does
  command_shown false reply x hand_is left does = draws reply x hand_is left does

  pub own_shown : (some_stores : Bool) (x : Room) → c.hand ≡ Own x → nat_lt 0 (stores_left x) ≡ some_stores
      → GoesOnOwn some_stores x c v (Some s.yard.told) r d u (Some s'.yard.told) → Shows i s s' right
  own_shown true x hand_is left does = store_to_own x hand_is left does
  own_shown false x hand_is left does = own_goes_home x hand_is left does

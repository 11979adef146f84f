-- The rows of a thread that runs and holds no room.
use Rattle.std.proofs.Common.{◌≡◌, ◌≢◌, ℕ, ◌-◌, ◌<◌, ◌⊎◌, inl, inr, Bool, true, false, length, Option, Some, None, Result, Ok, refl, sym, ap, ◌∙◌, subst, arith, if◌then◌else◌}
use Rattle.std.proofs.lemmas.Bool.{lt-leb}
use Rattle.std.proofs.lemmas.Nat.{mod_below}
use Rattle.std.specs.declared.alloc.AllocError.{AllocError}
use Rattle.seq_object.specs.declared.command.Command.{Command}
use Rattle.seq_object.specs.declared.command.Command.TheVariants.{Put, Get, Del, Enq, Deq, Take}
use Rattle.seq_object.specs.declared.command.Reply.{Reply}
use Rattle.seq_object.specs.declared.settings.Settings.{Settings}
use Rattle.seq_object.specs.declared.sizes.Sizes.{Sizes}
use Rattle.seq_object.specs.Sizes.{sizes_of, thread_room, room_count}
use Rattle.seq_object.specs.Object.{room_of}
use Rattle.incll_var.specs.Cells.{IsSavedIn}
use Rattle.rooms.specs.declared.room.Room.{Room}
use Rattle.rooms.specs.declared.room.Room.TheVariants.{Map, Queue, Thread, Super}
use Rattle.rooms.specs.Rooms.{bank_of, end_of, state_of, IsKindOf}
use Rattle.yard_model.specs.declared.view.Phase.TheVariants.{Running}
use Rattle.yard_model.specs.declared.view.Beginning.{Beginning}
use Rattle.yard_model.specs.declared.view.View.{View}
use Rattle.yard_model.specs.Beginnings.{sizes_at}
use Rattle.yard_model.specs.Views.{grip_on}
use Rattle.yard_model.specs.Knows.{sizes_known}
use Rattle.yard_model.specs.World.{ViewIs, lock_of, dead}
use Rattle.room_yard.specs.Told.{Told}
use Rattle.room_yard.specs.declared.answers.Held.{Held}
use Rattle.room_yard.specs.Answers.{Locked, LockIsHeld}
use Rattle.plain_yard.specs.Shown.{view_at}
use Rattle.room_in_hand.specs.Known.{knows}
use Rattle.room_in_hand.specs.Working.{stores_left, HasBegun, point_planned, IsThread}
use Rattle.worker_model.specs.declared.hand.Hand.{Hand}
use Rattle.worker_model.specs.declared.hand.Hand.TheVariants.{Empty, Commands, NoItem, Own}
use Rattle.worker_model.specs.declared.hand.Turn.{Turn}
use Rattle.worker_model.specs.declared.hand.Turn.TheVariants.{Did, Rested, Waited, Over}
use Rattle.worker_model.specs.Workers.{WorkerState, IsWorker, HandFits, IsCommanding, FindsNone, WritesOwn, ahead}
use Rattle.worker_model.specs.Turns.{did, at_gate, begun_hand, end_at, BeginsBy, BeginsOwn, LocksOwn, WaitsFor, Stands, GoesOnEmpty}
use Rattle.replay_model.specs.Replays.{ReplayState}
use Rattle.rounds.specs.Progress.{EmptyHanded, OnCommand, OnEmptyQueue, OnOwnRoom, AtPoint}
use Rattle.rounds.specs.Events.{ThreadEvent, BeginsCommand, FindsQueueEmpty, BeginsOwnRoom, StandsAgain, SomeHolds, shared_behind}
use Rattle.yard_model.specs.Opens.{opening_view}
use Rattle.yard_laws.proofs.Lists.{at_inside}
use Rattle.plain_yard.proofs.Views.{read_at}
use Rattle.yard_progress.proofs.Shown.{holder}
use Rattle.replay_progress.specs.Shown.{activity_of, activity_in, activities_of, ends_of, shown_by, room_in, GoesOnRight}
use Rattle.replay_progress.specs.Laws.{HandsShownLaw}
use Rattle.replay_progress.proofs.TurnRooms.{viewed, IsTurn, ChangesRoom, worker_here, keeps_rooms}
use Rattle.replay_progress.proofs.TurnShown.{next_in, shared_of}
use Rattle.replay_progress.proofs.TurnKept.{going_moves, going_stood, own_room}
use Rattle.replay_progress.proofs.TurnMakes.{fields_of, fields_with, Shows, same_but, running_moves, on_before, next_here, May, Behind, rise, calm_event, rests, room_event, comes_to_hand}
use Rattle.replay_progress.proofs.TurnRoomEvents.{begun_alike, few_for_command, end_for_point, planned_count, five_stores}

-- the room of a command is one of the rooms
low_room : (z : Sizes) (command : Command) → 0 < z.shards → room_of z command < room_count z
low_room z (Put key value) some = let m = mod_below key z.shards some in omega (arith, m)
low_room z (Get key) some = let m = mod_below key z.shards some in omega (arith, m)
low_room z (Del key) some = let m = mod_below key z.shards some in omega (arith, m)
low_room z (Enq value) some = omega arith
low_room z Deq some = omega arith
low_room z Take some = omega arith

its_thread : (s : Settings) (i : ℕ) (x : Room) → i < s.threads → IsKindOf s (thread_room (sizes_of s) i) x → IsThread x
its_thread s i (Map x) within kind = let k = kind.0 in absurd (omega (arith, k))
its_thread s i (Queue x) within kind = let k = kind.0 in absurd (omega (arith, k))
its_thread s i (Thread x) within kind = tt
its_thread s i (Super x) within kind = absurd (omega (arith, kind, within))

module _ (i : ℕ) (s s' : ReplayState) (c d : WorkerState) (turn : IsTurn i s s' c d) (right : GoesOnRight s) (hand_is : c.hand ≡ Empty) (phase : (view_at s.yard i).phase ≡ Running) where
  abbrev v : View
  v = view_at s.yard i

  abbrev u : View
  u = view_at s'.yard i

  worker : IsWorker c v
  worker = turn.before.workers i c turn.is_worker

  worker_now : IsWorker d u
  worker_now = turn.behind.workers i d (worker_here i s s' c d turn)

  about : activity_of c.hand v.phase ≡ EmptyHanded
  about = λ k. activity_of (hand_is k) (phase k)

  at : ViewIs s.yard.told.world i v
  at = viewed s turn.before i c turn.is_worker

  none_ahead : ahead c.hand ≡ 0
  none_ahead = ap ahead hand_is

  settings : c.settings ≡ s.yard.beginning.settings
  settings = worker.fits.settings ∙ ap (λ (b : Beginning). b.settings) (turn.before.lawful.sized.beginnings i v at)

  -- the fields of a worker with another room in hand
  fields_now : (other : Hand) → ahead other ≡ 0 → fields_of d ≡ fields_with c other → fields_of d ≡ fields_of c
  fields_now other none now = now ∙ (λ k. (c.epoch, c.quota - (none ∙ sym none_ahead) k, c.wrote, c.found_empty, c.end))

  -- a room is locked, and in hand as this
  takes : (r : ℕ) (taken room : Room) (hand : Hand) → Locked v (Some s.yard.told) r taken u (Some s'.yard.told) → d.hand ≡ hand → room_in hand ≡ Some room
      → ((d.end ≡ c.end) × (end_of room ≡ end_of taken)) ⊎ ((r ≡ own_room s i) × (d.end ≡ end_of room)) → (bank_of room).write_backs ≡ (bank_of taken).write_backs
      → (e : ThreadEvent) → May i s s' c d turn right e → (next_in s' i ≡ next_in s i → Behind i s s' c d turn right e)
      → shared_of s (rise i s s' c d turn right) ≡ shared_behind e (shared_of s (rise i s s' c d turn right)) → Shows i s s' right
  takes r taken room hand locked is in_hand ends none e may behind shared =
      let g = grip_on v r taken locked.covered in
      let history = ap (λ (t : Told). t.history) locked.world.3 in
      let checkpoints = ap (λ (t : Told). t.checkpoints) locked.world.3 in
      let running : u.phase ≡ Running = ap (λ (o : View). o.phase) locked.view ∙ phase in
      let changes : ChangesRoom s s' r taken room = comes_to_hand i s s' c d turn g taken room g refl (ap room_in is ∙ in_hand, ap (λ (o : View). o.grip) locked.view) locked.world.1
      (ap (λ (t : Told). t.world.rooms) locked.world.3) in
      room_event i s s' c d turn right history checkpoints (ap (λ (o : View). o.saw_off) locked.view ∙ on_before i s s' c d turn right)
      (going_moves i s s' c d turn (running_moves u.phase running)) r taken room changes ends none e may (behind (next_here i s s' c d turn right history checkpoints)) shared

  -- A COMMAND BEGINS.
  begins_with : (r : ℕ) (command : Command) (reply : Option Reply) (taken room : Room) → Locked v (Some s.yard.told) r taken u (Some s'.yard.told) → HasBegun c.epoch command reply taken room
      → d ≡ did (at_gate c) (begun_hand reply room) → Shows i s s' right
  begins_with r command (Some reply) taken room locked begun is =
      let f : IsCommanding reply room u = subst (λ (h : Hand). HandFits d h u) (ap (λ (o : WorkerState). o.hand) is) worker_now.hand in
      let alike = begun_alike c.epoch command (Some reply) taken room begun in
      let few = few_for_command _ (knows u f.grip) room f.holds.in_hand in
      let wrote : c.wrote ≡ false = sym (ap (λ (o : WorkerState). o.wrote) is) ∙ (worker_now.fits.wrote ∙ f.unwritten) in
      let found : c.found_empty ≡ false = sym (ap (λ (o : WorkerState). o.found_empty) is) ∙ (worker_now.fits.found_empty ∙ f.not_found) in
      let quota = worker_now.fits.quota in
      let same = ap (λ (o : WorkerState). o.quota) is in
      let some = f.quota in
      takes r taken room (Commands reply room) locked (ap (λ (o : WorkerState). o.hand) is) refl (inl (ap (λ (o : WorkerState). o.end) is, alike.end)) alike.write_backs
      (BeginsCommand (stores_left room))
      (about, wrote, found, omega (arith, quota, same, some, none_ahead), few)
      (λ next. same_but c d v.phase u.phase (next_in s i) (next_in s' i) (OnCommand (stores_left room)) (fields_now (Commands reply room) refl (ap fields_of is)) next
      (ap (λ (o : WorkerState). activity_of o.hand u.phase) is)) refl
  begins_with r command None taken room locked begun is =
      let f : FindsNone room u = subst (λ (h : Hand). HandFits d h u) (ap (λ (o : WorkerState). o.hand) is) worker_now.hand in
      let alike = begun_alike c.epoch command None taken room begun in
      let wrote : c.wrote ≡ false = sym (ap (λ (o : WorkerState). o.wrote) is) ∙ (worker_now.fits.wrote ∙ f.unwritten) in
      let found : c.found_empty ≡ false = sym (ap (λ (o : WorkerState). o.found_empty) is) ∙ (worker_now.fits.found_empty ∙ f.not_found) in
      let quota = worker_now.fits.quota in
      let same = ap (λ (o : WorkerState). o.quota) is in
      let some = f.quota in
      takes r taken room (NoItem room) locked (ap (λ (o : WorkerState). o.hand) is) refl (inl (ap (λ (o : WorkerState). o.end) is, alike.end)) alike.write_backs
      FindsQueueEmpty
      (about, wrote, found, omega (arith, quota, same, some, none_ahead))
      (λ next. same_but c d v.phase u.phase (next_in s i) (next_in s' i) OnEmptyQueue (fields_now (NoItem room) refl (ap fields_of is)) next
      (ap (λ (o : WorkerState). activity_of o.hand u.phase) is)) refl

  -- ITS OWN ROOM.
  begins_own : c.wrote ≡ false → BeginsOwn c v (Some s.yard.told) d u (Some s'.yard.told) → Shows i s s' right
  begins_own unwritten does = takes r does.taken room (Own room) does.locked (ap (λ (o : WorkerState). o.hand) does.worker) refl
      (inr (place, sym (end_for_point _ d.end (knows u f.grip) room f.holds.in_hand))) (planned_count c.epoch c.position (end_at c) does.taken)
      BeginsOwnRoom (about, unwritten) behind refl
    where
      r : ℕ
      r = thread_room (sizes_of c.settings) c.thread

      room : Room
      room = point_planned c.epoch c.position (end_at c) does.taken

      f : WritesOwn d.end room u
      f = subst (λ (h : Hand). HandFits d h u) (ap (λ (o : WorkerState). o.hand) does.worker) worker_now.hand

      thread : c.thread ≡ i
      thread = worker.fits.thread ∙ turn.before.lawful.sized.threads i v at

      place : r ≡ own_room s i
      place = λ k. thread_room (sizes_of (settings k)) (thread k)

      known : r ≡ thread_room (sizes_known v) v.thread
      known = λ k. thread_room (sizes_of (worker.fits.settings k)) (worker.fits.thread k)

      is_thread_room : IsThread does.taken
      is_thread_room = its_thread c.settings c.thread does.taken worker.within.thread (subst (λ (z : Settings). IsKindOf z r does.taken) (sym worker.fits.settings) does.locked.given.room.kind)

      one_line : length (bank_of does.taken).lines ≡ 1
      one_line = does.locked.given.room.lines ∙ ap (λ (b : Bool). if b then (sizes_known v).lines else 1)
          (lt-leb r (sizes_known v).shards (let k = known in omega (arith, k)))

      five : stores_left room ≡ 5
      five = five_stores c.epoch c.position (end_at c) does.taken is_thread_room
          (does.locked.given.free.safe.cells (let k = known in let t = worker.within.thread in let z = ap (λ (z : Settings). z.threads) worker.fits.settings in let o = worker.fits.thread in omega (arith, k, t, z, o)))
          (let o = one_line in omega (arith, o)) does.locked.given.free.idle
          (subst (λ (n : ℕ). IsSavedIn (λ e. e < n) (state_of does.taken)) (sym worker.fits.epoch) (does.locked.given.unwritten known phase (sym worker.fits.wrote ∙ unwritten)))

      behind : next_in s' i ≡ next_in s i → Behind i s s' c d turn right BeginsOwnRoom
      behind next =
          let is = does.worker in
          let activity : activity_of d.hand u.phase ≡ OnOwnRoom 5 = ap (λ (o : WorkerState). activity_of o.hand u.phase) is ∙ ap OnOwnRoom five in
          let quota : d.quota - ahead d.hand ≡ c.quota - ahead c.hand = ap (λ (o : WorkerState). o.quota - ahead o.hand) is ∙ ap (λ (n : ℕ). c.quota - n) (sym none_ahead) in
          λ k. record {
            activity = activity k;
            ran = ap (λ (o : WorkerState). o.epoch) is k;
            quota = quota k;
            wrote = ap (λ (o : WorkerState). o.wrote) is k;
            found_empty = ap (λ (o : WorkerState). o.found_empty) is k;
            next = next k;
            end = d.end;
          }

  -- IT STANDS.
  stands : (r : Result Turn AllocError) → c.wrote ≡ true → Stands c v (Some s.yard.told) r d u (Some s'.yard.told) → Shows i s s' right
  stands r wrote does =
      let history = ap (λ (t : Told). t.history) does.stood.world in
      let checkpoints = ap (λ (t : Told). t.checkpoints) does.stood.world in
      let hand_now : d.hand ≡ Empty = ap (λ (o : WorkerState). o.hand) does.worker in
      let none : (z : Room) → room_in d.hand ≡ Some z → ⊥ = λ z is. (let q : None ≡ Some z = sym (ap room_in hand_now) ∙ is in cc) in
      let view = does.stood.view in
      calm_event i s s' c d turn right history checkpoints (ap (λ (o : View). o.saw_off) view ∙ on_before i s s' c d turn right)
      (going_stood i s s' c d turn (running_moves v.phase phase) (ap (λ (o : View). o.ran) view) checkpoints) (ap (λ (o : WorkerState). o.end) does.worker)
      (keeps_rooms i s s' c d turn (ap (λ (t : Told). t.world.rooms) does.stood.world) none)
      StandsAgain (about, wrote)
      (same_but c d v.phase u.phase (next_in s i) (next_in s' i) AtPoint (fields_now Empty refl (ap fields_of does.worker)) (next_here i s s' c d turn right history checkpoints)
      (λ k. activity_of (hand_now k) (ap (λ (o : View). o.phase) view k))) refl

  -- IT WAITS FOR A LOCK.
  module _ (hands : HandsShownLaw) where
    not_dead : (r : ℕ) → r < room_count (sizes_at s.yard.beginning) → lock_of s.yard.told.world r ≢ dead
    not_dead r lt is_dead =
        let giver = turn.before.lawful.locks.giver r lt is_dead in
        let off = ((turn.before.lawful.locks.views giver.0 giver.1 giver.2).one_room giver.3.0 giver.3.1).1 in
        absurd (never giver.0 giver.1 giver.2 off)
      where
        never : (j : ℕ) (o : View) → ViewIs s.yard.told.world j o → o.saw_off ≡ true → ⊥
        never j o there off =
            let lt = at_inside s.yard.told.world.views j o there in
            let n = turn.before.number in
            let on = right.on j (omega (arith, lt, n)) in
            let same : view_at s.yard j ≡ o = read_at s.yard.told.world.views j o (opening_view s.yard.beginning j) there in
            let q : true ≡ false = sym off ∙ (ap (λ (w : View). w.saw_off) (sym same) ∙ on) in
            grind arith

    some_holds : (r : ℕ) (held : Held) → r < room_count (sizes_at s.yard.beginning) → LockIsHeld v (Some s.yard.told) r held u (Some s'.yard.told)
        → SomeHolds (sizes_at s.yard.beginning) (shown_by s (rise i s s' c d turn right))
    some_holds r held lt met = holder s.yard.beginning s.yard.told.world s.yard.told.history s.yard.told.checkpoints (activities_of s) (ends_of s) (rise i s s' c d turn right) i r v
        turn.before.lawful (hands s turn.before right) at phase lt (λ free. met.taken (met.world.0 ∙ free)) (not_dead r lt)

    waits : (r : ℕ) (after : WorkerState) (held : Held) → r < room_count (sizes_at s.yard.beginning) → after.hand ≡ c.hand → after.end ≡ c.end → fields_of after ≡ fields_of c
        → WaitsFor r after v (Some s.yard.told) held d u (Some s'.yard.told) → Shows i s s' right
    waits r after held lt same end fields does =
        let history = ap (λ (t : Told). t.history) does.waits.world.1 in
        let checkpoints = ap (λ (t : Told). t.checkpoints) does.waits.world.1 in
        let view = does.waits.view in
        let hand_now : d.hand ≡ c.hand = ap (λ (o : WorkerState). o.hand) does.worker ∙ same in
        let none : (z : Room) → room_in d.hand ≡ Some z → ⊥ = λ z is. (let q : None ≡ Some z = sym (ap room_in (hand_now ∙ hand_is)) ∙ is in cc) in
        let running : u.phase ≡ v.phase = ap (λ (o : View). o.phase) view in
        let now : fields_of d ≡ fields_of c = ap fields_of does.worker ∙ fields in
        rests i s s' c d turn right history checkpoints (ap (λ (o : View). o.saw_off) view ∙ on_before i s s' c d turn right)
        (going_moves i s s' c d turn (running_moves u.phase (running ∙ phase))) (ap (λ (o : WorkerState). o.end) does.worker ∙ end)
        (keeps_rooms i s s' c d turn (ap (λ (t : Told). t.world.rooms) does.waits.world.1) none)
        (same_but c d v.phase u.phase (next_in s i) (next_in s' i) (activity_of c.hand v.phase) now (next_here i s s' c d turn right history checkpoints) (λ k. activity_of (hand_now k) (running k)))
        (inr (ap (λ (o : Option WorkerState). activity_in o v.phase) turn.is_worker ∙ about, some_holds r held lt does.waits))

    some_shards : 0 < c.settings.shards
    some_shards = worker.within.valid.sizes.some_shards

    room_there : (r : ℕ) → r < room_count (sizes_of c.settings) → r < room_count (sizes_at s.yard.beginning)
    room_there r lt = subst (λ (z : Settings). r < room_count (sizes_of z)) settings lt

    begins_by : (answer : Turn) (command : Command) → BeginsBy (Ok answer) command c v (Some s.yard.told) d u (Some s'.yard.told) → Shows i s s' right
    begins_by Did command does = begins_with (room_of (sizes_of c.settings) command) command does.reply does.taken does.room does.locked does.begun does.worker
    begins_by (Rested rest) command does = absurd does
    begins_by (Waited held) command does = waits (room_of (sizes_of c.settings) command) (at_gate c) held (room_there _ (low_room (sizes_of c.settings) command some_shards)) refl refl refl does
    begins_by Over command does = absurd does

    locks_own : (answer : Turn) → c.wrote ≡ false → LocksOwn c v (Some s.yard.told) (Ok answer) d u (Some s'.yard.told) → Shows i s s' right
    locks_own Did wrote does = begins_own wrote does
    locks_own (Rested rest) wrote does = absurd does
    locks_own (Waited held) wrote does = waits (thread_room (sizes_of c.settings) c.thread) c held
        (room_there (thread_room (sizes_of c.settings) c.thread) (let t = worker.within.thread in omega (arith, t))) refl refl refl does
    locks_own Over wrote does = absurd does

    pub empty_shown : (may wrote : Bool) (answer : Turn) → c.wrote ≡ wrote → GoesOnEmpty may wrote c v (Some s.yard.told) (Ok answer) d u (Some s'.yard.told) → Shows i s s' right
    empty_shown true wrote answer is does = begins_by answer does.command does.begins
    empty_shown false false answer is does = locks_own answer is does
    empty_shown false true answer is does = stands (Ok answer) is does

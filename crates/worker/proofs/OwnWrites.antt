-- A thread's own room is locked, and its restart point is written to it, store by store.
use Rattle.std.proofs.Common.{◌≡◌, ◌≢◌, ℕ, ◌+◌, ◌<◌, ◌≤◌, ◌&&◌, Bool, true, false, cond, List, length, Option, Some, None, refl, ap, sym, ◌∙◌, subst, arith, inl, inr}
use Rattle.std.specs.Prelude.{nat_le, nat_lt, not, slice_get}
use Rattle.std.proofs.lemmas.Bool.{ltb-false, leb-true, leb-false, lt-ltb}
use Rattle.std.proofs.lemmas.Option.{slice_get_past, slice_get_cases}
use Rattle.seq_object.specs.declared.command.Command.{Command}
use Rattle.seq_object.specs.declared.command.Command.TheVariants.{Take}
use Rattle.seq_object.specs.declared.settings.Settings.{Settings}
use Rattle.seq_object.specs.declared.history.RestartPoint.{RestartPoint}
use Rattle.seq_object.specs.Sizes.{sizes_of, thread_room}
use Rattle.incll_var.specs.Cells.{IsSavedIn}
use Rattle.restart_point.specs.declared.thread_end.ThreadEnd.{ThreadEnd}
use Rattle.restart_point.specs.declared.thread_end.ThreadEnd.TheVariants.{Ready, Waits, Ended}
use Rattle.rooms.specs.declared.room.Room.{Room}
use Rattle.rooms.specs.declared.room.Room.TheVariants.{Map, Queue, Thread, Super}
use Rattle.rooms.specs.Rooms.{IsKindOf, HasCells, state_of}
use Rattle.yard_model.specs.declared.view.View.{View}
use Rattle.yard_model.specs.declared.view.Grip.{Grip}
use Rattle.yard_model.specs.Knows.{sizes_known, place_of, point_of, next_of, HasCause}
use Rattle.yard_model.specs.Views.{grip_on, gripped}
use Rattle.room_yard.specs.Told.{Told}
use Rattle.room_in_hand.specs.Known.{Knowledge, knows}
use Rattle.room_in_hand.specs.InHand.{resting, writing_point, WritesPoint, IsInHand}
use Rattle.room_in_hand.specs.Laws.{IsEndOf}
use Rattle.room_in_hand.specs.Working.{stores_left, MayStore, IsThread, MayBeginPoint}
use Rattle.room_in_hand.proofs.Given.{given_rests}
use Rattle.worker_model.specs.declared.hand.Hand.TheVariants.{Own}
use Rattle.worker_model.specs.Workers.{WorkerState, WritesOwn, IsWorker}
use Rattle.worker_model.specs.Turns.{did, may_command, end_at}
use Rattle.worker.specs.Rows.{MayTakeRow}
use Rattle.worker.specs.OwnRooms.{MayWriteOwn}
use Rattle.worker.proofs.Homes.{least_running, most_running, told_none}

-- A STORE.

few_left : (point : RestartPoint) (end : ThreadEnd) (k : Knowledge) (x : Room) → WritesPoint point end k x → stores_left x ≤ 5
few_left point end k (Map x) writes = absurd writes
few_left point end k (Queue x) writes = absurd writes
few_left point end k (Thread x) writes = writes.few_left
few_left point end k (Super x) writes = absurd writes

module _ (c : WorkerState) (x : Room) (v : View) (t : Option Told) (may : MayTakeRow c (Own x) v t) where
  abbrev writes : WritesOwn c.end x v
  writes = may.worker.hand

  pub may_store : MayStore x
  may_store = inr (knows v writes.grip, point_of v, c.end, writes.holds.in_hand)

  module _ (y : Room) (fewer : stores_left x ≡ stores_left y + 1) (kept : (k : Knowledge) (point : RestartPoint) (end : ThreadEnd) → IsInHand (writing_point point end) k x → IsInHand (writing_point point end) k y) where
    stored_behind : IsWorker (did c (Own y)) v
    stored_behind = record {
      fits = let f = may.worker.fits in record {
        thread = f.thread;
        settings = f.settings;
        script = f.script;
        place = f.place;
        quota = f.quota;
        epoch = f.epoch;
        wrote = f.wrote;
        found_empty = f.found_empty;
        marks = f.marks;
      };
      within = let i = may.worker.within in record { valid = i.valid; thread = i.thread; short = i.short; position = i.position; quota = i.quota };
      hand = record {
        grip = writes.grip;
        holds = record { phase = writes.holds.phase; held = writes.holds.held; in_hand = kept (knows v writes.grip) (point_of v) c.end writes.holds.in_hand };
        own = writes.own;
        end_is = writes.end_is;
        cause = writes.cause;
        waits = writes.waits;
        unwritten = writes.unwritten;
      };
      told = told_none (did c (Own y)) v writes.holds.phase writes.unwritten may.worker.told.found;
      run = may.worker.run;
      least = let l = may.worker.least in omega (arith, l, fewer);
      most = let l = may.worker.most in let n = few_left (point_of v) c.end (knows v writes.grip) x writes.holds.in_hand.used in omega (arith, l, fewer, n);
    }

    pub store_keeps : (d : WorkerState) → d ≡ did c (Own y) → IsWorker d v
    store_keeps d is = subst (λ (e : WorkerState). IsWorker e v) (sym is) stored_behind

-- THE END THAT IS TOLD.

-- by whether the script is used, and whether a take found the queue empty
end_belongs : (used found : Bool) (next : Option Command) → (used ≡ true → next ≡ None) → (used ≡ false → next ≢ None) → (found ≡ true → next ≡ Some Take)
    → IsEndOf next (cond used Ended (cond found Waits Ready))
end_belongs true found next none some take = record { ended = (λ _. none refl, λ _. refl); waits = λ is. let e : Ended ≡ Waits = is in absurd (cc) }
end_belongs false true next none some take = record { ended = (λ is. let e : Waits ≡ Ended = is in absurd (cc), λ is. absurd (some refl is)); waits = λ _. take refl }
end_belongs false false next none some take = record { ended = (λ is. let e : Ready ≡ Ended = is in absurd (cc), λ is. absurd (some refl is)); waits = λ is. let e : Ready ≡ Waits = is in absurd (cc) }

-- a thread that may carry out no command has a cause: by whether quota is left, whether commands are, and whether the queue was found empty
has_cause : (left more found : Bool) (quota : ℕ) (next : Option Command) → (left && (more && not found)) ≡ false → (left ≡ false → quota ≡ 0) → (more ≡ false → next ≡ None) → (found ≡ true → next ≡ Some Take)
    → HasCause quota found next
has_cause false more found quota next none spent used take = inl (spent refl)
has_cause true false found quota next none spent used take = inr (inl (used refl))
has_cause true true true quota next none spent used take = inr (inr (take refl, refl))
has_cause true true false quota next none spent used take = let e : true ≡ false = none in absurd (cc)

-- where it has more to do its quota is spent
ready_spent : (left more used found : Bool) → (left && (more && not found)) ≡ false → (used ≡ false → more ≡ true) → cond used Ended (cond found Waits Ready) ≡ Ready → left ≡ false
ready_spent false more used found none others ready = refl
ready_spent true more true found none others ready = let e : Ended ≡ Ready = ready in absurd (cc)
ready_spent true more false true none others ready = let e : Waits ≡ Ready = ready in absurd (cc)
ready_spent true more false false none others ready = sym (ap (λ (b : Bool). b && true) (others refl)) ∙ none

some_next : (commands : List Command) (place : ℕ) → place < length commands → slice_get commands place ≢ None
some_next commands place within is = elim (slice_get_cases commands place).1 [
  | inl h ↦ let e : Some h.0 ≡ None = sym h.2 ∙ is in absurd (cc)
  | inr h ↦ let n = h.0 in absurd (omega (arith, n, within))
]

module _ (c : WorkerState) (next : Option Command) (is : next ≡ slice_get c.commands c.position) (take : c.found_empty ≡ true → next ≡ Some Take) where
  used_none : nat_le (length c.commands) c.position ≡ true → next ≡ None
  used_none used = is ∙ slice_get_past c.commands c.position (leb-true (length c.commands) c.position used)

  left_some : nat_le (length c.commands) c.position ≡ false → next ≢ None
  left_some left none = some_next c.commands c.position (leb-false (length c.commands) c.position left) (sym is ∙ none)

  pub end_at_place : IsEndOf next (end_at c)
  end_at_place = end_belongs (nat_le (length c.commands) c.position) c.found_empty next used_none left_some take

  module _ (none : may_command c ≡ false) where
    quota_spent : nat_lt 0 c.quota ≡ false → c.quota ≡ 0
    quota_spent spent = let q = ltb-false 0 c.quota spent in omega (arith, q)

    more_used : nat_lt c.position (length c.commands) ≡ false → next ≡ None
    more_used used = is ∙ slice_get_past c.commands c.position (ltb-false c.position (length c.commands) used)

    pub cause_at_place : HasCause c.quota c.found_empty next
    cause_at_place = has_cause (nat_lt 0 c.quota) (nat_lt c.position (length c.commands)) c.found_empty c.quota next none quota_spent more_used take

    pub ready_at_place : end_at c ≡ Ready → c.quota ≡ 0
    ready_at_place ready = quota_spent (ready_spent (nat_lt 0 c.quota) (nat_lt c.position (length c.commands)) (nat_le (length c.commands) c.position) c.found_empty none
        (λ left. lt-ltb c.position (length c.commands) (leb-false (length c.commands) c.position left)) ready)

-- THE OWN ROOM, LOCKED.

its_thread : (s : Settings) (i : ℕ) (x : Room) → i < s.threads → IsKindOf s (thread_room (sizes_of s) i) x → IsThread x
its_thread s i (Map x) within kind = let k = kind.0 in absurd (omega (arith, k))
its_thread s i (Queue x) within kind = let k = kind.0 in absurd (omega (arith, k))
its_thread s i (Thread x) within kind = tt
its_thread s i (Super x) within kind = absurd (omega (arith, kind, within))

thread_cells : (x : Room) → IsThread x → HasCells x
thread_cells (Map x) is = tt
thread_cells (Queue x) is = tt
thread_cells (Thread x) is = tt
thread_cells (Super x) is = absurd is

module _ (c : WorkerState) (x : Room) (w : View) (may : MayWriteOwn c x w) where
  abbrev v : View
  v = may.before

  abbrev r : ℕ
  r = thread_room (sizes_known v) v.thread

  abbrev grip : Grip
  grip = grip_on v r x may.covered

  abbrev behind : View
  behind = gripped v r x may.covered

  low_thread : v.thread < v.beginning.settings.threads
  low_thread = let l = may.worker.within.thread in let f = may.worker.fits.thread in let s = ap (λ (z : Settings). z.threads) may.worker.fits.settings in omega (arith, l, f, s)

  is_thread : IsThread x
  is_thread = its_thread v.beginning.settings v.thread x low_thread may.given.room.kind

  rests : IsInHand resting (knows behind grip) x
  rests = given_rests v r x may.covered (thread_cells x is_thread) may.of_type may.given

  unwritten : v.wrote ≡ false
  unwritten = sym may.worker.fits.wrote ∙ may.unwritten

  pub may_begin : MayBeginPoint c.epoch x
  may_begin = record {
    known = knows behind grip;
    epoch_is = sym may.worker.fits.epoch;
    thread = is_thread;
    unwritten = subst (λ (n : ℕ). IsSavedIn (λ e. e < n) (state_of x)) (sym may.worker.fits.epoch) (may.given.unwritten refl may.phase unwritten);
    rests = rests;
  }

  place : place_of v ≡ c.position
  place = let p = may.worker.fits.place in omega (arith, p)

  quota : c.quota ≡ v.quota
  quota = let q = may.worker.fits.quota in omega (arith, q)

  next : next_of v ≡ slice_get c.commands c.position
  next = ap (slice_get _) place ∙ ap (λ (cs : List Command). slice_get cs c.position) (sym may.worker.fits.script)

  take : c.found_empty ≡ true → next_of v ≡ Some Take
  take found = may.worker.told.found (sym may.worker.fits.found_empty ∙ found)

  module _ (y : Room) (position : ℕ) (end : ThreadEnd) (here : position ≡ c.position) (ends : end ≡ end_at c) (five : stores_left y ≡ 5)
      (kept : (k : Knowledge) → k.epoch ≡ c.epoch → IsInHand resting k x → IsInHand (writing_point (record { position = position }) end) k y) where
    at_point : IsInHand (writing_point (point_of v) end) (knows behind grip) y
    at_point = subst (λ (n : ℕ). IsInHand (writing_point (record { position = n }) end) (knows behind grip) y) (here ∙ sym place) (kept (knows behind grip) (sym may.worker.fits.epoch) rests)

    in_own : WritesOwn end y behind
    in_own = record {
      grip = grip;
      holds = record { phase = may.phase; held = refl; in_hand = at_point };
      own = refl;
      end_is = subst (λ (e : ThreadEnd). IsEndOf (next_of v) e) (sym ends) (end_at_place c (next_of v) next take);
      cause = subst (λ (n : ℕ). HasCause n v.found_empty (next_of v)) quota (subst (λ (b : Bool). HasCause c.quota b (next_of v)) may.worker.fits.found_empty (cause_at_place c (next_of v) next take may.none));
      waits = λ whole ready.
          let spent = ready_at_place c (next_of v) next take may.none (sym ends ∙ ready) in
          let some = may.worker.within.valid.some in
          let s = ap (λ (z : Settings). z.every) may.worker.fits.settings in
          let q = quota in
          absurd (omega (arith, whole, spent, some, s, q));
      unwritten = unwritten;
    }

    own_behind : IsWorker (did (record c { end = end }) (Own y)) behind
    own_behind = record {
      fits = let f = may.worker.fits in record {
        thread = f.thread;
        settings = f.settings;
        script = f.script;
        place = f.place;
        quota = f.quota;
        epoch = f.epoch;
        wrote = f.wrote;
        found_empty = f.found_empty;
        marks = f.marks;
      };
      within = let i = may.worker.within in record { valid = i.valid; thread = i.thread; short = i.short; position = i.position; quota = i.quota };
      hand = in_own;
      told = told_none (did (record c { end = end }) (Own y)) behind may.phase unwritten may.worker.told.found;
      run = let n = may.worker.run in record { first = n.first; last = n.last; running = n.running; given = n.given };
      least =
          let e = least_running v.phase v.given_back v false may.phase (may.worker.run.given may.on) unwritten in
          let l = may.worker.least in
          omega (arith, e, l, five);
      most =
          let e = most_running c.settings v.phase v.given_back v v.found_empty false may.phase (may.worker.run.given may.on) refl unwritten in
          let l = may.worker.most in
          omega (arith, e, l, five);
    }

    pub begin_keeps : (s d : WorkerState) → s ≡ c → d ≡ did (record s { end = end }) (Own y) → IsWorker d w
    begin_keeps s d same is =
        subst (λ (e : WorkerState). IsWorker e w) (sym (is ∙ ap (λ (e : WorkerState). did (record e { end = end }) (Own y)) same))
        (subst (IsWorker (did (record c { end = end }) (Own y))) (sym may.view) own_behind)

-- A room goes home: a command's, whose entry is drawn; the queue room, which a take found empty; and the thread's own.
use Rattle.std.proofs.Common.{◌≡◌, ℕ, ◌+◌, ◌-◌, ◌≤◌, ◌==◌, ◌&&◌, ◌||◌, Bool, true, false, Option, Some, None, refl, ap, sym, ◌∙◌, subst, arith}
use Rattle.std.specs.Prelude.{is_none}
use Rattle.seq_object.specs.declared.command.Command.TheVariants.{Take}
use Rattle.seq_object.specs.declared.history.Noted.{Noted}
use Rattle.seq_object.specs.declared.settings.Settings.{Settings}
use Rattle.seq_object.specs.declared.sizes.Sizes.{Sizes}
use Rattle.seq_object.specs.Sizes.{sizes_of, thread_room}
use Rattle.rooms.specs.declared.room.Room.{Room}
use Rattle.rooms.specs.Rooms.{is_empty_queue}
use Rattle.yard_model.specs.declared.view.Phase.{Phase}
use Rattle.yard_model.specs.declared.view.Phase.TheVariants.{Standing, Running}
use Rattle.yard_model.specs.declared.view.GivenBack.{GivenBack}
use Rattle.yard_model.specs.declared.view.View.{View}
use Rattle.yard_model.specs.declared.view.Grip.{Grip}
use Rattle.yard_model.specs.Knows.{sizes_known, next_of, HasCause}
use Rattle.yard_model.specs.Views.{finds_empty, found_after, freed}
use Rattle.yard_model.specs.Conditions.{MayUnlock}
use Rattle.room_yard.specs.Told.{Told}
use Rattle.room_yard.specs.Answers.{Unlocked}
use Rattle.room_yard.specs.Calls.{room_held, MayReturn}
use Rattle.room_in_hand.specs.Working.{stores_left}
use Rattle.room_in_hand.proofs.Returns.{runs_not}
use Rattle.room_in_hand.proofs.Running.{rests_goes_home, point_goes_home}
use Rattle.coordinator.proofs.Ended.{eq_false, eq_true}
use Rattle.worker_model.specs.declared.hand.Hand.{Hand}
use Rattle.worker_model.specs.declared.hand.Hand.TheVariants.{Empty, Drawn, NoItem, Own}
use Rattle.worker_model.specs.Counts.{when, least_empty, most_empty}
use Rattle.worker_model.specs.Workers.{WorkerState, HoldsNone, HasTold, HasRun, HasDrawn, FindsNone, WritesOwn, IsWorker}
use Rattle.worker_model.specs.Turns.{one_carried_out, with_none_found, with_own_written}
use Rattle.worker.specs.Rows.{MayTakeRow}

-- BOOLEANS.

pub not_both : (b : Bool) → b ≡ false → b ≡ true → ⊥
not_both b is_false is_true = let e : false ≡ true = sym is_false ∙ is_true in absurd (cc)

and_false : (b : Bool) → (b && false) ≡ false
and_false true = refl
and_false false = refl

or_false : (b : Bool) → (b || false) ≡ b
or_false true = refl
or_false false = refl

or_true : (b : Bool) → (b || true) ≡ true
or_true true = refl
or_true false = refl

-- A THREAD THAT RUNS, WITH NOTHING IN HAND.

pub least_running : (p : Phase) (k : Option GivenBack) (w : View) (wrote : Bool) → p ≡ Running → k ≡ None → w.wrote ≡ wrote → least_empty p k w ≡ 1 + when 7 wrote
least_running p k w wrote runs none is =
    ap (λ (q : Phase). least_empty q k w) runs
    ∙ ap (λ (o : Option GivenBack). least_empty Running o w) none
    ∙ ap (λ (b : Bool). 1 + when 7 b) is

pub most_running : (s : Settings) (p : Phase) (k : Option GivenBack) (w : View) (found wrote : Bool) → p ≡ Running → k ≡ None → w.found_empty ≡ found → w.wrote ≡ wrote
    → most_empty s p k w ≡ 1 + when 2 found + when 7 wrote
most_running s p k w found wrote runs none empty is =
    ap (λ (q : Phase). most_empty s q k w) runs
    ∙ ap (λ (o : Option GivenBack). most_empty s Running o w) none
    ∙ ap (λ (b : Bool). 1 + when 2 b + when 7 w.wrote) empty
    ∙ ap (λ (b : Bool). 1 + when 2 found + when 7 b) is

stands_not : (p : Phase) → p ≡ Standing → p ≡ Running → ⊥
stands_not p stands runs = let e : Standing ≡ Running = sym stands ∙ runs in absurd (cc)

-- with its own room unwritten it has told no end
pub told_none : (c : WorkerState) (w : View) → w.phase ≡ Running → w.wrote ≡ false → (w.found_empty ≡ true → next_of w ≡ Some Take) → HasTold c w
told_none c w runs unwritten found = record {
  standing = λ stands. absurd (stands runs);
  written = λ wrote. absurd (not_both w.wrote unwritten wrote);
  waits = λ wrote. absurd (not_both w.wrote unwritten wrote);
  stood = λ stands. absurd (stands_not w.phase stands runs);
  found = found;
}

-- BEHIND AN UNLOCK.

module _ (v : View) (g : Grip) (x : Room) (runs : v.phase ≡ Running) where
  holds_none : HoldsNone (freed v g x)
  holds_none = record { none = refl; closing = λ closes. absurd (runs_not v.phase closes runs) }

  runs_on : HasRun v → HasRun (freed v g x)
  runs_on was = record { first = was.first; last = was.last; running = was.running; given = was.given }

  -- a room of commands is no thread's own
  not_written : g.room ≤ (sizes_known v).shards → v.wrote ≡ false → (freed v g x).wrote ≡ false
  not_written low unwritten =
      ap (λ (b : Bool). b || (g.room == thread_room (sizes_known v) v.thread)) unwritten
      ∙ eq_false g.room (thread_room (sizes_known v) v.thread) (λ e. omega (arith, e, low))

  found_is : (found : Bool) → finds_empty v g x ≡ found → (freed v g x).found_empty ≡ (v.found_empty || found)
  found_is found is = ap (λ (p : Phase). found_after p v g x) runs ∙ ap (λ (b : Bool). v.found_empty || b) is

  -- with an entry drawn the queue was not found empty
  not_found : (n : Noted) → g.drawn ≡ Some n → v.found_empty ≡ false → (freed v g x).found_empty ≡ false
  not_found n drawn none =
      found_is false (ap (λ (d : Option Noted). (g.room == (sizes_known v).shards) && (is_none d && is_empty_queue x)) drawn ∙ and_false (g.room == (sizes_known v).shards))
      ∙ or_false v.found_empty
      ∙ none

  -- the queue room was, with none drawn
  found_empty : g.room ≡ (sizes_known v).shards → g.drawn ≡ None → is_empty_queue x ≡ true → (freed v g x).found_empty ≡ true
  found_empty queue drawn empty =
      found_is true (
      ap (λ (b : Bool). b && (is_none g.drawn && is_empty_queue x)) (eq_true g.room (sizes_known v).shards queue)
      ∙ ap (λ (d : Option Noted). is_none d && is_empty_queue x) drawn
      ∙ empty)
      ∙ or_true v.found_empty

  -- the thread's own room is written, and is not the queue's
  module _ (own : g.room ≡ thread_room (sizes_known v) v.thread) where
    is_written : (freed v g x).wrote ≡ true
    is_written = ap (λ (b : Bool). v.wrote || b) (eq_true g.room (thread_room (sizes_known v) v.thread) own) ∙ or_true v.wrote

    found_as : (freed v g x).found_empty ≡ v.found_empty
    found_as =
        found_is false (ap (λ (b : Bool). b && (is_none g.drawn && is_empty_queue x)) (eq_false g.room (sizes_known v).shards (λ e. omega (arith, e, own))))
        ∙ or_false v.found_empty

-- THE WORKER BEHIND A ROW, whose hand was taken out.

pub is_carried_out : (s c : WorkerState) → s ≡ c → c.hand ≡ Empty → record s { position = s.position + 1; quota = s.quota - 1; passed = false; done = s.done + 1 } ≡ one_carried_out c
is_carried_out s c is taken =
    ap (λ (e : WorkerState). record e { position = e.position + 1; quota = e.quota - 1; passed = false; done = e.done + 1 }) is
    ∙ ap (λ (h : Hand). record c { position = c.position + 1; quota = c.quota - 1; passed = false; hand = h; done = c.done + 1 }) taken

pub is_with_none_found : (s c : WorkerState) → s ≡ c → c.hand ≡ Empty → record s { found_empty = true; done = s.done + 1 } ≡ with_none_found c
is_with_none_found s c is taken =
    ap (λ (e : WorkerState). record e { found_empty = true; done = e.done + 1 }) is
    ∙ ap (λ (h : Hand). record c { found_empty = true; hand = h; done = c.done + 1 }) taken

pub is_with_own_written : (s c : WorkerState) → s ≡ c → c.hand ≡ Empty → record s { wrote = true; done = s.done + 1 } ≡ with_own_written c
is_with_own_written s c is taken =
    ap (λ (e : WorkerState). record e { wrote = true; done = e.done + 1 }) is
    ∙ ap (λ (h : Hand). record c { wrote = true; hand = h; done = c.done + 1 }) taken

-- the number of the own room, as the code finds it
pub own_room : (s c : WorkerState) (z : Sizes) (r : ℕ) → s ≡ c → z ≡ sizes_of s.settings → r ≡ thread_room z s.thread → r ≡ thread_room (sizes_of c.settings) c.thread
own_room s c z r is sizes room = room ∙ ap (λ (y : Sizes). thread_room y s.thread) sizes ∙ ap (λ (e : WorkerState). thread_room (sizes_of e.settings) e.thread) is

-- A COMMAND'S ROOM, WITH ITS ENTRY DRAWN.

module _ (c : WorkerState) (x : Room) (v : View) (t : Option Told) (may : MayTakeRow c (Drawn x) v t) where
  abbrev drawn : HasDrawn x v
  drawn = may.worker.hand

  drawn_home : MayUnlock v drawn.grip x
  drawn_home = rests_goes_home v drawn.grip x may.on drawn.holds.phase drawn.holds.held drawn.commands drawn.holds.in_hand

  -- its number, as the handle answers it
  drawn_number : (n : ℕ) (o : Option ℕ) → o ≡ room_held v.grip → o ≡ Some n → drawn.grip.room ≡ n
  drawn_number n o held is = let e : Some drawn.grip.room ≡ Some n = sym (ap room_held drawn.holds.held) ∙ sym held ∙ is in cc

  pub drawn_returns : (n : ℕ) (o : Option ℕ) → o ≡ room_held v.grip → o ≡ Some n → MayReturn v n x
  drawn_returns n o held is = (drawn.grip, drawn_number n o held is, drawn_home)

  drawn_unwritten : (freed v drawn.grip x).wrote ≡ false
  drawn_unwritten = not_written v drawn.grip x drawn.holds.phase drawn.commands drawn.unwritten

  drawn_not_found : (freed v drawn.grip x).found_empty ≡ false
  drawn_not_found = not_found v drawn.grip x drawn.holds.phase drawn.noted drawn.drawn drawn.not_found

  drawn_behind : IsWorker (one_carried_out c) (freed v drawn.grip x)
  drawn_behind = record {
    fits = let f = may.worker.fits in record {
      thread = f.thread;
      settings = f.settings;
      script = f.script;
      place = let p = f.place in omega (arith, p);
      quota = let q = f.quota in omega (arith, q);
      epoch = f.epoch;
      wrote = f.wrote ∙ drawn.unwritten ∙ sym drawn_unwritten;
      found_empty = f.found_empty ∙ drawn.not_found ∙ sym drawn_not_found;
      marks = f.marks;
    };
    within = let i = may.worker.within in record {
      valid = i.valid;
      thread = i.thread;
      short = i.short;
      position = let p = i.position in omega (arith, p);
      quota = let q = i.quota in omega (arith, q);
    };
    hand = holds_none v drawn.grip x drawn.holds.phase;
    told = told_none (one_carried_out c) (freed v drawn.grip x) drawn.holds.phase drawn_unwritten (λ found. absurd (not_both (freed v drawn.grip x).found_empty drawn_not_found found));
    run = runs_on v drawn.grip x drawn.holds.phase may.worker.run;
    least =
        let e = least_running v.phase v.given_back (freed v drawn.grip x) false drawn.holds.phase (may.worker.run.given may.on) drawn_unwritten in
        let l = may.worker.least in
        omega (arith, e, l);
    most =
        let e = most_running c.settings v.phase v.given_back (freed v drawn.grip x) false false drawn.holds.phase (may.worker.run.given may.on) drawn_not_found drawn_unwritten in
        let l = may.worker.most in
        omega (arith, e, l);
  }

  module _ (r : ℕ) (u : Option Told) (w : View) (done : Unlocked v t r x w u) (d : WorkerState) (is : d ≡ one_carried_out c) where
    pub drawn_keeps : IsWorker d w
    drawn_keeps = subst (λ (e : WorkerState). IsWorker e w) (sym is) (subst (IsWorker (one_carried_out c)) (sym (done.view drawn.grip drawn.holds.held)) drawn_behind)

-- THE QUEUE ROOM, WHICH A TAKE FOUND EMPTY.

module _ (c : WorkerState) (x : Room) (v : View) (t : Option Told) (may : MayTakeRow c (NoItem x) v t) where
  abbrev none_in : FindsNone x v
  none_in = may.worker.hand

  low : none_in.grip.room ≤ (sizes_known v).shards
  low = let q = none_in.queue in omega (arith, q)

  -- by the worker's settings
  queue_number : none_in.grip.room ≡ c.settings.shards
  queue_number = none_in.queue ∙ sym (ap (λ (s : Settings). s.shards) may.worker.fits.settings)

  take_home : MayUnlock v none_in.grip x
  take_home = rests_goes_home v none_in.grip x may.on none_in.holds.phase none_in.holds.held low none_in.holds.in_hand

  pub take_returns : (r : ℕ) → r ≡ c.settings.shards → MayReturn v r x
  take_returns r is = (none_in.grip, queue_number ∙ sym is, take_home)

  take_unwritten : (freed v none_in.grip x).wrote ≡ false
  take_unwritten = not_written v none_in.grip x none_in.holds.phase low none_in.unwritten

  take_found : (freed v none_in.grip x).found_empty ≡ true
  take_found = found_empty v none_in.grip x none_in.holds.phase none_in.queue none_in.none_drawn none_in.empty

  take_behind : IsWorker (with_none_found c) (freed v none_in.grip x)
  take_behind = record {
    fits = let f = may.worker.fits in record {
      thread = f.thread;
      settings = f.settings;
      script = f.script;
      place = f.place;
      quota = f.quota;
      epoch = f.epoch;
      wrote = f.wrote ∙ none_in.unwritten ∙ sym take_unwritten;
      found_empty = sym take_found;
      marks = f.marks;
    };
    within = let i = may.worker.within in record { valid = i.valid; thread = i.thread; short = i.short; position = i.position; quota = i.quota };
    hand = holds_none v none_in.grip x none_in.holds.phase;
    told = told_none (with_none_found c) (freed v none_in.grip x) none_in.holds.phase take_unwritten (λ found. none_in.next);
    run = runs_on v none_in.grip x none_in.holds.phase may.worker.run;
    least =
        let e = least_running v.phase v.given_back (freed v none_in.grip x) false none_in.holds.phase (may.worker.run.given may.on) take_unwritten in
        let l = may.worker.least in
        omega (arith, e, l);
    most =
        let e = most_running c.settings v.phase v.given_back (freed v none_in.grip x) true false none_in.holds.phase (may.worker.run.given may.on) take_found take_unwritten in
        let l = may.worker.most in
        omega (arith, e, l);
  }

  module _ (r : ℕ) (u : Option Told) (w : View) (done : Unlocked v t r x w u) (d : WorkerState) (is : d ≡ with_none_found c) where
    pub take_keeps : IsWorker d w
    take_keeps = subst (λ (e : WorkerState). IsWorker e w) (sym is) (subst (IsWorker (with_none_found c)) (sym (done.view none_in.grip none_in.holds.held)) take_behind)

-- THE THREAD'S OWN ROOM, WITH ITS RESTART POINT WRITTEN.

module _ (c : WorkerState) (x : Room) (v : View) (t : Option Told) (may : MayTakeRow c (Own x) v t) where
  abbrev writes : WritesOwn c.end x v
  writes = may.worker.hand

  -- by the worker's settings and thread
  own_number : writes.grip.room ≡ thread_room (sizes_of c.settings) c.thread
  own_number = writes.own ∙ sym (ap (λ (s : Settings). thread_room (sizes_of s) v.thread) may.worker.fits.settings) ∙ sym (ap (thread_room (sizes_of c.settings)) may.worker.fits.thread)

  module _ (left : stores_left x ≡ 0) where
    own_home : MayUnlock v writes.grip x
    own_home = point_goes_home v writes.grip x c.end may.on writes.holds.phase writes.holds.held writes.own writes.end_is writes.holds.in_hand left

    pub own_returns : (r : ℕ) → r ≡ thread_room (sizes_of c.settings) c.thread → MayReturn v r x
    own_returns r is = (writes.grip, own_number ∙ sym is, own_home)

    own_written : (freed v writes.grip x).wrote ≡ true
    own_written = is_written v writes.grip x writes.holds.phase writes.own

    own_found : (freed v writes.grip x).found_empty ≡ v.found_empty
    own_found = found_as v writes.grip x writes.holds.phase writes.own

    own_behind : IsWorker (with_own_written c) (freed v writes.grip x)
    own_behind = record {
      fits = let f = may.worker.fits in record {
        thread = f.thread;
        settings = f.settings;
        script = f.script;
        place = f.place;
        quota = f.quota;
        epoch = f.epoch;
        wrote = sym own_written;
        found_empty = f.found_empty ∙ sym own_found;
        marks = f.marks;
      };
      within = let i = may.worker.within in record { valid = i.valid; thread = i.thread; short = i.short; position = i.position; quota = i.quota };
      hand = holds_none v writes.grip x writes.holds.phase;
      told = record {
        standing = λ stands. absurd (stands writes.holds.phase);
        written = λ _. (writes.end_is, subst (λ (b : Bool). HasCause v.quota b (next_of v)) (sym own_found) writes.cause);
        waits = λ _ whole. writes.waits whole;
        stood = λ stands. absurd (stands_not v.phase stands writes.holds.phase);
        found = λ is. may.worker.told.found (sym own_found ∙ is);
      };
      run = runs_on v writes.grip x writes.holds.phase may.worker.run;
      least =
          let e = least_running v.phase v.given_back (freed v writes.grip x) true writes.holds.phase (may.worker.run.given may.on) own_written in
          let l = may.worker.least in
          omega (arith, e, l, left);
      most =
          let e = most_running c.settings v.phase v.given_back (freed v writes.grip x) v.found_empty true writes.holds.phase (may.worker.run.given may.on) own_found own_written in
          let l = may.worker.most in
          omega (arith, e, l, left);
    }

    module _ (r : ℕ) (u : Option Told) (w : View) (done : Unlocked v t r x w u) (d : WorkerState) (is : d ≡ with_own_written c) where
      pub own_keeps : IsWorker d w
      own_keeps = subst (λ (e : WorkerState). IsWorker e w) (sym is) (subst (IsWorker (with_own_written c)) (sym (done.view writes.grip writes.holds.held)) own_behind)

-- The next command's room is locked, and the command begins, or waits for the lock, or there is no memory for it.
use Rattle.std.proofs.Common.{◌≡◌, ℕ, ◌+◌, ◌<◌, ◌≤◌, ◌==◌, ◌&&◌, Bool, true, false, List, [], ◌∷◌, length, map, Option, Some, None, Result, refl, ap, sym, ◌∙◌, subst, arith, inl, inr, get_or}
use Rattle.std.specs.Prelude.{slice_get, not, nat_lt}
use Rattle.std.specs.declared.alloc.AllocError.{AllocError}
use Rattle.std.proofs.lemmas.Bool.{MatchBool-at_true, ltb-true, eq-eqb, and_parts, not-true, false_from_ne_true}
use Rattle.std.proofs.lemmas.Option.{slice_get_read}
use Rattle.seq_object.specs.declared.command.Command.{Command}
use Rattle.seq_object.specs.declared.command.Command.TheVariants.{Put, Get, Del, Enq, Deq, Take}
use Rattle.seq_object.specs.declared.command.Reply.{Reply}
use Rattle.seq_object.specs.declared.sizes.Sizes.{Sizes}
use Rattle.seq_object.specs.declared.settings.Settings.{Settings}
use Rattle.seq_object.specs.Sizes.{sizes_of}
use Rattle.seq_object.specs.Object.{Contents, room_of, reply_to, take_reply, shard_pairs}
use Rattle.room_model.specs.Chains.{RoomWords, IsChain}
use Rattle.room_model.specs.MapRoom.{live_layout, IsMapRoom}
use Rattle.room_model.specs.QueueRoom.{IsQueueRoom}
use Rattle.rooms.specs.declared.room.Room.{Room}
use Rattle.rooms.specs.declared.room.Room.TheVariants.{Map, Queue, Thread, Super}
use Rattle.rooms.specs.Rooms.{HasCells, IsKindOf, is_empty_queue, words_of, loads, state_of}
use Rattle.yard_model.specs.declared.view.Phase.{Phase}
use Rattle.yard_model.specs.declared.view.Phase.TheVariants.{Running}
use Rattle.yard_model.specs.declared.view.View.{View}
use Rattle.yard_model.specs.declared.view.Grip.{Grip}
use Rattle.yard_model.specs.declared.view.Look.{Look}
use Rattle.yard_model.specs.declared.view.OwnMark.{OwnMark}
use Rattle.yard_model.specs.Knows.{sizes_known, place_of, next_of, MayHold, HasCause}
use Rattle.yard_model.specs.Views.{grip_on, gripped, looked, turned_off}
use Rattle.line_memory.specs.Line.{counted}
use Rattle.room_yard.specs.Told.{Told}
use Rattle.room_yard.specs.Answers.{Locked}
use Rattle.room_in_hand.specs.Known.{Knowledge, knows}
use Rattle.room_in_hand.specs.InHand.{resting, working, IsInHand}
use Rattle.room_in_hand.specs.Working.{MayBeginIn, begun_command_use}
use Rattle.room_in_hand.specs.Laws.{IsOfItsType}
use Rattle.room_in_hand.proofs.Given.{given_rests, free_whole}
use Rattle.room_in_hand.proofs.Moves.{rests_by_loads}
use Rattle.worker_model.specs.declared.hand.Hand.{Hand}
use Rattle.worker_model.specs.declared.hand.Hand.TheVariants.{Empty, Commands, NoItem, Refused}
use Rattle.worker_model.specs.declared.hand.Turn.{Turn}
use Rattle.worker_model.specs.Counts.{when, least_empty, most_empty, least_of_hand, most_of_hand}
use Rattle.worker_model.specs.Workers.{WorkerState, HandFits, ahead, IsWorker, MarksFollow}
use Rattle.worker_model.specs.Turns.{with_hand, did, at_gate, may_command, begun_hand, BeginsBy, LocksForCommand}
use Rattle.worker.specs.Rows.{MayTakeRow}
use Rattle.worker.specs.declared.commands.Begun.{Begun}
use Rattle.worker.specs.declared.commands.Begun.TheVariants.{Goes, Waits, Starves as StarvesOf}
use Rattle.worker.specs.Begun.{BeginsIn, MayBeginAt, Taken, BeginsAt, Takes}

-- UNDER ITS LOCK.

-- a room of commands has cells
has_cells : (s : Settings) (r : ℕ) (x : Room) → r ≤ s.shards → IsKindOf s r x → HasCells x
has_cells s r (Map x) low kind = tt
has_cells s r (Queue x) low kind = tt
has_cells s r (Thread x) low kind = tt
has_cells s r (Super x) low kind = let k = kind in absurd (omega (arith, low, k))

module _ (number epoch : ℕ) (command : Command) (v : View) (may : MayBeginAt number epoch command v) (x : Room) (t u : Option Told) (w : View) (locked : Locked v t number x w u) (of_type : IsOfItsType x) where
  abbrev taken : Taken number x v t w u
  taken = record {
    locked = locked;
    rests = given_rests v number x locked.covered (has_cells v.beginning.settings number x may.commands locked.given.room.kind) of_type locked.given;
  }

  -- the room rests in hand, and its command may begin
  pub may_begin_in : MayBeginIn epoch command x
  may_begin_in = record {
    known = knows (gripped v number x locked.covered) (grip_on v number x locked.covered);
    epoch_is = may.epoch_is;
    here = may.here;
    commands = may.commands;
    rests = taken.rests;
  }

  pub begins_at : (begun : Begun) (z : View) (s : Option Told) → BeginsIn begun epoch command x w u z s → BeginsAt begun number epoch command v t z s
  begins_at (Goes reply y) z s is = record {
    room = x;
    taken = subst (λ (b : View). Taken number x v t b s) (sym is.1) (subst (λ (b : Option Told). Taken number x v t w b) (sym is.2) taken);
    answers = is.0;
  }
  begins_at (Waits held) z s is = absurd is
  begins_at (StarvesOf y error) z s is = record { room = x; between = w; told = u; taken = taken; lacks = is }

-- A TAKE OF THE EMPTY QUEUE has no reply, and nothing else has none.

no_items : (items : List ℕ) → None ≡ take_reply items → items ≡ []
no_items [] is = refl
no_items (item ∷ items) is = absurd (cc)

no_reply : (z : Sizes) (c : Contents) (command : Command) → None ≡ reply_to z c command → (command ≡ Take) × (c.items ≡ [])
no_reply z c (Put key value) is = absurd (cc)
no_reply z c (Get key) is = absurd (cc)
no_reply z c (Del key) is = absurd (cc)
no_reply z c (Enq value) is = absurd (cc)
no_reply z c Deq is = absurd (cc)
no_reply z c Take is = (refl, no_items c.items is)

-- a queue room that stands for no item names no first line
no_chain : (r : RoomWords) (chain : List ℕ) → [] ≡ map (λ x. r x 0) chain → IsChain (λ x. r x 1) (r 1 0) chain → r 1 0 ≡ 0
no_chain r [] listed chained = chained
no_chain r (x ∷ chain) listed chained = absurd (cc)

no_first : (z : Sizes) (r : RoomWords) (items : List ℕ) → items ≡ [] → IsQueueRoom z r items → r 1 0 ≡ 0
no_first z r items none stands = no_chain r stands.chain (sym none ∙ stands.listed) stands.chained

-- so a queue room at rest is empty where the object has no item
rests_empty : (k : Knowledge) (y : Room) → IsInHand resting k y → k.room ≡ k.settings.shards → k.now.items ≡ [] → is_empty_queue y ≡ true
rests_empty k y rests queue none = eq-eqb (loads y 1 0) 0 (ap (λ (r : RoomWords). r 1 0) (sym by_loads) ∙ no_first (sizes_of k.settings) (words_of y) k.now.items none stands)
  where
    by_loads : words_of y ≡ loads y
    by_loads = rests_by_loads y rests.used.0.idle (free_whole k.epoch false (state_of y) rests.used.1)

    stands : IsQueueRoom (sizes_of k.settings) (words_of y) k.now.items
    stands = MatchBool-at_true {b = k.room == k.settings.shards} (IsQueueRoom (sizes_of k.settings) (words_of y) k.now.items) (IsMapRoom live_layout (sizes_of k.settings) k.room (words_of y) (shard_pairs (sizes_of k.settings) k.room k.now.pairs))
        (eq-eqb k.room k.settings.shards queue) (rests.used.0.stands (omega (arith, queue)))

-- THE WORKER that begins its next command.

-- but for the leave it did nothing since its last entry
least_running : (v : View) → v.phase ≡ Running → v.given_back ≡ None → v.wrote ≡ false → least_empty v.phase v.given_back v ≡ 1
least_running v running none unwritten = (λ j. least_empty (running j) (none j) v) ∙ ap (λ (b : Bool). 1 + when 7 b) unwritten

most_running : (s : Settings) (v : View) → v.phase ≡ Running → v.given_back ≡ None → v.found_empty ≡ false → v.wrote ≡ false → most_empty s v.phase v.given_back v ≡ 1
most_running s v running none not_found unwritten = (λ j. most_empty s (running j) (none j) v) ∙ (λ j. 1 + when 2 (not_found j) + when 7 (unwritten j))

-- a command's room is that of a shard or the queue's
low_room : (z : Sizes) (command : Command) → 1 ≤ z.shards → room_of z command ≤ z.shards
low_room z (Put key value) some = omega (arith, some)
low_room z (Get key) some = omega (arith, some)
low_room z (Del key) some = omega (arith, some)
low_room z (Enq value) some = omega (arith)
low_room z Deq some = omega (arith)
low_room z Take some = omega (arith)

-- the view with these in hand, seen off and looked
abbrev with_these : View → Option Grip → Bool → Bool → ℕ → Look → View
with_these v grip off called looks look = record v { grip = grip; saw_off = off; called_off = called; looks = looks; look = look }

-- the worker past the gate with this hand, and so many events done
abbrev past_gate : WorkerState → Hand → ℕ → WorkerState
past_gate c hand done = record c { passed = true; hand = hand; done = done }

module _ (c : WorkerState) (v : View) (t : Option Told) (may : MayTakeRow c Empty v t) (running : v.phase ≡ Running) (some : may_command c ≡ true) where
  both : (nat_lt 0 c.quota ≡ true) × ((nat_lt c.position (length c.commands) && not c.found_empty) ≡ true)
  both = and_parts (nat_lt 0 c.quota) (nat_lt c.position (length c.commands) && not c.found_empty) some

  both_more : (nat_lt c.position (length c.commands) ≡ true) × (not c.found_empty ≡ true)
  both_more = and_parts (nat_lt c.position (length c.commands)) (not c.found_empty) both.1

  pub some_left : c.position < length c.commands
  some_left = ltb-true c.position (length c.commands) both_more.0

  some_quota : 0 < v.quota
  some_quota = let a = ltb-true 0 c.quota both.0 in let q = may.worker.fits.quota in omega (arith, a, q)

  not_found : v.found_empty ≡ false
  not_found = sym may.worker.fits.found_empty ∙ not-true c.found_empty both_more.1

  next_here : slice_get c.commands c.position ≡ next_of v
  next_here =
      let p = may.worker.fits.place in
      let place : c.position ≡ place_of v = omega (arith, p) in
      λ j. slice_get (may.worker.fits.script j) (place j)

  module _ (command : Command) (found : slice_get c.commands c.position ≡ Some command) where
    next_now : next_of v ≡ Some command
    next_now = sym next_here ∙ found

    no_cause : HasCause v.quota v.found_empty (next_of v) → ⊥
    no_cause (inl none) = let q = some_quota in omega (arith, q, none)
    no_cause (inr (inl used)) = let n = next_now in absurd (cc (n, used))
    no_cause (inr (inr empty)) = let n = not_found in absurd (cc (n, empty.1))

    -- its own room was not written yet
    unwritten : v.wrote ≡ false
    unwritten = false_from_ne_true v.wrote (λ wrote. no_cause (may.worker.told.written wrote).1)

    none_given : v.given_back ≡ None
    none_given = may.worker.run.given may.on

    least_before : least_empty v.phase v.given_back v ≡ 1
    least_before = least_running v running none_given unwritten

    most_before : most_empty c.settings v.phase v.given_back v ≡ 1
    most_before = most_running c.settings v running none_given not_found unwritten

    abbrev number : ℕ
    number = room_of (sizes_of c.settings) command

    number_is : room_of (sizes_known v) command ≡ number
    number_is = ap (λ (s : Settings). room_of (sizes_of s) command) (sym may.worker.fits.settings)

    low_number : number ≤ (sizes_known v).shards
    low_number = let l = low_room (sizes_of c.settings) command may.worker.within.valid.sizes.some_shards in let s = ap (λ (s : Settings). s.shards) may.worker.fits.settings in omega (arith, l, s)

    pub may_begin_at : MayBeginAt number c.epoch command v
    may_begin_at = record {
      may = record {
        on = may.on;
        nothing_held = may.worker.hand.none;
        may_hold = subst (λ (p : Phase). MayHold (sizes_known v) v.thread p v.closed.rooms number) (sym running) (inl low_number);
        within = let l = low_number in omega (arith, l);
      };
      epoch_is = sym may.worker.fits.epoch;
      here = number_is;
      commands = low_number;
    }

    module _ (hand : Hand) (done : ℕ) (grip : Option Grip) (off called : Bool) (looks : ℕ) (look : Look) (level : ahead hand ≡ 0) where
      abbrev d : WorkerState
      d = past_gate c hand done

      abbrev w : View
      w = with_these v grip off called looks look

      lock_keeps : HandFits d hand w → least_of_hand hand w + c.done ≤ done + 1 → done + 1 ≤ c.done + most_of_hand c.settings hand w → IsWorker d w
      lock_keeps fits low high = record {
        fits = record {
          thread = may.worker.fits.thread;
          settings = may.worker.fits.settings;
          script = may.worker.fits.script;
          place = let p = may.worker.fits.place in omega (arith, p, level);
          quota = let q = may.worker.fits.quota in omega (arith, q, level);
          epoch = may.worker.fits.epoch;
          wrote = may.worker.fits.wrote;
          found_empty = may.worker.fits.found_empty;
          marks = may.worker.fits.marks;
        };
        within = record {
          valid = may.worker.within.valid;
          thread = may.worker.within.thread;
          short = may.worker.within.short;
          position = let p = may.worker.within.position in omega (arith, p, level);
          quota = may.worker.within.quota;
        };
        hand = fits;
        told = record {
          standing = may.worker.told.standing;
          written = may.worker.told.written;
          waits = may.worker.told.waits;
          stood = may.worker.told.stood;
          found = may.worker.told.found;
        };
        run = record {
          first = may.worker.run.first;
          last = may.worker.run.last;
          running = may.worker.run.running;
          given = λ is. none_given;
        };
        least = let l = may.worker.least in let b = least_before in omega (arith, l, b, low);
        most = let m = may.worker.most in let b = most_before in omega (arith, m, b, high);
      }

    -- THE LOCK IS HELD.
    waits_keeps : (word by : ℕ) → IsWorker (at_gate c) (looked v word by)
    waits_keeps word by = subst (λ (h : Hand). IsWorker (past_gate c h c.done) (looked v word by)) (sym may.taken)
        (lock_keeps Empty c.done v.grip v.saw_off v.called_off (counted v.looks) (record { word = word; found = by }) refl
        (record { none = may.worker.hand.none; closing = may.worker.hand.closing })
        (let b = least_running (looked v word by) running none_given unwritten in omega (arith, b))
        (let b = most_running c.settings (looked v word by) running none_given not_found unwritten in omega (arith, b)))

    -- THE ROOM IS LOCKED.
    module _ (x : Room) (covered : ℕ) where
      abbrev grip : Grip
      grip = grip_on v number x covered

      abbrev with_room : View
      with_room = gripped v number x covered

      abbrev known : Knowledge
      known = knows with_room grip

      -- with a reply the command is under way
      goes_keeps : (reply : Reply) (y : Room) → IsInHand (working (record { command = command; reply = reply })) known y → IsWorker (did (at_gate c) (Commands reply y)) with_room
      goes_keeps reply y in_hand = lock_keeps (Commands reply y) (c.done + 1) (Some grip) v.saw_off v.called_off v.looks v.look refl
          (record {
            grip = grip;
            command = command;
            holds = record { phase = running; held = refl; in_hand = in_hand };
            next = next_now;
            none_drawn = refl;
            quota = some_quota;
            unwritten = unwritten;
            not_found = not_found;
          })
          (omega arith) (omega arith)

      -- without one the queue is empty
      none_keeps : (y : Room) → None ≡ reply_to (sizes_known v) known.now command → IsInHand resting known y → IsWorker (did (at_gate c) (NoItem y)) with_room
      none_keeps y none in_hand = lock_keeps (NoItem y) (c.done + 1) (Some grip) v.saw_off v.called_off v.looks v.look refl
          (record {
            grip = grip;
            holds = record { phase = running; held = refl; in_hand = in_hand };
            queue = at_queue;
            empty = rests_empty known y in_hand at_queue why.1;
            next = next_now ∙ ap (λ (a : Command). Some a) why.0;
            none_drawn = refl;
            quota = some_quota;
            unwritten = unwritten;
            not_found = not_found;
          })
          (omega arith) (omega arith)
        where
          why : (command ≡ Take) × (known.now.items ≡ [])
          why = no_reply (sizes_known v) known.now command none

          at_queue : number ≡ (sizes_known v).shards
          at_queue = sym number_is ∙ ap (room_of (sizes_known v)) why.0

      -- without memory the power is off
      lacks_keeps : (y : Room) → IsInHand resting known y → IsWorker (with_hand (at_gate c) (Refused y)) (turned_off with_room)
      lacks_keeps y in_hand = lock_keeps (Refused y) c.done (Some grip) true true v.looks v.look refl
          (record { grip = grip; holds = record { phase = running; held = refl; in_hand = in_hand }; off = refl })
          (omega arith) (omega arith)

      answers_keeps : (reply : Option Reply) (y : Room) → reply ≡ reply_to (sizes_known v) known.now command → IsInHand (begun_command_use command reply) known y → IsWorker (did (at_gate c) (begun_hand reply y)) with_room
      answers_keeps (Some reply) y is in_hand = goes_keeps reply y in_hand
      answers_keeps None y is in_hand = none_keeps y is in_hand

    -- WHAT CAME OF IT.
    pub begun_keeps : (begun : Begun) (r : Result Turn AllocError) (d : WorkerState) (w : View) (u : Option Told) → BeginsAt begun number c.epoch command v t w u → Takes begun (at_gate c) r d → IsWorker d w
    begun_keeps (Goes reply y) r d w u is takes =
        let l = is.taken.locked in
        let k = knows (gripped v number is.room l.covered) (grip_on v number is.room l.covered) in
        subst (λ (b : WorkerState). IsWorker b w) (sym takes.1) (subst (IsWorker (did (at_gate c) (begun_hand reply y))) (sym l.view)
        (answers_keeps is.room l.covered reply y (is.answers.reply_is k number_is is.taken.rests) (is.answers.kept k (sym may.worker.fits.epoch) number_is is.taken.rests)))
    begun_keeps (Waits held) r d w u is takes =
        subst (λ (b : WorkerState). IsWorker b w) (sym takes.1) (subst (IsWorker (at_gate c)) (sym is.view) (waits_keeps (3 + number) held.by))
    begun_keeps (StarvesOf y error) r d w u is takes =
        let l = is.taken.locked in
        let k = knows (gripped v number is.room l.covered) (grip_on v number is.room l.covered) in
        subst (λ (b : WorkerState). IsWorker b w) (sym takes.1) (subst (IsWorker (with_hand (at_gate c) (Refused y))) (sym (is.lacks.off.view ∙ ap turned_off l.view))
        (lacks_keeps is.room l.covered y (is.lacks.rests k (sym may.worker.fits.epoch) is.taken.rests)))

    turn_by : (begun : Begun) (r : Result Turn AllocError) (d : WorkerState) (w : View) (u : Option Told) → BeginsAt begun number c.epoch command v t w u → Takes begun (at_gate c) r d → BeginsBy r command c v t d w u
    turn_by (Goes reply y) r d w u is takes = subst (λ (a : Result Turn AllocError). BeginsBy a command c v t d w u) (sym takes.0)
        (record { taken = is.room; room = y; reply = reply; locked = is.taken.locked; begun = is.answers.begun; worker = takes.1 })
    turn_by (Waits held) r d w u is takes = subst (λ (a : Result Turn AllocError). BeginsBy a command c v t d w u) (sym takes.0) (record { waits = is; worker = takes.1 })
    turn_by (StarvesOf y error) r d w u is takes = subst (λ (a : Result Turn AllocError). BeginsBy a command c v t d w u) (sym takes.0)
        (record { taken = is.room; room = y; between = is.between; told = is.told; locked = is.taken.locked; off = is.lacks.off; worker = takes.1 })

    pub begun_turn : (begun : Begun) (r : Result Turn AllocError) (d : WorkerState) (w : View) (u : Option Told) → BeginsAt begun number c.epoch command v t w u → Takes begun (at_gate c) r d → LocksForCommand c v t r d w u
    begun_turn begun r d w u is takes = record { command = command; next = found; begins = turn_by begun r d w u is takes }

    pub begun_marks : (begun : Begun) (r : Result Turn AllocError) (d : WorkerState) → Takes begun (at_gate c) r d → d.marks ≡ c.marks
    begun_marks (Goes reply y) r d takes = ap (λ (b : WorkerState). b.marks) takes.1
    begun_marks (Waits held) r d takes = ap (λ (b : WorkerState). b.marks) takes.1
    begun_marks (StarvesOf y error) r d takes = ap (λ (b : WorkerState). b.marks) takes.1

-- AS THE TURN READS IT: k is the worker c with its fields, the command is what stands in its script, and p is the worker past the gate.
module _ (c k : WorkerState) (same : k ≡ c) (v : View) (t : Option Told) (may : MayTakeRow c Empty v t) (running : v.phase ≡ Running) (some : may_command c ≡ true)
    (command : Command) (read : command ≡ get_or k.commands k.position command) (number : ℕ) (is_number : number ≡ room_of (sizes_of k.settings) command) where
  may_too : MayTakeRow k Empty v t
  may_too = subst (λ (b : WorkerState). MayTakeRow b Empty v t) (sym same) may

  some_too : may_command k ≡ true
  some_too = ap may_command same ∙ some

  found_there : slice_get k.commands k.position ≡ Some command
  found_there = slice_get_read k.commands (length k.commands) k.position command refl (some_left k v t may_too running some_too) read

  pub lock_may : MayBeginAt number k.epoch command v
  lock_may = subst (λ (n : ℕ). MayBeginAt n k.epoch command v) (sym is_number) (may_begin_at k v t may_too running some_too command found_there)

  module _ (p : WorkerState) (past : p ≡ at_gate c) (begun : Begun) (r : Result Turn AllocError) (d : WorkerState) (w : View) (u : Option Told) (is : BeginsAt begun number k.epoch command v t w u) (takes : Takes begun p r d) where
    is_too : BeginsAt begun (room_of (sizes_of k.settings) command) k.epoch command v t w u
    is_too = subst (λ (n : ℕ). BeginsAt begun n k.epoch command v t w u) is_number is

    takes_too : Takes begun (at_gate k) r d
    takes_too = subst (λ (b : WorkerState). Takes begun b r d) (past ∙ ap at_gate (sym same)) takes

    pub lock_worker : IsWorker d w
    lock_worker = begun_keeps k v t may_too running some_too command found_there begun r d w u is_too takes_too

    pub lock_turn : LocksForCommand c v t r d w u
    lock_turn = subst (λ (b : WorkerState). LocksForCommand b v t r d w u) same (begun_turn k v t may_too running some_too command found_there begun r d w u is_too takes_too)

    pub lock_marks : (before after : Option (List OwnMark)) → after ≡ before → MarksFollow before after c.marks d.marks
    lock_marks before after told = inl (told, begun_marks k v t may_too running some_too command found_there begun r d takes_too ∙ ap (λ (b : WorkerState). b.marks) same)

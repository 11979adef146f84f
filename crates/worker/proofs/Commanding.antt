-- A command under way: its next store is made, or its entry is drawn.
use Rattle.std.proofs.Common.{◌≡◌, ℕ, ◌+◌, ◌<◌, ◌≤◌, List, [], ◌∷◌, ◌++◌, length, Option, Some, Ok, refl, ap, sym, ◌∙◌, subst, arith, inl, append-nil, length-append, get_or}
use Rattle.std.specs.Prelude.{slice_get, option_to_list}
use Rattle.std.proofs.lemmas.Option.{slice_get_within, slice_get_read}
use Rattle.seq_object.specs.declared.command.Command.{Command}
use Rattle.seq_object.specs.declared.command.Reply.{Reply}
use Rattle.seq_object.specs.declared.history.Entry.{Entry}
use Rattle.seq_object.specs.declared.history.Noted.{Noted}
use Rattle.seq_object.specs.Sizes.{sizes_of}
use Rattle.seq_object.specs.Object.{room_of, reply_to}
use Rattle.command_room.specs.declared.under_way.UnderWay.{UnderWay}
use Rattle.rooms.specs.declared.room.Room.{Room}
use Rattle.rooms.specs.declared.room.Room.TheVariants.{Map, Queue, Thread, Super}
use Rattle.yard_model.specs.declared.view.View.{View}
use Rattle.yard_model.specs.Entries.{placed, entries_of}
use Rattle.yard_model.specs.Knows.{sizes_known, place_of, next_of}
use Rattle.yard_model.specs.Views.{drew, with_drawn}
use Rattle.yard_model.specs.Conditions.{behind}
use Rattle.room_yard.specs.Told.{Told}
use Rattle.room_yard.specs.Calls.{MayDrawEntry}
use Rattle.room_yard.specs.Answers.{Drew}
use Rattle.room_in_hand.specs.Known.{Knowledge, knows, with_noted}
use Rattle.room_in_hand.specs.InHand.{resting, working, IsInHand, WorksAt}
use Rattle.room_in_hand.specs.Working.{stores_left, stored, MayStore, under_way_in, entry_noted}
use Rattle.room_in_hand.proofs.Running.{drawn_knows}
use Rattle.worker_model.specs.declared.hand.Hand.TheVariants.{Commands, Drawn}
use Rattle.worker_model.specs.declared.hand.Turn.{Turn}
use Rattle.worker_model.specs.declared.hand.Turn.TheVariants.{Did}
use Rattle.worker_model.specs.Workers.{WorkerState, IsCommanding, HasDrawn, IsWorker}
use Rattle.worker_model.specs.Turns.{did, entry_of, DoesAlone, Draws}
use Rattle.worker.specs.Rows.{MayTakeRow}

-- THE ROOM, whatever its kind.

abbrev under_of : Command → Reply → UnderWay
under_of command reply = record { command = command; reply = reply }

pub record IsAtWork (under : UnderWay) (k : Knowledge) (x : Room) : Type 0 where
  pub going : under_way_in x ≡ Some under
  pub here : room_of (sizes_of k.settings) under.command ≡ k.room
  pub reply : reply_to (sizes_of k.settings) k.now under.command ≡ Some under.reply
  pub few_left : stores_left x ≤ 22

at_work : (under : UnderWay) (k : Knowledge) (x : Room) → WorksAt under k x → IsAtWork under k x
at_work under k (Map s) w = record { going = w.going; here = w.here; reply = w.reply; few_left = w.few_left }
at_work under k (Queue s) w = record { going = w.going; here = w.here; reply = w.reply; few_left = w.few_left }
at_work under k (Thread s) w = absurd w
at_work under k (Super s) w = absurd w

-- it is a room of commands
low_room : (under : UnderWay) (k : Knowledge) (x : Room) → IsInHand (working under) k x → k.room ≤ k.settings.shards
low_room under k (Map s) i = let a = i.kept.room.kind.0 in omega (arith, a)
low_room under k (Queue s) i = let a = i.kept.room.kind.0 in omega (arith, a)
low_room under k (Thread s) i = absurd i.used
low_room under k (Super s) i = absurd i.used

one_entry_more : (ns : List Noted) (n : Noted) → length (entries_of (ns ++ n ∷ [])) ≡ length (entries_of ns) + 1
one_entry_more [] n = refl
one_entry_more (m ∷ ns) n = let r = one_entry_more ns n in omega (arith, r)

module _ (c : WorkerState) (reply : Reply) (x : Room) (v : View) (t : Option Told) (may : MayTakeRow c (Commands reply x) v t) where
  abbrev going : IsCommanding reply x v
  going = may.worker.hand

  -- ITS NEXT STORE.

  pub may_store : MayStore x
  may_store = inl (knows v going.grip, under_of going.command reply, going.holds.in_hand)

  module _ (y : Room) (fewer : stores_left x ≡ stores_left y + 1) (kept : (k : Knowledge) (under : UnderWay) → IsInHand (working under) k x → IsInHand (working under) k y) where
    still_going : IsCommanding reply y v
    still_going = record {
      grip = going.grip;
      command = going.command;
      holds = record { phase = going.holds.phase; held = going.holds.held; in_hand = kept (knows v going.grip) (under_of going.command reply) going.holds.in_hand };
      next = going.next;
      none_drawn = going.none_drawn;
      quota = going.quota;
      unwritten = going.unwritten;
      not_found = going.not_found;
    }

    pub store_keeps : IsWorker (did c (Commands reply y)) v
    store_keeps = record {
      fits = record {
        thread = may.worker.fits.thread;
        settings = may.worker.fits.settings;
        script = may.worker.fits.script;
        place = may.worker.fits.place;
        quota = may.worker.fits.quota;
        epoch = may.worker.fits.epoch;
        wrote = may.worker.fits.wrote;
        found_empty = may.worker.fits.found_empty;
        marks = may.worker.fits.marks;
      };
      within = record {
        valid = may.worker.within.valid;
        thread = may.worker.within.thread;
        short = may.worker.within.short;
        position = may.worker.within.position;
        quota = may.worker.within.quota;
      };
      hand = still_going;
      told = record {
        standing = may.worker.told.standing;
        written = may.worker.told.written;
        waits = may.worker.told.waits;
        stood = may.worker.told.stood;
        found = may.worker.told.found;
      };
      run = may.worker.run;
      least = let l = may.worker.least in omega (arith, l);
      most =
          let m = may.worker.most in
          let f = (at_work (under_of going.command reply) (knows v going.grip) x going.holds.in_hand.used).few_left in
          omega (arith, m, f, fewer);
    }

  -- the clauses of a store
  pub stored_keeps : (y : Room) (d : WorkerState) → y ≡ stored x → stores_left x ≡ stores_left y + 1 → ((k : Knowledge) (under : UnderWay) → IsInHand (working under) k x → IsInHand (working under) k y)
      → d ≡ did c (Commands reply y) → IsWorker d v
  stored_keeps y d is fewer kept made = subst (λ (e : WorkerState). IsWorker e v) (sym made) (store_keeps y fewer kept)

  pub stored_turn : (y : Room) (d : WorkerState) (r : Turn) → y ≡ stored x → d ≡ did c (Commands reply y) → r ≡ Did → DoesAlone (Commands reply (stored x)) c v t (Ok r) d v t
  stored_turn y d r is made went = record {
    did_one = ap (λ (a : Turn). Ok a) went;
    worker = made ∙ ap (λ (z : Room). did c (Commands reply z)) is;
    same = (refl, refl);
  }

  -- ITS ENTRY. The script has the command at the worker's place.

  next_here : slice_get c.commands c.position ≡ next_of v
  next_here =
      let p = may.worker.fits.place in
      let place : c.position ≡ place_of v = omega (arith, p) in
      λ j. slice_get (may.worker.fits.script j) (place j)

  in_script : slice_get c.commands c.position ≡ Some going.command
  in_script = next_here ∙ going.next

  pub within_script : c.position < length c.commands
  within_script = slice_get_within c.commands c.position going.command in_script

  module _ (command : Command) (found : slice_get c.commands c.position ≡ Some command) where
    abbrev e : Entry
    e = entry_of c command reply

    abbrev under : UnderWay
    under = under_of command reply

    same_command : going.command ≡ command
    same_command = let a = in_script in cc (a, found)

    next_now : next_of v ≡ Some command
    next_now = sym next_here ∙ found

    in_hand : IsInHand (working under) (knows v going.grip) x
    in_hand = subst (λ (a : Command). IsInHand (working (under_of a reply)) (knows v going.grip) x) same_command going.holds.in_hand

    works : IsAtWork under (knows v going.grip) x
    works = at_work under (knows v going.grip) x in_hand.used

    pub entry_going : under_way_in x ≡ Some under
    entry_going = works.going

    history_taken : going.grip.history ++ option_to_list going.grip.drawn ≡ going.grip.history
    history_taken = ap (λ (d : Option Noted). going.grip.history ++ option_to_list d) going.none_drawn ∙ append-nil going.grip.history

    reply_taken : reply_to (sizes_known v) (behind v going.grip.room going.grip.history) command ≡ Some reply
    reply_taken = subst (λ (ns : List Noted). reply_to (sizes_known v) (behind v going.grip.room ns) command ≡ Some reply) history_taken works.reply

    pub may_draw : MayDrawEntry v e
    may_draw = (
      going.grip,
      record {
        on = may.on;
        phase = going.holds.phase;
        held = going.holds.held;
        once = going.none_drawn;
        room = sym works.here;
        thread = may.worker.fits.thread;
        index = let p = may.worker.fits.place in omega (arith, p);
        command = next_now;
        reply = reply_taken;
        quota = going.quota;
        unwritten = going.unwritten;
      },
    )

    module _ (none_left : stores_left x ≡ 0) (ticket : ℕ) (y : Room) (kept : (k : Knowledge) → IsInHand (working under) k x → IsInHand resting (with_noted k (placed ticket e)) y) where
      abbrev w : View
      w = drew v going.grip ticket e

      abbrev n : Noted
      n = placed ticket e

      has_drawn : HasDrawn y w
      has_drawn = record {
        grip = with_drawn going.grip n;
        holds = record {
          phase = going.holds.phase;
          held = refl;
          in_hand = subst (λ (k : Knowledge). IsInHand resting k y) (sym (drawn_knows v going.grip ticket e going.none_drawn)) (kept (knows v going.grip) in_hand);
        };
        commands = low_room under (knows v going.grip) x in_hand;
        noted = n;
        drawn = refl;
        unwritten = going.unwritten;
        not_found = going.not_found;
      }

      draw_keeps : IsWorker (did c (Drawn y)) w
      draw_keeps = record {
        fits = record {
          thread = may.worker.fits.thread;
          settings = may.worker.fits.settings;
          script = may.worker.fits.script;
          place = let p = may.worker.fits.place in let m = one_entry_more v.own n in omega (arith, p, m);
          quota = let q = may.worker.fits.quota in let s = going.quota in omega (arith, q, s);
          epoch = may.worker.fits.epoch;
          wrote = may.worker.fits.wrote;
          found_empty = may.worker.fits.found_empty;
          marks = may.worker.fits.marks;
        };
        within = record {
          valid = may.worker.within.valid;
          thread = may.worker.within.thread;
          short = may.worker.within.short;
          position = let p = within_script in omega (arith, p);
          quota = may.worker.within.quota;
        };
        hand = has_drawn;
        told = record {
          standing = λ apart. absurd (apart going.holds.phase);
          written = λ wrote. absurd (cc (wrote, going.unwritten));
          waits = λ wrote. absurd (cc (wrote, going.unwritten));
          stood = λ stands. absurd (cc (stands, going.holds.phase));
          found = λ found. absurd (cc (found, going.not_found));
        };
        run = record {
          first = may.worker.run.first;
          last = may.worker.run.last;
          running = may.worker.run.running;
          given = may.worker.run.given;
        };
        least = let l = may.worker.least in let m : length (v.own ++ n ∷ []) ≡ length v.own + 1 = length-append v.own (n ∷ []) in omega (arith, l, m);
        most = let f = may.worker.most in let m : length (v.own ++ n ∷ []) ≡ length v.own + 1 = length-append v.own (n ∷ []) in omega (arith, f, m, none_left);
      }

      -- the clauses of a draw
      module _ (d : WorkerState) (w_now : View) (u : Option Told) (drawn : Drew v t e ticket w_now u) (made : d ≡ did c (Drawn y)) where
        pub drawn_keeps : IsWorker d w_now
        drawn_keeps = subst (λ (b : WorkerState). IsWorker b w_now) (sym made) (subst (IsWorker (did c (Drawn y))) (sym (drawn.view going.grip going.holds.held)) draw_keeps)

        pub drawn_turn : (r : Turn) → y ≡ entry_noted x ticket e → r ≡ Did → Draws reply x c v t (Ok r) d w_now u
        drawn_turn r is went = record {
          did_one = ap (λ (a : Turn). Ok a) went;
          command = command;
          next = found;
          ticket = ticket;
          drew = drawn;
          worker = made ∙ ap (λ (z : Room). did c (Drawn z)) is;
        }

-- AS A DRAW READS IT: k is the worker c with its fields, and the command is what stands in its script.
module _ (c k : WorkerState) (same : k ≡ c) (reply : Reply) (x : Room) (v : View) (t : Option Told) (may : MayTakeRow c (Commands reply x) v t) (command : Command) (read : command ≡ get_or k.commands k.position command) where
  may_too : MayTakeRow k (Commands reply x) v t
  may_too = subst (λ (b : WorkerState). MayTakeRow b (Commands reply x) v t) (sym same) may

  found_there : slice_get k.commands k.position ≡ Some command
  found_there = slice_get_read k.commands (length k.commands) k.position command refl (within_script k reply x v t may_too) read

  pub draw_may : MayDrawEntry v (entry_of k command reply)
  draw_may = may_draw k reply x v t may_too command found_there

  pub draw_going : under_way_in x ≡ Some (under_of command reply)
  draw_going = entry_going k reply x v t may_too command found_there

  module _ (none_left : stores_left x ≡ 0) (ticket : ℕ) (y : Room) (kept : (q : Knowledge) → IsInHand (working (under_of command reply)) q x → IsInHand resting (with_noted q (placed ticket (entry_of k command reply))) y)
      (d : WorkerState) (w : View) (u : Option Told) (drawn : Drew v t (entry_of k command reply) ticket w u) (made : d ≡ did c (Drawn y)) where
    made_too : d ≡ did k (Drawn y)
    made_too = made ∙ ap (λ (b : WorkerState). did b (Drawn y)) (sym same)

    pub draw_worker : IsWorker d w
    draw_worker = drawn_keeps k reply x v t may_too command found_there none_left ticket y kept d w u drawn made_too

    pub draw_row : (r : Turn) → y ≡ entry_noted x ticket (entry_of k command reply) → r ≡ Did → Draws reply x c v t (Ok r) d w u
    draw_row r is went = subst (λ (b : WorkerState). Draws reply x b v t (Ok r) d w u) same (drawn_turn k reply x v t may_too command found_there none_left ticket y kept d w u drawn made_too r is went)

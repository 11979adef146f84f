-- A life opens with a lawful world.
use Rattle.std.proofs.Common.{◌≡◌, ℕ, zero, suc, ◌+◌, ◌<◌, ◌≤◌, ◌&&◌, cond, Bool, true, false, List, ◌∷◌, [], ◌++◌, length, sym, refl, ap, ◌∙◌, subst, ⊎_elim, inl, arith, Option, Some, None}
use mathlib.Core.Logic.{dite}
use native.Mathlib.Decide.{ℕ_discrete}
use Rattle.std.specs.Prelude.{is_none, nat_lt}
use Rattle.std.specs.List.{fold}
use Rattle.line_memory.specs.declared.store.Store.{Store}
use Rattle.line_memory.specs.Line.{LineState, BankState, line_at, is_unasked, unasked}
use Rattle.std.proofs.lemmas.List.Elements.{All-nil}
use Rattle.std.proofs.lemmas.Bool.{cases_lt, le-ltb, lt-ltb, lt-leb}
use Rattle.seq_object.specs.declared.command.Command.{Command}
use Rattle.seq_object.specs.declared.history.Entry.{Entry}
use Rattle.seq_object.specs.History.{point_at}
use Rattle.life_model.specs.declared.life.Life.{Life}
use Rattle.life_model.specs.declared.life.Life.TheVariants.{Start, Resume}
use Rattle.life_model.specs.Life.{Opening, point_after, next_command, covered, entries_between, AreRising, AreStretches, BeginsRightly, IsInOrder, contents_now}
use Rattle.restart_point.specs.declared.thread_end.ThreadEnd.{ThreadEnd}
use Rattle.block_allow.specs.Verdicts.{leaves}
use Rattle.rooms.specs.declared.room.Room.{Room}
use Rattle.yard_model.specs.declared.view.Phase.TheVariants.{Standing, Closing}
use Rattle.yard_model.specs.declared.view.Beginning.{Beginning}
use Rattle.yard_model.specs.declared.view.View.{View}
use Rattle.rooms.specs.Rooms.{cells_of, bank_of, state_of, lines_unasked}
use Rattle.yard_model.specs.Beginnings.{opening_of, sizes_at, recovery_marks, marks_of, first_epoch, epoch_now, are_used_below, is_over, is_fed}
use Rattle.yard_model.specs.Knows.{stands, is_closing}
use Rattle.yard_model.specs.World.{YardState, tick_word, arrival, lock_of, dead, ViewIs, Home, stands_at, closes, done_in, done_by, all_ticks, all_checkpoints, number_on, seen_on, is_called_off, Shows}
use Rattle.yard_model.specs.Lawful.{ShowsArrival, Lawful}
use Rattle.yard_model.specs.Opens.{opening_view, IsOpeningWorld, OpensLawfulLaw}
use Rattle.yard_laws.proofs.Lists.{at_inside, there}
use Rattle.yard_laws.proofs.Views.{stands_there, stands_past, none_any, none_total}
use Rattle.yard_laws.proofs.Readings.{same_bank, nothing_pending, earlier, not_running, free_state, point_as_loaded, stands_held}
use Rattle.yard_model.specs.declared.view.Grip.{Grip}
use Rattle.yard_model.specs.declared.view.GivenBack.{GivenBack}
use Rattle.incll_var.specs.Cells.{IsSavedIn}
use Rattle.yard_model.specs.Locks.{HoldsRightly, HasOwnEntries, GripsRightly}
use Rattle.yard_model.specs.Dead.{LeftRoom}
use Rattle.yard_model.specs.Epochs.{IsInEpoch, IsBounded}
use Rattle.yard_model.specs.Homes.{IsFreeHome}
use Rattle.yard_model.specs.Positions.{KeepsPosition, IsStored}
use Rattle.yard_model.specs.Closings.{HasLearnt}
use Rattle.seq_object.specs.Sizes.{thread_room, super_room}

-- USED SCRIPTS

pub used_each : (b : Beginning) (n : ℕ) → are_used_below b n ≡ true → (i : ℕ) → i < n → next_command (opening_of b) [] i ≡ None
used_each b zero used i lt = absurd (omega (arith, lt))
used_each b (suc n) used i lt = dite (ℕ_discrete i n)
    (λ e. subst (λ (i : ℕ). next_command (opening_of b) [] i ≡ None) (sym e) (is_nothing (next_command (opening_of b) [] n) (first_true (is_none (next_command (opening_of b) [] n)) (are_used_below b n) used)))
    (λ e. used_each b n (second_true (is_none (next_command (opening_of b) [] n)) (are_used_below b n) used) i (omega (arith, lt, e)))
  where
    first_true : (a c : Bool) → (a && c) ≡ true → a ≡ true
    first_true true c e = refl
    first_true false c e = absurd (cc)

    second_true : (a c : Bool) → (a && c) ≡ true → c ≡ true
    second_true true c e = e
    second_true false c e = absurd (cc)

    is_nothing : (c : Option Command) → is_none c ≡ true → c ≡ None
    is_nothing None e = refl
    is_nothing (Some c) e = absurd (cc)

used_all : (b : Beginning) (n : ℕ) → ((i : ℕ) → next_command (opening_of b) [] i ≡ None) → are_used_below b n ≡ true
used_all b zero each = refl
used_all b (suc n) each = (λ k. is_none (each n k) && are_used_below b n) ∙ used_all b n each

-- LINES

-- a count that begins at n, over lines with nothing pending
count_stays : (n : ℕ) (lines : List LineState) → ((i : ℕ) → i < length lines → (line_at lines i).pending ≡ []) → fold (λ (a : ℕ) (l : LineState). a + cond (is_unasked l) 1 0) n lines ≡ n
count_stays n [] none = refl
count_stays n (l ∷ ls) none = ap (λ (m : ℕ). fold (λ (a : ℕ) (l : LineState). a + cond (is_unasked l) 1 0) m ls) (one l.asked l.pending (none 0 (omega arith)))
    ∙ count_stays n ls (λ i lt. none (suc i) (omega (arith, lt)))
  where
    one : (asked : ℕ) (pending : List Store) → pending ≡ [] → n + cond (nat_lt asked (length pending)) 1 0 ≡ n
    one asked pending a = subst (λ (p : List Store). n + cond (nat_lt asked (length p)) 1 0 ≡ n) (sym a) (ap (λ (t : Bool). n + cond t 1 0) (le-ltb asked 0 (omega arith)) ∙ omega arith)

none_unasked : (lines : List LineState) → ((i : ℕ) → i < length lines → (line_at lines i).pending ≡ []) → unasked lines ≡ 0
none_unasked lines none = count_stays 0 lines none

-- THE ORDER

rising : (life : Life) → AreRising 0 (recovery_marks life ++ []) 0
rising Start = omega arith
rising Resume = (omega arith, omega arith)

-- an opening as a life of another kind
abbrev pub as_life : Life → Opening → Opening
as_life life o = record o { life = life }

begun : (life : Life) (o : Opening) → BeginsRightly (as_life life o) [] (recovery_marks life) → BeginsRightly (as_life life o) [] (recovery_marks life ++ [])
begun Start o f = f
begun Resume o f = refl

stretches : (life : Life) (b : Beginning) → AreStretches (opening_of b) [] 0 (recovery_marks life ++ [])
stretches Start b = tt
stretches Resume b = ((λ thread. inl refl), tt)

-- THE OPENING

module _ (b : Beginning) (w : YardState) (s : IsOpeningWorld b w) where
  abbrev e : ℕ
  e = epoch_now b []

  now : first_epoch b ≡ e
  now = omega arith

  each_view : (P : ℕ → View → Type 0) → ((i : ℕ) → i < b.settings.threads → P i (opening_view b i)) → (i : ℕ) (v : View) → ViewIs w i v → P i v
  each_view P each i v at = subst (P i) (sym (s.views i v at)) (each i (let f = at_inside w.views i v at in let n = s.number_of_views in omega (arith, f, n)))

  stand_all : (i : ℕ) → stands_at w.views i ≡ nat_lt i b.settings.threads
  stand_all i = ⊎_elim
      (λ (lt : i < length w.views). let t = there w.views i lt in stands_there w.views i t.0 t.1 ∙ (each_view (λ (i : ℕ) (v : View). stands v.phase ≡ true) (λ i _. refl) i t.0 t.1
      ∙ sym (lt-ltb i b.settings.threads (let n = s.number_of_views in omega (arith, lt, n)))))
      (λ (ge : length w.views ≤ i). stands_past w.views i ge ∙ sym (le-ltb i b.settings.threads (let n = s.number_of_views in omega (arith, ge, n))))
      (cases_lt i (length w.views))

  none_closes : closes w.views ≡ false
  none_closes = none_any (λ (v : View). is_closing v.phase) w.views (each_view (λ (i : ℕ) (v : View). is_closing v.phase ≡ false) (λ i _. refl))

  none_called : is_called_off w.views ≡ false
  none_called = none_any (λ (v : View). v.called_off) w.views (each_view (λ (i : ℕ) (v : View). v.called_off ≡ false) (λ i _. refl))

  none_done : done_in w.views ≡ 0
  none_done = none_total done_by w.views (each_view (λ (i : ℕ) (v : View). done_by v ≡ 0) (λ i _. refl))

  no_checkpoints : all_checkpoints w.views ≡ 0
  no_checkpoints = none_total (λ (v : View). v.checkpoints) w.views (each_view (λ (i : ℕ) (v : View). v.checkpoints ≡ 0) (λ i _. refl))

  no_ticks : all_ticks w.views ≡ 0
  no_ticks = none_total (λ (v : View). v.ticks) w.views (each_view (λ (i : ℕ) (v : View). v.ticks ≡ 0) (λ i _. refl))

  none_on : number_on w.views ≡ 0
  none_on = none_total seen_on w.views (each_view (λ (i : ℕ) (v : View). seen_on v ≡ 0) (λ i _. refl))

  not_dead : (r : ℕ) → lock_of w r ≡ dead → ⊥
  not_dead r d = let f = s.locks r in omega (arith, f, d)

  first_point : (i : ℕ) → point_after (opening_of b) [] i ≡ point_at b.points i
  first_point i = let same : (point_at b.points i).position + 0 ≡ (point_at b.points i).position = omega arith in λ k. record { position = same k }

  opens_arrival : ShowsArrival b w [] []
  opens_arrival = record {
    word = subst (λ (p : (ℕ → Bool) × Bool × ℕ). Shows (arrival w) p.0 p.1 (is_over b []) (is_fed b [] []) p.2) (λ c. (λ j. sym (stand_all j) c, sym none_closes c, now c)) s.arrival;
    one_closer = each_view (λ (i : ℕ) (v : View). (j : ℕ) (u : View) → ViewIs w j u → v.phase ≡ Closing → u.phase ≡ Closing → i ≡ j) (λ i _ j u _ f _. absurd (cc));
    full = λ i v at f. let n = none_closes in let c : false ≡ true = sym n ∙ f in absurd (cc);
    over_stands = each_view (λ (i : ℕ) (v : View). is_over b [] ≡ true → v.phase ≡ Standing) (λ i _ _. refl);
    over_saved = λ _. refl;
    over_ends = λ i x lt at_home over. ap (λ (t : ThreadEnd). leaves t (is_fed b [] [])) ((s.positions i x lt at_home).ended.1 (used_each b b.settings.threads over i lt));
    only_last = tt;
    used_over = λ used _. used_all b b.settings.threads used;
  }

  -- no thread has run in the first epoch
  not_ran : 0 ≡ e → ⊥
  not_ran f = let g = s.beginning.epoch in omega (arith, f, g)

  order : IsInOrder (opening_of b) [] (marks_of b [])
  order = record {
    threads = s.beginning.scripts;
    points = s.beginning.points;
    commands = λ thread. tt;
    rising = rising b.life;
    begun = begun b.life (opening_of b) s.beginning.begun;
    stretches = stretches b.life b;
    rest = λ thread. rest_of b.life thread;
  }
    where
      rest_of : (life : Life) (thread : ℕ) → entries_between [] (covered (recovery_marks life ++ [])) 0 thread ≤ b.settings.every
      rest_of Start thread = omega arith
      rest_of Resume thread = omega arith

  saved_now : (r : ℕ) (x : Room) → Home w r x → r < super_room (sizes_at b) → IsSavedIn (λ c. c < e) (state_of x)
  saved_now r x at_home few = earlier (λ c. c + 1 ≡ first_epoch b) (λ c. c < e) (state_of x) (λ c f. omega (arith, f, now)) ((s.rooms r x at_home).saved few)

  -- nothing is stored to and not written back
  all_written : (r : ℕ) (x : Room) → Home w r x → lines_unasked x ≡ 0
  all_written r x at_home = ⊎_elim
      (λ (few : r < super_room (sizes_at b)). none_unasked (bank_of x).lines (subst (λ (bank : BankState). (i : ℕ) → i < length bank.lines → (line_at bank.lines i).pending ≡ []) (same_bank x)
      (λ i lt. nothing_pending (λ c. c < e) (cells_of x) (state_of x) refl ((s.rooms r x at_home).cells few) (saved_now r x at_home few) i lt)))
      (λ (ge : super_room (sizes_at b) ≤ r).
      let lt = at_inside w.rooms r (Some x) at_home in let n = s.number_of_rooms in let is : r ≡ super_room (sizes_at b) = omega (arith, ge, lt, n) in
      let one : length (bank_of x).lines ≡ 1 = (s.rooms r x at_home).kind.lines ∙ ap (λ (c : Bool). cond c (sizes_at b).lines 1) (lt-leb r (sizes_at b).shards (omega (arith, is))) in
      none_unasked (bank_of x).lines (λ i lt. let z : 0 ≡ i = omega (arith, lt, one) in subst (λ (i : ℕ). (line_at (bank_of x).lines i).pending ≡ []) z ((s.rooms r x at_home).nothing_pending is)))
      (cases_lt r (super_room (sizes_at b)))

  not_done : (r : ℕ) → nat_lt r (done_in w.views) ≡ false
  not_done r = let n = none_done in le-ltb r (done_in w.views) (omega (arith, n))

  opens_free : (r : ℕ) (x : Room) → Home w r x → IsFreeHome b [] [] (done_in w.views) r x
  opens_free r x at_home = let f = s.rooms r x at_home in record {
    safe = record {
      cells = f.cells;
      saved = λ d _. let n = not_done r in let c : true ≡ false = sym d ∙ n in absurd (cc);
      in_memory = λ low. let few : r < super_room (sizes_at b) = omega (arith, low) in stands_held (sizes_at b) r e x (contents_now (opening_of b) []) (f.cells few) (saved_now r x at_home few) (f.stands low);
      no_fewer = let m = f.write_backs in omega (arith, m);
      eight = f.eight;
    };
    idle = f.idle;
    state = λ few. free_state e (nat_lt r (done_in w.views)) (state_of x) (saved_now r x at_home few);
    stands = f.stands;
    write_backs = let z = all_written r x at_home in let m = f.write_backs in omega (arith, z, m);
    nothing_pending = f.nothing_pending;
    epoch_word = λ is. f.epoch is ∙ (now ∙ (omega arith ∙ ap (λ (c : Bool). e + cond c 1 0) (sym (not_done r))));
  }

  thread_few : (i : ℕ) → i < b.settings.threads → thread_room (sizes_at b) i < super_room (sizes_at b)
  thread_few i lt = omega (arith, lt)

  pub opens : Lawful b w [] []
  opens = record {
    sized = record {
      views = s.number_of_views;
      rooms = s.number_of_rooms;
      words = s.number_of_words;
      threads = each_view (λ (i : ℕ) (v : View). v.thread ≡ i) (λ i _. refl);
      beginnings = each_view (λ (i : ℕ) (v : View). v.beginning ≡ b) (λ i _. refl);
      kinds = λ r x at_home. (s.rooms r x at_home).kind;
    };
    arrival = opens_arrival;
    locks = record {
      views = each_view (λ (i : ℕ) (v : View). HoldsRightly b (lock_of w) (tick_word w) i v.phase v.closed.rooms v.grip v.given_back v.saw_off)
          (λ i _. record { held = λ g f. absurd (cc); given = λ k f. absurd (cc); one_room = λ k f. absurd (cc); may_hold = λ g f. absurd (cc); may_give = λ k f. absurd (cc); off = λ f. absurd (cc) });
      holder = λ r i _ f _. let z = s.locks r in absurd (omega (arith, z, f));
      giver = λ r _ d. absurd (not_dead r d);
      one_giver = each_view (λ (i : ℕ) (v : View). (j : ℕ) (u : View) → ViewIs w j u → (k : GivenBack) → v.given_back ≡ Some k → (m : GivenBack) → u.given_back ≡ Some m → k.room ≡ m.room → i ≡ j) (λ i _ j u _ k f _ _ _. absurd (cc));
      free = λ r lt _. s.home r lt;
      home = λ r x _. inl (s.locks r);
    };
    entries = record {
      clock = s.clock;
      known = All-nil (λ (d : Entry). d.thread < b.settings.threads);
      views = each_view (λ (i : ℕ) (v : View). HasOwnEntries b [] i v.own v.grip) (λ i _. record { own = refl; held = λ g f. absurd (cc) });
      home = λ r x at_home. (s.rooms r x at_home).history;
    };
    loads = record {
      legal = λ r. tt;
      dead_room = each_view (λ (i : ℕ) (v : View). LeftRoom b [] [] (Home w) i v.phase v.given_back) (λ i _ k f. absurd (cc));
    };
    epochs = record {
      views = each_view (λ (i : ℕ) (v : View). IsInEpoch b [] [] i v.phase v.ran v.quota v.found_empty) (λ i _. record {
        no_later = omega arith;
        runs = λ n. absurd (n refl);
        since = λ f. absurd (not_ran f);
        idle = λ _. refl;
        has_next = λ f. absurd (not_ran f);
        cause = λ _ f. absurd (not_ran f);
        emptied = λ f. absurd (not_ran f);
      });
      last = each_view (λ (i : ℕ) (v : View). v.last_checkpoint ≤ e) (λ i _. omega arith);
      order = order;
      takeless = λ _. omega arith;
    };
    rooms = record {
      free = λ r x at_home _. opens_free r x at_home;
      dead_room = λ r x _ d. absurd (not_dead r d);
      points = λ i x lt at_home. let few = thread_few i lt in point_as_loaded e x ((s.rooms (thread_room (sizes_at b) i) x at_home).cells few) (saved_now (thread_room (sizes_at b) i) x at_home few)
          ∙ ((s.positions i x lt at_home).point ∙ sym (first_point i));
    };
    positions = record {
      views = each_view (λ (i : ℕ) (v : View). (x : Room) → Home w (thread_room (sizes_at b) i) x → KeepsPosition b [] [] (lock_of w (thread_room (sizes_at b) i)) i v.phase v.ran v.wrote x) (λ i lt x at_home.
          let f = s.positions i x lt at_home in record {
            standing = λ _. record { point = f.point ∙ sym (first_point i); ended = f.ended; waits = λ d. absurd (f.no_wait d) };
            written = λ _ p. absurd (cc);
            unwritten = λ _ p. absurd (cc);
            runs = λ _ r. absurd (not_running (λ c. c < e) (state_of x) (saved_now (thread_room (sizes_at b) i) x at_home (thread_few i lt)) r);
          });
    };
    stored = record { views = each_view (λ (i : ℕ) (v : View). (x : Room) → Home w (thread_room (sizes_at b) i) x → IsStored (epoch_now b []) (lock_of w (thread_room (sizes_at b) i)) (nat_lt (thread_room (sizes_at b) i) (done_in w.views)) v.ran v.wrote x) (λ i lt x at_home z d ran wrote. absurd (cc)) };
    bounds = record {
      beginning = s.beginning;
      learnt = each_view (λ (i : ℕ) (v : View). v.phase ≡ Closing → HasLearnt b [] (Home w) v.closed) (λ i _ f. absurd (cc));
      views = each_view (λ (i : ℕ) (v : View). IsBounded v.phase v.ticks v.checkpoints) (λ i _. record { few_ticks = omega arith; few_checkpoints = omega arith; may_release = λ f. absurd (cc) });
      ticks = λ _. s.tick ∙ sym no_ticks;
      off = λ f. let n = none_called in let c : false ≡ true = sym n ∙ f in absurd (cc);
      limit = omega (arith, no_ticks, none_on);
      checkpoints = no_checkpoints;
    };
    taken = record { views = each_view (λ (i : ℕ) (v : View). (g : Grip) → v.grip ≡ Some g → GripsRightly b [] [] v.phase g) (λ i _ g f. absurd (cc)) };
  }

pub opens_lawful : OpensLawfulLaw
opens_lawful b w s = opens b w s

-- An entry joins the history.
use Rattle.std.proofs.Common.{◌≡◌, ◌≢◌, ℕ, suc, ◌+◌, ◌<◌, ◌≤◌, ◌==◌, cond, Bool, true, false, List, [], ◌∷◌, ◌++◌, length, sym, refl, ap, ◌∙◌, subst, ⊎_elim, arith, Option, Some, length-set, length-append, get_or-set_other, get_or-set_same, append-nil, eq-eqb}
use mathlib.Core.Logic.{dite}
use native.Mathlib.Decide.{ℕ_discrete}
use Rattle.std.proofs.lemmas.Bool.{ne_eqb}
use Rattle.std.proofs.lemmas.List.{take-append-le}
use Rattle.std.proofs.lemmas.List.Elements.{All-push, filter-append}
use Rattle.std.specs.Prelude.{slice_get, option_to_list}
use Rattle.seq_object.specs.declared.command.Command.{Command}
use Rattle.seq_object.specs.declared.history.Entry.{Entry}
use Rattle.seq_object.specs.declared.history.Noted.{Noted}
use Rattle.seq_object.specs.Object.{Contents, room_of, reply_to, contents_after, part_of}
use Rattle.seq_object.specs.declared.history.RestartPoint.{RestartPoint}
use Rattle.seq_object.specs.History.{point_at, of_thread, of_room, contents_at, IsLegal}
use Rattle.seq_object.proofs.Histories.{contents-append, legal_in_pieces, count-append}
use Rattle.room_laws.proofs.AllRows.{other_command}
use Rattle.room_model.specs.MapRoom.{live_layout}
use Rattle.room_model.specs.Chains.{RoomWords}
use Rattle.room_model.specs.Rooms.{StandsFor}
use Rattle.life_model.specs.declared.life.Life.{Life}
use Rattle.life_model.specs.declared.life.Life.TheVariants.{Start, Resume}
use Rattle.life_model.specs.Life.{script_of, place_after, point_after, next_command, entries_between, MayJoin as MayDrawEntry, contents_now}
use Rattle.life_laws.proofs.Steps.{order_draw}
use Rattle.rooms.specs.declared.room.Room.{Room}
use Rattle.rooms.specs.Rooms.{loads}
use Rattle.yard_model.specs.declared.view.Phase.{Phase}
use Rattle.yard_model.specs.declared.view.Phase.TheVariants.{Standing, Running, Closing}
use Rattle.yard_model.specs.declared.view.Beginning.{Beginning}
use Rattle.yard_model.specs.declared.view.View.{View}
use Rattle.yard_model.specs.declared.view.Grip.{Grip}
use Rattle.yard_model.specs.declared.view.GivenBack.{GivenBack}
use Rattle.yard_model.specs.declared.view.Checkpoint.{Checkpoint}
use Rattle.yard_model.specs.Entries.{placed, picked, is_of_thread, is_for_room, thread_entries, room_entries, entries_of}
use Rattle.yard_model.specs.Beginnings.{opening_of, sizes_at, recovery_marks, lengths_of, marks_of, epoch_now, covered_by, covered_part, covered_contents, is_over, is_fed, has_items}
use Rattle.yard_model.specs.Knows.{stands, is_closing, HasCause, IsAtPlace, MayHold}
use Rattle.yard_model.specs.World.{YardState, tick_word, clock, arrival, lock_of, dead, ViewIs, Home, closes, Shows}
use Rattle.life_model.specs.Present.{LoadsFirstStores}
use Rattle.yard_model.specs.Dead.{begun_by, LeftRoom}
use Rattle.yard_model.specs.Lawful.{ShowsArrival, HoldsLocks, CountsEntries, HasLegalRooms, KeepsEpochs, KeepsRooms, KeepsPositions, KeepsBounds, Lawful}
use Rattle.yard_model.specs.Views.{drew, with_drawn}
use Rattle.yard_model.specs.Conditions.{MayDraw}
use Rattle.yard_model.specs.Steps.{at_draw}
use Rattle.yard_model.specs.Laws.{DrawKeepsLaw}
use Rattle.yard_laws.proofs.Lists.{at_inside, each_set}
use Rattle.yard_laws.proofs.Views.{closes_set, done_set}
use Rattle.yard_laws.proofs.Quiet.{stands_same}
use Rattle.yard_laws.proofs.Knowns.{further, last_same, last_few, since_sum, known_place, known_next, room_filter}
use Rattle.yard_laws.proofs.Arrivals.{few_threads, on_gave_none, runs_none_closes}
use Rattle.yard_laws.proofs.Moves.{stored_moves, sized_moves, locks_move, bounds_same}
use Rattle.yard_model.specs.Locks.{HasOwnEntries, GripsRightly, drawn_of}
use Rattle.yard_model.specs.Epochs.{since_mark, IsInEpoch}
use Rattle.yard_model.specs.Homes.{IsFreeHome, IsDeadHome}
use Rattle.yard_laws.proofs.Homes.{free_for, dead_for, dead_closing}
use Rattle.yard_model.specs.Positions.{KeepsPosition}
use Rattle.yard_model.specs.Closings.{HasLearnt}
use Rattle.seq_object.specs.Sizes.{thread_room, room_count}

-- LISTS

-- the entry at a place, if it is picked
abbrev one_of : (Entry → Bool) → ℕ → Entry → List Noted
one_of picks n e = cond (picks e) (placed n e ∷ []) []

cons_cond : (c : Bool) (a : Noted) (l m n : List Noted) → l ≡ m ++ n → cond c (a ∷ l) l ≡ cond c (a ∷ m) m ++ n
cons_cond true a l m n e = ap (λ (z : List Noted). a ∷ z) e
cons_cond false a l m n e = e

pub picked_append : (picks : Entry → Bool) (k : ℕ) (es : List Entry) (e : Entry) → picked picks k (es ++ e ∷ []) ≡ picked picks k es ++ one_of picks (k + length es) e
picked_append picks k [] e = ap (λ (n : ℕ). one_of picks n e) (omega arith)
picked_append picks k (x ∷ es) e = cons_cond (picks x) (placed k x) (picked picks (suc k) (es ++ e ∷ [])) (picked picks (suc k) es) (one_of picks (k + suc (length es)) e)
    (picked_append picks (suc k) es e ∙ ap (λ (n : ℕ). picked picks (suc k) es ++ one_of picks n e) (omega arith))

-- a resume has a mark
some_mark : (life : Life) (ns : List ℕ) → life ≡ Resume → recovery_marks life ++ ns ≢ []
some_mark Start ns is = absurd (cc)
some_mark Resume ns is = λ e. absurd (cc)

module _ (b : Beginning) (w : YardState) (h : List Entry) (cs : List Checkpoint) (i : ℕ) (v : View) (g : Grip) (e : Entry)
    (l : Lawful b w h cs) (at : ViewIs w i v) (may : MayDraw v g e) where
  abbrev u : View
  u = drew v g (clock w) e

  abbrev next : YardState
  next = at_draw w i u

  abbrev longer : List Entry
  longer = h ++ e ∷ []

  abbrev grip : Grip
  grip = with_drawn g (placed (clock w) e)

  one_more : length longer ≡ length h + 1
  one_more = let f = length-append h (e ∷ []) in omega (arith, f)

  is_thread : e.thread ≡ i
  is_thread = may.thread ∙ l.sized.threads i v at

  marked : covered_by cs ≤ length h
  marked = last_few b w h cs l

  runs_now : v.ran ≡ epoch_now b cs
  runs_now = (l.epochs.views i v at).runs (λ f. let p = may.phase in let c : Running ≡ Standing = sym p ∙ f in absurd (cc))

  held_lock : lock_of w g.room ≡ i + 1
  held_lock = (l.locks.views i v at).held g may.held

  few : i < 16
  few = few_threads b w h cs l i v at

  -- the room in hand is no room at home, and nobody else's
  not_home : (r : ℕ) (x : Room) → Home w r x → r ≢ g.room
  not_home r x at_home q = let a = held_lock in
      ⊎_elim (λ (z : lock_of w r ≡ 0). let d = ap (lock_of w) q in omega (arith, a, z, d)) (λ (z : lock_of w r ≡ dead). let d = ap (lock_of w) q in omega (arith, a, z, d, few)) (l.locks.home r x at_home)

  other_room : (j : ℕ) (c : View) → j ≢ i → ViewIs w j c → (k : Grip) → c.grip ≡ Some k → k.room ≢ g.room
  other_room j c n f k is q = n (let a = (l.locks.views j c f).held k is in let d = ap (lock_of w) q in let m = held_lock in omega (arith, a, d, m))

  other_given : (j : ℕ) (c : View) → ViewIs w j c → (k : GivenBack) → c.given_back ≡ Some k → k.room ≢ g.room
  other_given j c f k is q = let a = (l.locks.views j c f).given k is in let d = ap (lock_of w) q in let m = held_lock in omega (arith, a, d, m, few)

  no_closer : (j : ℕ) (c : View) → ViewIs w j c → c.phase ≡ Closing → ⊥
  no_closer = runs_none_closes b w h cs l i v at may.phase

  locks : (r : ℕ) → lock_of next r ≡ lock_of w r
  locks r = get_or-set_other w.words 1 (3 + r) (clock w + 1) 0 (λ e. omega arith)

  tick_same : tick_word next ≡ tick_word w
  tick_same = get_or-set_other w.words 1 0 (clock w + 1) 0 (λ e. omega arith)

  arrival_same : arrival next ≡ arrival w
  arrival_same = get_or-set_other w.words 1 2 (clock w + 1) 0 (λ e. omega arith)

  on_grip : (P : Grip → Type 0) → P grip → (k : Grip) → u.grip ≡ Some k → P k
  on_grip P f k is = let same : grip ≡ k = cc in subst P same f

  -- WHAT THE LONGER HISTORY CHANGES

  covered_same : covered_part longer cs ≡ covered_part h cs
  covered_same = take-append-le (covered_by cs) h (e ∷ []) marked

  pub fed_same : is_fed b longer cs ≡ is_fed b h cs
  fed_same = ap (λ (es : List Entry). has_items (contents_now (opening_of b) es).items) covered_same

  own_more : length (of_thread i longer) ≡ length (of_thread i h) + 1
  own_more = count-append i h (e ∷ []) ∙ ap (λ (c : Bool). length (of_thread i h) + length (cond c (e ∷ []) [])) (eq-eqb e.thread i is_thread)

  other_same : (j : ℕ) → j ≢ i → length (of_thread j longer) ≡ length (of_thread j h)
  other_same j n = count-append j h (e ∷ []) ∙ (ap (λ (c : Bool). length (of_thread j h) + length (cond c (e ∷ []) [])) (ne_eqb e.thread j (λ q. n (sym q ∙ is_thread))) ∙ omega arith)

  pub point_same : (j : ℕ) → j ≢ i → point_after (opening_of b) longer j ≡ point_after (opening_of b) h j
  point_same j n = ap (further (point_at b.points j)) (other_same j n)

  pub next_same : (j : ℕ) → j ≢ i → next_command (opening_of b) longer j ≡ next_command (opening_of b) h j
  next_same j n = ap (λ (p : RestartPoint). slice_get (script_of b.scripts j) p.position) (point_same j n)

  since_parts : (j : ℕ) → length (of_thread j longer) ≡ length (of_thread j (covered_part h cs)) + since_mark longer cs j
  since_parts j = let f = since_sum longer cs j (let m = marked in omega (arith, m, one_more)) in let s = ap (λ (es : List Entry). length (of_thread j es)) covered_same in omega (arith, f, s)

  since_more : since_mark longer cs i ≡ since_mark h cs i + 1
  since_more = let f = since_parts i in let d = since_sum h cs i marked in let o = own_more in omega (arith, f, d, o)

  since_same : (j : ℕ) → j ≢ i → since_mark longer cs j ≡ since_mark h cs j
  since_same j n = let f = since_parts j in let d = since_sum h cs j marked in let o = other_same j n in omega (arith, f, d, o)

  contents_more : contents_now (opening_of b) longer ≡ contents_after (sizes_at b) (contents_now (opening_of b) h) e.command
  contents_more = contents-append (sizes_at b) (opening_of b).state.contents h (e ∷ [])

  routed : room_of (sizes_at b) e.command ≡ g.room
  routed = ap (λ (c : Beginning). room_of (sizes_at c) e.command) (sym (l.sized.beginnings i v at)) ∙ sym may.room

  -- a room that is not the entry's stands for what the longer history leaves
  stands_on : (r : ℕ) → r ≢ g.room → (words : ℕ → ℕ → ℕ) → StandsFor live_layout (sizes_at b) r words (contents_now (opening_of b) h) → StandsFor live_layout (sizes_at b) r words (contents_now (opening_of b) longer)
  stands_on r n words s = subst (λ (c : Contents). StandsFor live_layout (sizes_at b) r words c) (sym contents_more)
      (other_command live_layout (sizes_at b) r words (contents_now (opening_of b) h) e.command s (λ q. n (sym q ∙ routed)))

  -- PARTS

  in_room : room_entries (sizes_at b) g.room longer ≡ room_entries (sizes_at b) g.room h ++ placed (clock w) e ∷ []
  in_room = picked_append (is_for_room (sizes_at b) g.room) 0 h e ∙ (ap (λ (c : Bool). room_entries (sizes_at b) g.room h ++ cond c (placed (0 + length h) e ∷ []) []) (eq-eqb (room_of (sizes_at b) e.command) g.room routed)
      ∙ ap (λ (n : ℕ). room_entries (sizes_at b) g.room h ++ placed n e ∷ []) (let t = l.entries.clock in omega (arith, t)))

  in_other : (r : ℕ) → r ≢ g.room → room_entries (sizes_at b) r longer ≡ room_entries (sizes_at b) r h
  in_other r n = picked_append (is_for_room (sizes_at b) r) 0 h e ∙ (ap (λ (c : Bool). room_entries (sizes_at b) r h ++ cond c (placed (0 + length h) e ∷ []) []) (ne_eqb (room_of (sizes_at b) e.command) r (λ p. n (sym p ∙ routed))) ∙ append-nil (room_entries (sizes_at b) r h))

  as_taken : room_entries (sizes_at b) g.room h ≡ g.history
  as_taken = (l.entries.views i v at).held g may.held ∙ (ap (λ (d : Option Noted). g.history ++ option_to_list d) may.once ∙ append-nil g.history)

  own_entries : thread_entries i longer ≡ v.own ++ placed (clock w) e ∷ []
  own_entries = picked_append (is_of_thread i) 0 h e ∙ (ap (λ (c : Bool). thread_entries i h ++ cond c (placed (0 + length h) e ∷ []) []) (eq-eqb e.thread i is_thread)
      ∙ (ap (λ (n : ℕ). thread_entries i h ++ placed n e ∷ []) (let t = l.entries.clock in omega (arith, t))
      ∙ ap (λ (ns : List Noted). ns ++ placed (clock w) e ∷ []) (sym ((l.entries.views i v at).own))))

  other_entries : (j : ℕ) → j ≢ i → thread_entries j longer ≡ thread_entries j h
  other_entries j n = picked_append (is_of_thread j) 0 h e ∙ (ap (λ (c : Bool). thread_entries j h ++ cond c (placed (0 + length h) e ∷ []) []) (ne_eqb e.thread j (λ p. n (sym p ∙ is_thread))) ∙ append-nil (thread_entries j h))

  pub entries_drawn : CountsEntries b next longer cs
  entries_drawn = let c = l.entries in record {
    clock = let s = l.sized.words in let lt : 1 < length w.words = omega (arith, s) in get_or-set_same w.words 1 (clock w + 1) 0 lt ∙ omega (arith, c.clock, one_more);
    known = All-push (λ (d : Entry). d.thread < b.settings.threads) h e c.known (let f = at_inside w.views i v at in let n = l.sized.views in omega (arith, is_thread, f, n));
    views = each_set (λ (j : ℕ) (d : View). HasOwnEntries b longer j d.own d.grip) w.views i u
        (record { own = sym own_entries; held = on_grip (λ (k : Grip). room_entries (sizes_at b) k.room longer ≡ k.history ++ drawn_of k) (in_room ∙ ap (λ (ns : List Noted). ns ++ placed (clock w) e ∷ []) as_taken) })
        (λ j d n f. let o = c.views j d f in record {
          own = o.own ∙ sym (other_entries j n);
          held = λ k is. in_other k.room (other_room j d n f k is) ∙ o.held k is;
        });
    home = λ r x at_home. c.home r x at_home ∙ sym (in_other r (not_home r x at_home));
  }

  legal_more : (r : ℕ) → IsLegal (sizes_at b) (part_of (sizes_at b) r (opening_of b).state.contents) (of_room (sizes_at b) r longer)
  legal_more r = subst (λ (es : List Entry). IsLegal (sizes_at b) (part_of (sizes_at b) r (opening_of b).state.contents) es) (sym (filter-append (λ (d : Entry). room_of (sizes_at b) d.command == r) h (e ∷ [])))
      (dite (ℕ_discrete (room_of (sizes_at b) e.command) r) mine theirs)
    where
      mine : room_of (sizes_at b) e.command ≡ r → IsLegal (sizes_at b) (part_of (sizes_at b) r (opening_of b).state.contents) (of_room (sizes_at b) r h ++ of_room (sizes_at b) r (e ∷ []))
      mine is = let same : g.room ≡ r = sym routed ∙ is in subst (λ (c : Bool). IsLegal (sizes_at b) (part_of (sizes_at b) r (opening_of b).state.contents) (of_room (sizes_at b) r h ++ cond c (e ∷ []) [])) (sym (eq-eqb (room_of (sizes_at b) e.command) r is))
          ((legal_in_pieces (sizes_at b) (part_of (sizes_at b) r (opening_of b).state.contents) (of_room (sizes_at b) r h) (e ∷ [])).0 (l.loads.legal r) (reply same, tt))
        where
          reply : g.room ≡ r → reply_to (sizes_at b) (contents_at (sizes_at b) (part_of (sizes_at b) r (opening_of b).state.contents) (of_room (sizes_at b) r h)) e.command ≡ Some e.reply
          reply same = subst (λ (p : ℕ × List Entry). reply_to (sizes_at b) (contents_at (sizes_at b) (part_of (sizes_at b) p.0 (opening_of b).state.contents) p.1) e.command ≡ Some e.reply)
              (λ k. (same k, (ap entries_of (sym as_taken) ∙ (room_filter (sizes_at b) g.room h ∙ ap (λ (r : ℕ). of_room (sizes_at b) r h) same)) k))
              (subst (λ (c : Beginning). reply_to (sizes_at c) (contents_at (sizes_at c) (part_of (sizes_at c) g.room (opening_of c).state.contents) (entries_of g.history)) e.command ≡ Some e.reply) (l.sized.beginnings i v at) may.reply)

      theirs : room_of (sizes_at b) e.command ≢ r → IsLegal (sizes_at b) (part_of (sizes_at b) r (opening_of b).state.contents) (of_room (sizes_at b) r h ++ of_room (sizes_at b) r (e ∷ []))
      theirs n = subst (λ (c : Bool). IsLegal (sizes_at b) (part_of (sizes_at b) r (opening_of b).state.contents) (of_room (sizes_at b) r h ++ cond c (e ∷ []) [])) (sym (ne_eqb (room_of (sizes_at b) e.command) r n))
          (subst (λ (es : List Entry). IsLegal (sizes_at b) (part_of (sizes_at b) r (opening_of b).state.contents) es) (sym (append-nil (of_room (sizes_at b) r h))) (l.loads.legal r))

  left_on : (j : ℕ) (c : View) → j ≢ i → ViewIs w j c → LeftRoom b longer cs (Home w) j c.phase c.given_back
  left_on j c n f k is low x at_home = let o = l.loads.dead_room j c f k is low x at_home in
      subst (λ (next : Option Command). LoadsFirstStores (sizes_at b) (epoch_now b cs) k.room (begun_by k.drew (is_closing c.phase) next) (loads x) (contents_now (opening_of b) longer)) (sym (next_same j n))
      (record { before = o.before; stood = stands_on k.room (other_given j c f k is) o.before o.stood; made = o.made; loads = o.loads })

  loads_drawn : HasLegalRooms b next longer cs
  loads_drawn = let d = l.loads in record {
    legal = legal_more;
    dead_room = each_set (λ (j : ℕ) (c : View). LeftRoom b longer cs (Home w) j c.phase c.given_back) w.views i u (λ k is. absurd ((on_gave_none b w h cs l i v at may.on) k is)) left_on;
  }

  next_here : next_command (opening_of b) h i ≡ Some e.command
  next_here = sym (known_next b w h cs i v l at) ∙ may.command

  may_draw : MayDrawEntry (opening_of b) h (marks_of b cs) e
  may_draw = record {
    next = subst (λ (j : ℕ). next_command (opening_of b) h j ≡ Some e.command) (sym is_thread) next_here;
    index = may.index ∙ (known_place b w h cs i v l at ∙ ap (place_after (opening_of b) h) (sym is_thread));
    quota = subst (λ (p : ℕ × ℕ). entries_between h p.0 (length h) p.1 < b.settings.every) (λ k. (sym (last_same b cs) k, sym is_thread k))
        (let f = (l.epochs.views i v at).since runs_now in let q = may.quota in omega (arith, f, q));
    recovered = some_mark b.life (lengths_of cs);
  }

  epochs_drawn : KeepsEpochs b next longer cs
  epochs_drawn = record {
    views = each_set (λ (j : ℕ) (c : View). IsInEpoch b longer cs j c.phase c.ran c.quota c.found_empty) w.views i u
        (let f = l.epochs.views i v at in record {
          no_later = f.no_later;
          runs = f.runs;
          since = λ r. let s = f.since r in let q = may.quota in let m = since_more in omega (arith, s, q, m);
          idle = λ n. absurd (n runs_now);
          has_next = λ _ z. let m = since_more in absurd (omega (arith, z, m));
          cause = λ s. let c : false ≡ true = sym (ap stands may.phase) ∙ s in absurd (cc);
          emptied = λ _ _ _. let m = marked in omega (arith, m, one_more);
        })
        (λ j c n f. let o = l.epochs.views j c f in record {
          no_later = o.no_later;
          runs = o.runs;
          since = λ r. let s = o.since r in let m = since_same j n in omega (arith, s, m);
          idle = λ r. since_same j n ∙ o.idle r;
          has_next = λ r z q. o.has_next r (sym (since_same j n) ∙ z) (sym (next_same j n) ∙ q);
          cause = λ s r. subst (λ (next : Option Command). HasCause c.quota c.found_empty next) (sym (next_same j n)) (o.cause s r);
          emptied = λ _ _ _. let m = marked in omega (arith, m, one_more);
        });
    last = each_set (λ (j : ℕ) (c : View). c.last_checkpoint ≤ epoch_now b cs) w.views i u (l.epochs.last i v at) (λ j c _ f. l.epochs.last j c f);
    order = order_draw (opening_of b) h (marks_of b cs) e l.epochs.order may_draw;
    takeless = l.epochs.takeless;
  }

  -- what a room stands for behind the last mark
  covered_on : (r : ℕ) (words : RoomWords) → StandsFor live_layout (sizes_at b) r words (covered_contents b h cs) → StandsFor live_layout (sizes_at b) r words (covered_contents b longer cs)
  covered_on r words s = subst (λ (es : List Entry). StandsFor live_layout (sizes_at b) r words (contents_now (opening_of b) es)) (sym covered_same) s

  rooms_drawn : KeepsRooms b next longer cs
  rooms_drawn = let d = l.rooms in record {
    free = λ r x at_home z. subst (λ (n : ℕ). IsFreeHome b longer cs n r x) (sym (done_set w.views i v u at refl refl))
        (free_for (λ words _ s. covered_on r words s) (λ words _ s. stands_on r (not_home r x at_home) words s) (d.free r x at_home (sym (locks r) ∙ z)));
    dead_room = λ r x at_home z. subst (λ (n : ℕ). IsDeadHome b longer cs n (closes next.views) r x) (sym (done_set w.views i v u at refl refl))
        (dead_closing (λ f. (closes_set w.views i v u at refl) ∙ f) (dead_for (λ words _ s. covered_on r words s) (d.dead_room r x at_home (sym (locks r) ∙ z))));
    points = λ j x lt at_home. d.points j x lt at_home ∙ ap (λ (es : List Entry). point_after (opening_of b) es j) (sym covered_same);
  }

  positions_drawn : KeepsPositions b next longer cs
  positions_drawn = record {
    views = each_set (λ (j : ℕ) (c : View). (x : Room) → Home w (thread_room (sizes_at b) j) x → KeepsPosition b longer cs (lock_of next (thread_room (sizes_at b) j)) j c.phase c.ran c.wrote x) w.views i u
        (λ x at_home. subst (λ (n : ℕ). KeepsPosition b longer cs n i v.phase v.ran v.wrote x) (sym (locks (thread_room (sizes_at b) i))) (let f = l.positions.views i v at x at_home in record {
          standing = λ s. let c : false ≡ true = sym (ap stands may.phase) ∙ s in absurd (cc);
          written = λ _ _ s. let n = may.unwritten in let c : true ≡ false = sym s ∙ n in absurd (cc);
          unwritten = λ z p n. f.unwritten z p n ∙ ap (λ (es : List Entry). point_after (opening_of b) es i) (sym covered_same);
          runs = f.runs;
        }))
        (λ j c n f x at_home. subst (λ (m : ℕ). KeepsPosition b longer cs m j c.phase c.ran c.wrote x) (sym (locks (thread_room (sizes_at b) j))) (let o = l.positions.views j c f x at_home in record {
          standing = λ s. on j n x (o.standing s);
          written = λ z p s. on j n x (o.written z p s);
          unwritten = λ z p s. o.unwritten z p s ∙ ap (λ (es : List Entry). point_after (opening_of b) es j) (sym covered_same);
          runs = o.runs;
        }));
  }
    where
      on : (j : ℕ) → j ≢ i → (x : Room) → IsAtPlace (point_after (opening_of b) h j) (next_command (opening_of b) h j) x → IsAtPlace (point_after (opening_of b) longer j) (next_command (opening_of b) longer j) x
      on j n x f = subst (λ (p : RestartPoint × Option Command). IsAtPlace p.0 p.1 x) (λ k. (sym (point_same j n) k, sym (next_same j n) k)) f

  arrival_drawn : ShowsArrival b next longer cs
  arrival_drawn = let a = l.arrival in record {
    word = subst (λ (p : ℕ × (ℕ → Bool) × Bool × Bool). Shows p.0 p.1 p.2 (is_over b cs) p.3 (epoch_now b cs))
        (λ c. (sym arrival_same c, λ j. sym (stands_same w.views i v u at refl j) c, sym (closes_set w.views i v u at refl) c, sym fed_same c)) a.word;
    one_closer = λ j c f q d g p _. absurd (none_closing j c f p);
    full = each_set (λ (j : ℕ) (c : View). closes next.views ≡ true → stands c.phase ≡ true) w.views i u (λ f. a.full i v at (sym (closes_set w.views i v u at refl) ∙ f)) (λ j c _ f o. a.full j c f (sym (closes_set w.views i v u at refl) ∙ o));
    over_stands = λ j c f is. absurd (not_over is);
    over_saved = λ is. absurd (not_over is);
    over_ends = λ j x lt at_home is. absurd (not_over is);
    only_last = a.only_last;
    used_over = λ _ f. let m = marked in absurd (omega (arith, f, m, one_more));
  }
    where
      none_closing : (j : ℕ) (c : View) → ViewIs next j c → c.phase ≡ Closing → ⊥
      none_closing = each_set (λ (j : ℕ) (c : View). c.phase ≡ Closing → ⊥) w.views i u (no_closer i v at) (λ j c _ f. no_closer j c f)

      not_over : is_over b cs ≡ true → ⊥
      not_over is = let s = l.arrival.over_stands i v at is in let p = may.phase in let c : Standing ≡ Running = sym s ∙ p in absurd (cc)

  locks_drawn : HoldsLocks b next h cs
  locks_drawn = locks_move b w h cs i v u next.words w.rooms l at locks (let t = tick_same in omega (arith, t))
      (λ k is. let f = may.held in let same : g ≡ k = cc in (grip, refl, ap (λ (k : Grip). k.room) same)) refl (λ q s f. f) (λ q s f. f)
      (let f = l.locks.views i v at in record {
        held = on_grip (λ (k : Grip). lock_of w k.room ≡ i + 1) held_lock;
        given = λ k is. absurd ((on_gave_none b w h cs l i v at may.on) k is);
        one_room = λ k is. absurd ((on_gave_none b w h cs l i v at may.on) k is);
        may_hold = on_grip (λ (k : Grip). MayHold (sizes_at b) i v.phase v.closed.rooms k.room × (k.room < room_count (sizes_at b))) (f.may_hold g may.held);
        may_give = λ k is. absurd ((on_gave_none b w h cs l i v at may.on) k is);
        off = λ s. let o = f.off s in let t = tick_same in omega (arith, o, t);
      })

  bounds_drawn : KeepsBounds b next h cs
  bounds_drawn = bounds_same b w h cs i v u next.words w.rooms l at (λ q s f. f) (l.bounds.learnt i v at) (l.bounds.views i v at) refl tick_same refl refl refl

  knows_on : (phase : Phase) (k : Grip) → (phase ≡ Closing → ⊥) → GripsRightly b h cs phase k → GripsRightly b longer cs phase k
  knows_on phase k never f = record {
    covered = f.covered ∙ ap (λ (es : List Entry). length (room_entries (sizes_at b) k.room es)) (sym covered_same);
    in_history = f.in_history;
    point = λ j lt is. let t = f.point j lt is in (t.0, t.1, t.2 ∙ ap (λ (es : List Entry). point_after (opening_of b) es j) (sym covered_same));
    closing = λ c. absurd (never c);
  }

  pub draw_stays : Lawful b next longer cs
  draw_stays = record {
    sized = let s = sized_moves b w h cs i v u next.words w.rooms l at refl refl (length-set w.words 1 (clock w + 1)) refl (λ q s f. f) in record {
      views = s.views;
      rooms = s.rooms;
      words = s.words;
      threads = s.threads;
      beginnings = s.beginnings;
      kinds = s.kinds;
    };
    arrival = arrival_drawn;
    locks = let f = locks_drawn in record { views = f.views; holder = f.holder; giver = f.giver; one_giver = f.one_giver; free = f.free; home = f.home };
    entries = entries_drawn;
    loads = loads_drawn;
    epochs = epochs_drawn;
    rooms = rooms_drawn;
    positions = positions_drawn;
    stored = record { views = (stored_moves b w h cs i v u next.words w.rooms l at (λ q s f. f) (λ q s _. locks q) (done_set w.views i v u at refl refl) (l.stored.views i v at)).views };
    bounds = let f = bounds_drawn in record {
      beginning = f.beginning;
      learnt = each_set (λ (j : ℕ) (c : View). c.phase ≡ Closing → HasLearnt b longer (Home next) c.closed) w.views i u (λ p. absurd (no_closer i v at p)) (λ j c _ o p. absurd (no_closer j c o p));
      views = f.views;
      ticks = f.ticks;
      off = f.off;
      limit = f.limit;
      checkpoints = f.checkpoints;
    };
    taken = record {
      views = each_set (λ (j : ℕ) (c : View). (k : Grip) → c.grip ≡ Some k → GripsRightly b longer cs c.phase k) w.views i u
          (on_grip (λ (k : Grip). GripsRightly b longer cs v.phase k) (let f = knows_on v.phase g (no_closer i v at) (l.taken.views i v at g may.held) in record {
            covered = f.covered;
            in_history = f.in_history;
            point = f.point;
            closing = f.closing;
          }))
          (λ j c _ o k is. knows_on c.phase k (no_closer j c o) (l.taken.views j c o k is));
    };
  }

pub draw_keeps : DrawKeepsLaw Lawful
draw_keeps b w h cs i v g e l at may = draw_stays b w h cs i v g e l at may

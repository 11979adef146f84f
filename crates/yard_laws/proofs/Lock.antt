-- A room is taken.
use Rattle.std.proofs.Common.{◌≡◌, ◌≢◌, ℕ, zero, suc, ◌+◌, ◌<◌, ◌≤◌, ◌⊎◌, ◌&&◌, cond, Bool, true, false, List, [], ◌∷◌, ◌++◌, length, take, get_or, sym, refl, ap, ◌∙◌, subst, ⊎_elim, inl, inr, arith, Some, None, length-set, get_or-set_other, get_or-set_same, append-nil}
use mathlib.Core.Option.{some}
use mathlib.Core.Logic.{dite}
use native.Mathlib.Decide.{ℕ_discrete}
use lib.ListN.{get_elem?}
use Rattle.std.proofs.lemmas.Bool.{lt-ltb}
use Rattle.seq_object.specs.declared.history.Entry.{Entry}
use Rattle.seq_object.specs.declared.history.Noted.{Noted}
use Rattle.life_model.specs.Life.{point_after, next_command}
use Rattle.room_model.specs.MapRoom.{live_layout}
use Rattle.room_model.specs.Rooms.{point_in}
use Rattle.rooms.specs.declared.room.Room.{Room}
use Rattle.yard_model.specs.declared.view.Phase.{Phase}
use Rattle.yard_model.specs.declared.view.Phase.TheVariants.{Closing}
use Rattle.yard_model.specs.declared.view.Beginning.{Beginning}
use Rattle.yard_model.specs.declared.view.View.{View}
use Rattle.yard_model.specs.declared.view.Grip.{Grip}
use Rattle.yard_model.specs.declared.view.GivenBack.{GivenBack}
use Rattle.yard_model.specs.declared.view.TakenPosition.{TakenPosition}
use Rattle.yard_model.specs.declared.view.Checkpoint.{Checkpoint}
use Rattle.yard_model.specs.Entries.{placed, picked, is_for_room, room_entries}
use Rattle.rooms.specs.Rooms.{history_of, bank_of}
use Rattle.yard_model.specs.Beginnings.{opening_of, sizes_at, covered_by, epoch_now, is_over, is_fed}
use Rattle.yard_model.specs.Knows.{is_closing, MayHold, WasAtPlace}
use Rattle.yard_model.specs.World.{YardState, tick_word, arrival, lock_of, dead, ViewIs, Home, stands_at, closes, Shows}
use Rattle.yard_model.specs.Lawful.{HoldsLocks, Lawful}
use Rattle.yard_model.specs.Views.{gripped, grip_on, taken_position}
use Rattle.yard_model.specs.Conditions.{MayLock}
use Rattle.yard_model.specs.Steps.{at_lock, covered_in}
use Rattle.yard_model.specs.Laws.{LockKeepsLaw}
use Rattle.yard_laws.proofs.Lists.{at_set, set_here, set_else, at_inside, each_set, same_at, there}
use Rattle.yard_laws.proofs.Views.{any_there, closes_set, done_set}
use Rattle.yard_laws.proofs.Quiet.{stands_same}
use Rattle.yard_laws.proofs.Arrivals.{few_threads, on_gave_none}
use Rattle.yard_laws.proofs.Moves.{sized_moves, arrival_moves, entries_moves, epochs_moves, taken_moves, loads_moves, positions_moves, stored_moves, rooms_move, bounds_same}
use Rattle.room_model.specs.Banks.{memory_words}
use Rattle.yard_model.specs.Locks.{HoldsRightly, GripsRightly, drawn_of}
use Rattle.seq_object.specs.Sizes.{thread_room, room_count}

-- of fewer entries, no more are picked
pub picked_take : (picks : Entry → Bool) (k d : ℕ) (h : List Entry) → length (picked picks k (take d h)) ≤ length (picked picks k h)
picked_take picks k zero h = omega arith
picked_take picks k (suc d) [] = omega arith
picked_take picks k (suc d) (e ∷ h) = one (picks e) (picked_take picks (suc k) d h)
  where
    one : (c : Bool) → length (picked picks (suc k) (take d h)) ≤ length (picked picks (suc k) h)
        → length (cond c (placed k e ∷ picked picks (suc k) (take d h)) (picked picks (suc k) (take d h))) ≤ length (cond c (placed k e ∷ picked picks (suc k) h) (picked picks (suc k) h))
    one true f = omega (arith, f)
    one false f = f

module _ (b : Beginning) (w : YardState) (h : List Entry) (cs : List Checkpoint) (i : ℕ) (v : View) (r : ℕ) (x : Room)
    (l : Lawful b w h cs) (at : ViewIs w i v) (may : MayLock v r) (free : lock_of w r ≡ 0) (home : Home w r x) where
  abbrev u : View
  u = gripped v r x (covered_in b h cs r)

  abbrev next : YardState
  next = at_lock w i r u

  abbrev grip : Grip
  grip = grip_on v r x (covered_in b h cs r)

  within : r < room_count (sizes_at b)
  within = subst (λ (c : Beginning). r < room_count (sizes_at c)) (l.sized.beginnings i v at) may.within

  holds : MayHold (sizes_at b) i v.phase v.closed.rooms r
  holds = subst (λ (p : Beginning × ℕ). MayHold (sizes_at p.0) p.1 v.phase v.closed.rooms r) (λ k. (l.sized.beginnings i v at k, l.sized.threads i v at k)) may.may_hold

  few : i < 16
  few = few_threads b w h cs l i v at

  here : ViewIs next i u
  here = set_here w.views i u (at_inside w.views i v at)

  lock_here : lock_of next r ≡ i + 1
  lock_here = let s = l.sized.words in let f = within in let lt : 3 + r < length w.words = omega (arith, s, f) in get_or-set_same w.words (3 + r) (i + 1) 0 lt

  lock_else : (q : ℕ) → q ≢ r → lock_of next q ≡ lock_of w q
  lock_else q n = get_or-set_other w.words (3 + r) (3 + q) (i + 1) 0 (λ e. n (omega arith))

  word_same : (q : ℕ) → q < 3 → get_or next.words q 0 ≡ get_or w.words q 0
  word_same q lt = get_or-set_other w.words (3 + r) q (i + 1) 0 (λ e. omega arith)

  -- what is at home was, and is another room
  was_home : (q : ℕ) (s : Room) → Home next q s → (q ≢ r) × Home w q s
  was_home q s at' = ⊎_elim (λ (t : (q ≡ r) × (None ≡ Some s)). let e = t.1 in absurd (cc)) (λ (t : (q ≢ r) × (get_elem? w.rooms q ≡ some (Some s))). t) (at_set w.rooms r q None (Some s) at')

  still : (q : ℕ) (s : Room) → Home next q s → Home w q s
  still q s at' = (was_home q s at').1

  same_lock : (q : ℕ) (s : Room) → Home next q s → lock_of next q ≡ lock_of w q
  same_lock q s at' = lock_else q (was_home q s at').0

  held_none : (g : Grip) → v.grip ≡ Some g → ⊥
  held_none g e = let n = may.nothing_held in let f : None ≡ Some g = sym n ∙ e in absurd (cc)

  shows : Shows (arrival next) (stands_at next.views) (closes next.views) (is_over b cs) (is_fed b h cs) (epoch_now b cs)
  shows = subst (λ (p : ℕ × (ℕ → Bool) × Bool). Shows p.0 p.1 p.2 (is_over b cs) (is_fed b h cs) (epoch_now b cs))
      (λ c. (sym (word_same 2 (omega arith)) c, λ j. sym (stands_same w.views i v u at refl j) c, sym (closes_set w.views i v u at refl) c)) l.arrival.word

  not_dead : i + 1 ≢ dead
  not_dead e = omega (arith, few, e)

  -- the facts of the changed view, of its grip
  on_grip : (P : Grip → Type 0) → P grip → (g : Grip) → u.grip ≡ Some g → P g
  on_grip P f g e = let same : grip ≡ g = cc in subst P same f

  pub locks_kept : HoldsLocks b next h cs
  locks_kept = let f = l.locks in record {
    views = each_set (λ (j : ℕ) (c : View). HoldsRightly b (lock_of next) (tick_word next) j c.phase c.closed.rooms c.grip c.given_back c.saw_off) w.views i u
        (record {
          held = on_grip (λ (g : Grip). lock_of next g.room ≡ i + 1) lock_here;
          given = λ k e. absurd ((on_gave_none b w h cs l i v at may.on) k e);
          one_room = λ k e. absurd ((on_gave_none b w h cs l i v at may.on) k e);
          may_hold = on_grip (λ (g : Grip). MayHold (sizes_at b) i v.phase v.closed.rooms g.room × (g.room < room_count (sizes_at b))) (holds, within);
          may_give = λ k e. absurd ((on_gave_none b w h cs l i v at may.on) k e);
          off = λ e. let o = (f.views i v at).off e in let t = word_same 0 (omega arith) in omega (arith, o, t);
        })
        (λ j c _ e. let o = f.views j c e in record {
          held = λ g p. let old = o.held g p in lock_else g.room (λ q. let z : lock_of w g.room ≡ lock_of w r = ap (lock_of w) q in omega (arith, old, z, free)) ∙ old;
          given = λ k p. let old = o.given k p in lock_else k.room (λ q. let z : lock_of w k.room ≡ lock_of w r = ap (lock_of w) q in omega (arith, old, z, free)) ∙ old;
          one_room = o.one_room;
          may_hold = o.may_hold;
          may_give = o.may_give;
          off = λ s. let p = o.off s in let t = word_same 0 (omega arith) in omega (arith, p, t);
        });
    holder = λ q j lt is alive. dite (ℕ_discrete q r)
        (λ e. let same : i ≡ j = omega (arith, ap (lock_of next) e, lock_here, is) in
        (u, subst (λ (j : ℕ). ViewIs next j u) same here, (grip, refl, sym e)))
        (λ n. let old = f.holder q j lt (sym (lock_else q n) ∙ is) (λ d. alive (lock_else q n ∙ d)) in
        let other : j ≢ i = λ e. (let same : old.0 ≡ v = same_at w.views i old.0 v (subst (λ (j : ℕ). ViewIs w j old.0) e old.1) at in held_none old.2.0 (ap (λ (a : View). a.grip) (sym same) ∙ old.2.1)) in
        (old.0, set_else w.views i j u other ∙ old.1, old.2));
    giver = λ q lt is. dite (ℕ_discrete q r)
        (λ e. absurd (not_dead (sym lock_here ∙ (ap (lock_of next) (sym e) ∙ is))))
        (λ n. let old = f.giver q lt (sym (lock_else q n) ∙ is) in
        let other : old.0 ≢ i = λ e. (let same : old.1 ≡ v = same_at w.views i old.1 v (subst (λ (j : ℕ). ViewIs w j old.1) e old.2) at in (on_gave_none b w h cs l i v at may.on) old.3.0 (ap (λ (a : View). a.given_back) (sym same) ∙ old.3.1)) in
        (old.0, old.1, set_else w.views i old.0 u other ∙ old.2, old.3));
    one_giver = each_set (λ (j : ℕ) (c : View). (q : ℕ) (d : View) → ViewIs next q d → (k : GivenBack) → c.given_back ≡ Some k → (m : GivenBack) → d.given_back ≡ Some m → k.room ≡ m.room → j ≡ q) w.views i u
        (λ q d _ k e. absurd ((on_gave_none b w h cs l i v at may.on) k e)) (λ j c _ e. givers j c e);
    free = λ q lt is. dite (ℕ_discrete q r)
        (λ e. absurd (taken (subst (λ (q : ℕ). (lock_of next q ≡ 0) ⊎ (lock_of next q ≡ dead)) e is)))
        (λ n. let old = f.free q lt (subst (λ (m : ℕ). (m ≡ 0) ⊎ (m ≡ dead)) (lock_else q n) is) in (old.0, set_else w.rooms r q None n ∙ old.1));
    home = λ q s at'. subst (λ (m : ℕ). (m ≡ 0) ⊎ (m ≡ dead)) (sym (same_lock q s at')) (f.home q s (still q s at'));
  }
    where
      taken : (lock_of next r ≡ 0) ⊎ (lock_of next r ≡ dead) → ⊥
      taken (inl e) = let f = lock_here in absurd (omega (arith, f, e))
      taken (inr e) = not_dead (sym lock_here ∙ e)

      givers : (j : ℕ) (c : View) → ViewIs w j c → (q : ℕ) (d : View) → ViewIs next q d → (k : GivenBack) → c.given_back ≡ Some k → (m : GivenBack) → d.given_back ≡ Some m → k.room ≡ m.room → j ≡ q
      givers j c e = each_set (λ (q : ℕ) (d : View). (k : GivenBack) → c.given_back ≡ Some k → (m : GivenBack) → d.given_back ≡ Some m → k.room ≡ m.room → j ≡ q) w.views i u
          (l.locks.one_giver j c e i v at) (λ q d _ f. l.locks.one_giver j c e q d f)

  -- what the grip has of a thread's room is right
  runs_now : v.ran ≡ epoch_now b cs
  runs_now = (l.epochs.views i v at).runs (λ c. subst (λ (p : Phase). MayHold (sizes_at b) i p v.closed.rooms r) c holds)

  grip_position : (k : ℕ) → k < b.settings.threads → r ≡ thread_room (sizes_at b) k → grip.position ≡ Some (taken_position v.ran x)
  grip_position k lt is = let s = ap (λ (c : Beginning). c.settings.shards) (l.sized.beginnings i v at) in
      let t = ap (λ (c : Beginning). c.settings.threads) (l.sized.beginnings i v at) in
      let low = lt-ltb v.beginning.settings.shards r (omega (arith, is, s)) in
      let high = lt-ltb r (v.beginning.settings.shards + 1 + v.beginning.settings.threads) (omega (arith, is, s, t, lt)) in
      (λ c. cond (low c && high c) (Some (taken_position v.ran x)) None)

  thread_home : (k : ℕ) → r ≡ thread_room (sizes_at b) k → Home w (thread_room (sizes_at b) k) x
  thread_home k is = subst (λ (r : ℕ). Home w r x) is home

  closing_taken : v.phase ≡ Closing → (k : ℕ) → k < b.settings.threads → r ≡ thread_room (sizes_at b) k → WasAtPlace (point_after (opening_of b) h k) (next_command (opening_of b) h k) (taken_position v.ran x)
  closing_taken c k lt is =
      let t = there w.views k (let n = l.sized.views in omega (arith, lt, n)) in
      let full = l.arrival.full k t.0 t.1 (any_there (λ (d : View). is_closing d.phase) w.views i v at (ap is_closing c)) in
      let s = (l.positions.views k t.0 t.1 x (thread_home k is)).standing full in record { point = s.point; ended = s.ended; waits = s.waits }

  knows : GripsRightly b h cs v.phase grip
  knows = record {
    covered = refl;
    in_history = let f = picked_take (is_for_room (sizes_at b) r) 0 (covered_by cs) h in let c = ap (λ (ns : List Noted). length ns) (l.entries.home r x home) in omega (arith, f, c);
    point = λ k lt is. (taken_position v.ran x, grip_position k lt is, ap (λ (n : ℕ). point_in live_layout (memory_words n (bank_of x))) runs_now ∙ l.rooms.points k x lt (thread_home k is));
    closing = λ c k lt is t p. let q = grip_position k lt is in let one : taken_position v.ran x ≡ t = cc in
        subst (λ (t : TakenPosition). WasAtPlace (point_after (opening_of b) h k) (next_command (opening_of b) h k) t) one (closing_taken c k lt is);
  }

  pub lock_stays : Lawful b next h cs
  lock_stays = record {
    sized = sized_moves b w h cs i v u next.words next.rooms l at refl refl (length-set w.words (3 + r) (i + 1)) (length-set w.rooms r None) still;
    arrival = arrival_moves b w h cs i v u next.words next.rooms l at shows (closes_set w.views i v u at refl) (λ e. e) (l.arrival.full i v at) (l.arrival.over_stands i v at) still;
    locks = locks_kept;
    entries = entries_moves b w h cs i v u next.words next.rooms l at (word_same 1 (omega arith)) (let f = l.entries.views i v at in record {
      own = f.own;
      held = on_grip (λ (g : Grip). room_entries (sizes_at b) g.room h ≡ g.history ++ drawn_of g) (sym (l.entries.home r x home) ∙ sym (append-nil (history_of x)));
    }) still;
    loads = loads_moves b w h cs i v u next.words next.rooms l at still same_lock (λ k e. absurd ((on_gave_none b w h cs l i v at may.on) k e));
    epochs = epochs_moves b w h cs i v u next.words next.rooms l at (l.epochs.views i v at) refl;
    rooms = rooms_move b w h cs i v u next.words next.rooms l at still same_lock (done_set w.views i v u at refl refl) (λ e. (closes_set w.views i v u at refl) ∙ e);
    stored = stored_moves b w h cs i v u next.words next.rooms l at still same_lock (done_set w.views i v u at refl refl) (l.stored.views i v at);
    positions = positions_moves b w h cs i v u next.words next.rooms l at still same_lock (l.positions.views i v at);
    bounds = bounds_same b w h cs i v u next.words next.rooms l at still (l.bounds.learnt i v at) (l.bounds.views i v at) refl (word_same 0 (omega arith)) refl refl refl;
    taken = taken_moves b w h cs i v u next.words next.rooms l at (on_grip (λ (g : Grip). GripsRightly b h cs v.phase g) knows);
  }

pub lock_keeps : LockKeepsLaw Lawful
lock_keeps b w h cs i v r x l at may free home = lock_stays b w h cs i v r x l at may free home

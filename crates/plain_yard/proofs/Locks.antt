-- A lock of a plain yard.
use Rattle.std.proofs.Common.{◌≡◌, ◌≢◌, ℕ, ◌+◌, ◌<◌, ◌&&◌, cond, Bool, List, length, get_or, take, sym, refl, ap, ◌∙◌, subst, arith, Option, Some, None, inl}
use Rattle.std.specs.Prelude.{nat_lt}
use Rattle.std.specs.Option.{IsSome}
use Rattle.std.specs.Vec.{vec_len}
use Rattle.std.proofs.lemmas.Bool.{lt-ltb, le-ltb}
use Rattle.std.proofs.lemmas.List.{take_all, length-map}
use mathlib.Core.Option.{some, some-injective}
use lib.ListN.{get_elem?}
use Rattle.seq_object.specs.declared.history.Entry.{Entry}
use Rattle.seq_object.specs.Sizes.{super_room, room_count}
use Rattle.rooms.specs.declared.room.Room.{Room}
use Rattle.rooms.specs.declared.room.Room.TheVariants.{Map, Queue, Thread, Super}
use Rattle.rooms.specs.Rooms.{IsRoomOf, history_of}
use Rattle.yard_model.specs.declared.view.Beginning.{Beginning}
use Rattle.yard_model.specs.declared.view.View.{View}
use Rattle.yard_model.specs.Entries.{room_entries}
use Rattle.yard_model.specs.Beginnings.{sizes_at}
use Rattle.yard_model.specs.World.{lock_of}
use Rattle.yard_model.specs.Views.{gripped, taken_position, is_thread_room}
use Rattle.yard_model.specs.Conditions.{MayLock}
use Rattle.yard_model.specs.Steps.{covered_in}
use Rattle.yard_laws.proofs.Lists.{at_index}
use Rattle.room_yard.specs.Told.{Told, IsTold}
use Rattle.room_yard.specs.Answers.{Locked, LockIsHeld}
use Rattle.room_yard.specs.Laws.{CanTell}
use Rattle.room_yard.proofs.Told.{lock_answers, held_answers}
use Rattle.plain_yard.specs.declared.seat.Drawn.{Drawn}
use Rattle.plain_yard.specs.declared.seat.Seat.{Seat}
use Rattle.plain_yard.specs.declared.yard.PlainYard.TheInside.{Inside}
use Rattle.plain_yard.specs.Seats.{position_here, lock_seat, look_seat}
use Rattle.plain_yard.specs.Shown.{ShownYard, view_at, IsThread}
use Rattle.plain_yard.specs.Meaning.{entries_in, position_in}
use Rattle.plain_yard.specs.Kept.{state_in, checkpoints_in, told_in, shown_yard, HasPlaces, WasHeld, IsKeptYard}
use Rattle.plain_yard.proofs.Views.{read_lock}
use Rattle.plain_yard.proofs.Fields.{view_of_seat, view_is, known, told_here, seat_places, seat_held, covers_few, has_lock as room_has_lock, has_place as room_has_place}
use Rattle.plain_yard.proofs.Steps.{quiet, quiet_yard, moved, moved_yard, IsDone}

-- what is kept of a room as it is taken
position_kept : (b : Beginning) (r epoch : ℕ) (x : Room) → IsRoomOf b.settings r x
    → position_in (position_here x epoch) ≡ cond (is_thread_room (sizes_at b) r) (Some (taken_position epoch x)) None
position_kept b r epoch (Map x) is = let k = is.kind.0 in let e = le-ltb b.settings.shards r (omega (arith, k)) in sym (ap (λ (c : Bool). cond (c && nat_lt r (super_room (sizes_at b))) (Some (taken_position epoch (Map x))) None) e)
position_kept b r epoch (Queue x) is = let k = is.kind.0 in let e = le-ltb b.settings.shards r (omega (arith, k)) in sym (ap (λ (c : Bool). cond (c && nat_lt r (super_room (sizes_at b))) (Some (taken_position epoch (Queue x))) None) e)
position_kept b r epoch (Thread x) is = let low = lt-ltb b.settings.shards r is.kind.0 in let high = lt-ltb r (super_room (sizes_at b)) is.kind.1 in
    (λ j. cond (sym low j && sym high j) (Some (taken_position epoch (Thread x))) None)
position_kept b r epoch (Super x) is = let k = is.kind in let low = lt-ltb b.settings.shards r (omega (arith, k)) in let high = le-ltb r (super_room (sizes_at b)) (omega (arith, k)) in
    (λ j. cond (sym low j && sym high j) (Some (taken_position epoch (Super x))) None)

-- the room has a lock and a place
module _ (p : Inside) (y : ShownYard) (is : shown_yard p ≡ y) (kept : IsKeptYard p) (i : ℕ) (thread : IsThread y i) (r : ℕ) (may : MayLock (view_at y i) r) where
  within : r < room_count (sizes_at p.beginning)
  within = subst (λ (b : Beginning). r < room_count (sizes_at b)) (known p y is i thread) may.within

  pub has_lock : r < vec_len p.locks
  has_lock = room_has_lock p kept r within

  pub has_place : r < vec_len p.rooms
  has_place = room_has_place p kept r within

module _ (p : Inside) (y : ShownYard) (is : shown_yard p ≡ y) (kept : IsKeptYard p) (i : ℕ) (thread : IsThread y i) (s : Seat) (at : get_elem? p.seats.items i ≡ some s)
    (r : ℕ) (may : MayLock (view_at y i) r) where
  abbrev b : Beginning
  b = p.beginning

  abbrev h : List Entry
  h = entries_in p.log.items

  abbrev v : View
  v = view_of_seat p i s

  told : IsTold (Some (told_in p)) v
  told = told_here p kept i s at

  may_here : MayLock v r
  may_here = subst (λ (z : View). MayLock z r) (view_is p y is i thread s at) may

  -- where the lock is free the room is at home
  pub is_some : (o : Option Room) → get_or p.locks.items r 0 ≡ 0 → o ≡ get_or p.rooms.items r o → IsSome o
  is_some o free e = let x = kept.lawful.locks.free r may_here.within (inl (read_lock p.tick (length p.log.items) p.arrival r 0 p.locks.items ∙ free)) in
      let f : some (Some x.0) ≡ some o = sym x.1 ∙ at_index p.rooms.items r o (let g = room_has_place p kept r may_here.within in let k = p.rooms.ok.0 in omega (arith, g, k)) e in
      subst (λ (q : Option Room). IsSome q) (some-injective (Some x.0) o f) refl

  -- LOCK, done.
  module _ (free : get_or p.locks.items r 0 ≡ 0) (x : Room) (home : get_elem? p.rooms.items r ≡ some (Some x)) where
    lock_is_free : lock_of (state_in p) r ≡ 0
    lock_is_free = read_lock p.tick (length p.log.items) p.arrival r 0 p.locks.items ∙ free

    abbrev IsTaken : Room → Type 0
    IsTaken z = CanTell (λ (w : View) (c : Told). Locked v (Some (told_in p)) r z w (Some c))

    answer : IsTaken x
    answer = let a = lock_answers (told_in p) v r told may_here lock_is_free in subst IsTaken (same a.0 (sym a.1.3.world.1 ∙ home)) a.1
      where
        same : (z : Room) → some (Some z) ≡ some (Some x) → z ≡ x
        same z e = ap (or z) (some-injective (Some z) (Some x) e)
          where
            or : Room → Option Room → Room
            or z None = z
            or z (Some q) = q

    all : length h ≡ length p.log.items
    all = length-map p.log.items (λ (d : Drawn). d.entry)

    history_here : room_entries (sizes_at b) r (take (length p.log.items) h) ≡ history_of x
    history_here = ap (room_entries (sizes_at b) r) (take_all (length p.log.items) h (let c = all in omega (arith, c))) ∙ sym (kept.lawful.entries.home r x home)

    taken : view_of_seat p i (lock_seat r (length p.log.items) p.covered x s) ≡ gripped v r x (covered_in b h (checkpoints_in p) r)
    taken = (λ j. record v {
      grip = Some record {
        room = r;
        history = history_here j;
        covered = length (room_entries (sizes_at b) r (take (kept.covered j) h));
        position = position_kept b r s.ran x (kept.lawful.sized.kinds r x home) j;
        drawn = None;
      };
    })

    pub lock_done : (u : Seat) (before : ℕ) → before ≡ length p.log.items → u ≡ lock_seat r before p.covered x s → (t : ℕ × Option Room) → t ≡ (i + 1, None)
        → IsDone (λ v t w u. Locked v t r x w u) y i (moved_yard p i r u t)
    lock_done u before is_before is_seat t same = let e = is_seat ∙ ap (λ (n : ℕ). lock_seat r n p.covered x s) is_before in
        moved (λ v t w u. Locked v t r x w u) p y is kept i thread s at r u t (i + 1, None) same answer.0
        (ap (view_of_seat p i) e ∙ (taken ∙ (ap (gripped v r x) (sym answer.3.world.2) ∙ sym answer.3.view))) answer.1 answer.3.world.3 (answer.2, answer.3)
        (subst HasPlaces (sym e) (seat_places p kept i s at), subst (WasHeld (length p.log.items)) (sym e) (omega arith, covers_few p kept))

  -- LOCK, held.
  module _ (found : ℕ) (word : get_or p.locks.items r 0 ≡ found) (taken : found ≢ 0) where
    lock_is : lock_of (state_in p) r ≡ found
    lock_is = read_lock p.tick (length p.log.items) p.arrival r 0 p.locks.items ∙ word

    look : CanTell (λ (w : View) (c : Told). LockIsHeld v (Some (told_in p)) r (record { by = found }) w (Some c))
    look = subst (λ (n : ℕ). CanTell (λ (w : View) (c : Told). LockIsHeld v (Some (told_in p)) r (record { by = n }) w (Some c))) lock_is (held_answers (told_in p) v r told may_here (λ e. taken (sym lock_is ∙ e)))

    pub held_done : (u : Seat) → u ≡ look_seat (3 + r) found s → IsDone (λ v t w u. LockIsHeld v t r (record { by = found }) w u) y i (quiet_yard p i u (p.tick, p.arrival))
    held_done u e = quiet (λ v t w u. LockIsHeld v t r (record { by = found }) w u) p y is kept i thread s at u (p.tick, p.arrival) (p.tick, p.arrival) refl look.0
        (ap (view_of_seat p i) e ∙ sym look.3.view) look.1 look.3.world.1 (look.2, look.3)
        (subst HasPlaces (sym e) (seat_places p kept i s at), subst (WasHeld (length p.log.items)) (sym e) (seat_held p kept i s at))

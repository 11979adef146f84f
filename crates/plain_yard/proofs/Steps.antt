-- A step of a thread, from what it means to what contracts see of it.
use Rattle.std.proofs.Common.{◌≡◌, ℕ, ◌+◌, ◌/◌, ◌-◌, ◌^◌, ◌≤◌, ◌∷◌, length, set, sym, refl, ap, ◌∙◌, subst, Option, Some, None, length-set}
use Rattle.std.specs.Vec.{with_item}
use Rattle.std.specs.List.{All}
use Rattle.std.proofs.lemmas.List.Elements.{All-set}
use mathlib.Core.Option.{some}
use lib.ListN.{get_elem?}
use Rattle.restart_point.specs.ArrivalWord.{is_set}
use Rattle.rooms.specs.declared.room.Room.{Room}
use Rattle.yard_model.specs.declared.view.Beginning.{Beginning}
use Rattle.yard_model.specs.declared.view.View.{View}
use Rattle.yard_model.specs.Beginnings.{first_epoch, covered_by}
use Rattle.yard_model.specs.Lawful.{Lawful}
use Rattle.yard_laws.proofs.Lists.{at_inside, set_here}
use Rattle.room_yard.specs.Calls.{room_held}
use Rattle.room_yard.specs.Told.{Told, IsTold}
use Rattle.plain_yard.specs.declared.seat.Drawn.{Drawn}
use Rattle.plain_yard.specs.declared.seat.Holding.{Holding}
use Rattle.plain_yard.specs.declared.seat.Seat.{Seat}
use Rattle.plain_yard.specs.declared.yard.PlainYard.TheInside.{Inside}
use Rattle.plain_yard.specs.Seats.{room_of_seat}
use Rattle.plain_yard.specs.Shown.{ShownYard, view_at, IsThread}
use Rattle.plain_yard.specs.Meaning.{entries_in, checkpoints_up_to, grip_in}
use Rattle.plain_yard.specs.Kept.{state_in, checkpoints_in, told_in, shown_yard, HasPlaces, WasHeld, HasRoomFor, IsKeptYard}
use Rattle.plain_yard.proofs.Views.{set_views, set_lock}
use Rattle.plain_yard.proofs.Fields.{view_of_seat, shown_here, view_is}

-- what an answer tells of a step is what contracts see of it
pub goes : (answer : View → Option Told → View → Option Told → Type 0) (p : Inside) (y : ShownYard) (is : shown_yard p ≡ y) (i : ℕ) (thread : IsThread y i) (s : Seat) (at : get_elem? p.seats.items i ≡ some s)
    (q : Inside) (r : Seat) (there : get_elem? q.seats.items i ≡ some r) (w : View) (b : Told) (view : view_of_seat q i r ≡ w) (told : told_in q ≡ b)
    → answer (view_of_seat p i s) (Some (told_in p)) w (Some b)
    → answer (view_at y i) (Some y.told) (view_at (shown_yard q) i) (Some (told_in q))
goes answer p y is i thread s at q r there w b view told a =
    subst (λ (z : View × ShownYard × View × Told). answer z.0 (Some z.1.told) z.2 (Some z.3))
    (λ j. (sym (view_is p y is i thread s at) j, is j, (sym view ∙ sym (shown_here q i r there)) j, sym told j)) a

-- behind a step: what is kept, and what is told
abbrev pub IsDone : (View → Option Told → View → Option Told → Type 0) → ShownYard → ℕ → Inside → Type 0
IsDone answer y i q = IsKeptYard q × answer (view_at y i) (Some y.told) (view_at (shown_yard q) i) (Some (told_in q))

-- what is kept of a seat
abbrev pub OfSeat : Inside → Seat → Type 0
OfSeat p r = HasPlaces r × WasHeld (length p.log.items) r

-- what is told is lawful
lawful_at : (v w : View) (b c : Told) → IsTold (Some b) w → v ≡ w → b ≡ c → Lawful v.beginning c.world c.history c.checkpoints
lawful_at v w b c told is world = subst (λ (z : Beginning × Told). Lawful z.0 z.1.world z.1.history z.1.checkpoints) (λ j. (ap (λ (v : View). v.beginning) (sym is) j, world j)) told.0

-- QUIET: a step that draws nothing and moves no room, and writes the tick word or the arrival word.
abbrev pub quiet_yard : Inside → ℕ → Seat → ℕ × ℕ → Inside
quiet_yard p i r t = record p { seats = with_item p.seats i r; tick = t.0; arrival = t.1 }

-- the state behind it
abbrev pub quiet_told : Inside → ℕ → View → ℕ × ℕ → Told
quiet_told p i w t = record {
  world = record { words = t.0 ∷ length p.log.items ∷ t.1 ∷ p.locks.items; rooms = p.rooms.items; views = set (state_in p).views i w };
  history = entries_in p.log.items;
  checkpoints = checkpoints_in p;
}

module _ (p : Inside) (kept : IsKeptYard p) (i : ℕ) (r : Seat) (t : ℕ × ℕ) (w : View) (view : view_of_seat p i r ≡ w)
    (lawful : Lawful p.beginning (quiet_told p i w t).world (entries_in p.log.items) (checkpoints_in p)) where
  epoch_same : t.1 / 2 ^ 32 ≡ p.arrival / 2 ^ 32
  epoch_same = lawful.arrival.word.epoch ∙ sym kept.lawful.arrival.word.epoch

  over_same : is_set t.1 17 ≡ is_set p.arrival 17
  over_same = lawful.arrival.word.over ∙ sym kept.lawful.arrival.word.over

  checkpoints_same : checkpoints_in (quiet_yard p i r t) ≡ checkpoints_in p
  checkpoints_same = (λ j. checkpoints_up_to p.log.items (first_epoch p.beginning) (over_same j) (epoch_same j - first_epoch p.beginning))

  quiet_made : told_in (quiet_yard p i r t) ≡ quiet_told p i w t
  quiet_made = (λ j. record {
    world = record {
      words = t.0 ∷ length p.log.items ∷ t.1 ∷ p.locks.items;
      rooms = p.rooms.items;
      views = (set_views p.beginning (entries_in p.log.items) p.seats.items i r ∙ ap (set (state_in p).views i) view) j;
    };
    history = entries_in p.log.items;
    checkpoints = checkpoints_same j;
  })

  quiet_kept : OfSeat p r → IsKeptYard (quiet_yard p i r t)
  quiet_kept of = record {
    lawful = subst (λ (z : Told). Lawful p.beginning z.world z.history z.checkpoints) (sym quiet_made) lawful;
    covered = kept.covered ∙ ap (λ cs. covered_by cs) (sym checkpoints_same);
    epochs = subst (λ (e : ℕ). All (λ (d : Drawn). d.epoch ≤ e) p.log.items) (sym epoch_same) kept.epochs;
    places = All-set HasPlaces p.seats.items i r of.0 kept.places;
    held = All-set (WasHeld (length p.log.items)) p.seats.items i r of.1 kept.held;
    room = kept.room;
    lists = kept.lists;
  }

pub quiet : (answer : View → Option Told → View → Option Told → Type 0) (p : Inside) (y : ShownYard) (is : shown_yard p ≡ y) (kept : IsKeptYard p) (i : ℕ) (thread : IsThread y i) (s : Seat) (at : get_elem? p.seats.items i ≡ some s)
    (r : Seat) (t u : ℕ × ℕ) (same : t ≡ u) (w : View) (view : view_of_seat p i r ≡ w) (b : Told) (world : b ≡ quiet_told p i w u)
    → IsTold (Some b) w × answer (view_of_seat p i s) (Some (told_in p)) w (Some b) → OfSeat p r → IsDone answer y i (quiet_yard p i r t)
quiet answer p y is kept i thread s at r t u same w view b world a of =
    let lawful : Lawful p.beginning (quiet_told p i w u).world (entries_in p.log.items) (checkpoints_in p) = lawful_at (view_of_seat p i r) w b (quiet_told p i w u) a.0 view world in
    subst (λ (z : ℕ × ℕ). IsDone answer y i (quiet_yard p i r z)) (sym same) (
      quiet_kept p kept i r u w view lawful of,
      goes answer p y is i thread s at (quiet_yard p i r u) r (set_here p.seats.items i r (at_inside p.seats.items i s at)) w b view (quiet_made p kept i r u w view lawful ∙ sym world) a.1,
    )

-- MOVES: a step that takes a room or gives it back, and writes its lock.
abbrev pub moved_yard : Inside → ℕ → ℕ → Seat → ℕ × Option Room → Inside
moved_yard p i r s t = record p { locks = with_item p.locks r t.0; rooms = with_item p.rooms r t.1; seats = with_item p.seats i s }

-- the state behind it
abbrev pub moved_told : Inside → ℕ → ℕ → View → ℕ × Option Room → Told
moved_told p i r w t = record {
  world = record { words = set (state_in p).words (3 + r) t.0; rooms = set p.rooms.items r t.1; views = set (state_in p).views i w };
  history = entries_in p.log.items;
  checkpoints = checkpoints_in p;
}

module _ (p : Inside) (kept : IsKeptYard p) (i r : ℕ) (s : Seat) (t : ℕ × Option Room) (w : View) (view : view_of_seat p i s ≡ w)
    (lawful : Lawful p.beginning (moved_told p i r w t).world (entries_in p.log.items) (checkpoints_in p)) where
  moved_made : told_in (moved_yard p i r s t) ≡ moved_told p i r w t
  moved_made = (λ j. record {
    world = record {
      words = sym (set_lock p.tick (length p.log.items) p.arrival r t.0 p.locks.items) j;
      rooms = set p.rooms.items r t.1;
      views = (set_views p.beginning (entries_in p.log.items) p.seats.items i s ∙ ap (set (state_in p).views i) view) j;
    };
    history = entries_in p.log.items;
    checkpoints = checkpoints_in p;
  })

  moved_kept : OfSeat p s → IsKeptYard (moved_yard p i r s t)
  moved_kept of = record {
    lawful = subst (λ (z : Told). Lawful p.beginning z.world z.history z.checkpoints) (sym moved_made) lawful;
    covered = kept.covered;
    epochs = kept.epochs;
    places = All-set HasPlaces p.seats.items i s of.0 kept.places;
    held = All-set (WasHeld (length p.log.items)) p.seats.items i s of.1 kept.held;
    room = kept.room;
    lists = subst (λ (n : ℕ). HasRoomFor n p.emptied) (sym (length-set p.rooms.items r t.1)) kept.lists;
  }

pub moved : (answer : View → Option Told → View → Option Told → Type 0) (p : Inside) (y : ShownYard) (is : shown_yard p ≡ y) (kept : IsKeptYard p) (i : ℕ) (thread : IsThread y i) (s : Seat) (at : get_elem? p.seats.items i ≡ some s)
    (r : ℕ) (z : Seat) (t u : ℕ × Option Room) (same : t ≡ u) (w : View) (view : view_of_seat p i z ≡ w) (b : Told) (world : b ≡ moved_told p i r w u)
    → IsTold (Some b) w × answer (view_of_seat p i s) (Some (told_in p)) w (Some b) → OfSeat p z → IsDone answer y i (moved_yard p i r z t)
moved answer p y is kept i thread s at r z t u same w view b world a of =
    let lawful : Lawful p.beginning (moved_told p i r w u).world (entries_in p.log.items) (checkpoints_in p) = lawful_at (view_of_seat p i z) w b (moved_told p i r w u) a.0 view world in
    subst (λ (k : ℕ × Option Room). IsDone answer y i (moved_yard p i r z k)) (sym same) (
      moved_kept p kept i r z u w view lawful of,
      goes answer p y is i thread s at (moved_yard p i r z u) z (set_here p.seats.items i z (at_inside p.seats.items i s at)) w b view (moved_made p kept i r z u w view lawful ∙ sym world) a.1,
    )

-- the number of the room that is held
pub held_room : (p : Inside) (y : ShownYard) (is : shown_yard p ≡ y) (i : ℕ) (thread : IsThread y i) (s : Seat) (at : get_elem? p.seats.items i ≡ some s) → room_of_seat s.holding ≡ room_held (view_at y i).grip
held_room p y is i thread s at = by s.holding ∙ ap (λ (v : View). room_held v.grip) (sym (view_is p y is i thread s at))
  where
    by : (o : Option Holding) → room_of_seat o ≡ room_held (grip_in p.beginning (entries_in p.log.items) o)
    by None = refl
    by (Some k) = refl

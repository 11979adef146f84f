-- A retreat of a plain yard.
use Rattle.std.proofs.Common.{◌≡◌, ℕ, ◌-◌, ◌^◌, ◌<◌, length, sym, refl, ap, ◌∙◌, subst, Some, None, not}
use Rattle.std.specs.Vec.{vec_len}
use mathlib.Core.Option.{some}
use lib.ListN.{get_elem?}
use Rattle.seq_object.specs.Sizes.{room_count}
use Rattle.rooms.specs.declared.room.Room.{Room}
use Rattle.yard_model.specs.declared.view.Beginning.{Beginning}
use Rattle.yard_model.specs.declared.view.View.{View}
use Rattle.yard_model.specs.Beginnings.{sizes_at}
use Rattle.room_yard.specs.Told.{Told, IsTold}
use Rattle.room_yard.specs.Calls.{MayGiveUp}
use Rattle.room_yard.specs.Answers.{Retreated}
use Rattle.room_yard.specs.Laws.{CanTell}
use Rattle.room_yard.proofs.Told.{retreat_answers}
use Rattle.plain_yard.specs.declared.seat.Seat.{Seat}
use Rattle.plain_yard.specs.declared.yard.PlainYard.TheInside.{Inside}
use Rattle.plain_yard.specs.Seats.{given_seat}
use Rattle.plain_yard.specs.Shown.{ShownYard, view_at, IsThread}
use Rattle.plain_yard.specs.Meaning.{entries_in}
use Rattle.plain_yard.specs.Kept.{told_in, shown_yard, HasPlaces, WasHeld, IsKeptYard}
use Rattle.plain_yard.proofs.Fields.{view_of_seat, view_is, told_here, seat_places, has_lock as room_has_lock, has_place as room_has_place}
use Rattle.plain_yard.proofs.Steps.{moved, moved_yard, IsDone}
use Rattle.plain_yard.proofs.Unlocks.{drew_same}

module _ (p : Inside) (y : ShownYard) (is : shown_yard p ≡ y) (kept : IsKeptYard p) (i : ℕ) (thread : IsThread y i) (s : Seat) (at : get_elem? p.seats.items i ≡ some s)
    (r : ℕ) (x : Room) (may : MayGiveUp (view_at y i) r x) where
  abbrev b : Beginning
  b = p.beginning

  abbrev v : View
  v = view_of_seat p i s

  told : IsTold (Some (told_in p)) v
  told = told_here p kept i s at

  may_here : MayGiveUp v r x
  may_here = subst (λ (z : View). MayGiveUp z r x) (view_is p y is i thread s at) may

  within : r < room_count (sizes_at b)
  within = subst (λ (q : ℕ). q < room_count (sizes_at b)) may_here.1 ((kept.lawful.locks.views i v told.1).may_hold may_here.0 may_here.2.held).1

  pub has_lock : r < vec_len p.locks
  has_lock = room_has_lock p kept r within

  pub has_place : r < vec_len p.rooms
  has_place = room_has_place p kept r within

  answer : CanTell (λ (w : View) (c : Told). Retreated v (Some (told_in p)) r x w (Some c))
  answer = retreat_answers (told_in p) v r x told may_here

  view : view_of_seat p i (given_seat r s) ≡ answer.0
  view = (λ j. record v { grip = None; given_back = Some record { room = sym may_here.1 j; drew = not (drew_same b (entries_in p.log.items) may_here.0 s.holding may_here.2.held j) } })
      ∙ sym (answer.3.view may_here.0 may_here.2.held)

  pub retreat_done : (u : Seat) → u ≡ given_seat r s → IsDone (λ v t w u. Retreated v t r x w u) y i (moved_yard p i r u (2 ^ 64 - 1, Some x))
  retreat_done u e = moved (λ v t w u. Retreated v t r x w u) p y is kept i thread s at r u (2 ^ 64 - 1, Some x) (2 ^ 64 - 1, Some x) refl answer.0
      (ap (view_of_seat p i) e ∙ view) answer.1 answer.3.world (answer.2, answer.3)
      (subst HasPlaces (sym e) (seat_places p kept i s at), subst (WasHeld (length p.log.items)) (sym e) tt)

-- The next room is locked, and is in hand.
use Rattle.std.proofs.Common.{◌≡◌, ℕ, Bool, true, false, Option, Some, refl, sym, subst}
use Rattle.seq_object.specs.declared.settings.Settings.{Settings}
use Rattle.rooms.specs.declared.room.Room.{Room}
use Rattle.rooms.specs.declared.room.Room.TheVariants.{Map, Queue, Thread, Super}
use Rattle.rooms.specs.Rooms.{HasCells}
use Rattle.yard_model.specs.declared.view.Phase.{Phase}
use Rattle.yard_model.specs.declared.view.View.{View}
use Rattle.yard_model.specs.declared.view.Grip.{Grip}
use Rattle.yard_model.specs.Knows.{sizes_known, MayHold}
use Rattle.yard_model.specs.Views.{grip_on, gripped}
use Rattle.room_yard.specs.Told.{Told}
use Rattle.room_yard.specs.Answers.{Locked}
use Rattle.room_in_hand.specs.Known.{Knowledge, knows}
use Rattle.room_in_hand.specs.InHand.{resting, IsInHand, IsHeldAs}
use Rattle.room_in_hand.specs.Events.{begun, begun_use, has_lines}
use Rattle.room_in_hand.specs.Laws.{IsOfItsType}
use Rattle.room_in_hand.proofs.Given.{given_rests, given_epoch}
use Rattle.coordinator.specs.declared.hand.Hand.{Hand}
use Rattle.coordinator.specs.declared.learnt.Learnt.{Learnt}
use Rattle.coordinator.specs.Closers.{HandIs}
use Rattle.coordinator.specs.Steps.{begun_hand, taken_hand}
use Rattle.coordinator.specs.Events.{MayTakeNext, HasTaken}

-- a room of cells whose closing has begun is in hand
hand_begun : (s : Settings) (l : Learnt) (v : View) (g : Grip) (b : Bool) (y : Room) → v.grip ≡ Some g → g.room ≡ v.closed.rooms → IsInHand (begun_use b) (knows v g) y → HandIs s l (begun_hand b y) v
hand_begun s l v g true y held next in_hand = record { grip = g; held = held; next = next; in_hand = in_hand }
hand_begun s l v g false y held next in_hand = record { grip = g; held = held; next = next; in_hand = in_hand }

module _ (v : View) (r : ℕ) (may : MayTakeNext v r) (t u : Option Told) (w : View) (x : Room) (locked : Locked v t r x w u) (of_type : IsOfItsType x) where
  abbrev behind : View
  behind = gripped v r x locked.covered

  abbrev grip : Grip
  grip = grip_on v r x locked.covered

  next_room : r ≡ v.closed.rooms
  next_room = subst (λ (p : Phase). MayHold (sizes_known v) v.thread p v.closed.rooms r) may.closes may.may.may_hold

  pub rests : HasCells x → IsHeldAs resting x
  rests has = (knows behind grip, given_rests v r x locked.covered has of_type locked.given)

  module _ (kept : HasCells x → (k : Knowledge) → IsInHand resting k x → IsInHand (begun_use (has_lines x)) k (begun x)) (s : Settings) (l : Learnt) where
    cells : HasCells x → HandIs s l (begun_hand (has_lines x) (begun x)) behind
    cells has = hand_begun s l behind grip (has_lines x) (begun x) refl next_room (kept has (knows behind grip) (given_rests v r x locked.covered has of_type locked.given))

-- by its kind
taken_kind : (v : View) (r : ℕ) → MayTakeNext v r → (t u : Option Told) (w : View) (x : Room) (locked : Locked v t r x w u) → IsOfItsType x
    → (HasCells x → (k : Knowledge) → IsInHand resting k x → IsInHand (begun_use (has_lines x)) k (begun x)) → (s : Settings) (l : Learnt) → HandIs s l (taken_hand x) (gripped v r x locked.covered)
taken_kind v r may t u w (Map x) locked of_type kept s l = cells v r may t u w (Map x) locked of_type kept s l tt
taken_kind v r may t u w (Queue x) locked of_type kept s l = cells v r may t u w (Queue x) locked of_type kept s l tt
taken_kind v r may t u w (Thread x) locked of_type kept s l = cells v r may t u w (Thread x) locked of_type kept s l tt
taken_kind v r may t u w (Super x) locked of_type kept s l = record {
  grip = grip_on v r (Super x) locked.covered;
  held = refl;
  next = next_room v r may t u w (Super x) locked of_type;
  in_hand = given_epoch v r x locked.covered of_type locked.early locked.given;
}

pub taken : (v : View) (r : ℕ) → MayTakeNext v r → (t u : Option Told) (w : View) (x : Room) (hand : Hand) → Locked v t r x w u → IsOfItsType x → hand ≡ taken_hand x
    → (HasCells x → (k : Knowledge) → IsInHand resting k x → IsInHand (begun_use (has_lines x)) k (begun x)) → HasTaken v t r hand w u
taken v r may t u w x hand locked of_type is kept = record {
  room = x;
  locked = locked;
  hand_is = is;
  holds = λ s l. subst (λ (h : Hand). HandIs s l h w) (sym is) (subst (HandIs s l (taken_hand x)) (sym locked.view) (taken_kind v r may t u w x locked of_type kept s l));
}

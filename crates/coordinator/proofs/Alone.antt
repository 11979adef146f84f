-- Events on the room in hand alone.
use Rattle.std.proofs.Common.{◌≡◌, ◌+◌, Bool, true, false, Option, refl, ap, sym, ◌∙◌, subst, arith}
use Rattle.seq_object.specs.declared.settings.Settings.{Settings}
use Rattle.seq_object.specs.Sizes.{sizes_of, room_count}
use Rattle.line_memory.specs.Line.{BankState}
use Rattle.epoch_word.specs.declared.stage.EpochStage.{EpochStage}
use Rattle.rooms.specs.declared.room.Room.{Room}
use Rattle.rooms.specs.declared.room.Room.TheVariants.{Super}
use Rattle.rooms.specs.Rooms.{lines_unasked}
use Rattle.yard_model.specs.declared.view.Phase.{Phase}
use Rattle.yard_model.specs.declared.view.Closed.{Closed}
use Rattle.yard_model.specs.declared.view.View.{View}
use Rattle.yard_model.specs.Knows.{sizes_known, MayHold}
use Rattle.yard_model.specs.Views.{gripped}
use Rattle.room_yard.specs.Told.{Told}
use Rattle.room_in_hand.specs.Known.{Knowledge, knows}
use Rattle.room_in_hand.specs.InHand.{RoomUse, flushing, flushed, shut, writing_epoch, IsInHand, IsHeldAs}
use Rattle.room_in_hand.specs.Events.{written, written_use, fenced, has_lines}
use Rattle.coordinator.specs.declared.hand.Hand.{Hand}
use Rattle.coordinator.specs.declared.hand.Hand.TheVariants.{Empty, Flushing, Flushed, Shut, Epoch}
use Rattle.coordinator.specs.declared.learnt.Learnt.{Learnt}
use Rattle.coordinator.specs.Learnts.{HasLearntAs}
use Rattle.coordinator.specs.Events.{MayTakeNext, HasTaken}
use Rattle.coordinator.specs.Closers.{CloserState, with_hand, Holds, HoldsNone, HandIs, IsCloser}
use Rattle.coordinator.specs.Steps.{written_hand, DoesRow, DoesNext}

-- a closer with another hand that is right
pub with_other : (c : CloserState) (v : View) (hand : Hand) → IsCloser c v → HandIs c.settings c.learnt hand v → IsCloser (with_hand c hand) v
with_other c v hand was is = record {
  on = was.on;
  closes = record { phase = was.closes.phase; wrote = was.closes.wrote; settings = was.closes.settings; learnt = was.closes.learnt; sizes = was.closes.sizes; hand = is };
}

-- a room in hand that is used in another way
pub used_on : (role after : RoomUse) (v : View) (x y : Room) → Holds role v x → ((k : Knowledge) → IsInHand role k x → IsInHand after k y) → Holds after v y
used_on role after v x y was kept = record { grip = was.grip; held = was.held; next = was.next; in_hand = kept (knows v was.grip) was.in_hand }

pub some_holder : (role : RoomUse) (v : View) (x : Room) → Holds role v x → IsHeldAs role x
some_holder role v x was = (knows v was.grip, was.in_hand)

-- what is in hand, by its name
pub in_hand_as : (c : CloserState) (v : View) (hand : Hand) → IsCloser c v → c.hand ≡ hand → HandIs c.settings c.learnt hand v
in_hand_as c v hand was is = subst (λ (h : Hand). HandIs c.settings c.learnt h v) is was.closes.hand

written_is : (s : Settings) (l : Learnt) (v : View) (b : Bool) (x y : Room) → Holds flushing v x → ((k : Knowledge) → IsInHand flushing k x → IsInHand (written_use b) k y) → HandIs s l (written_hand b y) v
written_is s l v true x y was kept = used_on flushing flushing v x y was kept
written_is s l v false x y was kept = used_on flushing flushed v x y was kept

module _ (c : CloserState) (v : View) (t : Option Told) (was : IsCloser c v) where
  -- an event of a row that leaves the view and the state
  alone : (hand new : Hand) → c.hand ≡ hand → DoesRow hand c v t (with_hand c new) v t → HandIs c.settings c.learnt new v → DoesNext c v t (with_hand c new) v t
  alone hand new is row right = record { row = subst (λ (h : Hand). DoesRow h c v t (with_hand c new) v t) (sym is) row; closer = with_other c v new was right }

  pub wrote_back : (x : Room) (new : Hand) → c.hand ≡ Flushing x → new ≡ written_hand (has_lines (written x)) (written x) → lines_unasked x ≡ lines_unasked (written x) + 1
      → ((k : Knowledge) → IsInHand flushing k x → IsInHand (written_use (has_lines (written x))) k (written x)) → DoesNext c v t (with_hand c new) v t
  wrote_back x new is made fewer kept = alone (Flushing x) new is (record { fewer = fewer; alone = (ap (with_hand c) made, refl, refl) })
      (subst (λ (h : Hand). HandIs c.settings c.learnt h v) (sym made) (written_is c.settings c.learnt v (has_lines (written x)) x (written x) (in_hand_as c v (Flushing x) was is) kept))

  pub fenced_in : (x : Room) (new : Hand) → c.hand ≡ Flushed x → new ≡ Shut (fenced x) → ((k : Knowledge) → IsInHand flushed k x → IsInHand shut k (fenced x)) → DoesNext c v t (with_hand c new) v t
  fenced_in x new is made kept = alone (Flushed x) new is (ap (with_hand c) made, refl, refl)
      (subst (λ (h : Hand). HandIs c.settings c.learnt h v) (sym made) (used_on flushed shut v x (fenced x) (in_hand_as c v (Flushed x) was is) kept))

  pub wrote_epoch : (stage after : EpochStage) (x y : BankState) (new : Hand) → c.hand ≡ Epoch stage x → new ≡ Epoch after y → DoesRow (Epoch stage x) c v t (with_hand c (Epoch after y)) v t
      → ((k : Knowledge) → IsInHand (writing_epoch stage) k (Super x) → IsInHand (writing_epoch after) k (Super y)) → DoesNext c v t (with_hand c new) v t
  wrote_epoch stage after x y new is made row kept = subst (λ (h : Hand). DoesNext c v t (with_hand c h) v t) (sym made)
      (alone (Epoch stage x) (Epoch after y) is row (used_on (writing_epoch stage) (writing_epoch after) v (Super x) (Super y) (in_hand_as c v (Epoch stage x) was is) kept))

-- the next room is locked
pub took : (c : CloserState) (v : View) (t u : Option Told) (w : View) (new : Hand) → IsCloser c v → c.hand ≡ Empty → HasTaken v t c.learnt.rooms new w u → DoesNext c v t (with_hand c new) w u
took c v t u w new was is taken = record {
  row = subst (λ (h : Hand). DoesRow h c v t (with_hand c new) w u) (sym is) (record { room = taken.room; locked = taken.locked; taken = ap (with_hand c) taken.hand_is });
  closer = record {
    on = ap (λ (z : View). z.saw_off) view ∙ was.on;
    closes = record {
      phase = ap (λ (z : View). z.phase) view ∙ was.closes.phase;
      wrote = ap (λ (z : View). z.wrote) view ∙ was.closes.wrote;
      settings = was.closes.settings ∙ sym (ap (λ (z : View). z.beginning.settings) view);
      learnt = subst (λ (k : Closed). HasLearntAs c.settings k c.learnt) (sym (ap (λ (z : View). z.closed) view)) was.closes.learnt;
      sizes = was.closes.sizes;
      hand = taken.holds c.settings c.learnt;
    };
  };
}
  where
    view : w ≡ gripped v c.learnt.rooms taken.room taken.locked.covered
    view = taken.locked.view

pub may_take : (c : CloserState) (v : View) → IsCloser c v → c.hand ≡ Empty → MayTakeNext v c.learnt.rooms
may_take c v was is = record {
  may = record {
    on = was.on;
    nothing_held = none.none;
    may_hold = subst (λ (p : Phase). MayHold (sizes_known v) v.thread p v.closed.rooms c.learnt.rooms) (sym was.closes.phase) was.closes.learnt.rooms;
    within = let l = none.left in let e = ap (λ (s : Settings). room_count (sizes_of s)) was.closes.settings in omega (arith, l, e);
  };
  closes = was.closes.phase;
}
  where
    none : HoldsNone c.settings c.learnt v
    none = in_hand_as c v Empty was is

-- a closer with what it has in hand by its name
pub closer_as : (c : CloserState) (v : View) (hand : Hand) → IsCloser c v → c.hand ≡ hand → IsCloser (with_hand c hand) v
closer_as c v hand was is = with_other c v hand was (in_hand_as c v hand was is)

pub does_as : (c : CloserState) (hand : Hand) (v w : View) (t u : Option Told) (d : CloserState) → c.hand ≡ hand → DoesNext (with_hand c hand) v t d w u → DoesNext c v t d w u
does_as c hand v w t u d is does = subst (λ (h : Hand). DoesNext (with_hand c h) v t d w u) (sym is) does

-- A room in hand is given up where the power was seen off.
use Rattle.std.proofs.Common.{◌≡◌, sym, ◌∙◌, subst}
use Rattle.rooms.specs.declared.room.Room.{Room}
use Rattle.rooms.specs.declared.room.Room.TheVariants.{Super}
use Rattle.yard_model.specs.declared.view.View.{View}
use Rattle.room_yard.specs.Calls.{MayGiveUp}
use Rattle.room_in_hand.specs.InHand.{RoomUse, flushing, flushed, shut, writing_epoch}
use Rattle.room_in_hand.specs.Laws.{IsOfClosing}
use Rattle.room_in_hand.proofs.Returns.{given_up}
use Rattle.coordinator.specs.declared.hand.Hand.{Hand}
use Rattle.coordinator.specs.declared.hand.Hand.TheVariants.{Empty, Flushing, Flushed, Shut, Epoch, AllDone, Over}
use Rattle.coordinator.specs.Closers.{CloserState, Holds, HandIs, MayGiveBack}
use Rattle.coordinator.specs.Events.{MayGiveHand}

module _ (c : CloserState) (v : View) (may : MayGiveBack c v) where
  gives : (role : RoomUse) (x : Room) → IsOfClosing role → Holds role v x → MayGiveUp v c.learnt.rooms x
  gives role x of holds = (holds.grip, holds.next ∙ sym may.closes.learnt.rooms, given_up role v holds.grip x of may.off may.closes.phase holds.held holds.in_hand)

  by_hand : (hand : Hand) → HandIs c.settings c.learnt hand v → MayGiveHand hand v c.learnt.rooms
  by_hand Empty holds = tt
  by_hand (Flushing x) holds = gives flushing x tt holds
  by_hand (Flushed x) holds = gives flushed x tt holds
  by_hand (Shut x) holds = gives shut x tt holds
  by_hand (Epoch stage x) holds = gives (writing_epoch stage) (Super x) tt holds
  by_hand AllDone holds = tt
  by_hand Over holds = holds

  pub may_give_hand : (hand : Hand) → c.hand ≡ hand → MayGiveHand hand v c.learnt.rooms
  may_give_hand hand is = by_hand hand (subst (λ (h : Hand). HandIs c.settings c.learnt h v) is may.closes.hand)

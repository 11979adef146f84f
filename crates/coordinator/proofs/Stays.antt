-- A look at the power and a tick leave a closer as it was.
use Rattle.seq_object.specs.declared.settings.Settings.{Settings}
use Rattle.std.proofs.Common.{ℕ}
use Rattle.yard_model.specs.declared.view.View.{View}
use Rattle.yard_model.specs.Views.{saw_power, ticked}
use Rattle.coordinator.specs.declared.hand.Hand.{Hand}
use Rattle.coordinator.specs.declared.hand.Hand.TheVariants.{Empty, Flushing, Flushed, Shut, Epoch, AllDone, Over}
use Rattle.coordinator.specs.declared.learnt.Learnt.{Learnt}
use Rattle.coordinator.specs.Closers.{HandIs}
use Rattle.coordinator.specs.Laws.{StaysBehindPowerLaw, StaysBehindTickLaw}

hand_behind_power : (s : Settings) (l : Learnt) (hand : Hand) (v : View) (found : ℕ) → HandIs s l hand v → HandIs s l hand (saw_power v found)
hand_behind_power s l Empty v found is = record { none = is.none; left = is.left }
hand_behind_power s l (Flushing x) v found is = record { grip = is.grip; held = is.held; next = is.next; in_hand = is.in_hand }
hand_behind_power s l (Flushed x) v found is = record { grip = is.grip; held = is.held; next = is.next; in_hand = is.in_hand }
hand_behind_power s l (Shut x) v found is = record { grip = is.grip; held = is.held; next = is.next; in_hand = is.in_hand }
hand_behind_power s l (Epoch stage x) v found is = record { grip = is.grip; held = is.held; next = is.next; in_hand = is.in_hand }
hand_behind_power s l AllDone v found is = record { none = is.none; all = is.all }
hand_behind_power s l Over v found is = is

hand_behind_tick : (s : Settings) (l : Learnt) (hand : Hand) (v : View) → HandIs s l hand v → HandIs s l hand (ticked v)
hand_behind_tick s l Empty v is = record { none = is.none; left = is.left }
hand_behind_tick s l (Flushing x) v is = record { grip = is.grip; held = is.held; next = is.next; in_hand = is.in_hand }
hand_behind_tick s l (Flushed x) v is = record { grip = is.grip; held = is.held; next = is.next; in_hand = is.in_hand }
hand_behind_tick s l (Shut x) v is = record { grip = is.grip; held = is.held; next = is.next; in_hand = is.in_hand }
hand_behind_tick s l (Epoch stage x) v is = record { grip = is.grip; held = is.held; next = is.next; in_hand = is.in_hand }
hand_behind_tick s l AllDone v is = record { none = is.none; all = is.all }
hand_behind_tick s l Over v is = is

pub stays_behind_power : StaysBehindPowerLaw
stays_behind_power c v found was = record {
  phase = was.phase;
  wrote = was.wrote;
  settings = was.settings;
  learnt = was.learnt;
  sizes = was.sizes;
  hand = hand_behind_power c.settings c.learnt c.hand v found was.hand;
}

pub stays_behind_tick : StaysBehindTickLaw
stays_behind_tick c v was = record {
  phase = was.phase;
  wrote = was.wrote;
  settings = was.settings;
  learnt = was.learnt;
  sizes = was.sizes;
  hand = hand_behind_tick c.settings c.learnt c.hand v was.hand;
}

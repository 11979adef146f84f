-- The write-backs that the rooms counted are few, also of rooms in hand.
use Rattle.std.proofs.Common.{◌≡◌, ◌≢◌, ℕ, ◌+◌, ◌*◌, ◌<◌, ◌≤◌, ◌⊎◌, inl, inr, cond, Bool, true, false, List, ◌++◌, length, get_or, Option, Some, None, refl, sym, ap, ◌∙◌, subst, arith, if◌then◌else◌}
use Rattle.std.specs.Prelude.{slice_get, nat_le, nat_lt}
use Rattle.std.proofs.lemmas.Bool.{le-leb, lt-leb}
use Rattle.std.proofs.lemmas.Option.{slice_get_cases}
use Rattle.seq_object.specs.declared.history.Entry.{Entry}
use Rattle.seq_object.specs.declared.history.Noted.{Noted}
use Rattle.seq_object.specs.Sizes.{sizes_of, super_room}
use Rattle.seq_object.specs.History.{of_room}
use Rattle.epoch_word.specs.declared.stage.EpochStage.{EpochStage}
use Rattle.epoch_word.specs.declared.stage.EpochStage.TheVariants.{Before, Stored, AskedFor, InMemory}
use Rattle.rooms.specs.declared.room.Room.{Room}
use Rattle.rooms.specs.declared.room.Room.TheVariants.{Map, Queue, Thread, Super}
use Rattle.rooms.specs.Rooms.{bank_of, history_of, state_of, lines_unasked}
use Rattle.yard_model.specs.declared.view.Phase.{Phase}
use Rattle.yard_model.specs.declared.view.Phase.TheVariants.{Standing}
use Rattle.yard_model.specs.declared.view.Beginning.{Beginning}
use Rattle.yard_model.specs.declared.view.View.{View}
use Rattle.yard_model.specs.declared.view.Grip.{Grip}
use Rattle.yard_model.specs.declared.view.Checkpoint.{Checkpoint}
use Rattle.yard_model.specs.Beginnings.{sizes_at, first_epoch, write_backs_at}
use Rattle.yard_model.specs.Entries.{is_for_room}
use Rattle.yard_model.specs.Knows.{MayHold, closings_known}
use Rattle.yard_model.specs.World.{YardState, ViewIs}
use Rattle.yard_model.specs.Homes.{position_bound}
use Rattle.yard_model.specs.Lawful.{Lawful}
use Rattle.yard_model.specs.Locks.{drawn_of}
use Rattle.yard_model.specs.WriteBacks.{rise_of, most_write_backs, AreCounts}
use Rattle.yard_laws.proofs.Knowns.{picked_number}
use Rattle.yard_laws.proofs.Lists.{at_inside}
use Rattle.yard_laws.proofs.WriteBacks.{few_are_written}
use Rattle.room_in_hand.specs.Known.{Knowledge, knows}
use Rattle.room_in_hand.specs.InHand.{RoomUse, resting, flushing, flushed, shut, writing_epoch, working, writing_point, IsInHand, KeepsRoom, IsResting, epoch_write_backs}
use Rattle.room_in_hand.proofs.Moves.{bound_most}
use Rattle.coordinator.specs.declared.hand.Hand.{Hand as InClosing}
use Rattle.coordinator.specs.declared.hand.Hand.TheVariants.{Empty as NextRoom, Flushing, Flushed, Shut, Epoch, AllDone, Over}
use Rattle.coordinator.specs.Closers.{CloserState, HandIs}
use Rattle.plain_yard.specs.Shown.{view_at}
use Rattle.plain_yard.proofs.Views.{read_at}
use Rattle.yard_model.specs.Opens.{opening_view}
use Rattle.worker_model.specs.declared.hand.Hand.{Hand}
use Rattle.worker_model.specs.declared.hand.Hand.TheVariants.{Empty, Commands, Drawn, NoItem, Own, Closes, Refused}
use Rattle.worker_model.specs.Workers.{WorkerState, HandFits}
use Rattle.replay_model.specs.Replays.{ReplayState}
use Rattle.replay_model.specs.Kept.{IsReplay}
use Rattle.replay_progress.specs.Shown.{room_in, room_closing, CountsWriteBacks}

-- IN HAND. The room in hand is used in some way.
pub record IsHolding (room : Option Room) (v : View) (g : Grip) : Type 0 where
  pub taken : Room
  pub use_of : RoomUse
  pub in_hand : room ≡ Some taken
  pub used : IsInHand use_of (knows v g) taken

module _ (v : View) (g : Grip) (held : v.grip ≡ Some g) where
  holding : (room : Room) (role : RoomUse) (k : Grip) → v.grip ≡ Some k → IsInHand role (knows v k) room → IsHolding (Some room) v g
  holding room role k other used =
      let q : Some k ≡ Some g = sym other ∙ held in
      let same : k ≡ g = cc in
      record { taken = room; use_of = role; in_hand = refl; used = subst (λ (o : Grip). IsInHand role (knows v o) room) same used }

  no_grip : v.grip ≡ None → ⊥
  no_grip none = let q : None ≡ Some g = sym none ∙ held in cc

  closer_holds : (s : CloserState) (hand : InClosing) → HandIs s.settings s.learnt hand v → IsHolding (room_closing hand) v g
  closer_holds s NextRoom fits = absurd (no_grip fits.none)
  closer_holds s (Flushing x) fits = holding x flushing fits.grip fits.held fits.in_hand
  closer_holds s (Flushed x) fits = holding x flushed fits.grip fits.held fits.in_hand
  closer_holds s (Shut x) fits = holding x shut fits.grip fits.held fits.in_hand
  closer_holds s (Epoch stage x) fits = holding (Super x) (writing_epoch stage) fits.grip fits.held fits.in_hand
  closer_holds s AllDone fits = absurd (no_grip fits.none)
  closer_holds s Over fits = absurd fits

  pub hand_holds : (c : WorkerState) (hand : Hand) → HandFits c hand v → IsHolding (room_in hand) v g
  hand_holds c Empty fits = absurd (no_grip fits.none)
  hand_holds c (Commands reply x) fits = holding x _ fits.grip fits.holds.held fits.holds.in_hand
  hand_holds c (Drawn x) fits = holding x resting fits.grip fits.holds.held fits.holds.in_hand
  hand_holds c (NoItem x) fits = holding x resting fits.grip fits.holds.held fits.holds.in_hand
  hand_holds c (Own x) fits = holding x _ fits.grip fits.holds.held fits.holds.in_hand
  hand_holds c (Closes closer) fits = closer_holds closer closer.hand fits.closes.hand
  hand_holds c (Refused x) fits = holding x resting fits.grip fits.holds.held fits.holds.in_hand

-- HOW MANY a room in hand may have counted: four for each entry of a room of commands, else one for each closing and one more
abbrev pub most_in_hand : Knowledge → ℕ
most_in_hand k = if nat_le k.room k.settings.shards then 4 * length k.history else k.closings + 1

module _ (k : Knowledge) where
  rests_few : (x : Room) → KeepsRoom k x → IsResting k x → (bank_of x).write_backs + lines_unasked x ≤ k.opened + most_in_hand k
  rests_few x kept rests = by (nat_le k.room k.settings.shards) (nat_lt k.room (super_room (sizes_of k.settings))) rests.write_backs
    where
      by : (commands thread : Bool) → (bank_of x).write_backs + lines_unasked x ≤ k.opened + cond commands (4 * length (history_of x)) (cond thread (position_bound k.epoch k.closings (state_of x)) (k.closings + 0))
          → (bank_of x).write_backs + lines_unasked x ≤ k.opened + cond commands (4 * length k.history) (k.closings + 1)
      by true thread few = let same = ap (λ (ns : List Noted). length ns) kept.history in omega (arith, few, same)
      by false true few = let p = bound_most k.epoch k.closings (state_of x) in omega (arith, few, p)
      by false false few = omega (arith, few)

  as_commands : (n : ℕ) → k.room ≤ k.settings.shards → n ≤ k.opened + 4 * length k.history → n ≤ k.opened + most_in_hand k
  as_commands n small few = subst (λ (c : Bool). n ≤ k.opened + cond c (4 * length k.history) (k.closings + 1)) (sym (le-leb k.room k.settings.shards small)) few

  as_other : (n : ℕ) → k.settings.shards < k.room → n ≤ k.opened + (k.closings + 1) → n ≤ k.opened + most_in_hand k
  as_other n large few = subst (λ (c : Bool). n ≤ k.opened + cond c (4 * length k.history) (k.closings + 1)) (sym (lt-leb k.room k.settings.shards large)) few

  epoch_few : (stage : EpochStage) → epoch_write_backs stage ≤ 1
  epoch_few Before = omega arith
  epoch_few Stored = omega arith
  epoch_few AskedFor = omega arith
  epoch_few InMemory = omega arith

  pub in_hand_few : (role : RoomUse) (x : Room) → IsInHand role k x → (bank_of x).write_backs ≤ k.opened + most_in_hand k
  in_hand_few resting x is = let f = rests_few x is.kept is.used.0 in omega (arith, f)
  in_hand_few flushing x is = let f = rests_few x is.kept is.used.0 in omega (arith, f)
  in_hand_few flushed x is = let f = rests_few x is.kept is.used.0 in omega (arith, f)
  in_hand_few shut x is = let f = rests_few x is.kept is.used.0 in omega (arith, f)
  in_hand_few (writing_epoch stage) (Map x) is = absurd is.used
  in_hand_few (writing_epoch stage) (Queue x) is = absurd is.used
  in_hand_few (writing_epoch stage) (Thread x) is = absurd is.used
  in_hand_few (writing_epoch stage) (Super x) is =
      let f = is.used.write_backs in
      let e = epoch_few stage in
      let kind = is.kept.room.kind in
      as_other x.write_backs (omega (arith, kind)) (omega (arith, f, e))
  in_hand_few (working under) (Map x) is = let kind = is.kept.room.kind.0 in as_commands x.cells.bank.write_backs (omega (arith, kind)) is.used.write_backs
  in_hand_few (working under) (Queue x) is = let kind = is.kept.room.kind.0 in as_commands x.cells.bank.write_backs (omega (arith, kind)) is.used.write_backs
  in_hand_few (working under) (Thread x) is = absurd is.used
  in_hand_few (working under) (Super x) is = absurd is.used
  in_hand_few (writing_point point end) (Map x) is = absurd is.used
  in_hand_few (writing_point point end) (Queue x) is = absurd is.used
  in_hand_few (writing_point point end) (Thread x) is = let f = is.used.write_backs in as_other x.cells.bank.write_backs is.kept.room.kind.0 (omega (arith, f))
  in_hand_few (writing_point point end) (Super x) is = absurd is.used

  -- with a line that is still to be written back there may be one more
  pub flushing_few : (x : Room) → IsInHand flushing k x → (bank_of x).write_backs + 1 ≤ k.opened + most_in_hand k
  flushing_few x is = let f = rests_few x is.kept is.used.0 in let some_left = is.used.2 in omega (arith, f, some_left)

-- IN THE YARD.
module _ (b : Beginning) (w : YardState) (h : List Entry) (cs : List Checkpoint) (i : ℕ) (v : View) (g : Grip)
    (l : Lawful b w h cs) (at : ViewIs w i v) (held : v.grip ≡ Some g) where
  -- who holds a room does not stand
  pub moves : v.phase ≢ Standing
  moves stands = subst (λ (p : Phase). MayHold (sizes_at b) i p v.closed.rooms g.room) stands ((l.locks.views i v at).may_hold g held).0

  closings_same : closings_known v ≡ length cs
  closings_same =
      let ran = (l.epochs.views i v at).runs moves in
      let first = ap first_epoch (l.sized.beginnings i v at) in
      omega (arith, ran, first)

  entries_same : length (g.history ++ drawn_of g) ≡ length (of_room (sizes_at b) g.room h)
  entries_same = ap (λ (ns : List Noted). length ns) (sym ((l.entries.views i v at).held g held)) ∙ picked_number (is_for_room (sizes_at b) g.room) 0 h

  pub most_same : most_in_hand (knows v g) ≡ most_write_backs (sizes_at b) h (length cs) g.room
  most_same = (λ k. cond (nat_le g.room ((l.sized.beginnings i v at k).settings.shards)) (4 * length (g.history ++ drawn_of g)) (closings_known v + 1))
      ∙ (λ k. cond (nat_le g.room b.settings.shards) (4 * entries_same k) (closings_same k + 1))

  pub opened_same : write_backs_at v.beginning g.room ≡ write_backs_at b g.room
  opened_same = ap (λ (o : Beginning). write_backs_at o g.room) (l.sized.beginnings i v at)

  -- a room in hand counted few
  pub held_few : (role : RoomUse) (x : Room) → IsInHand role (knows v g) x → (bank_of x).write_backs ≤ write_backs_at b g.room + most_write_backs (sizes_at b) h (length cs) g.room
  held_few role x is = let f = in_hand_few (knows v g) role x is in omega (arith, f, most_same, opened_same)

module _ (s : ReplayState) (was : IsReplay s) (counts : ℕ → ℕ) (are : CountsWriteBacks s counts) where
  are_counts : AreCounts s.yard.beginning s.yard.told.world s.yard.told.history s.yard.told.checkpoints counts
  are_counts = record { home = are.home; hands = hands }
    where
      hands : (i : ℕ) (v : View) → ViewIs s.yard.told.world i v → (g : Grip) → v.grip ≡ Some g
          → counts g.room ≤ write_backs_at s.yard.beginning g.room + most_write_backs (sizes_at s.yard.beginning) s.yard.told.history (length s.yard.told.checkpoints) g.room
      hands i v at g held = by (slice_get_cases s.workers i).1
        where
          by : ((c : WorkerState) × (i < length s.workers) × (slice_get s.workers i ≡ Some c) × (get_or s.workers i c ≡ c)) ⊎ ((length s.workers ≤ i) × (slice_get s.workers i ≡ None))
              → counts g.room ≤ write_backs_at s.yard.beginning g.room + most_write_backs (sizes_at s.yard.beginning) s.yard.told.history (length s.yard.told.checkpoints) g.room
          by (inl found) =
              let same : view_at s.yard i ≡ v = read_at s.yard.told.world.views i v (opening_view s.yard.beginning i) at in
              let holds : IsHolding (room_in found.0.hand) v g = hand_holds v g held found.0 found.0.hand (subst (HandFits found.0 found.0.hand) same (was.workers i found.0 found.2).hand) in
              let count = are.in_hand i found.0 holds.taken g found.2 holds.in_hand (ap (λ (o : View). o.grip) same ∙ held) in
              let few = held_few s.yard.beginning s.yard.told.world s.yard.told.history s.yard.told.checkpoints i v g was.lawful at held holds.use_of holds.taken holds.used in
              omega (arith, count, few)
          by (inr none) = let lt = at_inside s.yard.told.world.views i v at in let n = was.number in absurd (omega (arith, none, lt, n))

  pub few_now : rise_of s.yard.beginning counts ≤ 4 * length s.yard.told.history + (s.yard.beginning.settings.threads + 1) * (length s.yard.told.checkpoints + 1)
  few_now = few_are_written s.yard.beginning s.yard.told.world s.yard.told.history s.yard.told.checkpoints counts was.lawful are_counts

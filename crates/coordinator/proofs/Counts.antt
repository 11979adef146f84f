-- How many events a closer has done: each step is one.
use Rattle.std.proofs.Common.{◌≡◌, ℕ, suc, ◌+◌, ◌<◌, ◌≤◌, ◌==◌, Bool, true, false, cond, Option, length, refl, ap, sym, ◌∙◌, subst, arith, inl, inr}
use Rattle.std.specs.Prelude.{nat_lt}
use Rattle.std.proofs.lemmas.Bool.Decides.{eqb_tells}
use Rattle.std.proofs.lemmas.List.Sums.{count_by-le-length}
use Rattle.seq_object.specs.declared.sizes.Sizes.{Sizes}
use Rattle.seq_object.specs.Sizes.{sizes_of, super_room, thread_room, line_count}
use Rattle.seq_object.specs.History.{total}
use Rattle.line_memory.specs.Line.{BankState, is_unasked}
use Rattle.epoch_word.specs.declared.stage.EpochStage.{EpochStage}
use Rattle.epoch_word.specs.declared.stage.EpochStage.TheVariants.{Before, Stored, AskedFor, InMemory}
use Rattle.rooms.specs.declared.room.Room.{Room}
use Rattle.rooms.specs.declared.room.Room.TheVariants.{Map, Queue, Thread, Super}
use Rattle.rooms.specs.Rooms.{bank_of, lines_unasked}
use Rattle.yard_model.specs.declared.view.View.{View}
use Rattle.yard_model.specs.Knows.{sizes_known}
use Rattle.yard_model.specs.Conditions.{IsGiven}
use Rattle.room_in_hand.specs.InHand.{flushing, shut, writing_epoch}
use Rattle.room_in_hand.specs.Events.{begun, written, fenced, has_lines, epoch_stored, epoch_written, epoch_fenced}
use Rattle.room_yard.specs.Told.{Told}
use Rattle.room_in_hand.proofs.Moves.{below_super}
use Rattle.coordinator.specs.declared.hand.Hand.{Hand}
use Rattle.coordinator.specs.declared.hand.Hand.TheVariants.{Empty, Flushing, Flushed, Shut, Epoch, AllDone, Over}
use Rattle.coordinator.specs.Closers.{CloserState, with_hand, Holds, IsCloser, most_on, least_on, most_in_hand, least_in_hand, most_events, least_events, epoch_events}
use Rattle.coordinator.specs.Steps.{begun_hand, taken_hand, written_hand, epoch_hand, one_done, DoesEpoch, DoesRow, DoesNext}
use Rattle.coordinator.proofs.Alone.{in_hand_as}
use Rattle.coordinator.proofs.Ended.{eq_false, eq_true, one_more}

-- THE EVENTS OF A ROOM, where it is done.

pub total_more : (f : ℕ → ℕ) (n : ℕ) → total f (n + 1) ≡ total f n + f n
total_more f n = let e : n + 1 ≡ suc n = omega arith in ap (total f) e

pub most_cells : (z : Sizes) (r : ℕ) → r < super_room z → most_on z r ≡ line_count z r + 3
most_cells z r lt = ap (λ (b : Bool). cond b 5 (line_count z r + 3)) (eq_false r (super_room z) (λ e. omega (arith, e, lt)))

pub least_cells : (z : Sizes) (own r : ℕ) → r < super_room z → least_on z own r ≡ cond (r == own) 4 2
least_cells z own r lt = ap (λ (b : Bool). cond b 5 (cond (r == own) 4 2)) (eq_false r (super_room z) (λ e. omega (arith, e, lt)))

pub most_super : (z : Sizes) (r : ℕ) → r ≡ super_room z → most_on z r ≡ 5
most_super z r is = ap (λ (b : Bool). cond b 5 (line_count z r + 3)) (eq_true r (super_room z) is)

pub least_super : (z : Sizes) (own r : ℕ) → r ≡ super_room z → least_on z own r ≡ 5
least_super z own r is = ap (λ (b : Bool). cond b 5 (cond (r == own) 4 2)) (eq_true r (super_room z) is)

-- one step is counted at least and at most
pub record CountsOne (thread : ℕ) (c d : CloserState) : Type 0 where
  pub least : least_events thread d ≤ least_events thread c + 1
  pub most : most_events c + 1 ≤ most_events d

-- what is in hand counts one more, where a room has so many lines, and is the closer's own or not
record HandCounts (lines : ℕ) (own : Bool) (hand new : Hand) : Type 0 where
  least : least_in_hand own new ≤ least_in_hand own hand + 1
  most : most_in_hand lines hand + 1 ≤ most_in_hand lines new

module _ (c : CloserState) (thread : ℕ) where
  abbrev z : Sizes
  z = sizes_of c.settings

  abbrev lines : ℕ
  lines = line_count z c.learnt.rooms

  abbrev own : Bool
  own = c.learnt.rooms == thread_room z thread

  alone : (hand new : Hand) → c.hand ≡ hand → HandCounts lines own hand new → CountsOne thread c (with_hand c new)
  alone hand new is counts = record {
    least = let l = counts.least in let e = ap (least_in_hand own) is in omega (arith, l, e);
    most = let m = counts.most in let e = ap (most_in_hand lines) is in omega (arith, m, e);
  }

  -- the lock
  begun_counts : (b some : Bool) (y : Room) → (b ≡ true → some ≡ true) → HandCounts lines b Empty (begun_hand some y)
  begun_counts b true y stored = record { least = omega arith; most = omega arith }
  begun_counts true false y stored = let e : false ≡ true = stored refl in absurd (cc)
  begun_counts false false y stored = record { least = omega arith; most = omega arith }

  taken_counts : (b : Bool) (x : Room) → (b ≡ true → has_lines x ≡ true) → HandCounts lines b Empty (taken_hand x)
  taken_counts b (Map x) stored = begun_counts b (has_lines (Map x)) (begun (Map x)) stored
  taken_counts b (Queue x) stored = begun_counts b (has_lines (Queue x)) (begun (Queue x)) stored
  taken_counts b (Thread x) stored = begun_counts b (has_lines (Thread x)) (begun (Thread x)) stored
  taken_counts b (Super x) stored = record { least = omega arith; most = omega arith }

  -- a write-back
  written_counts : (b some : Bool) (x y : Room) → lines_unasked x ≡ lines_unasked y + 1 → lines_unasked x ≤ lines → HandCounts lines b (Flushing x) (written_hand some y)
  written_counts b true x y fewer within = record { least = omega arith; most = omega (arith, fewer, within) }
  written_counts true false x y fewer within = record { least = omega arith; most = omega (arith, fewer, within) }
  written_counts false false x y fewer within = record { least = omega arith; most = omega (arith, fewer, within) }

  -- a fence
  fenced_counts : (b : Bool) (x y : Room) → HandCounts lines b (Flushed x) (Shut y)
  fenced_counts true x y = record { least = omega arith; most = omega arith }
  fenced_counts false x y = record { least = omega arith; most = omega arith }

  pub fence_is_one : (x y : Room) (new : Hand) → c.hand ≡ Flushed x → new ≡ Shut y → CountsOne thread c (with_hand c new)
  fence_is_one x y new is made = subst (λ (h : Hand). CountsOne thread c (with_hand c h)) (sym made) (alone (Flushed x) (Shut y) is (fenced_counts own x y))

  pub epoch_is_one : (stage after : EpochStage) (x y : BankState) (new : Hand) → c.hand ≡ Epoch stage x → new ≡ Epoch after y → epoch_events after ≡ epoch_events stage + 1 → CountsOne thread c (with_hand c new)
  epoch_is_one stage after x y new is made next = subst (λ (h : Hand). CountsOne thread c (with_hand c h)) (sym made)
      (alone (Epoch stage x) (Epoch after y) is (record { least = omega (arith, next); most = omega (arith, next) }))

  pub release_is_one : c.hand ≡ AllDone → CountsOne thread c (with_hand c Over)
  release_is_one is = alone AllDone Over is (record { least = omega arith; most = omega arith })

module _ (c : CloserState) (v : View) (was : IsCloser c v) where
  same_sizes : sizes_of c.settings ≡ sizes_known v
  same_sizes = ap sizes_of was.closes.settings

  pub lock_is_one : (x : Room) (new : Hand) (covered : ℕ) → c.hand ≡ Empty → new ≡ taken_hand x → IsGiven v c.learnt.rooms x covered → CountsOne v.thread c (with_hand c new)
  lock_is_one x new covered is made given = subst (λ (h : Hand). CountsOne v.thread c (with_hand c h)) (sym made)
      (alone c v.thread Empty (taken_hand x) is (taken_counts c v.thread (own c v.thread) x stored))
    where
      its_own : own c v.thread ≡ true → c.learnt.rooms ≡ thread_room (sizes_known v) v.thread
      its_own e = elim (eqb_tells c.learnt.rooms (thread_room (sizes_of c.settings) v.thread)) [
        | inl h ↦ h.1 ∙ ap (λ (z : Sizes). thread_room z v.thread) same_sizes
        | inr h ↦ let f : true ≡ false = sym e ∙ h.0 in absurd (cc)
      ]

      stored : own c v.thread ≡ true → has_lines x ≡ true
      stored e = ap (nat_lt 0) (given.stored (its_own e) was.closes.wrote).1

  pub write_back_is_one : (x y : Room) (new : Hand) → c.hand ≡ Flushing x → new ≡ written_hand (has_lines y) y → Holds flushing v x → lines_unasked x ≡ lines_unasked y + 1 → CountsOne v.thread c (with_hand c new)
  write_back_is_one x y new is made holds fewer = subst (λ (h : Hand). CountsOne v.thread c (with_hand c h)) (sym made)
      (alone c v.thread (Flushing x) (written_hand (has_lines y) y) is (written_counts c v.thread (own c v.thread) (has_lines y) x y fewer within))
    where
      number : holds.grip.room ≡ c.learnt.rooms
      number = holds.next ∙ sym was.closes.learnt.rooms

      its_lines : length (bank_of x).lines ≡ line_count (sizes_of c.settings) c.learnt.rooms
      its_lines = holds.in_hand.kept.room.lines ∙ (λ i. line_count (sym same_sizes i) (number i))

      within : lines_unasked x ≤ lines c v.thread
      within = let m = count_by-le-length is_unasked (bank_of x).lines in let e = its_lines in omega (arith, m, e)

  -- a room that is done

  shut_least : (b : Bool) (x : Room) → cond b 4 2 ≤ least_in_hand b (Shut x) + 1
  shut_least true x = omega arith
  shut_least false x = omega arith

  pub home_is_one : (x : Room) → c.hand ≡ Shut x → c.learnt.rooms < super_room (sizes_of c.settings) → CountsOne v.thread c (one_done c x Empty)
  home_is_one x is lt = record {
    least =
        let n = ap (total (least_on (sizes_of c.settings) (thread_room (sizes_of c.settings) v.thread))) (one_more c.learnt x) in
        let t = total_more (least_on (sizes_of c.settings) (thread_room (sizes_of c.settings) v.thread)) c.learnt.rooms in
        let f = least_cells (sizes_of c.settings) (thread_room (sizes_of c.settings) v.thread) c.learnt.rooms lt in
        let s = shut_least (c.learnt.rooms == thread_room (sizes_of c.settings) v.thread) x in
        let h = ap (least_in_hand (c.learnt.rooms == thread_room (sizes_of c.settings) v.thread)) is in
        omega (arith, n, t, f, s, h);
    most =
        let n = ap (total (most_on (sizes_of c.settings))) (one_more c.learnt x) in
        let t = total_more (most_on (sizes_of c.settings)) c.learnt.rooms in
        let f = most_cells (sizes_of c.settings) c.learnt.rooms lt in
        let h = ap (most_in_hand (line_count (sizes_of c.settings) c.learnt.rooms)) is in
        omega (arith, n, t, f, h);
  }

  pub last_is_one : (x : BankState) → c.hand ≡ Epoch InMemory x → c.learnt.rooms ≡ super_room (sizes_of c.settings) → CountsOne v.thread c (one_done c (Super x) AllDone)
  last_is_one x is number = record {
    least =
        let t = total_more (least_on (sizes_of c.settings) (thread_room (sizes_of c.settings) v.thread)) c.learnt.rooms in
        let f = least_super (sizes_of c.settings) (thread_room (sizes_of c.settings) v.thread) c.learnt.rooms number in
        let h = ap (least_in_hand (c.learnt.rooms == thread_room (sizes_of c.settings) v.thread)) is in
        omega (arith, t, f, h);
    most =
        let t = total_more (most_on (sizes_of c.settings)) c.learnt.rooms in
        let f = most_super (sizes_of c.settings) c.learnt.rooms number in
        let h = ap (most_in_hand (line_count (sizes_of c.settings) c.learnt.rooms)) is in
        omega (arith, t, f, h);
  }

-- EACH STEP IS ONE.
module _ (c d : CloserState) (v w : View) (t u : Option Told) (was : IsCloser c v) where
  epoch_step : (stage : EpochStage) (x : BankState) → c.hand ≡ Epoch stage x → DoesEpoch stage x c v t d w u → CountsOne v.thread c d
  epoch_step Before x is does = subst (CountsOne v.thread c) (sym does.0) (epoch_is_one c v.thread Before Stored x (epoch_stored x) (epoch_hand Before x) is refl refl)
  epoch_step Stored x is does = subst (CountsOne v.thread c) (sym does.0) (epoch_is_one c v.thread Stored AskedFor x (epoch_written x) (epoch_hand Stored x) is refl refl)
  epoch_step AskedFor x is does = subst (CountsOne v.thread c) (sym does.0) (epoch_is_one c v.thread AskedFor InMemory x (epoch_fenced x) (epoch_hand AskedFor x) is refl refl)
  epoch_step InMemory x is does =
      let holds : Holds (writing_epoch InMemory) v (Super x) = in_hand_as c v (Epoch InMemory x) was is in
      let k = holds.in_hand.kept.room.kind in
      let n = holds.next ∙ sym was.closes.learnt.rooms in
      let e = ap super_room (same_sizes c v was) in
      subst (CountsOne v.thread c) (sym does.done) (last_is_one c v was x is (omega (arith, k, n, e)))

  by_row : (hand : Hand) → c.hand ≡ hand → DoesRow hand c v t d w u → CountsOne v.thread c d
  by_row Empty is does = subst (CountsOne v.thread c) (sym does.taken) (lock_is_one c v was does.room (taken_hand does.room) does.locked.covered is refl does.locked.given)
  by_row (Flushing x) is does = subst (CountsOne v.thread c) (sym does.alone.0) (write_back_is_one c v was x (written x) (written_hand (has_lines (written x)) (written x)) is refl (in_hand_as c v (Flushing x) was is) does.fewer)
  by_row (Flushed x) is does = subst (CountsOne v.thread c) (sym does.0) (fence_is_one c v.thread x (fenced x) (Shut (fenced x)) is refl)
  by_row (Shut x) is does =
      let holds : Holds shut v x = in_hand_as c v (Shut x) was is in
      let b = below_super v.beginning.settings holds.grip.room x holds.in_hand.used.0.cells holds.in_hand.kept.room.kind in
      let n = holds.next ∙ sym was.closes.learnt.rooms in
      let e = ap super_room (same_sizes c v was) in
      subst (CountsOne v.thread c) (sym does.done) (home_is_one c v was x is (omega (arith, b, n, e)))
  by_row (Epoch stage x) is does = epoch_step stage x is does
  by_row AllDone is does = absurd does
  by_row Over is does = absurd does

  pub step_is_one : DoesNext c v t d w u → CountsOne v.thread c d
  step_is_one does = by_row c.hand refl does.row

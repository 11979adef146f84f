-- Steps that change one view, some words, and at most take rooms out: what they leave of each part of the lawful world, where the changed
-- view has its facts.
use Rattle.std.proofs.Common.{◌≡◌, ℕ, ◌+◌, ◌^◌, ◌≤◌, ◌⊎◌, true, false, List, length, set, sym, ap, ◌∙◌, subst, inl, inr, arith, Some, length-set}
use mathlib.Core.Logic.{dite}
use native.Mathlib.Decide.{ℕ_discrete}
use Rattle.std.specs.Prelude.{Option, nat_lt}
use Rattle.seq_object.specs.declared.history.Entry.{Entry}
use Rattle.rooms.specs.declared.room.Room.{Room}
use Rattle.yard_model.specs.declared.view.Phase.TheVariants.{Standing, Closing}
use Rattle.yard_model.specs.declared.view.Beginning.{Beginning}
use Rattle.yard_model.specs.declared.view.View.{View}
use Rattle.yard_model.specs.declared.view.Grip.{Grip}
use Rattle.yard_model.specs.declared.view.GivenBack.{GivenBack}
use Rattle.yard_model.specs.declared.view.Checkpoint.{Checkpoint}
use Rattle.yard_model.specs.Beginnings.{sizes_at, epoch_now, is_over, is_fed}
use Rattle.yard_model.specs.Knows.{stands}
use Rattle.yard_model.specs.World.{YardState, tick_word, clock, arrival, lock_of, dead, ViewIs, Home, stands_at, closes, done_in, all_ticks, number_on, seen_on, is_called_off, Shows}
use Rattle.yard_model.specs.Lawful.{IsSized, ShowsArrival, HoldsLocks, CountsEntries, HasLegalRooms, KeepsEpochs, KeepsRooms, KeepsPositions, StoresPositions, KeepsBounds, GripsRooms, Lawful}
use Rattle.yard_model.specs.Locks.{HoldsRightly, HasOwnEntries, GripsRightly}
use Rattle.yard_model.specs.Dead.{LeftRoom}
use Rattle.yard_model.specs.Epochs.{IsInEpoch, IsBounded}
use Rattle.yard_model.specs.Homes.{IsFreeHome, IsDeadHome}
use Rattle.yard_model.specs.Positions.{KeepsPosition, IsStored}
use Rattle.yard_model.specs.Closings.{HasLearnt}
use Rattle.yard_laws.proofs.Homes.{dead_closing}
use Rattle.yard_laws.proofs.Lists.{set_here, set_else, at_inside, each_set, same_at}
use Rattle.yard_laws.proofs.Views.{total_same, any_same}
use Rattle.seq_object.specs.Sizes.{thread_room}

-- where the tick word is not lower, a view still holds rightly
pub still_holds : (b : Beginning) (locks : ℕ → ℕ) (low high i : ℕ) (v : View) → low ≤ high
    → HoldsRightly b locks low i v.phase v.closed.rooms v.grip v.given_back v.saw_off → HoldsRightly b locks high i v.phase v.closed.rooms v.grip v.given_back v.saw_off
still_holds b locks low high i v le f = record {
  held = f.held;
  given = f.given;
  one_room = f.one_room;
  may_hold = f.may_hold;
  may_give = f.may_give;
  off = λ s. let o = f.off s in omega (arith, o, le);
}

module _ (b : Beginning) (w : YardState) (h : List Entry) (cs : List Checkpoint) (i : ℕ) (v u : View) (ws : List ℕ) (rs : List (Option Room))
    (l : Lawful b w h cs) (at : ViewIs w i v) where
  abbrev pub next : YardState
  next = record { words = ws; rooms = rs; views = set w.views i u }

  pub sized_moves : u.thread ≡ v.thread → u.beginning ≡ v.beginning → length ws ≡ length w.words → length rs ≡ length w.rooms
      → ((q : ℕ) (s : Room) → Home next q s → Home w q s) → IsSized b next h cs
  sized_moves thread beginning words rooms still = let s = l.sized in record {
    views = length-set w.views i u ∙ s.views;
    rooms = rooms ∙ s.rooms;
    words = words ∙ s.words;
    threads = each_set (λ (j : ℕ) (c : View). c.thread ≡ j) w.views i u (thread ∙ s.threads i v at) (λ j c _ e. s.threads j c e);
    beginnings = each_set (λ (j : ℕ) (c : View). c.beginning ≡ b) w.views i u (beginning ∙ s.beginnings i v at) (λ j c _ e. s.beginnings j c e);
    kinds = λ q x at'. s.kinds q x (still q x at');
  }

  -- where the same threads close
  pub arrival_moves : Shows (arrival next) (stands_at next.views) (closes next.views) (is_over b cs) (is_fed b h cs) (epoch_now b cs) → closes next.views ≡ closes w.views
      → (u.phase ≡ Closing → v.phase ≡ Closing) → (closes w.views ≡ true → stands u.phase ≡ true) → (is_over b cs ≡ true → u.phase ≡ Standing)
      → ((q : ℕ) (s : Room) → Home next q s → Home w q s) → ShowsArrival b next h cs
  arrival_moves shows same from full over still = let a = l.arrival in record {
    word = shows;
    one_closer = each_set (λ (j : ℕ) (c : View). (q : ℕ) (d : View) → ViewIs next q d → c.phase ≡ Closing → d.phase ≡ Closing → j ≡ q) w.views i u
        (λ q d e f. one i v at q d e (from f)) (λ j c _ e. one j c e);
    full = each_set (λ (j : ℕ) (c : View). closes next.views ≡ true → stands c.phase ≡ true) w.views i u (λ e. full (sym same ∙ e)) (λ j c _ e f. a.full j c e (sym same ∙ f));
    over_stands = each_set (λ (j : ℕ) (c : View). is_over b cs ≡ true → c.phase ≡ Standing) w.views i u over (λ j c _ e. a.over_stands j c e);
    over_saved = a.over_saved;
    over_ends = λ j x lt at'. a.over_ends j x lt (still (thread_room (sizes_at b) j) x at');
    only_last = a.only_last;
    used_over = a.used_over;
  }
    where
      one : (j : ℕ) (c : View) → ViewIs w j c → (q : ℕ) (d : View) → ViewIs next q d → c.phase ≡ Closing → d.phase ≡ Closing → j ≡ q
      one j c e = each_set (λ (q : ℕ) (d : View). c.phase ≡ Closing → d.phase ≡ Closing → j ≡ q) w.views i u
          (λ f g. l.arrival.one_closer j c e i v at f (from g)) (λ q d _ f. l.arrival.one_closer j c e q d f)

  pub entries_moves : clock next ≡ clock w → HasOwnEntries b h i u.own u.grip → ((q : ℕ) (s : Room) → Home next q s → Home w q s) → CountsEntries b next h cs
  entries_moves same mine still = let c = l.entries in record {
    clock = same ∙ c.clock;
    known = c.known;
    views = each_set (λ (j : ℕ) (d : View). HasOwnEntries b h j d.own d.grip) w.views i u mine (λ j d _ e. c.views j d e);
    home = λ q x at'. c.home q x (still q x at');
  }

  pub epochs_moves : IsInEpoch b h cs i u.phase u.ran u.quota u.found_empty → u.last_checkpoint ≡ v.last_checkpoint → KeepsEpochs b next h cs
  epochs_moves mine same_last = let e = l.epochs in record {
    views = each_set (λ (j : ℕ) (c : View). IsInEpoch b h cs j c.phase c.ran c.quota c.found_empty) w.views i u mine (λ j c _ f. e.views j c f);
    last = each_set (λ (j : ℕ) (c : View). c.last_checkpoint ≤ epoch_now b cs) w.views i u (let f = e.last i v at in omega (arith, f, same_last)) (λ j c _ f. e.last j c f);
    order = e.order;
    takeless = e.takeless;
  }

  pub taken_moves : ((g : Grip) → u.grip ≡ Some g → GripsRightly b h cs u.phase g) → GripsRooms b next h cs
  taken_moves mine = record {
    views = each_set (λ (j : ℕ) (c : View). (g : Grip) → c.grip ≡ Some g → GripsRightly b h cs c.phase g) w.views i u mine (λ j c _ e. l.taken.views j c e);
  }

  -- rooms that are at home were there, with the same locks, and as many rooms are done
  module _ (still : (q : ℕ) (s : Room) → Home next q s → Home w q s) (same_lock : (q : ℕ) (s : Room) → Home next q s → lock_of next q ≡ lock_of w q) where
    pub loads_moves : LeftRoom b h cs (Home w) i u.phase u.given_back → HasLegalRooms b next h cs
    loads_moves mine = let d = l.loads in record {
      legal = d.legal;
      dead_room = each_set (λ (j : ℕ) (c : View). LeftRoom b h cs (Home next) j c.phase c.given_back) w.views i u
          (λ k e low x at'. mine k e low x (still k.room x at')) (λ j c _ f k e low x at'. d.dead_room j c f k e low x (still k.room x at'));
    }

    pub positions_moves : ((s : Room) → Home w (thread_room (sizes_at b) i) s → KeepsPosition b h cs (lock_of w (thread_room (sizes_at b) i)) i u.phase u.ran u.wrote s)
        → KeepsPositions b next h cs
    positions_moves mine = record {
      views = each_set (λ (j : ℕ) (c : View). (s : Room) → Home next (thread_room (sizes_at b) j) s → KeepsPosition b h cs (lock_of next (thread_room (sizes_at b) j)) j c.phase c.ran c.wrote s) w.views i u
          (λ s at'. on i u s at' (mine s (still (thread_room (sizes_at b) i) s at')))
          (λ j c _ e s at'. on j c s at' (l.positions.views j c e s (still (thread_room (sizes_at b) j) s at')));
    }
      where
        on : (j : ℕ) (c : View) (s : Room) → Home next (thread_room (sizes_at b) j) s → KeepsPosition b h cs (lock_of w (thread_room (sizes_at b) j)) j c.phase c.ran c.wrote s
            → KeepsPosition b h cs (lock_of next (thread_room (sizes_at b) j)) j c.phase c.ran c.wrote s
        on j c s at' f = subst (λ (n : ℕ). KeepsPosition b h cs n j c.phase c.ran c.wrote s) (sym (same_lock (thread_room (sizes_at b) j) s at')) f

    module _ (same_done : done_in next.views ≡ done_in w.views) where
      pub rooms_move : (closes w.views ≡ true → closes next.views ≡ true) → KeepsRooms b next h cs
      rooms_move closing = let d = l.rooms in record {
        free = λ q s at' z. subst (λ (n : ℕ). IsFreeHome b h cs n q s) (sym same_done) (d.free q s (still q s at') (sym (same_lock q s at') ∙ z));
        dead_room = λ q s at' z. subst (λ (n : ℕ). IsDeadHome b h cs n (closes next.views) q s) (sym same_done)
            (dead_closing closing (d.dead_room q s (still q s at') (sym (same_lock q s at') ∙ z)));
        points = λ j s lt at'. d.points j s lt (still (thread_room (sizes_at b) j) s at');
      }

      pub stored_moves : ((s : Room) → Home w (thread_room (sizes_at b) i) s → IsStored (epoch_now b cs) (lock_of w (thread_room (sizes_at b) i)) (nat_lt (thread_room (sizes_at b) i) (done_in w.views)) u.ran u.wrote s)
          → StoresPositions b next h cs
      stored_moves mine = record {
        views = each_set (λ (j : ℕ) (c : View). (s : Room) → Home next (thread_room (sizes_at b) j) s
            → IsStored (epoch_now b cs) (lock_of next (thread_room (sizes_at b) j)) (nat_lt (thread_room (sizes_at b) j) (done_in next.views)) c.ran c.wrote s) w.views i u
            (λ s at' z d. mine s (still (thread_room (sizes_at b) i) s at') (sym (same_lock (thread_room (sizes_at b) i) s at') ∙ z) (ap (nat_lt (thread_room (sizes_at b) i)) (sym same_done) ∙ d))
            (λ j c _ e s at' z d. l.stored.views j c e s (still (thread_room (sizes_at b) j) s at') (sym (same_lock (thread_room (sizes_at b) j) s at') ∙ z) (ap (nat_lt (thread_room (sizes_at b) j)) (sym same_done) ∙ d));
      }

  -- what a view that closes has learnt
  pub learnt_moves : ((q : ℕ) (s : Room) → Home next q s → Home w q s) → (c : View) → HasLearnt b h (Home w) c.closed → HasLearnt b h (Home next) c.closed
  learnt_moves still c f = record {
    rooms = f.rooms;
    fed = f.fed;
    number = f.number;
    ends = λ k x at'. f.ends k x (still (thread_room (sizes_at b) k) x at');
    entries = f.entries;
  }

  pub bounds_move : ((q : ℕ) (s : Room) → Home next q s → Home w q s) → (u.phase ≡ Closing → HasLearnt b h (Home w) u.closed) → IsBounded u.phase u.ticks u.checkpoints → u.checkpoints ≡ v.checkpoints
      → (is_called_off next.views ≡ false → tick_word next ≡ all_ticks next.views)
      → (is_called_off next.views ≡ true → (2 ^ 63 ≤ tick_word next) × (tick_word next ≤ 2 ^ 63 + all_ticks next.views))
      → all_ticks next.views + number_on next.views ≤ b.limit + b.settings.threads → KeepsBounds b next h cs
  bounds_move still learnt mine same_number ticks high limit = let f = l.bounds in record {
    beginning = f.beginning;
    learnt = each_set (λ (j : ℕ) (c : View). c.phase ≡ Closing → HasLearnt b h (Home next) c.closed) w.views i u
        (λ p. learnt_moves still u (learnt p)) (λ j c _ e p. learnt_moves still c (f.learnt j c e p));
    views = each_set (λ (j : ℕ) (c : View). IsBounded c.phase c.ticks c.checkpoints) w.views i u mine (λ j c _ e. f.views j c e);
    ticks = ticks;
    off = high;
    limit = limit;
    checkpoints = total_same (λ (c : View). c.checkpoints) w.views i v u at same_number ∙ f.checkpoints;
  }

  -- where no lock changes, nor which room the view holds and which it gave back
  pub locks_move : ((r : ℕ) → lock_of next r ≡ lock_of w r) → tick_word w ≤ tick_word next → ((k : Grip) → v.grip ≡ Some k → (n : Grip) × (u.grip ≡ Some n) × (n.room ≡ k.room)) → u.given_back ≡ v.given_back
      → ((q : ℕ) (s : Room) → Home w q s → Home next q s) → ((q : ℕ) (s : Room) → Home next q s → Home w q s)
      → HoldsRightly b (lock_of w) (tick_word next) i u.phase u.closed.rooms u.grip u.given_back u.saw_off → HoldsLocks b next h cs
  locks_move locks rises keeps same_given on still mine = let f = l.locks in record {
    views = each_set (λ (j : ℕ) (c : View). HoldsRightly b (lock_of next) (tick_word next) j c.phase c.closed.rooms c.grip c.given_back c.saw_off) w.views i u
        (moved i u mine) (λ j c _ e. moved j c (still_holds b (lock_of w) (tick_word w) (tick_word next) j c rises (f.views j c e)));
    holder = λ r j few is alive. let old = f.holder r j few (sym (locks r) ∙ is) (λ d. alive (locks r ∙ d)) in dite (ℕ_discrete j i)
        (λ e. let same : old.0 ≡ v = same_at w.views i old.0 v (subst (λ (j : ℕ). ViewIs w j old.0) e old.1) at in
        let n = keeps old.2.0 (ap (λ (a : View). a.grip) (sym same) ∙ old.2.1) in
        (u, subst (λ (j : ℕ). ViewIs next j u) (sym e) here, (n.0, n.1, n.2 ∙ old.2.2)))
        (λ e. (old.0, set_else w.views i j u e ∙ old.1, old.2));
    giver = λ r few is. let old = f.giver r few (sym (locks r) ∙ is) in dite (ℕ_discrete old.0 i)
        (λ e. let same : old.1 ≡ v = same_at w.views i old.1 v (subst (λ (j : ℕ). ViewIs w j old.1) e old.2) at in
        (i, u, here, (old.3.0, same_given ∙ (ap (λ (a : View). a.given_back) (sym same) ∙ old.3.1), old.3.2)))
        (λ e. (old.0, old.1, set_else w.views i old.0 u e ∙ old.2, old.3));
    one_giver = each_set (λ (j : ℕ) (c : View). (q : ℕ) (d : View) → ViewIs next q d → (k : GivenBack) → c.given_back ≡ Some k → (m : GivenBack) → d.given_back ≡ Some m → k.room ≡ m.room → j ≡ q) w.views i u
        (λ q d e k p. givers i v at q d e k (sym same_given ∙ p)) (λ j c _ e. givers j c e);
    free = λ r few is. let old = f.free r few (back r is) in (old.0, on r old.0 old.1);
    home = λ r x at'. onward r (f.home r x (still r x at'));
  }
    where
      here : ViewIs next i u
      here = set_here w.views i u (at_inside w.views i v at)

      moved : (j : ℕ) (c : View) → HoldsRightly b (lock_of w) (tick_word next) j c.phase c.closed.rooms c.grip c.given_back c.saw_off
          → HoldsRightly b (lock_of next) (tick_word next) j c.phase c.closed.rooms c.grip c.given_back c.saw_off
      moved j c f = subst (λ (locks : ℕ → ℕ). HoldsRightly b locks (tick_word next) j c.phase c.closed.rooms c.grip c.given_back c.saw_off) (λ k r. sym (locks r) k) f

      givers : (j : ℕ) (c : View) → ViewIs w j c → (q : ℕ) (d : View) → ViewIs next q d → (k : GivenBack) → c.given_back ≡ Some k → (m : GivenBack) → d.given_back ≡ Some m → k.room ≡ m.room → j ≡ q
      givers j c e = each_set (λ (q : ℕ) (d : View). (k : GivenBack) → c.given_back ≡ Some k → (m : GivenBack) → d.given_back ≡ Some m → k.room ≡ m.room → j ≡ q) w.views i u
          (λ k p m g. l.locks.one_giver j c e i v at k p m (sym same_given ∙ g)) (λ q d _ f. l.locks.one_giver j c e q d f)

      back : (r : ℕ) → (lock_of next r ≡ 0) ⊎ (lock_of next r ≡ dead) → (lock_of w r ≡ 0) ⊎ (lock_of w r ≡ dead)
      back r (inl e) = inl (sym (locks r) ∙ e)
      back r (inr e) = inr (sym (locks r) ∙ e)

      onward : (r : ℕ) → (lock_of w r ≡ 0) ⊎ (lock_of w r ≡ dead) → (lock_of next r ≡ 0) ⊎ (lock_of next r ≡ dead)
      onward r (inl e) = inl (locks r ∙ e)
      onward r (inr e) = inr (locks r ∙ e)

  -- where neither the tick word nor what the view has of the power changes
  pub bounds_same : ((q : ℕ) (s : Room) → Home next q s → Home w q s) → (u.phase ≡ Closing → HasLearnt b h (Home w) u.closed) → IsBounded u.phase u.ticks u.checkpoints → u.checkpoints ≡ v.checkpoints
      → tick_word next ≡ tick_word w → u.ticks ≡ v.ticks → seen_on u ≡ seen_on v → u.called_off ≡ v.called_off → KeepsBounds b next h cs
  bounds_same still learnt mine same_number tick ticks on called = let f = l.bounds in
      let off = any_same (λ (c : View). c.called_off) w.views i v u at called in
      let sum = total_same (λ (c : View). c.ticks) w.views i v u at ticks in
      let number = total_same seen_on w.views i v u at on in
      bounds_move still learnt mine same_number (λ e. tick ∙ (f.ticks (sym off ∙ e) ∙ sym sum))
      (λ e. let g = f.off (sym off ∙ e) in (omega (arith, g.0, tick), omega (arith, g.1, sum, tick)))
      (let m = f.limit in omega (arith, m, sum, number))

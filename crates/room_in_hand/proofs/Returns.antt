-- What is in hand may be given back.
use Rattle.std.proofs.Common.{◌≡◌, ℕ, ◌+◌, ◌*◌, ◌<◌, ◌≤◌, inl, inr, Bool, true, false, cond, None, Some, List, [], length, take, refl, ap, sym, ◌∙◌, subst, arith, ⊎_elim, leb}
use Rattle.std.specs.Prelude.{nat_le, nat_lt, not, is_none, Option}
use Rattle.std.proofs.lemmas.Bool.{le-ltb}
use Rattle.std.proofs.lemmas.Bool.Decides.{leb_tells}
use Rattle.seq_object.specs.declared.command.Command.{Command}
use Rattle.seq_object.specs.declared.history.Noted.{Noted}
use Rattle.seq_object.specs.declared.sizes.Sizes.{Sizes}
use Rattle.seq_object.specs.Sizes.{super_room}
use Rattle.line_memory.specs.declared.store.Store.{Store}
use Rattle.line_memory.specs.Line.{BankState, line_at, is_unasked, unasked}
use Rattle.room_model.specs.Chains.{RoomWords}
use Rattle.room_model.specs.MapRoom.{live_layout}
use Rattle.room_model.specs.Rooms.{StandsFor, point_in}
use Rattle.room_model.specs.EpochLine.{epoch_line, surviving_epoch}
use Rattle.incll_var.specs.declared.state.CellState.{CellState}
use Rattle.incll_var.specs.declared.state.CellState.TheVariants.{Torn, Running as RunningCells, Closing as ClosingCells, Saved}
use Rattle.incll_var.specs.Cells.{IsTorn, IsSavedIn}
use Rattle.epoch_word.specs.declared.stage.EpochStage.{EpochStage}
use Rattle.epoch_word.specs.declared.stage.EpochStage.TheVariants.{Before, Stored, AskedFor, InMemory}
use Rattle.epoch_word.specs.Stages.{IsAtStage}
use Rattle.epoch_word.specs.SuperLine.{IsSuperRoom}
use Rattle.epoch_word.proofs.Stages.{surviving_law}
use Rattle.rooms.specs.declared.room.Room.{Room}
use Rattle.rooms.specs.declared.room.Room.TheVariants.{Map, Queue, Thread, Super}
use Rattle.rooms.specs.Rooms.{state_of, words_of, history_of, loads}
use Rattle.yard_model.specs.declared.view.Phase.{Phase}
use Rattle.yard_model.specs.declared.view.Phase.TheVariants.{Running, Closing}
use Rattle.yard_model.specs.declared.view.TakenPosition.{TakenPosition}
use Rattle.yard_model.specs.declared.view.View.{View}
use Rattle.yard_model.specs.declared.view.Grip.{Grip}
use Rattle.yard_model.specs.Beginnings.{write_backs_at}
use Rattle.yard_model.specs.Knows.{sizes_known, is_closing, closings_known, next_of}
use Rattle.yard_model.specs.Homes.{IsFreeState, IsDeadState, IsSafeRoom, IsFreeRoom, IsDeadRoom, IsEpochOrNext, free_bound, dead_bound, position_bound}
use Rattle.life_model.specs.Present.{LoadsFirstStores}
use Rattle.yard_model.specs.Dead.{begun_by}
use Rattle.yard_model.specs.Conditions.{behind, IsKeptRoom, IsFreeFor, IsDeadFor, MayUnlock, MayRetreat}
use Rattle.room_in_hand.specs.Known.{knows}
use Rattle.room_in_hand.specs.InHand.{resting, flushing, flushed, shut, writing_epoch, working, writing_point, KeepsRoom, IsResting, IsWritingEpoch, WritesEpoch, epoch_write_backs}
use Rattle.room_in_hand.specs.Laws.{MayGoHomeLaw, MayBeGivenUpLaw}
use Rattle.room_in_hand.proofs.Moves.{rests_by_loads, below_super, bound_most, le_false, lt_true}
use Rattle.room_in_hand.proofs.Closings.{are_cells, counted_none}
use Rattle.room_in_hand.proofs.Given.{free_whole, super_bound}

-- of a room of cells it makes no difference to its bound whether it is done
same_bound : (a b : Bool) (h p closings : ℕ) → (a ≡ false → b ≡ true) → cond a h (cond b p (closings + 0)) ≡ cond a h (cond b p (closings + 1))
same_bound true b h p closings cells = refl
same_bound false true h p closings cells = refl
same_bound false false h p closings cells = let e = cells refl in absurd (cc)

done_bound : (z : Sizes) (epoch closings r : ℕ) (x : Room) → r < super_room z → free_bound z epoch closings true r x ≡ free_bound z epoch closings false r x
done_bound z epoch closings r x lt = sym (same_bound (nat_le r z.shards) (nat_lt r (super_room z)) (4 * length (history_of x)) (position_bound epoch closings (state_of x)) closings (λ _. lt_true r (super_room z) lt))

-- the bound of a room that is given up is no less than that of a free one
dead_by : (a b : Bool) (h p closings : ℕ) → p ≤ closings + 1 → cond a h (cond b p (closings + 0)) ≤ cond a h (closings + 1)
dead_by true b h p closings le = omega arith
dead_by false true h p closings le = le
dead_by false false h p closings le = omega arith

pub dead_rises : (z : Sizes) (epoch closings r : ℕ) (x : Room) → free_bound z epoch closings false r x ≤ dead_bound z closings r x
dead_rises z epoch closings r x = dead_by (nat_le r z.shards) (nat_lt r (super_room z)) (4 * length (history_of x)) (position_bound epoch closings (state_of x)) closings (bound_most epoch closings (state_of x))

-- Saved cells are free once the room is done, and cells of a closing are those of a room that may be given up.

saved_free : (epoch : ℕ) (state : CellState) → IsSavedIn (λ c. c ≤ epoch) state → IsFreeState epoch true state
saved_free epoch (Torn c) by = by
saved_free epoch (RunningCells c) by = absurd by
saved_free epoch (ClosingCells c) by = by
saved_free epoch (Saved c) by = ⊎_elim (λ (t : (leb epoch c ≡ true) × (epoch ≤ c)). let f = t.1 in inr (omega (arith, f, by), refl)) (λ (t : (leb epoch c ≡ false) × (c < epoch)). inl t.1) (leb_tells epoch c)

saved_whole : (epoch : ℕ) (state : CellState) → IsSavedIn (λ c. c ≤ epoch) state → IsTorn state → ⊥
saved_whole epoch (Torn c) by torn = by
saved_whole epoch (RunningCells c) by torn = by
saved_whole epoch (ClosingCells c) by torn = by
saved_whole epoch (Saved c) by torn = torn

closing_whole : (epoch : ℕ) (state : CellState) → state ≡ ClosingCells epoch → IsTorn state → ⊥
closing_whole epoch state is torn = subst IsTorn is torn

pub free_dead : (epoch : ℕ) (done closing : Bool) (state : CellState) → (done ≡ true → closing ≡ true) → IsFreeState epoch done state → IsDeadState epoch closing state
free_dead epoch done closing (Torn c) may free = free
free_dead epoch done closing (RunningCells c) may free = free
free_dead epoch done closing (ClosingCells c) may free = absurd free
free_dead epoch done closing (Saved c) may (inl lt) = inl lt
free_dead epoch done closing (Saved c) may (inr t) = inr (t.0, may t.1)

-- WHILE NOTHING IS UNDER WAY: a room of cells in hand.
module _ (v : View) (g : Grip) (x : Room) (kept : KeepsRoom (knows v g) x) (rests : IsResting (knows v g) x) (whole : IsTorn (state_of x) → ⊥) where
  abbrev z : Sizes
  z = sizes_known v

  pub below : g.room < super_room z
  below = below_super v.beginning.settings g.room x rests.cells kept.room.kind

  by_loads : words_of x ≡ loads x
  by_loads = rests_by_loads x rests.idle whole

  pub kept_room : IsKeptRoom v g x
  kept_room = record {
    room = kept.room;
    history = kept.history;
    point_in_memory = kept.point_in_memory;
    point_loads = λ _ t is. (ap (point_in live_layout) (sym by_loads) ∙ (rests.point t is).0, (rests.point t is).1);
  }

  pub stands_now : g.room ≤ z.shards → StandsFor live_layout z g.room (loads x) (behind v g.room (history_of x))
  stands_now low = subst (λ (w : RoomWords). StandsFor live_layout z g.room w (behind v g.room (history_of x))) by_loads
      (subst (λ (ns : List Noted). StandsFor live_layout z g.room (words_of x) (behind v g.room ns)) (sym kept.history) (rests.stands low))

  pub safe : (done : Bool) → (done ≡ true → IsSavedIn (λ c. c ≤ v.ran) (state_of x)) → IsSafeRoom z v.ran (write_backs_at v.beginning g.room) done (behind v g.room (take g.covered g.history)) g.room x
  safe done saved = record {
    cells = λ _. are_cells x rests.cells kept.whole;
    saved = λ is _. saved is;
    in_memory = kept.in_memory;
    no_fewer = kept.no_fewer;
    eight = λ is. let b = below in absurd (omega (arith, is, b));
  }

  pub goes_home : IsSavedIn (λ c. c ≤ v.ran) (state_of x) → IsFreeRoom z v.ran (write_backs_at v.beginning g.room) (closings_known v) true (behind v g.room (history_of x)) (behind v g.room (take g.covered g.history)) g.room x
  goes_home saved = record {
    safe = safe true (λ _. saved);
    idle = rests.idle;
    state = λ _. saved_free v.ran (state_of x) saved;
    stands = stands_now;
    write_backs = let f = rests.write_backs in let b = done_bound z v.ran (closings_known v) g.room x below in omega (arith, f, b);
    nothing_pending = λ is. let b = below in absurd (omega (arith, is, b));
    epoch_word = λ is. let b = below in absurd (omega (arith, is, b));
  }

  pub is_given_up : (closing : Bool) → IsDeadState v.ran closing (state_of x) → IsDeadRoom z v.ran (write_backs_at v.beginning g.room) (closings_known v) false closing (behind v g.room (take g.covered g.history)) g.room x
  is_given_up closing state = record {
    safe = safe false (λ is. absurd (cc));
    state = λ _. state;
    write_backs = let f = rests.write_backs in let d = dead_rises z v.ran (closings_known v) g.room x in omega (arith, f, d);
    epoch_word = λ is. let b = below in absurd (omega (arith, is, b));
  }

  -- no store was made of whatever command comes next
  pub loads_none : (command : Option Command) → g.room ≤ z.shards → LoadsFirstStores z v.ran g.room command (loads x) (behind v g.room (history_of x))
  loads_none command low = record { before = loads x; stood = stands_now low; made = 0; loads = λ line word. refl }

pub runs_not : (phase : Phase) → phase ≡ Closing → phase ≡ Running → ⊥
runs_not phase closes runs = let e : Closing ≡ Running = sym closes ∙ runs in absurd (cc)

pub shut_goes_home : MayGoHomeLaw shut
shut_goes_home v g x on phase held in_hand = record {
  on = on;
  held = held;
  kept = kept_room v g x in_hand.kept in_hand.used.0 (saved_whole v.ran (state_of x) in_hand.used.1);
  free = subst (λ (b : Bool). IsFreeFor v b g.room (history_of x) (take g.covered g.history) x) (sym (ap is_closing phase))
      (goes_home v g x in_hand.kept in_hand.used.0 (saved_whole v.ran (state_of x) in_hand.used.1) in_hand.used.1);
  own_room = λ runs. absurd (runs_not v.phase phase runs);
  stored = λ runs. absurd (runs_not v.phase phase runs);
}

-- THE SUPER ROOM.

quiet_none : (bank : BankState) → IsSuperRoom bank → (epoch_line bank).pending ≡ [] → unasked bank.lines ≡ 0
quiet_none bank room none = counted_none is_unasked bank.lines (λ i lt. let one = room.one in let e : 0 ≡ i = omega (arith, lt, one) in subst (λ (k : ℕ). is_unasked (line_at bank.lines k) ≡ false) e (ap (λ (ss : List Store). nat_lt (epoch_line bank).asked (length ss)) none ∙ le-ltb (epoch_line bank).asked 0 (omega arith)))

module _ (v : View) (g : Grip) (bank : BankState) (stage : EpochStage) (kept : KeepsRoom (knows v g) (Super bank)) (writes : IsWritingEpoch stage (knows v g) bank) where
  number : g.room ≡ super_room (sizes_known v)
  number = kept.room.kind

  nothing : (t : TakenPosition) → g.position ≡ Some t → ⊥
  nothing t is = let n = writes.no_position in let e : None ≡ Some t = sym n ∙ is in absurd (cc)

  super_kept : IsKeptRoom v g (Super bank)
  super_kept = record {
    room = kept.room;
    history = kept.history;
    point_in_memory = λ t is. absurd (nothing t is);
    point_loads = λ _ t is. absurd (nothing t is);
  }

  super_safe : (done : Bool) → IsSafeRoom (sizes_known v) v.ran (write_backs_at v.beginning g.room) done (behind v g.room (take g.covered g.history)) g.room (Super bank)
  super_safe done = record {
    cells = λ lt. let n = number in absurd (omega (arith, lt, n));
    saved = λ _ lt. let n = number in absurd (omega (arith, lt, n));
    in_memory = kept.in_memory;
    no_fewer = kept.no_fewer;
    eight = λ _. kept.whole.line.eight;
  }

  stage_bound : epoch_write_backs stage ≤ 1
  stage_bound = by stage
    where
      by : (s : EpochStage) → epoch_write_backs s ≤ 1
      by Before = omega arith
      by Stored = omega arith
      by AskedFor = omega arith
      by InMemory = omega arith

  -- whatever a cut leaves is the epoch or the next
  survives : (s : EpochStage) → IsAtStage s v.ran bank → (k : ℕ) → IsEpochOrNext v.ran bank (surviving_epoch bank k)
  survives Before at k = inl (surviving_law Before bank v.ran k kept.whole at)
  survives Stored at k = ⊎_elim (λ e. inl e) (λ e. inr (e, at.1)) (surviving_law Stored bank v.ran k kept.whole at)
  survives AskedFor at k = ⊎_elim (λ e. inl e) (λ e. inr (e, at.1)) (surviving_law AskedFor bank v.ran k kept.whole at)
  survives InMemory at k = inr (surviving_law InMemory bank v.ran k kept.whole at, at.1)

  pub super_given_up : IsDeadFor v g.room (take g.covered g.history) (Super bank)
  super_given_up = record {
    safe = super_safe false;
    state = λ lt. let n = number in absurd (omega (arith, lt, n));
    write_backs =
        let f = writes.write_backs in
        let s = stage_bound in
        let b : dead_bound (sizes_known v) (closings_known v) g.room (Super bank) ≡ closings_known v + 1 = ap (λ (c : Bool). cond c (4 * length (history_of (Super bank))) (closings_known v + 1)) (le_false g.room (sizes_known v).shards (let n = number in omega (arith, n))) in
        omega (arith, f, s, b);
    epoch_word = λ _ k. survives stage writes.stands_at k;
  }

module _ (v : View) (g : Grip) (bank : BankState) (on : v.saw_off ≡ false) (phase : v.phase ≡ Closing) (held : v.grip ≡ Some g) (kept : KeepsRoom (knows v g) (Super bank)) (writes : IsWritingEpoch InMemory (knows v g) bank) where
  super_home : IsFreeRoom (sizes_known v) v.ran (write_backs_at v.beginning g.room) (closings_known v) true (behind v g.room (history_of (Super bank))) (behind v g.room (take g.covered g.history)) g.room (Super bank)
  super_home = record {
    safe = super_safe v g bank InMemory kept writes true;
    idle = tt;
    state = λ lt. let n = kept.room.kind in absurd (omega (arith, lt, n));
    stands = λ low. let n = kept.room.kind in absurd (omega (arith, low, n));
    write_backs =
        let f = writes.write_backs in
        let n = quiet_none bank kept.whole writes.stands_at.0.quiet in
        let b = super_bound (sizes_known v) v.ran (closings_known v) true g.room (Super bank) kept.room.kind in
        omega (arith, f, n, b);
    nothing_pending = λ _. writes.stands_at.0.quiet;
    epoch_word = λ _. writes.stands_at.1;
  }

  pub super_goes_home : MayUnlock v g (Super bank)
  super_goes_home = record {
    on = on;
    held = held;
    kept = super_kept v g bank InMemory kept writes;
    free = subst (λ (b : Bool). IsFreeFor v b g.room (history_of (Super bank)) (take g.covered g.history) (Super bank)) (sym (ap is_closing phase)) super_home;
    own_room = λ runs. absurd (runs_not v.phase phase runs);
    stored = λ runs. absurd (runs_not v.phase phase runs);
  }

pub epoch_goes_home : MayGoHomeLaw (writing_epoch InMemory)
epoch_goes_home v g (Map x) on phase held in_hand = absurd in_hand.used
epoch_goes_home v g (Queue x) on phase held in_hand = absurd in_hand.used
epoch_goes_home v g (Thread x) on phase held in_hand = absurd in_hand.used
epoch_goes_home v g (Super bank) on phase held in_hand = super_goes_home v g bank on phase held in_hand.kept in_hand.used

-- GIVEN UP.

module _ (v : View) (g : Grip) (x : Room) (off : v.saw_off ≡ true) (phase : v.phase ≡ Closing) (held : v.grip ≡ Some g) (kept : KeepsRoom (knows v g) x) where
  cells_given_up : IsResting (knows v g) x → (IsTorn (state_of x) → ⊥) → IsDeadState v.ran true (state_of x) → MayRetreat v g x
  cells_given_up rests whole state = record {
    off = off;
    held = held;
    kept = kept_room v g x kept rests whole;
    dead_room = is_given_up v g x kept rests whole (is_closing v.phase) (subst (λ (b : Bool). IsDeadState v.ran b (state_of x)) (sym (ap is_closing phase)) state);
    stands = λ low. loads_none v g x kept rests whole (begun_by (not (is_none g.drawn)) (is_closing v.phase) (next_of v)) low;
  }

  closing_dead : state_of x ≡ ClosingCells v.ran → IsDeadState v.ran true (state_of x)
  closing_dead is = subst (λ (s : CellState). IsDeadState v.ran true s) (sym is) refl

epoch_given_up : (v : View) (g : Grip) (x : Room) (stage : EpochStage) → v.saw_off ≡ true → v.grip ≡ Some g → KeepsRoom (knows v g) x → WritesEpoch stage (knows v g) x → MayRetreat v g x
epoch_given_up v g (Map x) stage off held kept writes = absurd writes
epoch_given_up v g (Queue x) stage off held kept writes = absurd writes
epoch_given_up v g (Thread x) stage off held kept writes = absurd writes
epoch_given_up v g (Super bank) stage off held kept writes = record {
  off = off;
  held = held;
  kept = super_kept v g bank stage kept writes;
  dead_room = super_given_up v g bank stage kept writes;
  stands = λ low. let n = kept.room.kind in absurd (omega (arith, low, n));
}

pub given_up : MayBeGivenUpLaw
given_up resting v g x of off phase held i = cells_given_up v g x off phase held i.kept i.used.0 (free_whole v.ran false (state_of x) i.used.1) (free_dead v.ran false true (state_of x) (λ _. refl) i.used.1)
given_up flushing v g x of off phase held i = cells_given_up v g x off phase held i.kept i.used.0 (closing_whole v.ran (state_of x) i.used.1) (closing_dead v g x off phase held i.kept i.used.1)
given_up flushed v g x of off phase held i = cells_given_up v g x off phase held i.kept i.used.0 (closing_whole v.ran (state_of x) i.used.1) (closing_dead v g x off phase held i.kept i.used.1)
given_up shut v g x of off phase held i = cells_given_up v g x off phase held i.kept i.used.0 (saved_whole v.ran (state_of x) i.used.1) (free_dead v.ran true true (state_of x) (λ _. refl) (saved_free v.ran (state_of x) i.used.1))
given_up (writing_epoch stage) v g x of off phase held i = epoch_given_up v g x stage off held i.kept i.used
given_up (working under) v g x of off phase held i = absurd of
given_up (writing_point point end) v g x of off phase held i = absurd of

-- A thread that runs gives a room back, and draws an entry with one in hand.
use Rattle.std.proofs.Common.{◌≡◌, ℕ, ◌+◌, ◌*◌, ◌<◌, ◌≤◌, Bool, true, false, cond, None, Some, List, [], ◌∷◌, ◌++◌, length, take, refl, ap, sym, ◌∙◌, subst, arith, append-nil}
use Rattle.std.specs.Prelude.{not, is_none, option_to_list, Option}
use Rattle.seq_object.specs.declared.command.Command.{Command}
use Rattle.seq_object.specs.declared.history.Noted.{Noted}
use Rattle.seq_object.specs.declared.history.RestartPoint.{RestartPoint}
use Rattle.seq_object.specs.declared.sizes.Sizes.{Sizes}
use Rattle.seq_object.specs.Sizes.{super_room}
use Rattle.seq_object.specs.Object.{Contents, contents_after}
use Rattle.seq_object.specs.History.{contents_at}
use Rattle.line_memory.specs.Line.{bank_load, is_unasked_in, unasked}
use Rattle.room_model.specs.declared.write.PlannedStore.{PlannedStore}
use Rattle.room_model.specs.Chains.{RoomWords}
use Rattle.room_model.specs.MapRoom.{live_layout}
use Rattle.room_model.specs.Rooms.{StandsFor, point_in}
use Rattle.room_model.specs.Writes.{stored_in, newly_pending}
use Rattle.incll_var.specs.declared.state.CellState.{CellState}
use Rattle.incll_var.specs.declared.state.CellState.TheVariants.{Running as RunningCells}
use Rattle.incll_var.specs.Cells.{IsRunning}
use Rattle.command_room.specs.declared.under_way.UnderWay.{UnderWay}
use Rattle.command_room.specs.Room.{CommandRoomState}
use Rattle.restart_point.specs.declared.thread_end.ThreadEnd.{ThreadEnd}
use Rattle.restart_point.specs.Rooms.{ThreadRoomState}
use Rattle.rooms.specs.declared.room.Room.{Room}
use Rattle.rooms.specs.declared.room.Room.TheVariants.{Map, Queue, Thread, Super}
use Rattle.rooms.specs.Rooms.{HasCells, bank_of, state_of, history_of, loads}
use Rattle.yard_model.specs.declared.view.Phase.{Phase}
use Rattle.yard_model.specs.declared.view.Phase.TheVariants.{Running}
use Rattle.yard_model.specs.declared.view.View.{View}
use Rattle.yard_model.specs.declared.view.Grip.{Grip}
use Rattle.yard_model.specs.Entries.{placed, entries_of}
use Rattle.yard_model.specs.Beginnings.{write_backs_at}
use Rattle.yard_model.specs.Knows.{sizes_known, is_closing, closings_known, point_of, next_of, IsAtPlace}
use Rattle.yard_model.specs.Homes.{IsFreeState, IsDeadState, IsSafeRoom, IsFreeRoom, IsDeadRoom, dead_bound, position_bound}
use Rattle.life_model.specs.Present.{LoadsFirstStores}
use Rattle.yard_model.specs.Dead.{begun_by}
use Rattle.yard_model.specs.Locks.{drawn_of}
use Rattle.yard_model.specs.Conditions.{behind, IsKeptRoom, IsFreeFor, MayUnlock, MayRetreat}
use Rattle.room_in_hand.specs.Known.{knows}
use Rattle.room_in_hand.specs.InHand.{resting, flushing, flushed, shut, writing_epoch, working, writing_point, KeepsRoom, IsResting, IsWorking, WorksAt, IsWritingPoint, WritesPoint}
use Rattle.room_in_hand.specs.Laws.{IsEndOf, RestsGoesHomeLaw, PointGoesHomeLaw, RunnerGivesUpLaw, DrawnKnowsLaw}
use Rattle.room_in_hand.proofs.Moves.{le_true, le_false, thread_bound}
use Rattle.room_in_hand.proofs.Closings.{are_cells}
use Rattle.room_in_hand.proofs.Given.{free_whole}
use Rattle.room_in_hand.proofs.Returns.{below, kept_room, stands_now, safe, is_given_up, loads_none, free_dead, runs_not}

-- A ROOM OF COMMANDS THAT RESTS.

module _ (v : View) (g : Grip) (x : Room) (kept : KeepsRoom (knows v g) x) (rests : IsResting (knows v g) x) (state : IsFreeState v.ran false (state_of x)) where
  rests_free : IsFreeRoom (sizes_known v) v.ran (write_backs_at v.beginning g.room) (closings_known v) false (behind v g.room (history_of x)) (behind v g.room (take g.covered g.history)) g.room x
  rests_free = record {
    safe = safe v g x kept rests (free_whole v.ran false (state_of x) state) false (λ is. absurd (cc));
    idle = rests.idle;
    state = λ _. state;
    stands = stands_now v g x kept rests (free_whole v.ran false (state_of x) state);
    write_backs = rests.write_backs;
    nothing_pending = λ is. let b = below v g x kept rests (free_whole v.ran false (state_of x) state) in absurd (omega (arith, is, b));
    epoch_word = λ is. let b = below v g x kept rests (free_whole v.ran false (state_of x) state) in absurd (omega (arith, is, b));
  }

pub rests_goes_home : RestsGoesHomeLaw
rests_goes_home v g x on phase held low i = record {
  on = on;
  held = held;
  kept = kept_room v g x i.kept i.used.0 (free_whole v.ran false (state_of x) i.used.1);
  free = subst (λ (b : Bool). IsFreeFor v b g.room (history_of x) (take g.covered g.history) x) (sym (ap is_closing phase)) (rests_free v g x i.kept i.used.0 i.used.1);
  own_room = λ _ own. absurd (omega (arith, low, own));
  stored = λ _ own. absurd (omega (arith, low, own));
}

-- A ROOM IN MID-WORK: its cells run.

module _ (v : View) (g : Grip) (x : Room) (phase : v.phase ≡ Running) (kept : KeepsRoom (knows v g) x) (has : HasCells x) (below_super : g.room < super_room (sizes_known v)) (state : state_of x ≡ RunningCells v.ran) where
  running_kept : IsKeptRoom v g x
  running_kept = record {
    room = kept.room;
    history = kept.history;
    point_in_memory = kept.point_in_memory;
    point_loads = λ closes. absurd (runs_not v.phase closes phase);
  }

  running_safe : IsSafeRoom (sizes_known v) v.ran (write_backs_at v.beginning g.room) false (behind v g.room (take g.covered g.history)) g.room x
  running_safe = record {
    cells = λ _. are_cells x has kept.whole;
    saved = λ is. absurd (cc);
    in_memory = kept.in_memory;
    no_fewer = kept.no_fewer;
    eight = λ is. absurd (omega (arith, is, below_super));
  }

  running_dead : (closing : Bool) → (bank_of x).write_backs ≤ write_backs_at v.beginning g.room + dead_bound (sizes_known v) (closings_known v) g.room x
      → IsDeadRoom (sizes_known v) v.ran (write_backs_at v.beginning g.room) (closings_known v) false closing (behind v g.room (take g.covered g.history)) g.room x
  running_dead closing few = record {
    safe = running_safe;
    state = λ _. subst (λ (s : CellState). IsDeadState v.ran closing s) (sym state) refl;
    write_backs = few;
    epoch_word = λ is. absurd (omega (arith, is, below_super));
  }

  running_given_up : v.saw_off ≡ true → v.grip ≡ Some g → (bank_of x).write_backs ≤ write_backs_at v.beginning g.room + dead_bound (sizes_known v) (closings_known v) g.room x
      → (g.room ≤ (sizes_known v).shards → LoadsFirstStores (sizes_known v) v.ran g.room (begun_by (not (is_none g.drawn)) (is_closing v.phase) (next_of v)) (loads x) (behind v g.room (history_of x))) → MayRetreat v g x
  running_given_up off held few stands = record { off = off; held = held; kept = running_kept; dead_room = running_dead (is_closing v.phase) few; stands = stands }

-- A COMMAND UNDER WAY.

-- a thread that runs, and drew no entry, may have begun its next command
begun_next : (v : View) (g : Grip) (command : Command) → v.phase ≡ Running → next_of v ≡ Some command → g.drawn ≡ None → begun_by (not (is_none g.drawn)) (is_closing v.phase) (next_of v) ≡ Some command
begun_next v g command phase next none =
    ap (λ (d : Option Noted). begun_by (not (is_none d)) (is_closing v.phase) (next_of v)) none
    ∙ ap (λ (p : Phase). begun_by false (is_closing p) (next_of v)) phase
    ∙ next

-- the bound of a room of commands that is given up
commands_bound : (z : Sizes) (closings r : ℕ) (x : Room) → r ≤ z.shards → dead_bound z closings r x ≡ 4 * length (history_of x)
commands_bound z closings r x low = ap (λ (b : Bool). cond b (4 * length (history_of x)) (closings + 1)) (le_true r z.shards low)

module _ (v : View) (g : Grip) (x : Room) (s : CommandRoomState) (under : UnderWay) (kept : KeepsRoom (knows v g) x) (works : IsWorking under (knows v g) s) (phase : v.phase ≡ Running) (next : next_of v ≡ Some under.command) (none : g.drawn ≡ None) where
  first_stores : loads x ≡ bank_load s.cells.bank → LoadsFirstStores (sizes_known v) v.ran g.room (begun_by (not (is_none g.drawn)) (is_closing v.phase) (next_of v)) (loads x) (behind v g.room (history_of x))
  first_stores same = subst (λ (c : Option Command). LoadsFirstStores (sizes_known v) v.ran g.room c (loads x) (behind v g.room (history_of x))) (sym (begun_next v g under.command phase next none)) (record {
    before = works.before;
    stood = subst (λ (ns : List Noted). StandsFor live_layout (sizes_known v) g.room works.before (behind v g.room ns)) (sym kept.history) works.stood;
    made = works.count;
    loads = λ line word. ap (λ (r : RoomWords). r line word) (same ∙ works.made.loads);
  })

  few_now : (bank_of x).write_backs ≡ s.cells.bank.write_backs → g.room ≤ (sizes_known v).shards → (bank_of x).write_backs ≤ write_backs_at v.beginning g.room + dead_bound (sizes_known v) (closings_known v) g.room x
  few_now same low =
      let f = works.write_backs in
      let h : 4 * length (history_of x) ≡ 4 * length (g.history ++ drawn_of g) = ap (λ (ns : List Noted). 4 * length ns) kept.history in
      let b = commands_bound (sizes_known v) (closings_known v) g.room x low in
      omega (arith, f, h, b, same)

-- THE RESTART POINT.

-- the bound of a thread's room that is given up
position_dead : (z : Sizes) (closings r : ℕ) (x : Room) → z.shards < r → dead_bound z closings r x ≡ closings + 1
position_dead z closings r x above = ap (λ (b : Bool). cond b (4 * length (history_of x)) (closings + 1)) (le_false r z.shards above)

none_stores : (ss : List PlannedStore) → length ss ≡ 0 → ss ≡ []
none_stores [] none = refl
none_stores (s ∷ ss) none = absurd (omega (arith, none))

module _ (v : View) (g : Grip) (t : ThreadRoomState) (point : RestartPoint) (end : ThreadEnd) (phase : v.phase ≡ Running) (kept : KeepsRoom (knows v g) (Thread t)) (writes : IsWritingPoint point end (knows v g) t) where
  above : (sizes_known v).shards < g.room
  above = kept.room.kind.0

  below_last : g.room < super_room (sizes_known v)
  below_last = kept.room.kind.1

  point_given_up : v.saw_off ≡ true → v.grip ≡ Some g → MayRetreat v g (Thread t)
  point_given_up off held = running_given_up v g (Thread t) phase kept tt below_last writes.running off held
      (let f = writes.write_backs in let b = position_dead (sizes_known v) (closings_known v) g.room (Thread t) above in omega (arith, f, b))
      (λ low. let a = above in absurd (omega (arith, low, a)))

  module _ (left : length t.plan.stores ≡ 0) where
    none : t.plan.stores ≡ []
    none = none_stores t.plan.stores left

    -- its one line is to be written back
    one_left : unasked t.cells.bank.lines ≡ 1
    one_left =
        let o = writes.one_line in
        let n : newly_pending (is_unasked_in t.cells.bank) t.plan.stores ≡ 0 = ap (λ (ss : List PlannedStore). newly_pending (is_unasked_in t.cells.bank) ss) none in
        omega (arith, o, n)

    point_loaded : point_in live_layout (bank_load t.cells.bank) ≡ point
    point_loaded = ap (λ (ss : List PlannedStore). point_in live_layout (stored_in (bank_load t.cells.bank) ss)) (sym none) ∙ writes.point_behind

    point_free : IsFreeRoom (sizes_known v) v.ran (write_backs_at v.beginning g.room) (closings_known v) false (behind v g.room (history_of (Thread t))) (behind v g.room (take g.covered g.history)) g.room (Thread t)
    point_free = record {
      safe = running_safe v g (Thread t) phase kept tt below_last writes.running;
      idle = none;
      state = λ _. subst (λ (s : CellState). IsFreeState v.ran false s) (sym writes.running) refl;
      stands = λ low. let a = above in absurd (omega (arith, low, a));
      write_backs =
          let f = writes.write_backs in
          let o = one_left in
          let b = thread_bound (sizes_known v) v.ran (closings_known v) false g.room (Thread t) above below_last in
          let r : position_bound v.ran (closings_known v) t.cells.state ≡ closings_known v + 1 = ap (position_bound v.ran (closings_known v)) writes.running in
          omega (arith, f, o, b, r);
      nothing_pending = λ is. let b = below_last in absurd (omega (arith, is, b));
      epoch_word = λ is. let b = below_last in absurd (omega (arith, is, b));
    }

    point_at_place : point ≡ point_of v → IsEndOf (next_of v) end → IsAtPlace (point_of v) (next_of v) (Thread t)
    point_at_place is ends =
        let now : IsEndOf (next_of v) t.end = subst (λ (e : ThreadEnd). IsEndOf (next_of v) e) (sym writes.end_is) ends in
        record { point = point_loaded ∙ is; ended = now.ended; waits = now.waits }

    point_home : v.saw_off ≡ false → v.grip ≡ Some g → point ≡ point_of v → IsEndOf (next_of v) end → MayUnlock v g (Thread t)
    point_home on held is ends = record {
      on = on;
      held = held;
      kept = running_kept v g (Thread t) phase kept tt below_last writes.running;
      free = subst (λ (b : Bool). IsFreeFor v b g.room (history_of (Thread t)) (take g.covered g.history) (Thread t)) (sym (ap is_closing phase)) point_free;
      own_room = λ _ _. point_at_place is ends;
      stored = λ _ _. (subst IsRunning (sym writes.running) tt, one_left);
    }

pub point_goes_home : PointGoesHomeLaw
point_goes_home v g (Map x) end on phase held own ends i left = absurd i.used
point_goes_home v g (Queue x) end on phase held own ends i left = absurd i.used
point_goes_home v g (Thread t) end on phase held own ends i left = point_home v g t (point_of v) end phase i.kept i.used left on held refl ends
point_goes_home v g (Super bank) end on phase held own ends i left = absurd i.used

-- GIVEN UP.

works_given_up : (v : View) (g : Grip) (x : Room) (under : UnderWay) → v.saw_off ≡ true → v.phase ≡ Running → v.grip ≡ Some g → next_of v ≡ Some under.command → g.drawn ≡ None
    → KeepsRoom (knows v g) x → WorksAt under (knows v g) x → MayRetreat v g x
works_given_up v g (Map s) under off phase held next none kept works =
    let low = kept.room.kind.0 in
    running_given_up v g (Map s) phase kept tt (omega (arith, low)) works.running off held (few_now v g (Map s) s under kept works phase next none refl (omega (arith, low))) (λ _. first_stores v g (Map s) s under kept works phase next none refl)
works_given_up v g (Queue s) under off phase held next none kept works =
    let low = kept.room.kind.0 in
    running_given_up v g (Queue s) phase kept tt (omega (arith, low)) works.running off held (few_now v g (Queue s) s under kept works phase next none refl (omega (arith, low))) (λ _. first_stores v g (Queue s) s under kept works phase next none refl)
works_given_up v g (Thread t) under off phase held next none kept works = absurd works
works_given_up v g (Super bank) under off phase held next none kept works = absurd works

writes_given_up : (v : View) (g : Grip) (x : Room) (point : RestartPoint) (end : ThreadEnd) → v.saw_off ≡ true → v.phase ≡ Running → v.grip ≡ Some g → KeepsRoom (knows v g) x → WritesPoint point end (knows v g) x → MayRetreat v g x
writes_given_up v g (Map s) point end off phase held kept writes = absurd writes
writes_given_up v g (Queue s) point end off phase held kept writes = absurd writes
writes_given_up v g (Thread t) point end off phase held kept writes = point_given_up v g t point end phase kept writes off held
writes_given_up v g (Super bank) point end off phase held kept writes = absurd writes

rests_given_up : (v : View) (g : Grip) (x : Room) → v.saw_off ≡ true → v.grip ≡ Some g → KeepsRoom (knows v g) x → IsResting (knows v g) x → (IsFreeState v.ran false (state_of x)) → MayRetreat v g x
rests_given_up v g x off held kept rests state = record {
  off = off;
  held = held;
  kept = kept_room v g x kept rests (free_whole v.ran false (state_of x) state);
  dead_room = is_given_up v g x kept rests (free_whole v.ran false (state_of x) state) (is_closing v.phase) (free_dead v.ran false (is_closing v.phase) (state_of x) (λ is. absurd (cc)) state);
  stands = λ low. loads_none v g x kept rests (free_whole v.ran false (state_of x) state) (begun_by (not (is_none g.drawn)) (is_closing v.phase) (next_of v)) low;
}

pub runner_gives_up : RunnerGivesUpLaw
runner_gives_up resting v g x of off phase held i = rests_given_up v g x off held i.kept i.used.0 i.used.1
runner_gives_up flushing v g x of off phase held i = absurd of
runner_gives_up flushed v g x of off phase held i = absurd of
runner_gives_up shut v g x of off phase held i = absurd of
runner_gives_up (writing_epoch stage) v g x of off phase held i = absurd of
runner_gives_up (working under) v g x of off phase held i = works_given_up v g x under off phase held of.0 of.1 i.kept i.used
runner_gives_up (writing_point point end) v g x of off phase held i = writes_given_up v g x point end off phase held i.kept i.used

-- DRAWN.

-- behind one entry more the object holds what its command leaves
behind_last : (z : Sizes) (c : Contents) (ns : List Noted) (n : Noted) → contents_at z c (entries_of (ns ++ n ∷ [])) ≡ contents_after z (contents_at z c (entries_of ns)) n.entry.command
behind_last z c [] n = refl
behind_last z c (m ∷ ns) n = behind_last z (contents_after z c m.entry.command) ns n

pub drawn_knows : DrawnKnowsLaw
drawn_knows v g place e none = λ j. record {
  settings = v.beginning.settings;
  room = g.room;
  epoch = v.ran;
  history = ap (λ (ns : List Noted). ns ++ placed place e ∷ []) (sym all) j;
  covered = behind v g.room (take g.covered g.history);
  now = now_is j;
  opened = write_backs_at v.beginning g.room;
  closings = closings_known v;
  position = g.position;
}
  where
    all : g.history ++ drawn_of g ≡ g.history
    all = ap (λ (d : Option Noted). g.history ++ option_to_list d) none ∙ append-nil g.history

    now_is : behind v g.room (g.history ++ placed place e ∷ []) ≡ contents_after (sizes_known v) (behind v g.room (g.history ++ drawn_of g)) e.command
    now_is =
        ap (λ (ns : List Noted). behind v g.room (ns ++ placed place e ∷ [])) (sym all)
        ∙ behind_last (sizes_known v) (behind v g.room []) (g.history ++ drawn_of g) (placed place e)

-- The memory of a lawful world is safe at a power cut.
use Rattle.std.proofs.Common.{◌≡◌, ◌≢◌, ℕ, zero, suc, ◌+◌, ◌<◌, ◌≤◌, ◌⊎◌, cond, Bool, true, false, List, [], ◌∷◌, ◌++◌, length, take, sym, refl, ap, ◌∙◌, subst, ⊎_elim, inl, inr, arith, Some}
use mathlib.Core.Option.{some}
use mathlib.Core.Logic.{dite}
use lib.ListN.{get_elem?}
use native.Mathlib.Decide.{ℕ_discrete}
use Rattle.std.specs.Prelude.{nat_lt, slice_index}
use Rattle.std.proofs.lemmas.Bool.{lt-ltb, le-ltb, cases_lt}
use Rattle.seq_object.specs.declared.history.Entry.{Entry}
use Rattle.seq_object.specs.History.{after}
use Rattle.seq_object.proofs.Histories.{point, point_count}
use Rattle.line_memory.specs.Line.{LineState, BankState, bank_at, line_of, line_at, bank_load, load_of, survivor}
use Rattle.line_memory.proofs.Stores.{length-applied}
use Rattle.room_model.specs.Cell.{triple_of, IsRecoverable}
use Rattle.room_model.specs.MapRoom.{live_layout}
use Rattle.room_model.specs.Rooms.{StandsFor, point_in}
use Rattle.room_model.specs.Image.{StandsAt}
use Rattle.room_laws.proofs.MapLaws.{layouts}
use Rattle.incll_var.specs.declared.state.CellState.{CellState}
use Rattle.incll_var.specs.declared.state.CellState.TheVariants.{Torn, Running as RunningCells, Closing as ClosingCells, Saved}
use Rattle.incll_var.specs.Cells.{CellBankState, IsCellBank, epoch_of, IsSavedIn}
use Rattle.incll_var.proofs.Survivors.{kept_law, saved_kept, left_alone, loaded_alone}
use Rattle.life_model.specs.declared.life.Life.{Life}
use Rattle.life_model.specs.declared.life.Life.TheVariants.{Start, Resume}
use Rattle.life_model.specs.Life.{covered, point_after, contents_now}
use Rattle.life_model.specs.Crash.{IsCrashSafe, HasEpoch, HasNextEpoch}
use Rattle.life_laws.proofs.Safe.{epoch_safe, next_epoch_safe, next_epoch}
use Rattle.life_laws.proofs.Steps.{mark}
use Rattle.rooms.specs.declared.room.Room.{Room}
use Rattle.yard_model.specs.declared.view.Phase.{Phase}
use Rattle.yard_model.specs.declared.view.Phase.TheVariants.{Standing, Running, Closing}
use Rattle.yard_model.specs.declared.view.Beginning.{Beginning}
use Rattle.yard_model.specs.declared.view.View.{View}
use Rattle.yard_model.specs.declared.view.GivenBack.{GivenBack}
use Rattle.yard_model.specs.declared.view.Checkpoint.{Checkpoint}
use Rattle.rooms.specs.Rooms.{bank_of, cells_of, state_of, loads}
use Rattle.yard_model.specs.Beginnings.{opening_of, sizes_at, recovery_marks, lengths_of, marks_of, epoch_now, covered_part}
use Rattle.yard_model.specs.Knows.{stands, is_closing, MayHold}
use Rattle.yard_model.specs.World.{YardState, lock_of, dead, ViewIs, Home, closes, done_in, done_by, total_of}
use Rattle.yard_model.specs.Lawful.{Lawful}
use Rattle.yard_model.specs.Lives.{IsMemoryOf, EpochNowLaw, LifeIsSafeLaw}
use Rattle.yard_laws.proofs.Lists.{same_at, there, at_inside}
use Rattle.yard_laws.proofs.Views.{any_there, total_part, total_one}
use Rattle.yard_laws.proofs.Knowns.{last_same}
use Rattle.yard_laws.proofs.Readings.{same_bank, nothing_pending}
use Rattle.yard_laws.proofs.Homes.{safe_home}
use Rattle.yard_laws.proofs.Epochs.{epoch_fits}
use Rattle.yard_laws.proofs.Stretches.{all_may_end}
use Rattle.yard_laws.proofs.Legal.{life_is_legal, length_lengths}
use Rattle.yard_laws.proofs.Arrivals.{others_stand, stands_gave_none}
use Rattle.room_model.specs.Banks.{memory_words}
use Rattle.room_model.specs.EpochLine.{epoch_line, surviving_epoch}
use Rattle.yard_model.specs.Homes.{IsFreeState, IsDeadState, IsEpochOrNext}
use Rattle.seq_object.specs.Sizes.{thread_room, super_room, room_count}

-- the epoch by the life's marks
pub epoch_same : EpochNowLaw
epoch_same b cs = by b.life
  where
    by : (life : Life) → (b.epoch + length (recovery_marks life)) + length cs ≡ b.epoch + length (recovery_marks life ++ lengths_of cs)
    by Start = let f = length_lengths cs in omega (arith, f)
    by Resume = let f = length_lengths cs in omega (arith, f)

-- cells of a state that a lawful world has at this epoch are kept at it
cells_kept : (e : ℕ) (done closing : Bool) (b : CellBankState) (state : CellState) → b.state ≡ state → IsCellBank b → IsFreeState e done state ⊎ IsDeadState e closing state
    → (i : ℕ) → i < length b.bank.lines → IsRecoverable e (line_at b.bank.lines i)
cells_kept e done closing b (Torn c) is cells (inl s) i lt = absurd s
cells_kept e done closing b (Torn c) is cells (inr s) i lt = absurd s
cells_kept e done closing b (RunningCells c) is cells (inl s) i lt = subst (λ (n : ℕ). IsRecoverable n (line_at b.bank.lines i)) (ap epoch_of is ∙ s) (kept_law b cells i lt)
cells_kept e done closing b (RunningCells c) is cells (inr s) i lt = subst (λ (n : ℕ). IsRecoverable n (line_at b.bank.lines i)) (ap epoch_of is ∙ s) (kept_law b cells i lt)
cells_kept e done closing b (ClosingCells c) is cells (inl s) i lt = absurd s
cells_kept e done closing b (ClosingCells c) is cells (inr s) i lt = subst (λ (n : ℕ). IsRecoverable n (line_at b.bank.lines i)) (ap epoch_of is ∙ s) (kept_law b cells i lt)
cells_kept e done closing b (Saved c) is cells (inl s) i lt = saved_kept b c e cells is (by s) i lt
  where
    by : (c < e) ⊎ ((c ≡ e) × (done ≡ true)) → c ≤ e
    by (inl o) = omega (arith, o)
    by (inr o) = let f = o.0 in omega (arith, f)
cells_kept e done closing b (Saved c) is cells (inr s) i lt = saved_kept b c e cells is (by s) i lt
  where
    by : (c < e) ⊎ ((c ≡ e) × (closing ≡ true)) → c ≤ e
    by (inl o) = omega (arith, o)
    by (inr o) = let f = o.0 in omega (arith, f)

past_pending : (lines : List LineState) (i : ℕ) → length lines ≤ i → (line_at lines i).pending ≡ []
past_pending [] i le = refl
past_pending (x ∷ xs) zero le = absurd (omega (arith, le))
past_pending (x ∷ xs) (suc i) le = past_pending xs i (omega (arith, le))

-- a view that closes, where rooms are done
none_of_phase : (v : View) (p : Phase) → v.phase ≡ p → is_closing p ≡ false → done_by v ≡ 0
none_of_phase v p is open' = ap (λ (c : Bool). cond c v.closed.rooms 0) (ap is_closing is ∙ open')

closer : (vs : List View) → 0 < total_of done_by vs → (i : ℕ) × (v : View) × (get_elem? vs i ≡ some v) × (v.phase ≡ Closing)
closer [] lt = absurd (omega (arith, lt))
closer (v ∷ vs) lt = by v.phase refl (closer vs)
  where
    later : done_by v ≡ 0 → (0 < total_of done_by vs → (i : ℕ) × (u : View) × (get_elem? vs i ≡ some u) × (u.phase ≡ Closing)) → (i : ℕ) × (u : View) × (get_elem? (v ∷ vs) i ≡ some u) × (u.phase ≡ Closing)
    later z rest = let t = rest (omega (arith, lt, z)) in (suc t.0, t.1, t.2, t.3)

    by : (p : Phase) → v.phase ≡ p → (0 < total_of done_by vs → (i : ℕ) × (u : View) × (get_elem? vs i ≡ some u) × (u.phase ≡ Closing)) → (i : ℕ) × (u : View) × (get_elem? (v ∷ vs) i ≡ some u) × (u.phase ≡ Closing)
    by Standing c rest = later (none_of_phase v Standing c refl) rest
    by Running c rest = later (none_of_phase v Running c refl) rest
    by Closing c rest = (0, v, refl, c)

module _ (b : Beginning) (w : YardState) (h : List Entry) (cs : List Checkpoint) (memory : List BankState) (l : Lawful b w h cs) (m : IsMemoryOf b w memory) where
  abbrev e : ℕ
  e = epoch_now b cs

  -- a room of the memory, with its bank
  abbrev room_at : (r : ℕ) → r < room_count (sizes_at b) → Room
  room_at r lt = (m.rooms r lt).0

  home_at : (r : ℕ) (lt : r < room_count (sizes_at b)) → Home w r (room_at r lt)
  home_at r lt = (m.rooms r lt).1

  bank_same : (r : ℕ) (lt : r < room_count (sizes_at b)) → bank_at memory r ≡ bank_of (room_at r lt)
  bank_same r lt = (m.rooms r lt).2

  saved_same : take (covered (marks_of b cs)) h ≡ covered_part h cs
  saved_same = ap (λ (d : ℕ). take d h) (last_same b cs)

  cells_of_room : (r : ℕ) (x : Room) → Home w r x → r < super_room (sizes_at b) → (i : ℕ) → i < length (cells_of x).bank.lines → IsRecoverable e (line_at (cells_of x).bank.lines i)
  cells_of_room r x at_home few = cells_kept e (nat_lt r (done_in w.views)) (closes w.views) (cells_of x) (state_of x) refl ((safe_home b w h cs l r x at_home).cells few)
      (⊎_elim (λ (z : lock_of w r ≡ 0). inl ((l.rooms.free r x at_home z).state few)) (λ (d : lock_of w r ≡ dead). inr ((l.rooms.dead_room r x at_home d).state few)) (l.locks.home r x at_home))

  -- the cells stand at the epoch for what was covered
  stands_now : StandsAt live_layout (sizes_at b) e memory (after (sizes_at b) (opening_of b).state (take (covered (marks_of b cs)) h))
  stands_now = record {
    valid = l.bounds.beginning.settings.sizes;
    some = let f = l.bounds.beginning.epoch in omega (arith, f);
    fits = let f = epoch_fits b w h cs l in omega (arith, f);
    rooms = record { rooms = m.number; lines = λ r lt. ap (λ (k : BankState). length k.lines) (bank_same r lt) ∙ (l.sized.kinds r (room_at r lt) (home_at r lt)).lines };
    super_words = λ k. let lt : super_room (sizes_at b) < room_count (sizes_at b) = omega arith in
        subst (λ (bank : BankState). length (survivor (line_at bank.lines 0) k) ≡ 8) (sym (bank_same (super_room (sizes_at b)) lt))
        (length-applied (epoch_line (bank_of (room_at (super_room (sizes_at b)) lt))).base (take k (epoch_line (bank_of (room_at (super_room (sizes_at b)) lt))).pending) ∙ (safe_home b w h cs l (super_room (sizes_at b)) (room_at (super_room (sizes_at b)) lt) (home_at (super_room (sizes_at b)) lt)).eight refl);
    cells = λ r line few lt. let within : r < room_count (sizes_at b) = omega (arith, few) in
        subst (λ (bank : BankState). IsRecoverable e (line_at bank.lines line)) (sym (bank_same r within))
        (subst (λ (bank : BankState). IsRecoverable e (line_at bank.lines line)) (same_bank (room_at r within))
        (cells_of_room r (room_at r within) (home_at r within) few line (subst (λ (bank : BankState). line < length bank.lines) (sym (same_bank (room_at r within)))
        (let n = (l.sized.kinds r (room_at r within) (home_at r within)).lines in omega (arith, lt, n)))));
    stands = λ r low. let within : r < room_count (sizes_at b) = omega (arith, low) in
        subst (λ (bank : BankState). StandsFor live_layout (sizes_at b) r (λ line w. slice_index (triple_of e (line_at bank.lines line).base) w) (contents_now (opening_of b) (take (covered (marks_of b cs)) h))) (sym (bank_same r within))
        (subst (λ (es : List Entry). StandsFor live_layout (sizes_at b) r (memory_words e (bank_of (room_at r within))) (contents_now (opening_of b) es)) (sym saved_same) ((safe_home b w h cs l r (room_at r within) (home_at r within)).in_memory low));
    threads = point_count (sizes_at b) (opening_of b).state (take (covered (marks_of b cs)) h) ∙ l.bounds.beginning.points;
    points = λ i lt. let within : thread_room (sizes_at b) i < room_count (sizes_at b) = omega (arith, lt) in
        point (sizes_at b) (opening_of b).state (take (covered (marks_of b cs)) h) i (let n = l.bounds.beginning.points in omega (arith, lt, n))
        ∙ (ap (λ (es : List Entry). point_after (opening_of b) es i) saved_same
        ∙ (sym (l.rooms.points i (room_at (thread_room (sizes_at b) i) within) lt (home_at (thread_room (sizes_at b) i) within))
        ∙ sym (ap (λ (bank : BankState). point_in live_layout (memory_words e bank)) (bank_same (thread_room (sizes_at b) i) within))));
  }

  -- THE NEXT EPOCH

  -- where the super room is done, or its closer gave it back behind the next epoch's store
  module _ (i : ℕ) (v : View) (at : ViewIs w i v) (closing : v.phase ≡ Closing) (all_done : (r : ℕ) → r < super_room (sizes_at b) → r < done_in w.views)
      (gave_none : (k : GivenBack) → v.given_back ≡ Some k → super_room (sizes_at b) ≤ k.room) where
    stand_all : (j : ℕ) (c : View) → ViewIs w j c → stands c.phase ≡ true
    stand_all j c at' = l.arrival.full j c at' (any_there (λ (d : View). is_closing d.phase) w.views i v at (ap is_closing closing))

    -- no other room was given back
    free : (r : ℕ) (x : Room) → Home w r x → r < super_room (sizes_at b) → lock_of w r ≡ 0
    free r x at_home few = ⊎_elim (λ (z : lock_of w r ≡ 0). z) (λ (d : lock_of w r ≡ dead). absurd (gone (l.locks.giver r (omega (arith, few)) d))) (l.locks.home r x at_home)
      where
        gone : (j : ℕ) × (c : View) × ViewIs w j c × ((k : GivenBack) × (c.given_back ≡ Some k) × (k.room ≡ r)) → ⊥
        gone t = dite (ℕ_discrete t.0 i)
            (λ q. let same : t.1 ≡ v = same_at w.views i t.1 v (subst (λ (j : ℕ). ViewIs w j t.1) q t.2) at in
            let ge = gave_none t.3.0 (ap (λ (a : View). a.given_back) (sym same) ∙ t.3.1) in let n = t.3.2 in omega (arith, ge, n, few))
            (λ q. stands_gave_none b w h cs l t.0 t.1 t.2 (others_stand b w h cs l i v at closing t.0 t.1 q t.2) t.3.0 t.3.1)

    saved_room : (r : ℕ) (x : Room) → Home w r x → r < super_room (sizes_at b) → IsSavedIn (λ c. c ≤ e) (state_of x)
    saved_room r x at_home few = (safe_home b w h cs l r x at_home).saved (lt-ltb r (done_in w.views) (all_done r few)) few

    quiet : (r line : ℕ) → r < super_room (sizes_at b) → (line_of memory r line).pending ≡ []
    quiet r line few = let within : r < room_count (sizes_at b) = omega (arith, few) in
        subst (λ (bank : BankState). (line_at bank.lines line).pending ≡ []) (sym (bank_same r within))
        (subst (λ (bank : BankState). (line_at bank.lines line).pending ≡ []) (same_bank (room_at r within))
        (⊎_elim (λ (lt : line < length (cells_of (room_at r within)).bank.lines). nothing_pending (λ c. c ≤ e) (cells_of (room_at r within)) (state_of (room_at r within)) refl
        ((safe_home b w h cs l r (room_at r within) (home_at r within)).cells few) (saved_room r (room_at r within) (home_at r within) few) line lt)
        (λ (ge : length (cells_of (room_at r within)).bank.lines ≤ line). past_pending (cells_of (room_at r within)).bank.lines line ge) (cases_lt line (length (cells_of (room_at r within)).bank.lines))))

    stands_next : StandsAt live_layout (sizes_at b) (e + 1) memory (after (sizes_at b) (opening_of b).state h)
    stands_next = next_epoch live_layout (sizes_at b) e memory (after (sizes_at b) (opening_of b).state (take (covered (marks_of b cs)) h)) (after (sizes_at b) (opening_of b).state h) layouts.in_use stands_now
        (epoch_fits b w h cs l) quiet
        (λ r low. let within : r < room_count (sizes_at b) = omega (arith, low) in let few : r < super_room (sizes_at b) = omega (arith, low) in
        subst (λ (bank : BankState). StandsFor live_layout (sizes_at b) r (bank_load bank) (contents_now (opening_of b) h)) (sym (bank_same r within))
        ((l.rooms.free r (room_at r within) (home_at r within) (free r (room_at r within) (home_at r within) few)).stands low))
        (point_count (sizes_at b) (opening_of b).state h ∙ l.bounds.beginning.points)
        (λ j lt. let within : thread_room (sizes_at b) j < room_count (sizes_at b) = omega (arith, lt) in
        let t = there w.views j (let n = l.sized.views in omega (arith, lt, n)) in
        point (sizes_at b) (opening_of b).state h j (let n = l.bounds.beginning.points in omega (arith, lt, n))
        ∙ (sym ((l.positions.views j t.0 t.1 (room_at (thread_room (sizes_at b) j) within) (home_at (thread_room (sizes_at b) j) within)).standing (stand_all j t.0 t.1)).point
        ∙ sym (ap (λ (bank : BankState). point_in live_layout (bank_load bank)) (bank_same (thread_room (sizes_at b) j) within))))

    pub safe_next : HasNextEpoch (sizes_at b) e memory → IsCrashSafe (opening_of b) h (marks_of b cs) memory
    safe_next next = next_epoch_safe (opening_of b) h (marks_of b cs) memory
        (subst (λ (n : ℕ). StandsAt live_layout (sizes_at b) n memory (after (sizes_at b) (opening_of b).state (take (covered (marks_of b cs)) h))) (epoch_same b cs) stands_now)
        (subst (λ (n : ℕ). StandsAt live_layout (sizes_at b) (n + 1) memory (after (sizes_at b) (opening_of b).state h)) (epoch_same b cs) stands_next)
        (subst (λ (n : ℕ). HasNextEpoch (sizes_at b) n memory) (epoch_same b cs) next)
        (mark (opening_of b) h (marks_of b cs) (life_is_legal b w h cs l) (all_may_end b w h cs l stand_all))

  -- THE EPOCH WORD

  safe_epoch : HasEpoch (sizes_at b) e memory → IsCrashSafe (opening_of b) h (marks_of b cs) memory
  safe_epoch has = epoch_safe (opening_of b) h (marks_of b cs) memory
      (subst (λ (n : ℕ). StandsAt live_layout (sizes_at b) n memory (after (sizes_at b) (opening_of b).state (take (covered (marks_of b cs)) h))) (epoch_same b cs) stands_now)
      (subst (λ (n : ℕ). HasEpoch (sizes_at b) n memory) (epoch_same b cs) has)

  inside : super_room (sizes_at b) < room_count (sizes_at b)
  inside = omega arith

  abbrev x : Room
  x = room_at (super_room (sizes_at b)) inside

  super_home : Home w (super_room (sizes_at b)) x
  super_home = home_at (super_room (sizes_at b)) inside

  same_survivor : (k : ℕ) → slice_index (survivor (line_of memory (super_room (sizes_at b)) 0) k) 0 ≡ slice_index (survivor (epoch_line (bank_of x)) k) 0
  same_survivor k = ap (λ (bank : BankState). slice_index (survivor (line_at bank.lines 0) k) 0) (bank_same (super_room (sizes_at b)) inside)

  load : load_of memory (super_room (sizes_at b)) 0 0 ≡ loads x 0 0
  load = ap (λ (bank : BankState). bank_load bank 0 0) (bank_same (super_room (sizes_at b)) inside)

  -- where nothing is pending each survivor is the load
  quiet_survivor : (epoch_line (bank_of x)).pending ≡ [] → (k : ℕ) → slice_index (survivor (epoch_line (bank_of x)) k) 0 ≡ loads x 0 0
  quiet_survivor none k = ap (λ (ws : List ℕ). slice_index ws 0) (left_alone (epoch_line (bank_of x)) k none) ∙ sym (loaded_alone (epoch_line (bank_of x)) 0 none)

  free_case : lock_of w (super_room (sizes_at b)) ≡ 0 → IsCrashSafe (opening_of b) h (marks_of b cs) memory
  free_case z = let f = l.rooms.free (super_room (sizes_at b)) x super_home z in let none = f.nothing_pending refl in ⊎_elim
      (λ (lt : super_room (sizes_at b) < done_in w.views).
      let is : loads x 0 0 ≡ e + 1 = f.epoch_word refl ∙ ap (λ (c : Bool). e + cond c 1 0) (lt-ltb (super_room (sizes_at b)) (done_in w.views) lt) in
      let t = closer w.views (omega (arith, lt)) in
      safe_next t.0 t.1 t.2 t.3 (λ r few. omega (arith, few, lt))
      (λ k given. absurd (beyond t.0 t.1 t.2 t.3 k given lt))
      (record { either = λ k. inr (same_survivor k ∙ (quiet_survivor none k ∙ is)); stored = load ∙ is }))
      (λ (ge : done_in w.views ≤ super_room (sizes_at b)).
      let is : loads x 0 0 ≡ e = f.epoch_word refl ∙ (ap (λ (c : Bool). e + cond c 1 0) (le-ltb (super_room (sizes_at b)) (done_in w.views) ge) ∙ omega arith) in
      safe_epoch (λ k. same_survivor k ∙ (quiet_survivor none k ∙ is))) (cases_lt (super_room (sizes_at b)) (done_in w.views))
    where
      -- a closer that has done every room gave none back
      beyond : (i : ℕ) (v : View) → ViewIs w i v → v.phase ≡ Closing → (k : GivenBack) → v.given_back ≡ Some k → super_room (sizes_at b) < done_in w.views → ⊥
      beyond i v at c k given lt =
          let g = (l.locks.views i v at).may_give k given in
          let r = subst (λ (p : Phase). MayHold (sizes_at b) i p v.closed.rooms k.room) c g.0 in
          let n = g.1 in
          let only : done_in w.views ≡ done_by v = total_one done_by w.views i v at (λ j d n q. other j d n q d.phase refl) in
          let d = ap (λ (p : Phase). cond (is_closing p) v.closed.rooms 0) c in omega (arith, r, n, only, d, lt)
        where
          other : (j : ℕ) (d : View) → j ≢ i → ViewIs w j d → (p : Phase) → d.phase ≡ p → done_by d ≡ 0
          other j d n q Standing s = none_of_phase d Standing s refl
          other j d n q Running s = none_of_phase d Running s refl
          other j d n q Closing s = absurd (n (l.arrival.one_closer j d q i v at s c))

  dead_case : lock_of w (super_room (sizes_at b)) ≡ dead → IsCrashSafe (opening_of b) h (marks_of b cs) memory
  dead_case d = let f = l.rooms.dead_room (super_room (sizes_at b)) x super_home d in dite (ℕ_discrete (loads x 0 0) (e + 1))
      (λ is. let t = l.locks.giver (super_room (sizes_at b)) inside d in
      let g = ((l.locks.views t.0 t.1 t.2).may_give t.3.0 t.3.1).0 in
      let c = closing t.0 t.1 t.2 (subst (λ (r : ℕ). MayHold (sizes_at b) t.0 t.1.phase t.1.closed.rooms r) t.3.2 g) in
      safe_next t.0 t.1 t.2 c.0 (λ r few. let p = total_part done_by w.views t.0 t.1 t.2 in let o = ap (λ (p : Phase). cond (is_closing p) t.1.closed.rooms 0) c.0 in let m = c.1 in omega (arith, few, p, o, m))
      (λ k given. let same : t.3.0 ≡ k = same_given t.3.0 k (sym t.3.1 ∙ given) in let n = t.3.2 in let o = ap (λ (k : GivenBack). k.room) same in omega (arith, n, o))
      (record { either = λ k. subst (λ (n : ℕ). (n ≡ e) ⊎ (n ≡ e + 1)) (sym (same_survivor k)) (either (surviving_epoch (bank_of x) k) (f.epoch_word refl k)); stored = load ∙ is }))
      (λ n. safe_epoch (λ k. same_survivor k ∙ only (surviving_epoch (bank_of x) k) n (f.epoch_word refl k)))
    where
      closing : (i : ℕ) (v : View) → ViewIs w i v → MayHold (sizes_at b) i v.phase v.closed.rooms (super_room (sizes_at b)) → (v.phase ≡ Closing) × (super_room (sizes_at b) ≡ v.closed.rooms)
      closing i v at holds = by v.phase refl holds
        where
          by : (p : Phase) → v.phase ≡ p → MayHold (sizes_at b) i p v.closed.rooms (super_room (sizes_at b)) → (v.phase ≡ Closing) × (super_room (sizes_at b) ≡ v.closed.rooms)
          by Standing s o = absurd o
          by Running s (inl o) = absurd (omega (arith, o))
          by Running s (inr o) = let lt = at_inside w.views i v at in let n = l.sized.views in absurd (omega (arith, o, lt, n))
          by Closing s o = (s, o)

      same_given : (j k : GivenBack) → Some j ≡ Some k → j ≡ k
      same_given j k q = cc

      either : (n : ℕ) → IsEpochOrNext e (bank_of x) n → (n ≡ e) ⊎ (n ≡ e + 1)
      either n (inl o) = inl o
      either n (inr o) = inr o.0

      only : (n : ℕ) → loads x 0 0 ≢ e + 1 → IsEpochOrNext e (bank_of x) n → n ≡ e
      only n not' (inl o) = o
      only n not' (inr o) = absurd (not' o.1)

  pub safe : IsCrashSafe (opening_of b) h (marks_of b cs) memory
  safe = ⊎_elim free_case dead_case (l.locks.home (super_room (sizes_at b)) x super_home)

pub life_is_safe : LifeIsSafeLaw
life_is_safe b w h cs memory l m = safe b w h cs memory l m

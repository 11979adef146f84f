-- A checkpoint is acknowledged.
use Rattle.std.proofs.Common.{◌≡◌, ℕ, ◌+◌, ◌*◌, ◌<◌, ◌≤◌, cond, Bool, true, false, List, [], ◌∷◌, ◌++◌, length, take, sym, refl, ap, ◌∙◌, subst, ⊎_elim, ◌⊎◌, inl, inr, arith, Some, length-set, length-append}
use Rattle.std.proofs.Math.Seq.{take-length}
use Rattle.std.proofs.lemmas.Bool.{lt-ltb, le-ltb, lt-leb, cases_lt}
use Rattle.std.specs.Prelude.{nat_lt, nat_le, slice_get}
use Rattle.seq_object.specs.declared.history.Entry.{Entry}
use Rattle.seq_object.specs.History.{of_thread}
use Rattle.life_model.specs.Life.{script_of, place_after, point_after, next_command, IsInOrder, contents_now}
use Rattle.life_model.specs.Work.{HasNoTake}
use Rattle.life_laws.proofs.Steps.{order_mark}
use Rattle.room_model.specs.MapRoom.{live_layout}
use Rattle.room_model.specs.Rooms.{StandsFor}
use Rattle.incll_var.specs.declared.state.CellState.{CellState}
use Rattle.incll_var.specs.declared.state.CellState.TheVariants.{Torn, Running as RunningCells, Closing as ClosingCells, Saved}
use Rattle.restart_point.specs.declared.thread_end.ThreadEnd.{ThreadEnd}
use Rattle.block_allow.specs.Verdicts.{leaves}
use Rattle.rooms.specs.declared.room.Room.{Room}
use Rattle.yard_model.specs.declared.view.Phase.{Phase}
use Rattle.yard_model.specs.declared.view.Phase.TheVariants.{Standing, Running, Closing}
use Rattle.yard_model.specs.declared.view.Beginning.{Beginning}
use Rattle.yard_model.specs.declared.view.View.{View}
use Rattle.yard_model.specs.declared.view.Grip.{Grip}
use Rattle.yard_model.specs.declared.view.GivenBack.{GivenBack}
use Rattle.yard_model.specs.declared.view.Checkpoint.{Checkpoint}
use Rattle.rooms.specs.Rooms.{state_of, history_of, end_of, bank_of}
use Rattle.yard_model.specs.Beginnings.{opening_of, sizes_at, marks_of, epoch_now, covered_by, covered_part, covered_contents, are_used_below, is_over, has_items, is_fed}
use Rattle.yard_model.specs.Knows.{stands, is_closing, HasCause}
use Rattle.yard_model.specs.World.{YardState, tick_word, lock_of, dead, ViewIs, Home, stands_at, closes, done_in, done_by, seen_on, Shows}
use Rattle.yard_model.specs.Lawful.{ShowsArrival, HoldsLocks, KeepsEpochs, KeepsRooms, KeepsBounds, Lawful}
use Rattle.yard_model.specs.Views.{released}
use Rattle.yard_model.specs.Conditions.{MayRelease}
use Rattle.yard_model.specs.Steps.{at_release, checkpoint_at}
use Rattle.yard_model.specs.Laws.{ReleaseKeepsLaw}
use Rattle.yard_laws.proofs.Lists.{at_inside, each_set, there}
use Rattle.yard_laws.proofs.Views.{total_set, total_same, any_same, any_there, stands_there, total_part, none_any, none_total, stands_past}
use Rattle.yard_laws.proofs.Stretches.{all_may_end}
use Rattle.yard_laws.proofs.Marks.{last_append, marks_append, over_append, only_append, none_of, all_of, no_take_at}
use Rattle.yard_laws.proofs.Knowns.{last_few, since_sum}
use Rattle.yard_laws.proofs.Readings.{earlier, not_running, free_state, point_as_loaded, stands_held}
use Rattle.yard_laws.proofs.Homes.{safe_home}
use Rattle.yard_laws.proofs.Arrivals.{word_here, locks_here, tick_here, clock_here, others_stand}
use Rattle.yard_laws.proofs.Free.{no_grip, gave_none, all_free}
use Rattle.incll_var.specs.Cells.{IsSavedIn}
use Rattle.room_model.specs.Banks.{memory_words}
use Rattle.yard_model.specs.Locks.{HasOwnEntries}
use Rattle.yard_model.specs.Epochs.{since_mark, IsInEpoch, IsBounded}
use Rattle.yard_model.specs.Homes.{position_bound, free_bound, IsFreeHome}
use Rattle.yard_model.specs.Positions.{KeepsPosition, IsStored}
use Rattle.yard_model.specs.Closings.{HasLearnt}
use Rattle.seq_object.specs.Sizes.{thread_room, super_room, room_count}

module _ (b : Beginning) (w : YardState) (h : List Entry) (cs : List Checkpoint) (i : ℕ) (v : View) (over fed : Bool) (n word : ℕ)
    (l : Lawful b w h cs) (at : ViewIs w i v) (may : MayRelease v over fed n) where
  abbrev u : View
  u = released v

  abbrev next : YardState
  next = at_release w word i u

  abbrev mark : Checkpoint
  mark = checkpoint_at n over

  abbrev marks : List Checkpoint
  marks = cs ++ mark ∷ []

  abbrev e : ℕ
  e = epoch_now b cs

  ran_now : v.ran ≡ e
  ran_now = (l.epochs.views i v at).runs (λ f. let p = may.phase in let c : Standing ≡ Closing = sym f ∙ p in absurd (cc))

  learnt : HasLearnt b h (Home w) v.closed
  learnt = l.bounds.learnt i v at may.phase

  drawn : n ≡ length h
  drawn = learnt.entries n may.noted

  later : epoch_now b marks ≡ e + 1
  later = let f = length-append cs (mark ∷ []) in omega (arith, f)

  pub last_here : covered_by marks ≡ length h
  last_here = last_append cs mark ∙ drawn

  -- what the new mark covers is the whole history
  all_covered : covered_part h marks ≡ h
  all_covered = ap (λ (d : ℕ). take d h) last_here ∙ take-length h

  locks : (r : ℕ) → lock_of next r ≡ lock_of w r
  locks = locks_here b w h cs l word

  stand_all : (j : ℕ) (c : View) → ViewIs w j c → stands c.phase ≡ true
  stand_all j c at' = l.arrival.full j c at' (any_there (λ (d : View). is_closing d.phase) w.views i v at (ap is_closing may.phase))

  all_stand_now : (j : ℕ) (c : View) → ViewIs next j c → c.phase ≡ Standing
  all_stand_now = each_set (λ (j : ℕ) (c : View). c.phase ≡ Standing) w.views i u refl (λ j c n f. others_stand b w h cs l i v at may.phase j c n f)

  -- EPOCHS

  order_now : IsInOrder (opening_of b) h (marks_of b marks)
  order_now = subst (λ (ns : List ℕ). IsInOrder (opening_of b) h ns) (sym (marks_append b cs mark ∙ ap (λ (d : ℕ). marks_of b cs ++ d ∷ []) drawn))
      (order_mark (opening_of b) h (marks_of b cs) l.epochs.order (all_may_end b w h cs l stand_all))

  none_since : (j : ℕ) → since_mark h marks j ≡ 0
  none_since j = let f = since_sum h marks j (let d = last_here in omega (arith, d)) in let g = ap (λ (es : List Entry). length (of_thread j es)) all_covered in omega (arith, f, g)

  rested : (j : ℕ) (c : View) → c.ran ≤ e → c.phase ≡ Standing → IsInEpoch b h marks j c.phase c.ran c.quota c.found_empty
  rested j c ran stands' = record {
    no_later = omega (arith, ran, later);
    runs = λ m. absurd (m stands');
    since = λ f. absurd (omega (arith, ran, f, later));
    idle = λ _. none_since j;
    has_next = λ f. absurd (omega (arith, ran, f, later));
    cause = λ _ f. absurd (omega (arith, ran, f, later));
    emptied = λ f. absurd (omega (arith, ran, f, later));
  }

  -- without a take in the scripts the closer drew an entry in this epoch
  some_entry : HasNoTake (opening_of b) → covered_by cs < length h
  some_entry none = by (cases_lt 0 (since_mark h cs i))
    where
      cause : HasCause v.quota v.found_empty (next_command (opening_of b) h i) → since_mark h cs i ≡ 0 → ⊥
      cause (inl q) z = let s = (l.epochs.views i v at).since ran_now in let m = l.bounds.beginning.settings.some in omega (arith, q, z, s, m)
      cause (inr (inl n)) z = (l.epochs.views i v at).has_next ran_now z n
      cause (inr (inr t)) z = no_take_at (script_of b.scripts i) (place_after (opening_of b) h i) (none i) t.0

      by : (0 < since_mark h cs i) ⊎ (since_mark h cs i ≤ 0) → covered_by cs < length h
      by (inl lt) = ⊎_elim (λ (less : covered_by cs < length h). less)
          (λ (ge : length h ≤ covered_by cs). let few = last_few b w h cs l in let is : covered_by cs ≡ length h = omega (arith, ge, few) in
          let whole = ap (λ (es : List Entry). length (of_thread i es)) (ap (λ (d : ℕ). take d h) is ∙ take-length h) in
          let f = since_sum h cs i few in absurd (omega (arith, lt, whole, f)))
          (cases_lt (covered_by cs) (length h))
      by (inr z) = absurd (cause ((l.epochs.views i v at).cause (ap stands may.phase) ran_now) (omega (arith, z)))

  epochs_released : KeepsEpochs b next h marks
  epochs_released = record {
    views = λ j c f. rested j c (each_set (λ (j : ℕ) (c : View). c.ran ≤ e) w.views i u ((l.epochs.views i v at).no_later) (λ j c _ f. (l.epochs.views j c f).no_later) j c f) (all_stand_now j c f);
    last = each_set (λ (j : ℕ) (c : View). c.last_checkpoint ≤ epoch_now b marks) w.views i u (let f = ran_now in omega (arith, f, later)) (λ j c _ f. let g = l.epochs.last j c f in omega (arith, g, later));
    order = order_now;
    takeless = λ none. let f = some_entry none in let g = l.epochs.takeless none in let n = length-append cs (mark ∷ []) in omega (arith, f, g, n, last_here);
  }

  -- ROOMS

  rooms_closed : v.closed.rooms ≡ room_count (sizes_at b)
  rooms_closed = may.all_done ∙ ap (λ (c : Beginning). room_count (sizes_at c)) (l.sized.beginnings i v at)

  done_all : (r : ℕ) → r < room_count (sizes_at b) → r < done_in w.views
  done_all r lt = let f = total_part done_by w.views i v at in
      let c : done_by v ≡ v.closed.rooms = ap (λ (p : Phase). cond (is_closing p) v.closed.rooms 0) may.phase in
      let a = rooms_closed in omega (arith, f, c, a, lt)

  inside : (r : ℕ) (x : Room) → Home w r x → r < room_count (sizes_at b)
  inside r x at_home = let f = at_inside w.rooms r (Some x) at_home in let n = l.sized.rooms in omega (arith, f, n)

  free : (r : ℕ) (x : Room) → Home w r x → lock_of w r ≡ 0
  free r x at_home = all_free b w h cs i v l at may.on may.nothing_held may.phase r (inside r x at_home)

  -- each room was done, and so saved
  was_done : (r : ℕ) (x : Room) → Home w r x → nat_lt r (done_in w.views) ≡ true
  was_done r x at_home = lt-ltb r (done_in w.views) (done_all r (inside r x at_home))

  saved_by : (r : ℕ) (x : Room) → Home w r x → r < super_room (sizes_at b) → IsSavedIn (λ c. c < epoch_now b marks) (state_of x)
  saved_by r x at_home few = earlier (λ c. c ≤ e) (λ c. c < epoch_now b marks) (state_of x) (λ c f. omega (arith, f, later))
      ((l.rooms.free r x at_home (free r x at_home)).safe.saved (was_done r x at_home) few)

  none_done : done_in next.views ≡ 0
  none_done = none_total done_by next.views (λ j c f. ap (λ (p : Phase). cond (is_closing p) c.closed.rooms 0) (all_stand_now j c f))

  not_done : (r : ℕ) → nat_lt r (done_in next.views) ≡ false
  not_done r = let z = none_done in le-ltb r (done_in next.views) (omega (arith, z))

  not_dead : (r : ℕ) (x : Room) → Home w r x → lock_of next r ≡ dead → ⊥
  not_dead r x at_home f = let z = free r x at_home in let k = locks r in omega (arith, f, z, k)

  -- the bound of a free room, one checkpoint later
  bound_of_saved : (state : CellState) → IsSavedIn (λ c. c < epoch_now b marks) state → position_bound e (length cs) state ≤ position_bound (epoch_now b marks) (length marks) state
  bound_of_saved (Torn c) s = absurd s
  bound_of_saved (RunningCells c) s = absurd s
  bound_of_saved (ClosingCells c) s = absurd s
  bound_of_saved (Saved c) s = let f = length-append cs (mark ∷ []) in let t = lt-ltb c (epoch_now b marks) s in
      subst (λ (a : Bool). cond (nat_lt c e) (length cs) (length cs + 1) ≤ cond a (length marks) (length marks + 1)) (sym t) (either (nat_lt c e) (omega (arith, f)))
    where
      either : (a : Bool) → length cs + 1 ≡ length marks → cond a (length cs) (length cs + 1) ≤ length marks
      either true f = omega (arith, f)
      either false f = omega (arith, f)

  bound_on : (d : Bool) (r : ℕ) (x : Room) → Home w r x → free_bound (sizes_at b) e (length cs) (nat_lt r (done_in w.views)) r x ≤ free_bound (sizes_at b) (epoch_now b marks) (length marks) d r x
  bound_on d r x at_home = ⊎_elim
      (λ (few : r < super_room (sizes_at b)). kinds (nat_le r (sizes_at b).shards) (nat_lt r (super_room (sizes_at b))) (bound_of_saved (state_of x) (saved_by r x at_home few)))
      (λ (ge : super_room (sizes_at b) ≤ r). last (nat_le r (sizes_at b).shards) (nat_lt r (super_room (sizes_at b))) (lt-leb r (sizes_at b).shards (omega (arith, ge))) (le-ltb r (super_room (sizes_at b)) ge))
      (cases_lt r (super_room (sizes_at b)))
    where
      more : (c : Bool) → length cs + cond c 1 0 ≤ length marks + cond d 1 0
      more true = let f = length-append cs (mark ∷ []) in omega (arith, f)
      more false = let f = length-append cs (mark ∷ []) in omega (arith, f)

      kinds : (a c : Bool) → position_bound e (length cs) (state_of x) ≤ position_bound (epoch_now b marks) (length marks) (state_of x)
          → cond a (4 * length (history_of x)) (cond c (position_bound e (length cs) (state_of x)) (length cs + cond (nat_lt r (done_in w.views)) 1 0))
          ≤ cond a (4 * length (history_of x)) (cond c (position_bound (epoch_now b marks) (length marks) (state_of x)) (length marks + cond d 1 0))
      kinds true c f = omega arith
      kinds false true f = f
      kinds false false f = more (nat_lt r (done_in w.views))

      last : (a c : Bool) → a ≡ false → c ≡ false
          → cond a (4 * length (history_of x)) (cond c (position_bound e (length cs) (state_of x)) (length cs + cond (nat_lt r (done_in w.views)) 1 0))
          ≤ cond a (4 * length (history_of x)) (cond c (position_bound (epoch_now b marks) (length marks) (state_of x)) (length marks + cond d 1 0))
      last true c p q = absurd (cc)
      last false true p q = absurd (cc)
      last false false p q = more (nat_lt r (done_in w.views))

  -- what memory has of a saved room is what it loads
  covers_now : (r : ℕ) (x : Room) → Home w r x → r ≤ b.settings.shards → StandsFor live_layout (sizes_at b) r (memory_words (epoch_now b marks) (bank_of x)) (covered_contents b h marks)
  covers_now r x at_home low = let few : r < super_room (sizes_at b) = omega (arith, low) in let f = l.rooms.free r x at_home (free r x at_home) in
      subst (λ (es : List Entry). StandsFor live_layout (sizes_at b) r (memory_words (epoch_now b marks) (bank_of x)) (contents_now (opening_of b) es)) (sym all_covered)
      (stands_held (sizes_at b) r (epoch_now b marks) x (contents_now (opening_of b) h) (f.safe.cells few) (saved_by r x at_home few) (f.stands low))

  -- a room that is done is free in the next epoch
  free_next : (r : ℕ) (x : Room) → Home w r x → IsFreeHome b h marks (done_in next.views) r x
  free_next r x at_home = let f = l.rooms.free r x at_home (free r x at_home) in record {
    safe = record {
      cells = f.safe.cells;
      saved = λ d _. let n = not_done r in let c : true ≡ false = sym d ∙ n in absurd (cc);
      in_memory = covers_now r x at_home;
      no_fewer = f.safe.no_fewer;
      eight = f.safe.eight;
    };
    idle = f.idle;
    state = λ low. free_state (epoch_now b marks) (nat_lt r (done_in next.views)) (state_of x) (saved_by r x at_home low);
    stands = f.stands;
    write_backs = let a = f.write_backs in let d = bound_on (nat_lt r (done_in next.views)) r x at_home in omega (arith, a, d);
    nothing_pending = f.nothing_pending;
    epoch_word = λ is. f.epoch_word is ∙ (ap (λ (c : Bool). e + cond c 1 0) (was_done r x at_home) ∙ (omega (arith, later) ∙ sym (ap (λ (c : Bool). epoch_now b marks + cond c 1 0) (not_done r))));
  }

  rooms_released : KeepsRooms b next h marks
  rooms_released = record {
    free = λ r x at_home _. free_next r x at_home;
    dead_room = λ r x at_home d. absurd (not_dead r x at_home d);
    points = λ j x lt at_home. let few : thread_room (sizes_at b) j < super_room (sizes_at b) = omega (arith, lt) in
        let t = there w.views j (let n = l.sized.views in omega (arith, lt, n)) in
        point_as_loaded (epoch_now b marks) x ((safe_home b w h cs l (thread_room (sizes_at b) j) x at_home).cells few) (saved_by (thread_room (sizes_at b) j) x at_home few)
        ∙ (((l.positions.views j t.0 t.1 x at_home).standing (stand_all j t.0 t.1)).point ∙ ap (λ (es : List Entry). point_after (opening_of b) es j) (sym all_covered));
  }

  -- THE OTHER PARTS

  none_closes : closes next.views ≡ false
  none_closes = none_any (λ (c : View). is_closing c.phase) next.views (λ j c f. ap is_closing (all_stand_now j c f))

  number_of_views : length next.views ≡ b.settings.threads
  number_of_views = length-set w.views i u ∙ l.sized.views

  stand_shown : (j : ℕ) → stands_at next.views j ≡ nat_lt j b.settings.threads
  stand_shown j = ⊎_elim
      (λ (lt : j < length next.views). let t = there next.views j lt in stands_there next.views j t.0 t.1 ∙ (ap stands (all_stand_now j t.0 t.1)
      ∙ sym (lt-ltb j b.settings.threads (let n = number_of_views in omega (arith, lt, n)))))
      (λ (ge : length next.views ≤ j). stands_past next.views j ge ∙ sym (le-ltb j b.settings.threads (let n = number_of_views in omega (arith, ge, n))))
      (cases_lt j (length next.views))

  pub fed_right : is_fed b h marks ≡ fed
  fed_right = ap (λ (es : List Entry). has_items (contents_now (opening_of b) es).items) all_covered ∙ same_bool (has_items (contents_now (opening_of b) h).items) fed
      (sym (learnt.fed (let r = rooms_closed in omega (arith, r))) ∙ may.learnt_fed)
    where
      same_bool : (a c : Bool) → Some a ≡ Some c → a ≡ c
      same_bool a c f = cc

  pub over_right : is_over b marks ≡ over
  over_right = over_append (are_used_below b b.settings.threads) cs mark

  number_of_ends : length v.closed.ends ≡ b.settings.threads
  number_of_ends = let n = learnt.number in let r = rooms_closed in omega (arith, n, r)

  home_all : (r : ℕ) → r < room_count (sizes_at b) → (x : Room) × Home w r x
  home_all r lt = l.locks.free r lt (inl (all_free b w h cs i v l at may.on may.nothing_held may.phase r lt))

  end_at : (k : ℕ) (x : Room) → Home w (thread_room (sizes_at b) k) x → k < b.settings.threads → slice_get v.closed.ends k ≡ Some (end_of x)
  end_at k x at_home lt = learnt.ends k x at_home (let n = number_of_ends in omega (arith, lt, n))

  not_over : is_over b cs ≡ false
  not_over = by (is_over b cs) refl
    where
      by : (c : Bool) → is_over b cs ≡ c → c ≡ false
      by false f = refl
      by true f = let s = l.arrival.over_stands i v at f in let p = may.phase in let c : Standing ≡ Closing = sym s ∙ p in absurd (cc)

  same_end : (a c : ThreadEnd) → Some a ≡ Some c → a ≡ c
  same_end a c f = cc

  arrival_released : Shows word (λ j. nat_lt j b.settings.threads) false over fed (v.ran + 1) → ShowsArrival b next h marks
  arrival_released shows = record {
    word = subst (λ (p : ℕ × (ℕ → Bool) × Bool × Bool × Bool × ℕ). Shows p.0 p.1 p.2 p.3 p.4 p.5)
        (λ c. (sym (word_here b w h cs l word) c, λ j. sym (stand_shown j) c, sym none_closes c, sym over_right c, sym fed_right c, let f : v.ran + 1 ≡ epoch_now b marks = omega (arith, ran_now, later) in f c)) shows;
    one_closer = λ j c f q d g p _. let s = all_stand_now j c f in let a : Standing ≡ Closing = sym s ∙ p in absurd (cc);
    full = λ j c f _. ap stands (all_stand_now j c f);
    over_stands = λ j c f _. all_stand_now j c f;
    over_saved = λ _. last_here;
    over_ends = λ k x lt at_home is. ap (leaves (end_of x)) fed_right ∙ none_of v.closed.ends fed k (end_of x) (sym may.is_over ∙ (sym over_right ∙ is)) (end_at k x at_home lt);
    only_last = only_append (are_used_below b b.settings.threads) cs mark l.arrival.only_last not_over;
    used_over = λ used _. over_right ∙ (may.is_over ∙ all_of v.closed.ends fed (λ k x lt f.
        let few : k < b.settings.threads = (let n = number_of_ends in omega (arith, lt, n)) in
        let t = home_all (thread_room (sizes_at b) k) (omega (arith, few)) in
        let j = there w.views k (let m = l.sized.views in omega (arith, few, m)) in
        let ended = ((l.positions.views k j.0 j.1 t.0 t.1).standing (stand_all k j.0 j.1)).ended.1 (used k) in
        let same : end_of t.0 ≡ x = same_end (end_of t.0) x (sym (learnt.ends k t.0 t.1 lt) ∙ f) in
        ap (λ (d : ThreadEnd). leaves d fed) (sym same ∙ ended)));
  }

  no_grip_now : (j : ℕ) (c : View) → ViewIs next j c → (g : Grip) → c.grip ≡ Some g → ⊥
  no_grip_now = each_set (λ (j : ℕ) (c : View). (g : Grip) → c.grip ≡ Some g → ⊥) w.views i u (no_grip b w h cs i v l at may.on may.nothing_held may.phase i v at)
      (λ j c _ f. no_grip b w h cs i v l at may.on may.nothing_held may.phase j c f)

  gave_none_now : (j : ℕ) (c : View) → ViewIs next j c → (k : GivenBack) → c.given_back ≡ Some k → ⊥
  gave_none_now = each_set (λ (j : ℕ) (c : View). (k : GivenBack) → c.given_back ≡ Some k → ⊥) w.views i u (gave_none b w h cs i v l at may.on may.nothing_held may.phase i v at)
      (λ j c _ f. gave_none b w h cs i v l at may.on may.nothing_held may.phase j c f)

  off_now : (j : ℕ) (c : View) → ViewIs next j c → c.saw_off ≡ true → b.limit ≤ tick_word next
  off_now = each_set (λ (j : ℕ) (c : View). c.saw_off ≡ true → b.limit ≤ tick_word next) w.views i u
      (λ s. let f = (l.locks.views i v at).off s in let t = tick_here b w h cs l word in omega (arith, f, t)) (λ j c _ f s. let o = (l.locks.views j c f).off s in let t = tick_here b w h cs l word in omega (arith, o, t))

  locks_released : HoldsLocks b next h marks
  locks_released = record {
    views = λ j c f. record {
      held = λ g is. absurd (no_grip_now j c f g is);
      given = λ k is. absurd (gave_none_now j c f k is);
      one_room = λ k is. absurd (gave_none_now j c f k is);
      may_hold = λ g is. absurd (no_grip_now j c f g is);
      may_give = λ k is. absurd (gave_none_now j c f k is);
      off = off_now j c f;
    };
    holder = λ r j lt is alive. let t = l.locks.holder r j lt (sym (locks r) ∙ is) (λ d. alive (locks r ∙ d)) in absurd (no_grip b w h cs i v l at may.on may.nothing_held may.phase j t.0 t.1 t.2.0 t.2.1);
    giver = λ r lt is. let t = l.locks.giver r lt (sym (locks r) ∙ is) in absurd (gave_none b w h cs i v l at may.on may.nothing_held may.phase t.0 t.1 t.2 t.3.0 t.3.1);
    one_giver = λ j c f _ _ _ k is. absurd (gave_none_now j c f k is);
    free = λ r lt _. home_all r lt;
    home = λ r x at_home. inl (locks r ∙ free r x at_home);
  }

  bounds_released : KeepsBounds b next h marks
  bounds_released = let f = l.bounds in
      let off = any_same (λ (c : View). c.called_off) w.views i v u at refl in
      let sum = total_same (λ (c : View). c.ticks) w.views i v u at refl in
      let number = total_same seen_on w.views i v u at refl in
      let tick = tick_here b w h cs l word in record {
        beginning = f.beginning;
        learnt = λ j c g p. let s = all_stand_now j c g in let a : Standing ≡ Closing = sym s ∙ p in absurd (cc);
        views = each_set (λ (j : ℕ) (c : View). IsBounded c.phase c.ticks c.checkpoints) w.views i u
            (let g = f.views i v at in record {
              few_ticks = g.few_ticks;
              few_checkpoints = let a = g.may_release may.phase in omega (arith, a);
              may_release = λ p. absurd (cc);
            })
            (λ j c n g. let o = f.views j c g in record {
              few_ticks = o.few_ticks;
              few_checkpoints = o.few_checkpoints;
              may_release = o.may_release;
            });
        ticks = λ q. tick ∙ (f.ticks (sym off ∙ q) ∙ sym sum);
        off = λ q. let g = f.off (sym off ∙ q) in (omega (arith, g.0, tick), omega (arith, g.1, sum, tick));
        limit = let g = f.limit in omega (arith, g, sum, number);
        checkpoints = let t = total_set (λ (c : View). c.checkpoints) w.views i v u at in let m = f.checkpoints in let n = length-append cs (mark ∷ []) in omega (arith, t, m, n);
      }

  pub release_stays : Shows word (λ j. nat_lt j b.settings.threads) false over fed (v.ran + 1) → Lawful b next h marks
  release_stays shows = record {
    sized = let s = l.sized in record {
      views = number_of_views;
      rooms = s.rooms;
      words = length-set w.words 2 word ∙ s.words;
      threads = each_set (λ (j : ℕ) (c : View). c.thread ≡ j) w.views i u (s.threads i v at) (λ j c _ f. s.threads j c f);
      beginnings = each_set (λ (j : ℕ) (c : View). c.beginning ≡ b) w.views i u (s.beginnings i v at) (λ j c _ f. s.beginnings j c f);
      kinds = s.kinds;
    };
    arrival = arrival_released shows;
    locks = locks_released;
    entries = let c = l.entries in record {
      clock = clock_here b w h cs l word ∙ c.clock;
      known = c.known;
      views = each_set (λ (j : ℕ) (d : View). HasOwnEntries b h j d.own d.grip) w.views i u (c.views i v at) (λ j d _ f. c.views j d f);
      home = c.home;
    };
    loads = record {
      legal = l.loads.legal;
      dead_room = λ j c f k is. absurd (gave_none_now j c f k is);
    };
    epochs = epochs_released;
    rooms = rooms_released;
    positions = record {
      views = each_set (λ (j : ℕ) (c : View). (x : Room) → Home w (thread_room (sizes_at b) j) x → KeepsPosition b h marks (lock_of next (thread_room (sizes_at b) j)) j c.phase c.ran c.wrote x) w.views i u
          (λ x at_home. position i v at Standing v.ran v.wrote refl x at_home) (λ j c m f x at_home. position j c f c.phase c.ran c.wrote (others_stand b w h cs l i v at may.phase j c m f) x at_home);
    };
    stored = record {
      views = each_set (λ (j : ℕ) (c : View). (x : Room) → Home w (thread_room (sizes_at b) j) x → IsStored (epoch_now b marks) (lock_of next (thread_room (sizes_at b) j)) (nat_lt (thread_room (sizes_at b) j) (done_in next.views)) c.ran c.wrote x) w.views i u
          (λ x at_home z d ran wrote. let f = (l.epochs.views i v at).no_later in absurd (omega (arith, f, ran, later))) (λ j c m f x at_home z d ran wrote. let g = (l.epochs.views j c f).no_later in absurd (omega (arith, g, ran, later)));
    };
    bounds = bounds_released;
    taken = record { views = λ j c f g is. absurd (no_grip_now j c f g is) };
  }
    where
      position : (j : ℕ) (c : View) → ViewIs w j c → (p : Phase) (ran : ℕ) (wrote : Bool) → p ≡ Standing → (x : Room) → Home w (thread_room (sizes_at b) j) x
          → KeepsPosition b h marks (lock_of next (thread_room (sizes_at b) j)) j p ran wrote x
      position j c f p ran wrote is x at_home = record {
        standing = λ _. (l.positions.views j c f x at_home).standing (stand_all j c f);
        written = λ _ r. let a : Standing ≡ Running = sym is ∙ r in absurd (cc);
        unwritten = λ _ r. let a : Standing ≡ Running = sym is ∙ r in absurd (cc);
        runs = λ _ r. absurd (not_running (λ c. c < epoch_now b marks) (state_of x) (saved_by (thread_room (sizes_at b) j) x at_home (let lt = at_inside w.views j c f in let n = l.sized.views in omega (arith, lt, n))) r);
      }

pub release_keeps : ReleaseKeepsLaw Lawful
release_keeps b w h cs i v over fed n word l at may shows = release_stays b w h cs i v over fed n word l at may shows

-- How a life has ended, by what its yard shows.
use Rattle.std.proofs.Common.{◌≡◌, ℕ, ◌-◌, ◌<◌, ◌≤◌, ◌⊎◌, zero, suc, Bool, true, false, List, [], ◌∷◌, ◌++◌, length, take, Option, Some, None, refl, sym, ap, ◌∙◌, subst, inl, inr, arith}
use Rattle.std.specs.Prelude.{slice_get, is_none}
use Rattle.std.proofs.Math.Seq.{take-length}
use Rattle.std.proofs.lemmas.Bool.{cases_lt}
use Rattle.std.proofs.lemmas.Bool.Decides.{eqb_tells}
use Rattle.seq_object.specs.declared.command.Command.{Command}
use Rattle.seq_object.specs.declared.command.Command.TheVariants.{Take}
use Rattle.seq_object.specs.declared.history.Entry.{Entry}
use Rattle.life_model.specs.declared.life.Life.{Life}
use Rattle.life_model.specs.declared.life.Life.TheVariants.{Start, Resume}
use Rattle.life_model.specs.declared.life.Outcome.TheVariants.{Finished, Stalled, Cut, Starved}
use Rattle.life_model.specs.Life.{Opening, IsPause, script_of, place_after, next_command, covered, closings, contents_now}
use Rattle.life_model.specs.Ends.{IsAllCovered, IsFinished, IsStalled}
use Rattle.life_model.specs.Work.{HasNoTake}
use Rattle.restart_point.specs.declared.thread_end.ThreadEnd.{ThreadEnd}
use Rattle.restart_point.specs.declared.thread_end.ThreadEnd.TheVariants.{Ready, Waits, Ended}
use Rattle.block_allow.specs.Verdicts.{leaves}
use Rattle.rooms.specs.declared.room.Room.{Room}
use Rattle.yard_model.specs.declared.view.Beginning.{Beginning}
use Rattle.yard_model.specs.declared.view.Checkpoint.{Checkpoint}
use Rattle.yard_model.specs.declared.view.View.{View}
use Rattle.rooms.specs.Rooms.{end_of}
use Rattle.yard_model.specs.Beginnings.{opening_of, sizes_at, recovery_marks, lengths_of, marks_of, covered_by, are_used_below, over_from, is_over, OnlyLastIsOver, has_items, is_fed}
use Rattle.yard_model.specs.Knows.{stands}
use Rattle.yard_model.specs.World.{YardState, ViewIs, Home, lock_of, dead}
use Rattle.yard_model.specs.Lawful.{Lawful}
use Rattle.yard_model.specs.Outcomes.{NoneWaits, SomeWaits, LifeEndsLaw, FinishedIsOverLaw, OverIsLastLaw, NoneWaitsWithoutTakeLaw}
use Rattle.yard_laws.proofs.Lists.{there}
use Rattle.yard_laws.proofs.Arrivals.{stands_free}
use Rattle.yard_laws.proofs.Beginning.{as_life, used_each}
use Rattle.yard_laws.proofs.Marks.{no_take_at}
use Rattle.yard_laws.proofs.Knowns.{last_same}
use Rattle.seq_object.specs.Sizes.{thread_room, room_count}

-- a thread that there is not has no next command
none_past : (scripts : List (List Command)) (i place : ℕ) → length scripts ≤ i → slice_get (script_of scripts i) place ≡ None
none_past [] i place le = refl
none_past (x ∷ xs) zero place le = absurd (omega (arith, le))
none_past (x ∷ xs) (suc i) place le = none_past xs i place (omega (arith, le))

no_item : (items : List ℕ) → has_items items ≡ false → items ≡ []
no_item [] e = refl
no_item (x ∷ xs) e = cc

no_entry : (es : List Entry) → length es ≡ 0 → es ≡ []
no_entry [] e = refl
no_entry (x ∷ xs) e = cc

-- none is not some
clash : (o : Option Command) → o ≡ Some Take → o ≡ None → ⊥
clash o a c = let p : true ≡ false = sym (ap is_none c) ∙ ap is_none a in grind arith

more : (life : Life) (o : Opening) (m : Checkpoint) (ns : List Checkpoint) → 0 < closings (as_life life o) (recovery_marks life ++ lengths_of (m ∷ ns))
more Start o m ns = omega arith
more Resume o m ns = omega arith

pauses : (next : Option Command) → (next ≡ None) ⊎ (next ≡ Some Take) → IsPause next
pauses next (inl e) = subst IsPause (sym e) tt
pauses next (inr e) = subst IsPause (sym e) tt

module _ (b : Beginning) (w : YardState) (h : List Entry) (cs : List Checkpoint) (l : Lawful b w h cs) where
  covered_same : covered (marks_of b cs) ≡ covered_by cs
  covered_same = last_same b cs

  -- all is saved
  all_saved : covered_by cs ≡ length h → IsAllCovered (opening_of b) h (marks_of b cs)
  all_saved whole = by b.life refl cs refl
    where
      by : (life : Life) → b.life ≡ life → (ns : List Checkpoint) → cs ≡ ns → IsAllCovered (opening_of b) h (marks_of b cs)
      by Start is [] none_released =
          let zero_long : length h ≡ 0 = sym whole ∙ ap covered_by none_released in
          inr (is, no_entry h zero_long, (λ k. recovery_marks (is k) ++ lengths_of (none_released k)))
      by Start is (m ∷ ns) some_released =
          inl (λ q. some_marks m ns ((λ k. recovery_marks (is (k)) ++ lengths_of (some_released k))) q, covered_same ∙ whole)
        where
          some_marks : (m : Checkpoint) (ns : List Checkpoint) → marks_of b cs ≡ m.length ∷ lengths_of ns → marks_of b cs ≡ [] → ⊥
          some_marks m ns e q = let p : [] ≡ m.length ∷ lengths_of ns = sym q ∙ e in grind arith
      by Resume is ns same =
          inl (λ q. recovered ((λ k. recovery_marks (is k) ++ lengths_of cs)) q, covered_same ∙ whole)
        where
          recovered : marks_of b cs ≡ 0 ∷ lengths_of cs → marks_of b cs ≡ [] → ⊥
          recovered e q = let p : [] ≡ 0 ∷ lengths_of cs = sym q ∙ e in grind arith

  module _ (over : is_over b cs ≡ true) where
    whole : covered_by cs ≡ length h
    whole = l.arrival.over_saved over

    -- each room is at home
    pub home_all : (r : ℕ) → r < room_count (sizes_at b) → (x : Room) × Home w r x
    home_all r lt = elim (eqb_tells (lock_of w r) 0) [
      | inl free ↦ l.locks.free r lt (inl free.1)
      | inr taken ↦ elim (eqb_tells (lock_of w r) dead) [
        | inl is_dead ↦ l.locks.free r lt (inr is_dead.1)
        | inr alive ↦
            let who = l.locks.holder r (lock_of w r - 1) lt (omega (arith, taken.1)) alive.1 in
            absurd (stands_free b w h cs l (lock_of w r - 1) who.0 who.1 (l.arrival.over_stands (lock_of w r - 1) who.0 who.1 over) who.2.0 who.2.1)
      ]
    ]

    -- a thread's room, and what its end says
    room_at : (i : ℕ) → i < b.settings.threads → (x : Room) × Home w (thread_room (sizes_at b) i) x
    room_at i lt = home_all (thread_room (sizes_at b) i) (omega (arith, lt))

    standing : (i : ℕ) (lt : i < b.settings.threads) → (v : View) × ViewIs w i v
    standing i lt = there w.views i (let n = l.sized.views in omega (arith, lt, n))

    -- an end at which the thread does not leave says what comes next
    ended : (i : ℕ) (x : Room) → i < b.settings.threads → Home w (thread_room (sizes_at b) i) x → end_of x ≡ Ended → next_command (opening_of b) h i ≡ None
    ended i x lt at_home is = let v = standing i lt in ((l.positions.views i v.0 v.1 x at_home).standing (ap stands (l.arrival.over_stands i v.0 v.1 over))).ended.0 is

    waiting : (i : ℕ) (x : Room) → i < b.settings.threads → Home w (thread_room (sizes_at b) i) x → end_of x ≡ Waits → next_command (opening_of b) h i ≡ Some Take
    waiting i x lt at_home is = let v = standing i lt in ((l.positions.views i v.0 v.1 x at_home).standing (ap stands (l.arrival.over_stands i v.0 v.1 over))).waits is

    not_ready : (i : ℕ) (x : Room) → i < b.settings.threads → Home w (thread_room (sizes_at b) i) x → end_of x ≡ Ready → ⊥
    not_ready i x lt at_home is = let c : true ≡ false = sym (ap (λ (t : ThreadEnd). leaves t (is_fed b h cs)) is) ∙ l.arrival.over_ends i x lt at_home over in absurd (cc)

    unfed : (i : ℕ) (x : Room) → i < b.settings.threads → Home w (thread_room (sizes_at b) i) x → end_of x ≡ Waits → is_fed b h cs ≡ false
    unfed i x lt at_home is = sym (ap (λ (t : ThreadEnd). leaves t (is_fed b h cs)) is) ∙ l.arrival.over_ends i x lt at_home over

    by_end : (i : ℕ) (x : Room) → i < b.settings.threads → Home w (thread_room (sizes_at b) i) x → (end : ThreadEnd) → end_of x ≡ end
        → (next_command (opening_of b) h i ≡ None) ⊎ ((next_command (opening_of b) h i ≡ Some Take) × (end_of x ≡ Waits))
    by_end i x lt at_home Ready is = absurd (not_ready i x lt at_home is)
    by_end i x lt at_home Waits is = inr (waiting i x lt at_home is, is)
    by_end i x lt at_home Ended is = inl (ended i x lt at_home is)

    none_there : (i : ℕ) → b.settings.threads ≤ i → next_command (opening_of b) h i ≡ None
    none_there i ge = none_past b.scripts i (place_after (opening_of b) h i) (let n = l.bounds.beginning.scripts in omega (arith, n, ge))

    finished : NoneWaits b w → IsFinished (opening_of b) h (marks_of b cs)
    finished none = (λ i. used i (cases_lt i b.settings.threads), all_saved whole)
      where
        used_by : (i : ℕ) (x : Room) → i < b.settings.threads → Home w (thread_room (sizes_at b) i) x
            → (next_command (opening_of b) h i ≡ None) ⊎ ((next_command (opening_of b) h i ≡ Some Take) × (end_of x ≡ Waits)) → next_command (opening_of b) h i ≡ None
        used_by i x lt at_home (inl is) = is
        used_by i x lt at_home (inr takes) = absurd (none i x lt at_home takes.1)

        used : (i : ℕ) → (i < b.settings.threads) ⊎ (b.settings.threads ≤ i) → next_command (opening_of b) h i ≡ None
        used i (inl lt) = let x = room_at i lt in used_by i x.0 lt x.1 (by_end i x.0 lt x.1 (end_of x.0) refl)
        used i (inr ge) = none_there i ge

    stalled : SomeWaits b w → IsStalled (opening_of b) h (marks_of b cs)
    stalled some = record {
      closed = some_closed cs refl;
      all = covered_same ∙ whole;
      ends = λ j. pauses (next_command (opening_of b) h j) (ends j (cases_lt j b.settings.threads));
      waiting = some.thread;
      waits = takes;
      empty = no_item (contents_now (opening_of b) h).items (sym (ap (λ (es : List Entry). has_items (contents_now (opening_of b) es).items) (ap (λ (d : ℕ). take d h) whole ∙ take-length h))
          ∙ unfed some.thread some.room some.within some.home some.waits);
    }
      where
        takes : next_command (opening_of b) h some.thread ≡ Some Take
        takes = waiting some.thread some.room some.within some.home some.waits

        by : (j : ℕ) (x : Room) → (next_command (opening_of b) h j ≡ None) ⊎ ((next_command (opening_of b) h j ≡ Some Take) × (end_of x ≡ Waits))
            → (next_command (opening_of b) h j ≡ None) ⊎ (next_command (opening_of b) h j ≡ Some Take)
        by j x (inl is) = inl is
        by j x (inr is) = inr is.0

        ends : (j : ℕ) → (j < b.settings.threads) ⊎ (b.settings.threads ≤ j) → (next_command (opening_of b) h j ≡ None) ⊎ (next_command (opening_of b) h j ≡ Some Take)
        ends j (inl lt) = let x = room_at j lt in by j x.0 (by_end j x.0 lt x.1 (end_of x.0) refl)
        ends j (inr ge) = inl (none_there j ge)

        some_closed : (ns : List Checkpoint) → cs ≡ ns → 0 < closings (opening_of b) (marks_of b cs)
        some_closed [] same =
            let zero_long : length h ≡ 0 = sym whole ∙ ap covered_by same in
            let none_yet : next_command (opening_of b) [] some.thread ≡ None = used_each b b.settings.threads (sym (ap (is_over b) same) ∙ over) some.thread some.within in
            let here : next_command (opening_of b) h some.thread ≡ next_command (opening_of b) [] some.thread = ap (λ (es : List Entry). next_command (opening_of b) es some.thread) (no_entry h zero_long) in
            absurd (clash (next_command (opening_of b) h some.thread) takes (here ∙ none_yet))
        some_closed (m ∷ ns) same = subst (λ (xs : List Checkpoint). 0 < closings (opening_of b) (recovery_marks b.life ++ lengths_of xs)) (sym same) (more b.life (opening_of b) m ns)

    takeless : HasNoTake (opening_of b) → NoneWaits b w
    takeless none i x lt at_home is = no_take_at (script_of b.scripts i) (place_after (opening_of b) h i) (none i) (waiting i x lt at_home is)

  is_over_then : IsFinished (opening_of b) h (marks_of b cs) → is_over b cs ≡ true
  is_over_then (used, inl marked) = l.arrival.used_over used (sym covered_same ∙ marked.1)
  is_over_then (used, inr nothing) =
      let none_saved : covered_by cs ≡ 0 = sym covered_same ∙ ap covered nothing.2 in
      let none_long : length h ≡ 0 = ap length nothing.1 in
      l.arrival.used_over used (none_saved ∙ sym none_long)

pub life_ends : LifeEndsLaw
life_ends Finished b w h cs l shows = finished b w h cs l shows.0 shows.1
life_ends Stalled b w h cs l shows = stalled b w h cs l shows.0 shows.1
life_ends Cut b w h cs l not_over = λ is. let q : true ≡ false = sym (is_over_then b w h cs l is) ∙ not_over in absurd (cc)
life_ends Starved b w h cs l shows = tt

pub finished_is_over : FinishedIsOverLaw
finished_is_over b w h cs l is = is_over_then b w h cs l is

-- of checkpoints of which only the last may have ended the life one did
last_over : (over : Bool) (front back : List Checkpoint) (m : Checkpoint) → OnlyLastIsOver (front ++ m ∷ back) → m.over ≡ true → (back ≡ []) × (over_from over (front ++ m ∷ back) ≡ true)
last_over over [] [] m only e = (refl, e)
last_over over [] (n ∷ ns) m only e = let c : true ≡ false = sym e ∙ only.0 in absurd (cc)
last_over over (x ∷ []) back m only e = last_over x.over [] back m only.1 e
last_over over (x ∷ y ∷ ys) back m only e = last_over x.over (y ∷ ys) back m only.1 e

pub over_is_last : OverIsLastLaw
over_is_last b w h front back m l e = last_over (are_used_below b b.settings.threads) front back m l.arrival.only_last e

pub none_waits_without_take : NoneWaitsWithoutTakeLaw
none_waits_without_take b w h cs l over none = takeless b w h cs l over none

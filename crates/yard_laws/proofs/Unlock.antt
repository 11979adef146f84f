-- A room goes home.
use Rattle.std.proofs.Common.{◌≡◌, ◌≢◌, ℕ, zero, suc, ◌+◌, ◌<◌, ◌≤◌, ◌⊎◌, ◌==◌, ◌&&◌, ◌||◌, not, cond, Bool, true, false, List, [], ◌∷◌, ◌++◌, length, take, sym, refl, ap, ◌∙◌, subst, ⊎_elim, inl, inr, arith, Option, Some, length-append, eq-eqb}
use mathlib.Core.Logic.{dite}
use native.Mathlib.Decide.{ℕ_discrete}
use Rattle.std.proofs.Math.Seq.{take-length}
use Rattle.std.proofs.lemmas.Bool.{lt-ltb, le-ltb, ltb-true, ne_eqb, cases_lt}
use Rattle.std.specs.Prelude.{nat_lt, slice_get, is_none}
use Rattle.seq_object.specs.declared.command.Command.{Command}
use Rattle.seq_object.specs.declared.history.Entry.{Entry}
use Rattle.seq_object.specs.declared.history.RestartPoint.{RestartPoint}
use Rattle.life_model.specs.Life.{point_after, next_command, contents_now}
use Rattle.room_model.specs.MapRoom.{live_layout}
use Rattle.room_model.specs.Rooms.{StandsFor}
use Rattle.restart_point.specs.declared.thread_end.ThreadEnd.{ThreadEnd}
use Rattle.rooms.specs.declared.room.Room.{Room}
use Rattle.yard_model.specs.declared.view.Phase.{Phase}
use Rattle.yard_model.specs.declared.view.Phase.TheVariants.{Standing, Running, Closing}
use Rattle.yard_model.specs.declared.view.Beginning.{Beginning}
use Rattle.yard_model.specs.declared.view.View.{View}
use Rattle.yard_model.specs.declared.view.Grip.{Grip}
use Rattle.yard_model.specs.declared.view.Checkpoint.{Checkpoint}
use Rattle.rooms.specs.Rooms.{state_of, history_of, end_of, loads, is_empty_queue}
use Rattle.yard_model.specs.Beginnings.{opening_of, sizes_at, covered_by, covered_part, epoch_now, has_items, is_fed}
use Rattle.yard_model.specs.Knows.{stands, is_closing, HasCause, MayHold, IsAtPlace}
use Rattle.yard_model.specs.World.{YardState, lock_of, ViewIs, Home, done_in, done_by}
use Rattle.yard_model.specs.Lawful.{Lawful}
use Rattle.yard_laws.proofs.Lists.{each_set}
use Rattle.yard_laws.proofs.Views.{total_set}
use Rattle.yard_laws.proofs.Knowns.{known_point, known_next, last_few}
use Rattle.yard_laws.proofs.Readings.{not_running, queue_empty}
use Rattle.yard_laws.proofs.Homes.{free_by_life}
use Rattle.yard_laws.proofs.Arrivals.{on_gave_none, others_stand, below_threads}
use Rattle.yard_model.specs.Views.{freed, found_after, finds_empty, closed_after, is_thread_room}
use Rattle.yard_model.specs.Conditions.{MayUnlock}
use Rattle.yard_model.specs.Steps.{at_unlock}
use Rattle.yard_model.specs.Laws.{UnlockKeepsLaw}
use Rattle.incll_var.specs.Cells.{IsRunning}
use Rattle.yard_model.specs.Epochs.{IsInEpoch}
use Rattle.yard_model.specs.Homes.{IsFreeHome}
use Rattle.yard_model.specs.Positions.{KeepsPosition, IsStored}
use Rattle.yard_model.specs.Closings.{threads_done, HasLearnt}
use Rattle.seq_object.specs.Sizes.{thread_room, super_room, room_count}
use Rattle.yard_laws.proofs.Returns as returns

or_right : (c : Bool) → (c || true) ≡ true
or_right true = refl
or_right false = refl

or_left : (a c : Bool) → a ≡ true → (a || c) ≡ true
or_left true c e = refl
or_left false c e = absurd (cc)

or_false : (c : Bool) → (c || false) ≡ c
or_false true = refl
or_false false = refl

or_cases : (a c : Bool) → (a || c) ≡ true → (a ≡ true) ⊎ (c ≡ true)
or_cases true c e = inl refl
or_cases false c e = inr e

and_first : (a c : Bool) → (a && c) ≡ true → a ≡ true
and_first true c e = refl
and_first false c e = absurd (cc)

and_second : (a c : Bool) → (a && c) ≡ true → c ≡ true
and_second true c e = e
and_second false c e = absurd (cc)

not_not : (c : Bool) → not (not c) ≡ c
not_not true = refl
not_not false = refl

not_true : (c : Bool) → not c ≡ true → c ≡ false
not_true true e = absurd (cc)
not_true false e = refl

eqb_is : (m n : ℕ) → (m == n) ≡ true → m ≡ n
eqb_is m n e = dite (ℕ_discrete m n) (λ q. q) (λ q. let f = ne_eqb m n q in let c : true ≡ false = sym e ∙ f in absurd (cc))

-- the item behind a list, and one of the list
get_last : (es : List ThreadEnd) (e : ThreadEnd) → slice_get (es ++ e ∷ []) (length es) ≡ Some e
get_last [] e = refl
get_last (x ∷ es) e = get_last es e

get_front : (es : List ThreadEnd) (e : ThreadEnd) (k : ℕ) → k < length es → slice_get (es ++ e ∷ []) k ≡ slice_get es k
get_front [] e k lt = absurd (omega (arith, lt))
get_front (x ∷ es) e zero lt = refl
get_front (x ∷ es) e (suc k) lt = get_front es e k (omega (arith, lt))

module _ (b : Beginning) (w : YardState) (h : List Entry) (cs : List Checkpoint) (i : ℕ) (v : View) (g : Grip) (x : Room)
    (l : Lawful b w h cs) (at : ViewIs w i v) (may : MayUnlock v g x) where
  abbrev u : View
  u = freed v g x

  abbrev r : ℕ
  r = g.room

  abbrev next : YardState
  next = at_unlock w i r x u

  abbrev now : ℕ
  now = epoch_now b cs

  within : r < room_count (sizes_at b)
  within = returns.within b w h cs i v u g x 0 l at may.held may.kept refl refl refl

  may_hold : MayHold (sizes_at b) i v.phase v.closed.rooms r
  may_hold = returns.may_hold b w h cs i v u g x 0 l at may.held may.kept refl refl refl

  not_standing : v.phase ≡ Standing → ⊥
  not_standing = returns.not_standing b w h cs i v u g x 0 l at may.held may.kept refl refl refl

  runs_now : v.ran ≡ now
  runs_now = returns.runs_now b w h cs i v u g x 0 l at may.held may.kept refl refl refl

  same_shards : v.beginning.settings.shards ≡ b.settings.shards
  same_shards = ap (λ (c : Beginning). c.settings.shards) (l.sized.beginnings i v at)

  same_super : super_room (sizes_at v.beginning) ≡ super_room (sizes_at b)
  same_super = ap (λ (c : Beginning). super_room (sizes_at c)) (l.sized.beginnings i v at)

  running_or_closing : (v.phase ≡ Running) ⊎ (v.phase ≡ Closing)
  running_or_closing = returns.running_or_closing b w h cs i v u g x 0 l at may.held may.kept refl refl refl

  closing_room : v.phase ≡ Closing → r ≡ v.closed.rooms
  closing_room c = subst (λ (p : Phase). MayHold (sizes_at b) i p v.closed.rooms r) c may_hold

  -- HOW MANY ROOMS ARE DONE

  done_before : done_in w.views ≡ done_by v
  done_before = returns.done_before b w h cs i v u g x 0 l at may.held may.kept refl refl refl

  done_after : done_in next.views ≡ done_by u
  done_after = let f = total_set done_by w.views i v u at in let d = done_before in omega (arith, f, d)

  abbrev Cases : Type 0
  Cases = ((is_closing v.phase ≡ false) × (done_in w.views ≡ 0) × (done_in next.views ≡ 0)) ⊎ ((is_closing v.phase ≡ true) × (done_in w.views ≡ r) × (done_in next.views ≡ r + 1))

  -- where the thread runs no room is done, where it closes this one is now
  done_cases : Cases
  done_cases = by running_or_closing
    where
      by : (v.phase ≡ Running) ⊎ (v.phase ≡ Closing) → Cases
      by (inl c) = inl (ap is_closing c, done_before ∙ ap (λ (p : Phase). cond (is_closing p) v.closed.rooms 0) c, done_after ∙ ap (λ (p : Phase). cond (is_closing p) (closed_after p v g x).rooms 0) c)
      by (inr c) = let m = closing_room c in
          let a = ap (λ (p : Phase). cond (is_closing p) v.closed.rooms 0) c in let d = ap (λ (p : Phase). cond (is_closing p) (closed_after p v g x).rooms 0) c in
          let f = done_before in let e = done_after in inr (ap is_closing c, omega (arith, m, a, f), omega (arith, m, d, e))

  mine_done : nat_lt r (done_in next.views) ≡ is_closing v.phase
  mine_done = by done_cases
    where
      by : Cases → nat_lt r (done_in next.views) ≡ is_closing v.phase
      by (inl t) = le-ltb r (done_in next.views) (omega (arith, t.2)) ∙ sym t.0
      by (inr t) = lt-ltb r (done_in next.views) (omega (arith, t.2)) ∙ sym t.0

  -- of the other rooms as many are done
  other_done : (q : ℕ) → q ≢ r → nat_lt q (done_in next.views) ≡ nat_lt q (done_in w.views)
  other_done q n = by done_cases
    where
      by : Cases → nat_lt q (done_in next.views) ≡ nat_lt q (done_in w.views)
      by (inl t) = ap (nat_lt q) (t.2 ∙ sym t.1)
      by (inr t) = ⊎_elim (λ (lt : q < r). lt-ltb q (done_in next.views) (omega (arith, lt, t.2)) ∙ sym (lt-ltb q (done_in w.views) (omega (arith, lt, t.1))))
          (λ (ge : r ≤ q). le-ltb q (done_in next.views) (omega (arith, ge, n, t.2)) ∙ sym (le-ltb q (done_in w.views) (omega (arith, ge, t.1)))) (cases_lt q r)

  -- no fewer are
  test_on : (q : ℕ) → nat_lt q (done_in w.views) ≡ true → nat_lt q (done_in next.views) ≡ true
  test_on q f = by done_cases (ltb-true q (done_in w.views) f)
    where
      by : Cases → q < done_in w.views → nat_lt q (done_in next.views) ≡ true
      by (inl t) lt = absurd (omega (arith, t.1, lt))
      by (inr t) lt = lt-ltb q (done_in next.views) (omega (arith, t.1, t.2, lt))

  -- ROOMS

  -- the room goes home free, and done where the thread closes
  free_home : IsFreeHome b h cs (done_in next.views) r x
  free_home = free_by_life b w h cs i v l at runs_now r x (is_closing v.phase) (done_in next.views) mine_done (take g.covered g.history) (returns.covered_history b w h cs i v u g x 0 l at may.held may.kept refl refl refl)
      (history_of x) (returns.all_history b w h cs i v u g x 0 l at may.held may.kept refl refl refl) may.free

  -- the queue room goes home empty exactly where the list is empty
  queue_after : r ≡ b.settings.shards → is_empty_queue x ≡ not (has_items (contents_now (opening_of b) h).items)
  queue_after is = queue_empty (sizes_at b) x (contents_now (opening_of b) h) (subst (λ (r : ℕ). StandsFor live_layout (sizes_at b) r (loads x) (contents_now (opening_of b) h)) is (free_home.stands (omega (arith, is))))

  -- EPOCHS

  found_more : (p : Phase) → v.found_empty ≡ true → found_after p v g x ≡ true
  found_more Standing f = f
  found_more Running f = or_left v.found_empty (finds_empty v g x) f
  found_more Closing f = f

  cause_more : HasCause v.quota v.found_empty (next_command (opening_of b) h i) → HasCause u.quota u.found_empty (next_command (opening_of b) h i)
  cause_more (inl q) = inl q
  cause_more (inr (inl n)) = inr (inl n)
  cause_more (inr (inr t)) = inr (inr (t.0, found_more v.phase t.1))

  -- a queue that began the epoch with an item and is empty now has lost one since the mark
  emptied_now : finds_empty v g x ≡ true → is_fed b h cs ≡ true → covered_by cs < length h
  emptied_now f fed = by (cases_lt (covered_by cs) (length h))
    where
      is : r ≡ b.settings.shards
      is = eqb_is r v.beginning.settings.shards (and_first (r == v.beginning.settings.shards) (is_none g.drawn && is_empty_queue x) f) ∙ same_shards

      none : has_items (contents_now (opening_of b) h).items ≡ false
      none = not_true (has_items (contents_now (opening_of b) h).items) (sym (queue_after is) ∙ and_second (is_none g.drawn) (is_empty_queue x) (and_second (r == v.beginning.settings.shards) (is_none g.drawn && is_empty_queue x) f))

      by : (covered_by cs < length h) ⊎ (length h ≤ covered_by cs) → covered_by cs < length h
      by (inl lt) = lt
      by (inr ge) = let le = last_few b w h cs l in let same : covered_by cs ≡ length h = omega (arith, ge, le) in
          let all : covered_part h cs ≡ h = ap (λ (n : ℕ). take n h) same ∙ take-length h in
          let c : true ≡ false = sym fed ∙ (ap (λ (es : List Entry). has_items (contents_now (opening_of b) es).items) all ∙ none) in absurd (cc)

  in_epoch : IsInEpoch b h cs i u.phase u.ran u.quota u.found_empty
  in_epoch = let f = l.epochs.views i v at in record {
    no_later = f.no_later;
    runs = f.runs;
    since = f.since;
    idle = f.idle;
    has_next = f.has_next;
    cause = λ s e. cause_more (f.cause s e);
    emptied = λ e found fed. by v.phase found e fed;
  }
    where
      by : (p : Phase) → found_after p v g x ≡ true → v.ran ≡ now → is_fed b h cs ≡ true → covered_by cs < length h
      by Standing found e fed = (l.epochs.views i v at).emptied e found fed
      by Running found e fed = ⊎_elim (λ (o : v.found_empty ≡ true). (l.epochs.views i v at).emptied e o fed) (λ (o : finds_empty v g x ≡ true). emptied_now o fed) (or_cases v.found_empty (finds_empty v g x) found)
      by Closing found e fed = (l.epochs.views i v at).emptied e found fed

  -- POSITIONS

  own_wrote : thread_room (sizes_at b) i ≡ r → u.wrote ≡ true
  own_wrote q = let t = l.sized.threads i v at in ap (λ (a : Bool). v.wrote || a) (eq-eqb r (thread_room (sizes_at v.beginning) v.thread) (omega (arith, q, same_shards, t))) ∙ or_right v.wrote

  same_wrote : thread_room (sizes_at b) i ≢ r → u.wrote ≡ v.wrote
  same_wrote n = let t = l.sized.threads i v at in ap (λ (a : Bool). v.wrote || a) (ne_eqb r (thread_room (sizes_at v.beginning) v.thread) (λ e. n (omega (arith, e, same_shards, t)))) ∙ or_false v.wrote

  closing_home : v.phase ≡ Closing → (k : ℕ) → k < b.settings.threads → r ≡ thread_room (sizes_at b) k → IsAtPlace (point_after (opening_of b) h k) (next_command (opening_of b) h k) x
  closing_home = returns.closing_home b w h cs i v u g x 0 l at may.held may.kept refl refl refl

  closed_rests : v.phase ≡ Closing → (k : ℕ) → k < b.settings.threads → thread_room (sizes_at b) k ≡ r → IsRunning (state_of x) → ⊥
  closed_rests c k lt q = not_running (λ c. c ≤ v.ran) (state_of x) (may.free.safe.saved (ap is_closing c) (omega (arith, same_super, q, lt)))

  own_room_of : (j : ℕ) → thread_room (sizes_at b) j ≡ r → v.phase ≡ Running → j ≡ i
  own_room_of = returns.own_room_of b w h cs i v u g x 0 l at may.held may.kept refl refl refl

  own_position : thread_room (sizes_at b) i ≡ r → KeepsPosition b h cs 0 i v.phase v.ran u.wrote x
  own_position q = record {
    standing = λ s. ⊎_elim (λ (c : v.phase ≡ Running). let t = ap stands c in let f : true ≡ false = sym s ∙ t in absurd (cc)) (λ (c : v.phase ≡ Closing). closing_home c i (below_threads b w h cs l i v at) (sym q)) running_or_closing;
    written = λ _ c _. let t = l.sized.threads i v at in
        subst (λ (p : RestartPoint × Option Command). IsAtPlace p.0 p.1 x) (λ k. (known_point b w h cs i v l at k, known_next b w h cs i v l at k)) (may.own_room c (omega (arith, q, same_shards, t)));
    unwritten = λ _ c d. let a = own_wrote q in let f : true ≡ false = sym a ∙ d in absurd (cc);
    runs = λ _ _. (runs_now, own_wrote q);
  }

  other_position : (j : ℕ) (c : View) → j ≢ i → ViewIs w j c → thread_room (sizes_at b) j ≡ r → KeepsPosition b h cs 0 j c.phase c.ran c.wrote x
  other_position j c n f q = ⊎_elim (λ (e : v.phase ≡ Running). absurd (n (own_room_of j q e)))
      (λ (e : v.phase ≡ Closing). let s = others_stand b w h cs l i v at e j c n f in record {
        standing = λ _. closing_home e j (below_threads b w h cs l j c f) (sym q);
        written = λ _ p. let d : Standing ≡ Running = sym s ∙ p in absurd (cc);
        unwritten = λ _ p. let d : Standing ≡ Running = sym s ∙ p in absurd (cc);
        runs = λ _ o. absurd (closed_rests e j (below_threads b w h cs l j c f) q o);
      }) running_or_closing

  -- its own room is still to be written back; one that is closed is done
  done_now : v.phase ≡ Closing → nat_lt r (done_in next.views) ≡ false → ⊥
  done_now c d = let f : true ≡ false = sym (mine_done ∙ ap is_closing c) ∙ d in absurd (cc)

  stored_here : (j : ℕ) → thread_room (sizes_at b) i ≡ r → IsStored now 0 (nat_lt r (done_in next.views)) u.ran u.wrote x
  stored_here j q z d ran wrote = ⊎_elim (λ (c : v.phase ≡ Running). may.stored c (let t = l.sized.threads i v at in omega (arith, q, same_shards, t))) (λ (c : v.phase ≡ Closing). absurd (done_now c d)) running_or_closing

  stored_else : (j : ℕ) (c : View) → j ≢ i → ViewIs w j c → thread_room (sizes_at b) j ≡ r → IsStored now 0 (nat_lt r (done_in next.views)) c.ran c.wrote x
  stored_else j c n f q z d ran wrote = ⊎_elim (λ (e : v.phase ≡ Running). absurd (n (own_room_of j q e))) (λ (e : v.phase ≡ Closing). absurd (done_now e d)) running_or_closing

  not_on : (a : Bool) → a ≡ a → (q : ℕ) → nat_lt q (done_in next.views) ≡ false → nat_lt q (done_in w.views) ≡ false
  not_on a _ q d = by (nat_lt q (done_in w.views)) refl
    where
      by : (c : Bool) → nat_lt q (done_in w.views) ≡ c → nat_lt q (done_in w.views) ≡ false
      by true e = let f : true ≡ false = sym (test_on q e) ∙ d in absurd (cc)
      by false e = e

  -- WHAT IS LEARNT

  abbrev ends_now : List ThreadEnd
  ends_now = cond (is_thread_room (sizes_at v.beginning) r) (v.closed.ends ++ end_of x ∷ []) v.closed.ends

  module _ (closing : v.phase ≡ Closing) where
    before : HasLearnt b h (Home w) v.closed
    before = l.bounds.learnt i v at closing

    is_room : r ≡ v.closed.rooms
    is_room = closing_room closing

    -- the room is a thread's, or not
    ends_more : b.settings.shards < r → r < super_room (sizes_at b) → ends_now ≡ v.closed.ends ++ end_of x ∷ []
    ends_more low high = λ k. cond (lt-ltb v.beginning.settings.shards r (omega (arith, low, same_shards)) k && lt-ltb r (super_room (sizes_at v.beginning)) (omega (arith, high, same_super)) k) (v.closed.ends ++ end_of x ∷ []) v.closed.ends

    ends_same : (r ≤ b.settings.shards) ⊎ (super_room (sizes_at b) ≤ r) → ends_now ≡ v.closed.ends
    ends_same (inl low) = ap (λ (a : Bool). cond (a && nat_lt r (super_room (sizes_at v.beginning))) (v.closed.ends ++ end_of x ∷ []) v.closed.ends) (le-ltb v.beginning.settings.shards r (omega (arith, low, same_shards)))
    ends_same (inr high) = ap (λ (a : Bool). cond (nat_lt v.beginning.settings.shards r && a) (v.closed.ends ++ end_of x ∷ []) v.closed.ends) (le-ltb r (super_room (sizes_at v.beginning)) (omega (arith, high, same_super)))
        ∙ ap (λ (a : Bool). cond a (v.closed.ends ++ end_of x ∷ []) v.closed.ends) (and_false (nat_lt v.beginning.settings.shards r))
      where
        and_false : (a : Bool) → (a && false) ≡ false
        and_false true = refl
        and_false false = refl

    kinds : ((b.settings.shards < r) × (r < super_room (sizes_at b))) ⊎ ((r ≤ b.settings.shards) ⊎ (super_room (sizes_at b) ≤ r))
    kinds = ⊎_elim (λ (low : b.settings.shards < r). ⊎_elim (λ (high : r < super_room (sizes_at b)). inl (low, high)) (λ (high : super_room (sizes_at b) ≤ r). inr (inr high)) (cases_lt r (super_room (sizes_at b))))
        (λ (low : r ≤ b.settings.shards). inr (inl low)) (cases_lt b.settings.shards r)

    number_now : length ends_now ≡ threads_done (sizes_at b) (v.closed.rooms + 1)
    number_now = by kinds
      where
        by : ((b.settings.shards < r) × (r < super_room (sizes_at b))) ⊎ ((r ≤ b.settings.shards) ⊎ (super_room (sizes_at b) ≤ r)) → length ends_now ≡ threads_done (sizes_at b) (v.closed.rooms + 1)
        by (inl t) = let n = before.number in let f = length-append v.closed.ends (end_of x ∷ []) in let e = is_room in let m = ap (λ (es : List ThreadEnd). length es) (ends_more t.0 t.1) in let low = t.0 in let high = t.1 in omega (arith, n, f, e, m, low, high)
        by (inr (inl low)) = let n = before.number in let e = is_room in let m = ap (λ (es : List ThreadEnd). length es) (ends_same (inl low)) in omega (arith, n, e, m, low)
        by (inr (inr high)) = let n = before.number in let e = is_room in let m = ap (λ (es : List ThreadEnd). length es) (ends_same (inr high)) in omega (arith, n, e, m, high)

    fed_now : b.settings.shards < v.closed.rooms + 1 → cond (r == v.beginning.settings.shards) (Some (not (is_empty_queue x))) v.closed.fed ≡ Some (has_items (contents_now (opening_of b) h).items)
    fed_now lt = dite (ℕ_discrete r b.settings.shards)
        (λ e. ap (λ (a : Bool). cond a (Some (not (is_empty_queue x))) v.closed.fed) (eq-eqb r v.beginning.settings.shards (omega (arith, e, same_shards)))
        ∙ ap (λ (a : Bool). Some a) (ap not (queue_after e) ∙ not_not (has_items (contents_now (opening_of b) h).items)))
        (λ n. ap (λ (a : Bool). cond a (Some (not (is_empty_queue x))) v.closed.fed) (ne_eqb r v.beginning.settings.shards (λ e. n (omega (arith, e, same_shards))))
        ∙ before.fed (let e = is_room in omega (arith, lt, n, e)))

    ends_right : (k : ℕ) (s : Room) → Home next (thread_room (sizes_at b) k) s → k < length ends_now → slice_get ends_now k ≡ Some (end_of s)
    ends_right k s at' lt = ⊎_elim
        (λ (t : (thread_room (sizes_at b) k ≡ r) × (x ≡ s)). let q = t.0 in let n = number_now in let o = before.number in let e = is_room in
        let few : k < b.settings.threads = omega (arith, lt, n) in
        let len : length v.closed.ends ≡ k = omega (arith, q, o, e, few) in
        ap (λ (es : List ThreadEnd). slice_get es k) (ends_more (omega (arith, q)) (omega (arith, q, few)))
        ∙ (ap (slice_get (v.closed.ends ++ end_of x ∷ [])) (sym len) ∙ (get_last v.closed.ends (end_of x) ∙ ap (λ (s : Room). Some (end_of s)) t.1)))
        (λ (t : (thread_room (sizes_at b) k ≢ r) × Home w (thread_room (sizes_at b) k) s). let q = t.0 in let n = number_now in let o = before.number in let e = is_room in
        let old : k < length v.closed.ends = omega (arith, lt, q, n, o, e) in
        front (is_thread_room (sizes_at v.beginning) r) k old ∙ before.ends k s t.1 old)
        (returns.this_or_there b w h cs i v u g x 0 l at may.held may.kept refl refl refl (thread_room (sizes_at b) k) s at')
      where
        front : (a : Bool) (k : ℕ) → k < length v.closed.ends → slice_get (cond a (v.closed.ends ++ end_of x ∷ []) v.closed.ends) k ≡ slice_get v.closed.ends k
        front true k lt = get_front v.closed.ends (end_of x) k lt
        front false k lt = refl

    learnt : HasLearnt b h (Home next) u.closed
    learnt = subst (λ (p : Phase). HasLearnt b h (Home next) (closed_after p v g x)) (sym closing) (record {
      rooms = let e = is_room in let f = within in omega (arith, e, f);
      fed = fed_now;
      number = number_now;
      ends = ends_right;
      entries = before.entries;
    })

  pub unlock_stays : Lawful b next h cs
  unlock_stays = record {
    sized = returns.sized_returns b w h cs i v u g x 0 l at may.held may.kept refl refl refl;
    arrival = returns.arrival_returns b w h cs i v u g x 0 l at may.held may.kept refl refl refl;
    locks = returns.locks_return b w h cs i v u g x 0 l at may.held may.kept refl refl refl (inl refl) (record {
      held = λ k e. absurd (cc);
      given = λ k e. absurd ((on_gave_none b w h cs l i v at may.on) k e);
      one_room = λ k e. absurd ((on_gave_none b w h cs l i v at may.on) k e);
      may_hold = λ k e. absurd (cc);
      may_give = λ k e. absurd ((on_gave_none b w h cs l i v at may.on) k e);
      off = λ e. let on = may.on in let c : true ≡ false = sym e ∙ on in absurd (cc);
    }) (λ d. absurd (omega (arith, d))) (λ k e. absurd ((on_gave_none b w h cs l i v at may.on) k e));
    entries = returns.entries_return b w h cs i v u g x 0 l at may.held may.kept refl refl refl refl refl;
    loads = returns.loads_return b w h cs i v u g x 0 l at may.held may.kept refl refl refl (λ k e. absurd ((on_gave_none b w h cs l i v at may.on) k e));
    epochs = returns.epochs_return b w h cs i v u g x 0 l at may.held may.kept refl refl refl in_epoch refl;
    rooms = returns.rooms_return b w h cs i v u g x 0 l at may.held may.kept refl refl refl (λ _. free_home) (λ d. absurd (omega (arith, d))) other_done;
    positions = returns.positions_return b w h cs i v u g x 0 l at may.held may.kept refl refl refl
        (each_set (λ (j : ℕ) (c : View). thread_room (sizes_at b) j ≡ r → KeepsPosition b h cs 0 j c.phase c.ran c.wrote x) w.views i u own_position other_position)
        (λ s n at'. subst (λ (a : Bool). KeepsPosition b h cs (lock_of w (thread_room (sizes_at b) i)) i v.phase v.ran a s) (sym (same_wrote n)) (l.positions.views i v at s at'));
    stored = returns.stored_return b w h cs i v u g x 0 l at may.held may.kept refl refl refl
        (each_set (λ (j : ℕ) (c : View). thread_room (sizes_at b) j ≡ r → IsStored now 0 (nat_lt r (done_in next.views)) c.ran c.wrote x) w.views i u (stored_here i) (λ j c n f q. stored_else j c n f q))
        (λ q d. not_on (nat_lt q (done_in w.views)) refl q d) refl same_wrote;
    bounds = returns.bounds_return b w h cs i v u g x 0 l at may.held may.kept refl refl refl learnt (l.bounds.views i v at) refl refl refl refl;
    taken = returns.taken_return b w h cs i v u g x 0 l at may.held may.kept refl refl refl refl;
  }

pub unlock_keeps : UnlockKeepsLaw Lawful
unlock_keeps b w h cs i v g x l at may = unlock_stays b w h cs i v g x l at may

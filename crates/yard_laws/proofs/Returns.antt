-- Steps that bring a room home: what they leave of each part of the lawful world, where the changed view and the room have their facts.
use Rattle.std.proofs.Common.{◌≡◌, ◌≢◌, ℕ, zero, suc, ◌+◌, ◌<◌, ◌≤◌, ◌⊎◌, cond, Bool, true, false, List, [], ◌∷◌, ◌++◌, length, take, get_or, set, sym, refl, ap, ◌∙◌, subst, ⊎_elim, inl, inr, arith, Some, None, length-set, get_or-set_other, get_or-set_same}
use mathlib.Core.Option.{some}
use mathlib.Core.Logic.{dite}
use native.Mathlib.Decide.{ℕ_discrete}
use lib.ListN.{get_elem?}
use Rattle.std.specs.Prelude.{nat_lt}
use Rattle.seq_object.specs.declared.history.Entry.{Entry}
use Rattle.seq_object.specs.declared.history.Noted.{Noted}
use Rattle.seq_object.specs.History.{of_room}
use Rattle.life_model.specs.Life.{point_after, next_command, contents_now}
use Rattle.room_model.specs.MapRoom.{live_layout}
use Rattle.room_model.specs.Rooms.{point_in}
use Rattle.rooms.specs.declared.room.Room.{Room}
use Rattle.yard_model.specs.declared.view.Phase.{Phase}
use Rattle.yard_model.specs.declared.view.Phase.TheVariants.{Standing, Running, Closing}
use Rattle.yard_model.specs.declared.view.Beginning.{Beginning}
use Rattle.yard_model.specs.declared.view.View.{View}
use Rattle.yard_model.specs.declared.view.Grip.{Grip}
use Rattle.yard_model.specs.declared.view.GivenBack.{GivenBack}
use Rattle.yard_model.specs.declared.view.Checkpoint.{Checkpoint}
use Rattle.yard_model.specs.Entries.{placed, picked, is_for_room, room_entries, entries_of}
use Rattle.rooms.specs.Rooms.{state_of, lines_unasked, history_of, IsRoomOf, bank_of}
use Rattle.yard_model.specs.Beginnings.{opening_of, sizes_at, covered_by, covered_part, epoch_now, is_over, is_fed, covered_contents, write_backs_at}
use Rattle.yard_model.specs.Knows.{stands, is_closing, MayHold, IsAtPlace}
use Rattle.yard_model.specs.World.{YardState, tick_word, lock_of, dead, ViewIs, Home, closes, done_in, done_by, seen_on, Shows}
use Rattle.yard_model.specs.Lawful.{IsSized, ShowsArrival, HoldsLocks, CountsEntries, HasLegalRooms, KeepsEpochs, KeepsRooms, KeepsPositions, StoresPositions, KeepsBounds, GripsRooms, Lawful}
use Rattle.yard_model.specs.Conditions.{IsKeptRoom}
use Rattle.yard_laws.proofs.Lists.{at_set, set_here, set_else, at_inside, each_set, same_at}
use Rattle.yard_laws.proofs.Views.{any_same, total_same, total_one, closes_set}
use Rattle.yard_laws.proofs.Quiet.{stands_same}
use Rattle.yard_laws.proofs.Knowns.{room_filter}
use Rattle.yard_laws.proofs.Arrivals.{few_threads, runs_none_closes}
use Rattle.incll_var.specs.Cells.{IsRunning}
use Rattle.room_model.specs.Banks.{memory_words}
use Rattle.yard_model.specs.Locks.{HoldsRightly, HasOwnEntries, GripsRightly, drawn_of}
use Rattle.yard_model.specs.Dead.{LeftRoom}
use Rattle.yard_model.specs.Epochs.{IsInEpoch, IsBounded}
use Rattle.yard_model.specs.Homes.{IsFreeRoom, IsDeadRoom, IsFreeHome, IsDeadHome}
use Rattle.yard_model.specs.Positions.{KeepsPosition, IsStored}
use Rattle.yard_model.specs.Closings.{HasLearnt}
use Rattle.seq_object.specs.Sizes.{thread_room, room_count}

-- what is picked of the first entries are the first of what is picked
pub picked_first : (picks : Entry → Bool) (k d : ℕ) (h : List Entry) → take (length (picked picks k (take d h))) (picked picks k h) ≡ picked picks k (take d h)
picked_first picks k zero h = refl
picked_first picks k (suc d) [] = refl
picked_first picks k (suc d) (e ∷ h) = one (picks e) (picked_first picks (suc k) d h)
  where
    one : (c : Bool) → take (length (picked picks (suc k) (take d h))) (picked picks (suc k) h) ≡ picked picks (suc k) (take d h)
        → take (length (cond c (placed k e ∷ picked picks (suc k) (take d h)) (picked picks (suc k) (take d h)))) (cond c (placed k e ∷ picked picks (suc k) h) (picked picks (suc k) h))
        ≡ cond c (placed k e ∷ picked picks (suc k) (take d h)) (picked picks (suc k) (take d h))
    one true f = ap (λ (ns : List Noted). placed k e ∷ ns) f
    one false f = f

take_first : (n : ℕ) (a c : List Noted) → n ≤ length a → take n (a ++ c) ≡ take n a
take_first zero a c le = refl
take_first (suc n) [] c le = absurd (omega (arith, le))
take_first (suc n) (x ∷ a) c le = ap (λ (ns : List Noted). x ∷ ns) (take_first n a c (omega (arith, le)))

module _ (b : Beginning) (w : YardState) (h : List Entry) (cs : List Checkpoint) (i : ℕ) (v u : View) (g : Grip) (x : Room) (m : ℕ)
    (l : Lawful b w h cs) (at : ViewIs w i v) (held : v.grip ≡ Some g) (kept : IsKeptRoom v g x) (thread : u.thread ≡ v.thread) (beginning : u.beginning ≡ v.beginning) (phase : u.phase ≡ v.phase) where
  abbrev pub r : ℕ
  r = g.room

  abbrev pub next : YardState
  next = record { words = set w.words (3 + r) m; rooms = set w.rooms r (Some x); views = set w.views i u }

  pub held_lock : lock_of w r ≡ i + 1
  held_lock = (l.locks.views i v at).held g held

  pub may_hold : MayHold (sizes_at b) i v.phase v.closed.rooms r
  may_hold = ((l.locks.views i v at).may_hold g held).0

  pub within : r < room_count (sizes_at b)
  within = ((l.locks.views i v at).may_hold g held).1

  pub not_standing : v.phase ≡ Standing → ⊥
  not_standing c = subst (λ (p : Phase). MayHold (sizes_at b) i p v.closed.rooms r) c may_hold

  pub running_or_closing : (v.phase ≡ Running) ⊎ (v.phase ≡ Closing)
  running_or_closing = by v.phase refl
    where
      by : (p : Phase) → v.phase ≡ p → (v.phase ≡ Running) ⊎ (v.phase ≡ Closing)
      by Standing c = absurd (not_standing c)
      by Running c = inl c
      by Closing c = inr c

  pub runs_now : v.ran ≡ epoch_now b cs
  runs_now = (l.epochs.views i v at).runs not_standing

  pub few : i < 16
  few = few_threads b w h cs l i v at

  pub here : ViewIs next i u
  here = set_here w.views i u (at_inside w.views i v at)

  pub lock_here : lock_of next r ≡ m
  lock_here = let s = l.sized.words in let f = within in let lt : 3 + r < length w.words = omega (arith, s, f) in get_or-set_same w.words (3 + r) m 0 lt

  pub lock_else : (q : ℕ) → q ≢ r → lock_of next q ≡ lock_of w q
  lock_else q n = get_or-set_other w.words (3 + r) (3 + q) m 0 (λ e. n (omega arith))

  pub word_same : (q : ℕ) → q < 3 → get_or next.words q 0 ≡ get_or w.words q 0
  word_same q lt = get_or-set_other w.words (3 + r) q m 0 (λ e. omega arith)

  -- a room at home is this one, or was at home
  pub this_or_there : (q : ℕ) (s : Room) → Home next q s → ((q ≡ r) × (x ≡ s)) ⊎ ((q ≢ r) × Home w q s)
  this_or_there q s at' = ⊎_elim (λ (t : (q ≡ r) × (Some x ≡ Some s)). let f = t.1 in inl (t.0, (let same : x ≡ s = cc in same)))
      (λ (t : (q ≢ r) × (get_elem? w.rooms q ≡ some (Some s))). inr t) (at_set w.rooms r q (Some x) (Some s) at')

  pub each_home : (P : ℕ → Room → Type 0) → P r x → ((q : ℕ) (s : Room) → q ≢ r → Home w q s → P q s) → (q : ℕ) (s : Room) → Home next q s → P q s
  each_home P mine theirs q s at' = ⊎_elim
      (λ (t : (q ≡ r) × (x ≡ s)). subst (λ (p : ℕ × Room). P p.0 p.1) (λ k. (sym t.0 k, t.1 k)) mine)
      (λ (t : (q ≢ r) × Home w q s). theirs q s t.0 t.1) (this_or_there q s at')

  -- no other view holds the room, and none gave it back
  pub other_room : (j : ℕ) (c : View) → j ≢ i → ViewIs w j c → (k : Grip) → c.grip ≡ Some k → k.room ≢ r
  other_room j c n f k is q = n (let a = (l.locks.views j c f).held k is in let d = ap (lock_of w) q in let e = held_lock in omega (arith, a, d, e))

  pub other_given : (j : ℕ) (c : View) → ViewIs w j c → (k : GivenBack) → c.given_back ≡ Some k → k.room ≢ r
  other_given j c f k is q = let a = (l.locks.views j c f).given k is in let d = ap (lock_of w) q in let e = held_lock in omega (arith, a, d, e, few)

  pub closes_same : closes next.views ≡ closes w.views
  closes_same = closes_set w.views i v u at (ap is_closing phase)

  pub sized_returns : IsSized b next h cs
  sized_returns = let s = l.sized in record {
    views = length-set w.views i u ∙ s.views;
    rooms = length-set w.rooms r (Some x) ∙ s.rooms;
    words = length-set w.words (3 + r) m ∙ s.words;
    threads = each_set (λ (j : ℕ) (c : View). c.thread ≡ j) w.views i u (thread ∙ s.threads i v at) (λ j c _ e. s.threads j c e);
    beginnings = each_set (λ (j : ℕ) (c : View). c.beginning ≡ b) w.views i u (beginning ∙ s.beginnings i v at) (λ j c _ e. s.beginnings j c e);
    kinds = each_home (λ (q : ℕ) (s : Room). IsRoomOf b.settings q s) (subst (λ (c : Beginning). IsRoomOf c.settings r x) (l.sized.beginnings i v at) kept.room) (λ q s _ at'. l.sized.kinds q s at');
  }

  pub arrival_returns : ShowsArrival b next h cs
  arrival_returns = let a = l.arrival in record {
    word = subst (λ (p : ℕ × (ℕ → Bool) × Bool). Shows p.0 p.1 p.2 (is_over b cs) (is_fed b h cs) (epoch_now b cs))
        (λ c. (sym (word_same 2 (omega arith)) c, λ j. sym (stands_same w.views i v u at (ap stands phase) j) c, sym closes_same c)) a.word;
    one_closer = each_set (λ (j : ℕ) (c : View). (q : ℕ) (d : View) → ViewIs next q d → c.phase ≡ Closing → d.phase ≡ Closing → j ≡ q) w.views i u
        (λ q d e f. one i v at q d e (sym phase ∙ f)) (λ j c _ e. one j c e);
    full = each_set (λ (j : ℕ) (c : View). closes next.views ≡ true → stands c.phase ≡ true) w.views i u (λ e. ap stands phase ∙ a.full i v at (sym closes_same ∙ e)) (λ j c _ e f. a.full j c e (sym closes_same ∙ f));
    over_stands = each_set (λ (j : ℕ) (c : View). is_over b cs ≡ true → c.phase ≡ Standing) w.views i u (λ o. phase ∙ a.over_stands i v at o) (λ j c _ e. a.over_stands j c e);
    over_saved = a.over_saved;
    over_ends = λ j s _ _ is. absurd (not_standing (a.over_stands i v at is));
    only_last = a.only_last;
    used_over = a.used_over;
  }
    where
      one : (j : ℕ) (c : View) → ViewIs w j c → (q : ℕ) (d : View) → ViewIs next q d → c.phase ≡ Closing → d.phase ≡ Closing → j ≡ q
      one j c e = each_set (λ (q : ℕ) (d : View). c.phase ≡ Closing → d.phase ≡ Closing → j ≡ q) w.views i u
          (λ f p. l.arrival.one_closer j c e i v at f (sym phase ∙ p)) (λ q d _ f. l.arrival.one_closer j c e q d f)

  pub locks_return : (m ≡ 0) ⊎ (m ≡ dead) → HoldsRightly b (lock_of next) (tick_word next) i u.phase u.closed.rooms u.grip u.given_back u.saw_off
      → (m ≡ dead → (k : GivenBack) × (u.given_back ≡ Some k) × (k.room ≡ r)) → ((k : GivenBack) → u.given_back ≡ Some k → k.room ≡ r) → HoldsLocks b next h cs
  locks_return home mine given_here given_only = let f = l.locks in record {
    views = each_set (λ (j : ℕ) (c : View). HoldsRightly b (lock_of next) (tick_word next) j c.phase c.closed.rooms c.grip c.given_back c.saw_off) w.views i u mine
        (λ j c n e. let o = f.views j c e in record {
          held = λ k p. lock_else k.room (other_room j c n e k p) ∙ o.held k p;
          given = λ k p. lock_else k.room (other_given j c e k p) ∙ o.given k p;
          one_room = o.one_room;
          may_hold = o.may_hold;
          may_give = o.may_give;
          off = λ s. let p = o.off s in let t = word_same 0 (omega arith) in omega (arith, p, t);
        });
    holder = λ q j lt is alive. dite (ℕ_discrete q r)
        (λ e. absurd (no_holder home j (sym lock_here ∙ (sym (ap (lock_of next) e) ∙ is)) (λ d. alive (ap (lock_of next) e ∙ (lock_here ∙ d)))))
        (λ n. let old = f.holder q j lt (sym (lock_else q n) ∙ is) (λ d. alive (lock_else q n ∙ d)) in
        let other : j ≢ i = λ e. (let same : old.0 ≡ v = same_at w.views i old.0 v (subst (λ (j : ℕ). ViewIs w j old.0) e old.1) at in
        let k = ap (λ (a : View). a.grip) (sym same) ∙ old.2.1 in n (sym old.2.2 ∙ ap (λ (k : Grip). k.room) (same_grip old.2.0 k))) in
        (old.0, set_else w.views i j u other ∙ old.1, old.2));
    giver = λ q lt is. dite (ℕ_discrete q r)
        (λ e. let t = given_here (sym lock_here ∙ (sym (ap (lock_of next) e) ∙ is)) in (i, u, here, (t.0, t.1, t.2 ∙ sym e)))
        (λ n. let old = f.giver q lt (sym (lock_else q n) ∙ is) in
        let other : old.0 ≢ i = λ e. (let same : old.1 ≡ v = same_at w.views i old.1 v (subst (λ (j : ℕ). ViewIs w j old.1) e old.2) at in
        gave_none old.3.0 (ap (λ (a : View). a.given_back) (sym same) ∙ old.3.1)) in
        (old.0, old.1, set_else w.views i old.0 u other ∙ old.2, old.3));
    one_giver = each_set (λ (j : ℕ) (c : View). (q : ℕ) (d : View) → ViewIs next q d → (k : GivenBack) → c.given_back ≡ Some k → (n : GivenBack) → d.given_back ≡ Some n → k.room ≡ n.room → j ≡ q) w.views i u
        (each_set (λ (q : ℕ) (d : View). (k : GivenBack) → u.given_back ≡ Some k → (n : GivenBack) → d.given_back ≡ Some n → k.room ≡ n.room → i ≡ q) w.views i u (λ _ _ _ _ _. refl)
        (λ q d _ e k p n s t. absurd (other_given q d e n s (sym t ∙ given_only k p))))
        (λ j c _ e. each_set (λ (q : ℕ) (d : View). (k : GivenBack) → c.given_back ≡ Some k → (n : GivenBack) → d.given_back ≡ Some n → k.room ≡ n.room → j ≡ q) w.views i u
        (λ k p n s t. absurd (other_given j c e k p (t ∙ given_only n s))) (λ q d _ o. l.locks.one_giver j c e q d o));
    free = λ q lt is. dite (ℕ_discrete q r)
        (λ e. (x, subst (λ (q : ℕ). Home next q x) (sym e) (set_here w.rooms r (Some x) (let n = l.sized.rooms in let o = within in omega (arith, n, o)))))
        (λ n. let old = f.free q lt (subst (λ (m : ℕ). (m ≡ 0) ⊎ (m ≡ dead)) (lock_else q n) is) in (old.0, set_else w.rooms r q (Some x) n ∙ old.1));
    home = each_home (λ (q : ℕ) (s : Room). (lock_of next q ≡ 0) ⊎ (lock_of next q ≡ dead)) (subst (λ (m : ℕ). (m ≡ 0) ⊎ (m ≡ dead)) (sym lock_here) home)
        (λ q s n at'. subst (λ (m : ℕ). (m ≡ 0) ⊎ (m ≡ dead)) (sym (lock_else q n)) (f.home q s at'));
  }
    where
      no_holder : (m ≡ 0) ⊎ (m ≡ dead) → (j : ℕ) → m ≡ j + 1 → m ≢ dead → ⊥
      no_holder (inl z) j is alive = omega (arith, z, is)
      no_holder (inr z) j is alive = alive z

      same_grip : (k : Grip) → v.grip ≡ Some k → k ≡ g
      same_grip k e = let f = held in let s : g ≡ k = cc in sym s

      gave_none : (k : GivenBack) → v.given_back ≡ Some k → ⊥
      gave_none k e = let n = ((l.locks.views i v at).one_room k e).0 in let f = held in let c : None ≡ Some g = sym n ∙ f in absurd (cc)

  -- the room comes home with its entries
  pub whole_history : history_of x ≡ room_entries (sizes_at b) r h
  whole_history = kept.history ∙ sym ((l.entries.views i v at).held g held)

  pub entries_return : u.own ≡ v.own → u.grip ≡ None → CountsEntries b next h cs
  entries_return own none = let c = l.entries in record {
    clock = word_same 1 (omega arith) ∙ c.clock;
    known = c.known;
    views = each_set (λ (j : ℕ) (d : View). HasOwnEntries b h j d.own d.grip) w.views i u
        (record { own = own ∙ (c.views i v at).own; held = λ k e. let f : None ≡ Some k = sym none ∙ e in absurd (cc) }) (λ j d _ e. c.views j d e);
    home = each_home (λ (q : ℕ) (s : Room). history_of s ≡ room_entries (sizes_at b) q h) whole_history (λ q s _ at'. c.home q s at');
  }

  -- and stands for its part of what the whole history leaves, and at the epoch of what the last mark saves
  pub all_history : entries_of (history_of x) ≡ of_room (sizes_at b) r h
  all_history = ap entries_of whole_history ∙ room_filter (sizes_at b) r h

  pub covered_history : entries_of (take g.covered g.history) ≡ of_room (sizes_at b) r (covered_part h cs)
  covered_history = let n = (l.taken.views i v at g held).covered in
      ap entries_of (sym (take_first g.covered g.history (drawn_of g) (l.taken.views i v at g held).in_history)
      ∙ (ap (λ (ns : List Noted). take g.covered ns) (sym ((l.entries.views i v at).held g held))
      ∙ (ap (λ (k : ℕ). take k (room_entries (sizes_at b) r h)) n ∙ picked_first (is_for_room (sizes_at b) r) 0 (covered_by cs) h)))
      ∙ room_filter (sizes_at b) r (covered_part h cs)

  pub point_home : (k : ℕ) → r ≡ thread_room (sizes_at b) k → k < b.settings.threads → point_in live_layout (memory_words (epoch_now b cs) (bank_of x)) ≡ point_after (opening_of b) (covered_part h cs) k
  point_home k is lt = let t = (l.taken.views i v at g held).point k lt is in
      ap (λ (n : ℕ). point_in live_layout (memory_words n (bank_of x))) (sym runs_now) ∙ (kept.point_in_memory t.0 t.1 ∙ t.2)

  -- where the holder closes, a thread's room is at its thread's place
  pub closing_home : v.phase ≡ Closing → (k : ℕ) → k < b.settings.threads → r ≡ thread_room (sizes_at b) k → IsAtPlace (point_after (opening_of b) h k) (next_command (opening_of b) h k) x
  closing_home c k lt is = let t = (l.taken.views i v at g held).point k lt is in
      let o = (l.taken.views i v at g held).closing c k lt is t.0 t.1 in
      let p = kept.point_loads c t.0 t.1 in record {
        point = p.0 ∙ o.point;
        ended = ((λ f. o.ended.0 (sym p.1 ∙ f)), (λ f. p.1 ∙ o.ended.1 f));
        waits = λ f. o.waits (sym p.1 ∙ f);
      }

  -- of the threads' rooms, a running view's is its own
  pub own_room_of : (j : ℕ) → thread_room (sizes_at b) j ≡ r → v.phase ≡ Running → j ≡ i
  own_room_of j q c = by (subst (λ (p : Phase). MayHold (sizes_at b) i p v.closed.rooms r) c may_hold)
    where
      by : (r ≤ b.settings.shards) ⊎ (r ≡ thread_room (sizes_at b) i) → j ≡ i
      by (inl o) = absurd (omega (arith, o, q))
      by (inr o) = omega (arith, o, q)

  pub loads_return : LeftRoom b h cs (Home next) i u.phase u.given_back → HasLegalRooms b next h cs
  loads_return left = let d = l.loads in record {
    legal = d.legal;
    dead_room = each_set (λ (j : ℕ) (c : View). LeftRoom b h cs (Home next) j c.phase c.given_back) w.views i u left
        (λ j c _ f k e low s at'. d.dead_room j c f k e low s (sym (set_else w.rooms r k.room (Some x) (other_given j c f k e)) ∙ at'));
  }

  -- of the other rooms as many are done
  pub rooms_return : (m ≡ 0 → IsFreeHome b h cs (done_in next.views) r x) → (m ≡ dead → IsDeadHome b h cs (done_in next.views) (closes next.views) r x)
      → ((q : ℕ) → q ≢ r → nat_lt q (done_in next.views) ≡ nat_lt q (done_in w.views)) → KeepsRooms b next h cs
  rooms_return mine given same = let d = l.rooms in record {
    free = each_home (λ (q : ℕ) (s : Room). lock_of next q ≡ 0 → IsFreeHome b h cs (done_in next.views) q s) (λ z. mine (sym lock_here ∙ z))
        (λ q s n at' z. subst (λ (a : Bool). IsFreeRoom (sizes_at b) (epoch_now b cs) (write_backs_at b q) (length cs) a (contents_now (opening_of b) h) (covered_contents b h cs) q s) (sym (same q n))
        (d.free q s at' (sym (lock_else q n) ∙ z)));
    dead_room = each_home (λ (q : ℕ) (s : Room). lock_of next q ≡ dead → IsDeadHome b h cs (done_in next.views) (closes next.views) q s) (λ z. given (sym lock_here ∙ z))
        (λ q s n at' z. subst (λ (p : Bool × Bool). IsDeadRoom (sizes_at b) (epoch_now b cs) (write_backs_at b q) (length cs) p.0 p.1 (covered_contents b h cs) q s) (λ k. (sym (same q n) k, sym closes_same k))
        (d.dead_room q s at' (sym (lock_else q n) ∙ z)));
    points = λ j s lt at'. ⊎_elim
        (λ (t : (thread_room (sizes_at b) j ≡ r) × (x ≡ s)). subst (λ (s : Room). point_in live_layout (memory_words (epoch_now b cs) (bank_of s)) ≡ point_after (opening_of b) (covered_part h cs) j) t.1 (point_home j (sym t.0) lt))
        (λ (t : (thread_room (sizes_at b) j ≢ r) × Home w (thread_room (sizes_at b) j) s). d.points j s lt t.1) (this_or_there (thread_room (sizes_at b) j) s at');
  }

  pub positions_return : ((j : ℕ) (c : View) → ViewIs next j c → thread_room (sizes_at b) j ≡ r → KeepsPosition b h cs m j c.phase c.ran c.wrote x)
      → ((s : Room) → thread_room (sizes_at b) i ≢ r → Home w (thread_room (sizes_at b) i) s → KeepsPosition b h cs (lock_of w (thread_room (sizes_at b) i)) i u.phase u.ran u.wrote s) → KeepsPositions b next h cs
  positions_return mine own = record {
    views = λ j c f s at'. ⊎_elim
        (λ (t : (thread_room (sizes_at b) j ≡ r) × (x ≡ s)). subst (λ (p : ℕ × Room). KeepsPosition b h cs p.0 j c.phase c.ran c.wrote p.1) (λ k. ((sym lock_here ∙ ap (lock_of next) (sym t.0)) k, t.1 k)) (mine j c f t.0))
        (λ (t : (thread_room (sizes_at b) j ≢ r) × Home w (thread_room (sizes_at b) j) s).
        subst (λ (n : ℕ). KeepsPosition b h cs n j c.phase c.ran c.wrote s) (sym (lock_else (thread_room (sizes_at b) j) t.0)) (old j c f s t.0 t.1)) (this_or_there (thread_room (sizes_at b) j) s at');
  }
    where
      old : (j : ℕ) (c : View) → ViewIs next j c → (s : Room) → thread_room (sizes_at b) j ≢ r → Home w (thread_room (sizes_at b) j) s → KeepsPosition b h cs (lock_of w (thread_room (sizes_at b) j)) j c.phase c.ran c.wrote s
      old = each_set (λ (j : ℕ) (c : View). (s : Room) → thread_room (sizes_at b) j ≢ r → Home w (thread_room (sizes_at b) j) s → KeepsPosition b h cs (lock_of w (thread_room (sizes_at b) j)) j c.phase c.ran c.wrote s) w.views i u
          own (λ j c _ e s _ at'. l.positions.views j c e s at')

  pub stored_return : ((j : ℕ) (c : View) → ViewIs next j c → thread_room (sizes_at b) j ≡ r → IsStored (epoch_now b cs) m (nat_lt r (done_in next.views)) c.ran c.wrote x)
      → ((q : ℕ) → nat_lt q (done_in next.views) ≡ false → nat_lt q (done_in w.views) ≡ false) → u.ran ≡ v.ran → (thread_room (sizes_at b) i ≢ r → u.wrote ≡ v.wrote) → StoresPositions b next h cs
  stored_return mine before same_ran same_wrote = record {
    views = λ j c f s at' z d. ⊎_elim
        (λ (t : (thread_room (sizes_at b) j ≡ r) × (x ≡ s)). subst (λ (y : Room). c.ran ≡ epoch_now b cs → c.wrote ≡ true → IsRunning (state_of y) × (lines_unasked y ≡ 1)) t.1
        (mine j c f t.0 (sym lock_here ∙ (ap (lock_of next) (sym t.0) ∙ z)) (ap (λ (q : ℕ). nat_lt q (done_in next.views)) (sym t.0) ∙ d)))
        (λ (t : (thread_room (sizes_at b) j ≢ r) × Home w (thread_room (sizes_at b) j) s).
        old j c f s t.0 t.1 (sym (lock_else (thread_room (sizes_at b) j) t.0) ∙ z) (before (thread_room (sizes_at b) j) d)) (this_or_there (thread_room (sizes_at b) j) s at');
  }
    where
      old : (j : ℕ) (c : View) → ViewIs next j c → (s : Room) → thread_room (sizes_at b) j ≢ r → Home w (thread_room (sizes_at b) j) s
          → IsStored (epoch_now b cs) (lock_of w (thread_room (sizes_at b) j)) (nat_lt (thread_room (sizes_at b) j) (done_in w.views)) c.ran c.wrote s
      old = each_set (λ (j : ℕ) (c : View). (s : Room) → thread_room (sizes_at b) j ≢ r → Home w (thread_room (sizes_at b) j) s
          → IsStored (epoch_now b cs) (lock_of w (thread_room (sizes_at b) j)) (nat_lt (thread_room (sizes_at b) j) (done_in w.views)) c.ran c.wrote s) w.views i u
          (λ s n at' z d ran wrote. l.stored.views i v at s at' z d (sym same_ran ∙ ran) (sym (same_wrote n) ∙ wrote)) (λ j c _ e s _ at'. l.stored.views j c e s at')

  -- HOW MANY ROOMS ARE DONE

  nobody_else : (j : ℕ) (c : View) → j ≢ i → ViewIs w j c → (p : Phase) → c.phase ≡ p → cond (is_closing p) c.closed.rooms 0 ≡ 0
  nobody_else j c n at' Standing f = refl
  nobody_else j c n at' Running f = refl
  nobody_else j c n at' Closing f = absurd (⊎_elim (λ (e : v.phase ≡ Running). runs_none_closes b w h cs l i v at e j c at' f)
      (λ (e : v.phase ≡ Closing). n (l.arrival.one_closer j c at' i v at f e)) running_or_closing)

  pub done_before : done_in w.views ≡ done_by v
  done_before = total_one done_by w.views i v at (λ j c n f. nobody_else j c n f c.phase refl)

  pub epochs_return : IsInEpoch b h cs i u.phase u.ran u.quota u.found_empty → u.last_checkpoint ≡ v.last_checkpoint → KeepsEpochs b next h cs
  epochs_return mine same_last = record {
    views = each_set (λ (j : ℕ) (c : View). IsInEpoch b h cs j c.phase c.ran c.quota c.found_empty) w.views i u mine (λ j c _ f. l.epochs.views j c f);
    last = each_set (λ (j : ℕ) (c : View). c.last_checkpoint ≤ epoch_now b cs) w.views i u (let f = l.epochs.last i v at in omega (arith, f, same_last)) (λ j c _ f. l.epochs.last j c f);
    order = l.epochs.order;
    takeless = l.epochs.takeless;
  }

  pub taken_return : u.grip ≡ None → GripsRooms b next h cs
  taken_return none = record {
    views = each_set (λ (j : ℕ) (c : View). (k : Grip) → c.grip ≡ Some k → GripsRightly b h cs c.phase k) w.views i u (λ k e. let f : None ≡ Some k = sym none ∙ e in absurd (cc)) (λ j c _ e. l.taken.views j c e);
  }

  pub bounds_return : (v.phase ≡ Closing → HasLearnt b h (Home next) u.closed) → IsBounded u.phase u.ticks u.checkpoints → u.checkpoints ≡ v.checkpoints → u.ticks ≡ v.ticks → seen_on u ≡ seen_on v → u.called_off ≡ v.called_off → KeepsBounds b next h cs
  bounds_return learnt mine same_number ticks on called = let f = l.bounds in
      let off = any_same (λ (c : View). c.called_off) w.views i v u at called in
      let sum = total_same (λ (c : View). c.ticks) w.views i v u at ticks in
      let number = total_same seen_on w.views i v u at on in
      let tick = word_same 0 (omega arith) in record {
        beginning = f.beginning;
        learnt = each_set (λ (j : ℕ) (c : View). c.phase ≡ Closing → HasLearnt b h (Home next) c.closed) w.views i u (λ p. learnt (sym phase ∙ p))
            (λ j c n e p. absurd (⊎_elim (λ (o : v.phase ≡ Running). runs_none_closes b w h cs l i v at o j c e p) (λ (o : v.phase ≡ Closing). n (l.arrival.one_closer j c e i v at p o)) running_or_closing));
        views = each_set (λ (j : ℕ) (c : View). IsBounded c.phase c.ticks c.checkpoints) w.views i u mine (λ j c _ e. f.views j c e);
        ticks = λ e. tick ∙ (f.ticks (sym off ∙ e) ∙ sym sum);
        off = λ e. let o = f.off (sym off ∙ e) in (omega (arith, o.0, tick), omega (arith, o.1, sum, tick));
        limit = let o = f.limit in omega (arith, o, sum, number);
        checkpoints = total_same (λ (c : View). c.checkpoints) w.views i v u at same_number ∙ f.checkpoints;
      }

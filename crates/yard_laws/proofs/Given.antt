-- What lock may tell of the room.
use Rattle.std.proofs.Common.{◌≡◌, ◌≢◌, ℕ, suc, cond, Bool, true, false, List, [], ◌∷◌, length, take, sym, refl, ap, ◌∙◌, subst, arith, Option}
use Rattle.std.proofs.lemmas.Bool.{le-ltb}
use Rattle.std.specs.List.{filter}
use Rattle.std.specs.Prelude.{nat_lt}
use Rattle.seq_object.specs.declared.command.Command.{Command}
use Rattle.seq_object.specs.declared.history.Entry.{Entry}
use Rattle.seq_object.specs.declared.history.Noted.{Noted}
use Rattle.seq_object.specs.declared.history.RestartPoint.{RestartPoint}
use Rattle.seq_object.specs.Object.{part_of}
use Rattle.seq_object.specs.History.{of_room, IsLegal}
use Rattle.rooms.specs.declared.room.Room.{Room}
use Rattle.yard_model.specs.declared.view.Phase.{Phase}
use Rattle.yard_model.specs.declared.view.Phase.TheVariants.{Standing, Running, Closing}
use Rattle.yard_model.specs.declared.view.Beginning.{Beginning}
use Rattle.yard_model.specs.declared.view.View.{View}
use Rattle.yard_model.specs.declared.view.Checkpoint.{Checkpoint}
use Rattle.yard_model.specs.Entries.{placed, picked, is_of_thread, is_for_room, entries_of}
use Rattle.rooms.specs.Rooms.{state_of, history_of, IsRoomOf}
use Rattle.yard_model.specs.Beginnings.{opening_of, sizes_at, covered_by, covered_part, epoch_now}
use Rattle.yard_model.specs.Knows.{is_closing, MayHold, IsAtPlace}
use Rattle.yard_model.specs.World.{YardState, lock_of, ViewIs, Home, done_in, done_by}
use Rattle.yard_model.specs.Lawful.{Lawful}
use Rattle.yard_model.specs.Conditions.{MayLock, IsFreeFor, IsGiven}
use Rattle.yard_model.specs.Steps.{covered_in}
use Rattle.yard_model.specs.Laws.{LockGivesLaw}
use Rattle.yard_laws.proofs.Lists.{at_inside}
use Rattle.yard_laws.proofs.Views.{total_one}
use Rattle.yard_laws.proofs.Knowns.{known_point, known_next, room_filter}
use Rattle.yard_laws.proofs.Readings.{free_saved}
use Rattle.yard_laws.proofs.Homes.{free_by_view}
use Rattle.yard_laws.proofs.Returns.{picked_first}
use Rattle.yard_laws.proofs.Lock.{picked_take}
use Rattle.yard_laws.proofs.Arrivals.{runs_none_closes}
use Rattle.seq_object.specs.Sizes.{thread_room, super_room}

module _ (p q : Entry → Bool) (k : ℕ) (e : Entry) (ps qs : List Noted) where
  abbrev in_p : List Noted → List Noted
  in_p ns = filter (λ (n : Noted). p n.entry) ns

  abbrev in_q : List Noted → List Noted
  in_q ns = filter (λ (n : Noted). q n.entry) ns

  core : (a c : Bool) → p e ≡ a → q e ≡ c → in_p qs ≡ in_q ps → in_p (cond c (placed k e ∷ qs) qs) ≡ in_q (cond a (placed k e ∷ ps) ps)
  core true true f g rest = ap (λ (z : Bool). cond z (placed k e ∷ in_p qs) (in_p qs)) f ∙ (ap (λ (ns : List Noted). placed k e ∷ ns) rest ∙ sym (ap (λ (z : Bool). cond z (placed k e ∷ in_q ps) (in_q ps)) g))
  core true false f g rest = rest ∙ sym (ap (λ (z : Bool). cond z (placed k e ∷ in_q ps) (in_q ps)) g)
  core false true f g rest = ap (λ (z : Bool). cond z (placed k e ∷ in_p qs) (in_p qs)) f ∙ rest
  core false false f g rest = rest

  one_both : (a c : Bool) → p e ≡ a → q e ≡ c → in_p qs ≡ in_q ps → in_p (cond (q e) (placed k e ∷ qs) qs) ≡ in_q (cond (p e) (placed k e ∷ ps) ps)
  one_both a c f g rest = ap (λ (z : Bool). in_p (cond z (placed k e ∷ qs) qs)) g ∙ (core a c f g rest ∙ sym (ap (λ (z : Bool). in_q (cond z (placed k e ∷ ps) ps)) f))

-- a thread's entries among a room's are the room's among the thread's
both_picked : (p q : Entry → Bool) (k : ℕ) (h : List Entry) → filter (λ (n : Noted). p n.entry) (picked q k h) ≡ filter (λ (n : Noted). q n.entry) (picked p k h)
both_picked p q k [] = refl
both_picked p q k (e ∷ h) = one_both p q k e (picked p (suc k) h) (picked q (suc k) h) (p e) (q e) refl refl (both_picked p q (suc k) h)

module _ (b : Beginning) (w : YardState) (h : List Entry) (cs : List Checkpoint) (i : ℕ) (v : View) (r : ℕ) (x : Room)
    (l : Lawful b w h cs) (at : ViewIs w i v) (may : MayLock v r) (free : lock_of w r ≡ 0) (home : Home w r x) where
  abbrev now : ℕ
  now = epoch_now b cs

  same_thread : v.thread ≡ i
  same_thread = l.sized.threads i v at

  same_shards : v.beginning.settings.shards ≡ b.settings.shards
  same_shards = ap (λ (c : Beginning). c.settings.shards) (l.sized.beginnings i v at)

  same_super : super_room (sizes_at v.beginning) ≡ super_room (sizes_at b)
  same_super = ap (λ (c : Beginning). super_room (sizes_at c)) (l.sized.beginnings i v at)

  holds : MayHold (sizes_at b) i v.phase v.closed.rooms r
  holds = subst (λ (p : Beginning × ℕ). MayHold (sizes_at p.0) p.1 v.phase v.closed.rooms r) (λ k. (l.sized.beginnings i v at k, same_thread k)) may.may_hold

  runs_now : v.ran ≡ now
  runs_now = (l.epochs.views i v at).runs (λ c. subst (λ (p : Phase). MayHold (sizes_at b) i p v.closed.rooms r) c holds)

  -- the room is not done
  not_done : nat_lt r (done_in w.views) ≡ false
  not_done = by v.phase refl
    where
      mine : (j : ℕ) (c : View) → j ≢ i → ViewIs w j c → (p q : Phase) → v.phase ≡ p → c.phase ≡ q → cond (is_closing q) c.closed.rooms 0 ≡ 0
      mine j c n f p Standing a d = refl
      mine j c n f p Running a d = refl
      mine j c n f Standing Closing a d = absurd (subst (λ (p : Phase). MayHold (sizes_at b) i p v.closed.rooms r) a holds)
      mine j c n f Running Closing a d = absurd (runs_none_closes b w h cs l i v at a j c f d)
      mine j c n f Closing Closing a d = absurd (n (l.arrival.one_closer j c f i v at d a))

      done : done_in w.views ≡ done_by v
      done = total_one done_by w.views i v at (λ j c n f. mine j c n f v.phase c.phase refl refl)

      by : (p : Phase) → v.phase ≡ p → nat_lt r (done_in w.views) ≡ false
      by Standing c = absurd (subst (λ (p : Phase). MayHold (sizes_at b) i p v.closed.rooms r) c holds)
      by Running c = let d = done in let a = ap (λ (p : Phase). cond (is_closing p) v.closed.rooms 0) c in le-ltb r (done_in w.views) (omega (arith, d, a))
      by Closing c = let d = done in let a = ap (λ (p : Phase). cond (is_closing p) v.closed.rooms 0) c in let m = subst (λ (p : Phase). MayHold (sizes_at b) i p v.closed.rooms r) c holds in le-ltb r (done_in w.views) (omega (arith, d, a, m))

  all_entries : entries_of (history_of x) ≡ of_room (sizes_at b) r h
  all_entries = ap entries_of (l.entries.home r x home) ∙ room_filter (sizes_at b) r h

  covered_entries : entries_of (take (covered_in b h cs r) (history_of x)) ≡ of_room (sizes_at b) r (covered_part h cs)
  covered_entries = ap (λ (ns : List Noted). entries_of (take (covered_in b h cs r) ns)) (l.entries.home r x home)
      ∙ (ap entries_of (picked_first (is_for_room (sizes_at b) r) 0 (covered_by cs) h) ∙ room_filter (sizes_at b) r (covered_part h cs))

  -- the room as the life knows it is the room as the view does
  free_now : IsFreeFor v false r (history_of x) (take (covered_in b h cs r) (history_of x)) x
  free_now = free_by_view b w h cs i v l at runs_now r x false (done_in w.views) not_done (take (covered_in b h cs r) (history_of x)) covered_entries (history_of x) all_entries (l.rooms.free r x home free)

  own_home : r ≡ thread_room (sizes_at v.beginning) v.thread → r ≡ thread_room (sizes_at b) i
  own_home is = omega (arith, is, same_shards, same_thread)

  own_free : r ≡ thread_room (sizes_at b) i → lock_of w (thread_room (sizes_at b) i) ≡ 0
  own_free is = subst (λ (q : ℕ). lock_of w q ≡ 0) is free

  own_at : r ≡ thread_room (sizes_at b) i → Home w (thread_room (sizes_at b) i) x
  own_at is = subst (λ (q : ℕ). Home w q x) is home

  own_same : filter (λ (n : Noted). is_of_thread v.thread n.entry) (history_of x) ≡ filter (λ (n : Noted). is_for_room (sizes_at v.beginning) r n.entry) v.own
  own_same = (λ k. filter (λ (n : Noted). is_of_thread (same_thread k) n.entry) (l.entries.home r x home k))
      ∙ (both_picked (is_of_thread i) (is_for_room (sizes_at b) r) 0 h ∙ sym (λ k. filter (λ (n : Noted). is_for_room (sizes_at (l.sized.beginnings i v at k)) r n.entry) ((l.entries.views i v at).own k)))

  pub given : IsGiven v r x (covered_in b h cs r)
  given = record {
    room = subst (λ (c : Beginning). IsRoomOf c.settings r x) (sym (l.sized.beginnings i v at)) (l.sized.kinds r x home);
    own = own_same;
    legal = subst (λ (c : Beginning). IsLegal (sizes_at c) (part_of (sizes_at c) r (opening_of c).state.contents) (entries_of (history_of x))) (sym (l.sized.beginnings i v at))
        (subst (λ (es : List Entry). IsLegal (sizes_at b) (part_of (sizes_at b) r (opening_of b).state.contents) es) (sym all_entries) (l.loads.legal r));
    few_covered = let p = picked_take (is_for_room (sizes_at b) r) 0 (covered_by cs) h in let c = ap (λ (ns : List Noted). length ns) (l.entries.home r x home) in omega (arith, p, c);
    free = free_now;
    wrote = λ is p s. subst (λ (q : RestartPoint × Option Command). IsAtPlace q.0 q.1 x) (λ k. (sym (known_point b w h cs i v l at) k, sym (known_next b w h cs i v l at) k))
        ((l.positions.views i v at x (own_at (own_home is))).written (own_free (own_home is)) p s);
    unwritten = λ is p s. free_saved v.ran (state_of x) (free_now.state (let lt = at_inside w.views i v at in let n = l.sized.views in omega (arith, is, same_thread, same_shards, same_super, lt, n)))
        (λ o. let a = ((l.positions.views i v at x (own_at (own_home is))).runs (own_free (own_home is)) o).1 in let c : true ≡ false = sym a ∙ s in absurd (cc));
    stored = λ is wrote. l.stored.views i v at x (own_at (own_home is)) (own_free (own_home is)) (ap (λ (q : ℕ). nat_lt q (done_in w.views)) (sym (own_home is)) ∙ not_done) runs_now wrote;
  }

pub lock_gives : LockGivesLaw
lock_gives b w h cs i v r x l at may free home = given b w h cs i v r x l at may free home

-- A room is given back in mid-work.
use Rattle.std.proofs.Common.{◌≡◌, ◌≢◌, ℕ, ◌<◌, ◌≤◌, ◌⊎◌, not, cond, true, false, List, take, sym, refl, ap, ◌∙◌, subst, ⊎_elim, inr, arith, Option, Some}
use Rattle.std.specs.Prelude.{nat_lt, is_none}
use Rattle.std.proofs.lemmas.Bool.{le-ltb}
use Rattle.seq_object.specs.declared.command.Command.{Command}
use Rattle.seq_object.specs.declared.history.Entry.{Entry}
use Rattle.life_model.specs.Life.{point_after, next_command, contents_now}
use Rattle.room_model.specs.MapRoom.{live_layout}
use Rattle.room_model.specs.Rooms.{StandsFor}
use Rattle.room_model.specs.Writes.{stored_in}
use Rattle.rooms.specs.declared.room.Room.{Room}
use Rattle.yard_model.specs.declared.view.Phase.{Phase}
use Rattle.yard_model.specs.declared.view.Phase.TheVariants.{Running, Closing}
use Rattle.yard_model.specs.declared.view.Beginning.{Beginning}
use Rattle.yard_model.specs.declared.view.View.{View}
use Rattle.yard_model.specs.declared.view.Grip.{Grip}
use Rattle.yard_model.specs.declared.view.GivenBack.{GivenBack}
use Rattle.yard_model.specs.declared.view.Checkpoint.{Checkpoint}
use Rattle.rooms.specs.Rooms.{history_of, loads}
use Rattle.yard_model.specs.Beginnings.{opening_of, sizes_at, epoch_now}
use Rattle.yard_model.specs.Knows.{stands, is_closing, MayHold, IsAtPlace}
use Rattle.yard_model.specs.World.{YardState, lock_of, dead, ViewIs, Home, closes, done_in}
use Rattle.life_model.specs.Present.{LoadsFirstStores, stores_here}
use Rattle.yard_model.specs.Dead.{begun_by, LeftRoom}
use Rattle.yard_model.specs.Lawful.{Lawful}
use Rattle.yard_laws.proofs.Lists.{each_set}
use Rattle.yard_laws.proofs.Views.{any_there, done_set}
use Rattle.yard_laws.proofs.Knowns.{known_next}
use Rattle.yard_laws.proofs.Homes.{dead_closing, dead_by_life, by_life}
use Rattle.yard_model.specs.Views.{retreated}
use Rattle.yard_model.specs.Conditions.{behind, MayRetreat}
use Rattle.yard_model.specs.Steps.{at_retreat}
use Rattle.yard_model.specs.Laws.{RetreatKeepsLaw}
use Rattle.yard_model.specs.Homes.{IsDeadHome}
use Rattle.yard_model.specs.Positions.{KeepsPosition}
use Rattle.yard_model.specs.Closings.{HasLearnt}
use Rattle.yard_laws.proofs.Arrivals.{some_shards, below_threads}
use Rattle.seq_object.specs.Sizes.{thread_room, room_count}
use Rattle.yard_laws.proofs.Returns as returns

module _ (b : Beginning) (w : YardState) (h : List Entry) (cs : List Checkpoint) (i : ℕ) (v : View) (g : Grip) (x : Room)
    (l : Lawful b w h cs) (at : ViewIs w i v) (may : MayRetreat v g x) where
  abbrev u : View
  u = retreated v g

  abbrev r : ℕ
  r = g.room

  abbrev next : YardState
  next = at_retreat w i r x u

  abbrev now : ℕ
  now = epoch_now b cs

  abbrev gave : GivenBack
  gave = record { room = r; drew = not (is_none g.drawn) }

  -- a fact of what it gave back
  on_gave : (P : GivenBack → Type 0) → P gave → (k : GivenBack) → u.given_back ≡ Some k → P k
  on_gave P f k e = let same : gave ≡ k = cc in subst P same f

  within : r < room_count (sizes_at b)
  within = returns.within b w h cs i v u g x dead l at may.held may.kept refl refl refl

  may_hold : MayHold (sizes_at b) i v.phase v.closed.rooms r
  may_hold = returns.may_hold b w h cs i v u g x dead l at may.held may.kept refl refl refl

  runs_now : v.ran ≡ now
  runs_now = returns.runs_now b w h cs i v u g x dead l at may.held may.kept refl refl refl

  running_or_closing : (v.phase ≡ Running) ⊎ (v.phase ≡ Closing)
  running_or_closing = returns.running_or_closing b w h cs i v u g x dead l at may.held may.kept refl refl refl

  closes_same : closes next.views ≡ closes w.views
  closes_same = returns.closes_same b w h cs i v u g x dead l at may.held may.kept refl refl refl

  closing_room : v.phase ≡ Closing → r ≡ v.closed.rooms
  closing_room c = subst (λ (p : Phase). MayHold (sizes_at b) i p v.closed.rooms r) c may_hold

  -- the room is not done
  not_done : nat_lt r (done_in next.views) ≡ false
  not_done = let d = returns.done_before b w h cs i v u g x dead l at may.held may.kept refl refl refl in let s = (done_set w.views i v u at refl refl) in ⊎_elim
      (λ (c : v.phase ≡ Running). let a = ap (λ (p : Phase). cond (is_closing p) v.closed.rooms 0) c in le-ltb r (done_in next.views) (omega (arith, d, s, a)))
      (λ (c : v.phase ≡ Closing). let a = ap (λ (p : Phase). cond (is_closing p) v.closed.rooms 0) c in let m = closing_room c in le-ltb r (done_in next.views) (omega (arith, d, s, a, m))) running_or_closing

  closes_mine : is_closing v.phase ≡ true → closes next.views ≡ true
  closes_mine c = closes_same ∙ any_there (λ (d : View). is_closing d.phase) w.views i v at c

  dead_home : IsDeadHome b h cs (done_in next.views) (closes next.views) r x
  dead_home = dead_closing closes_mine (dead_by_life b w h cs i v l at runs_now r x false (done_in next.views) not_done (take g.covered g.history)
      (returns.covered_history b w h cs i v u g x dead l at may.held may.kept refl refl refl) may.dead_room not_done)

  -- the stores that were made are of the thread's next command
  left_loads : r ≤ b.settings.shards → LoadsFirstStores (sizes_at b) now r (begun_by (not (is_none g.drawn)) (is_closing v.phase) (next_command (opening_of b) h i)) (loads x) (contents_now (opening_of b) h)
  left_loads low = let f = may.stands (let s = ap (λ (c : Beginning). c.settings.shards) (l.sized.beginnings i v at) in omega (arith, low, s)) in record {
    before = f.before;
    stood = by_life b v (l.sized.beginnings i v at) (some_shards b w h cs l) r (history_of x) h (returns.all_history b w h cs i v u g x dead l at may.held may.kept refl refl refl) f.before (subst (λ (c : Beginning). StandsFor live_layout (sizes_at c) r f.before (behind v r (history_of x))) (l.sized.beginnings i v at) f.stood);
    made = f.made;
    loads = subst (λ (p : Beginning × ℕ × Option Command). (line word : ℕ) → loads x line word ≡ stored_in f.before (take f.made (stores_here (sizes_at p.0) p.1 r f.before (begun_by (not (is_none g.drawn)) (is_closing v.phase) p.2))) line word)
        (λ k. (l.sized.beginnings i v at k, runs_now k, known_next b w h cs i v l at k)) f.loads;
  }

  left : LeftRoom b h cs (Home next) i u.phase u.given_back
  left = on_gave (λ (k : GivenBack). k.room ≤ b.settings.shards → (s : Room) → Home next k.room s → LoadsFirstStores (sizes_at b) now k.room (begun_by k.drew (is_closing v.phase) (next_command (opening_of b) h i)) (loads s) (contents_now (opening_of b) h))
      (λ low s at'. ⊎_elim
      (λ (t : (r ≡ r) × (x ≡ s)). subst (λ (s : Room). LoadsFirstStores (sizes_at b) now r (begun_by (not (is_none g.drawn)) (is_closing v.phase) (next_command (opening_of b) h i)) (loads s) (contents_now (opening_of b) h)) t.1 (left_loads low))
      (λ (t : (r ≢ r) × Home w r s). absurd (t.0 refl)) (returns.this_or_there b w h cs i v u g x dead l at may.held may.kept refl refl refl r s at'))

  own_room_of : (j : ℕ) → thread_room (sizes_at b) j ≡ r → v.phase ≡ Running → j ≡ i
  own_room_of = returns.own_room_of b w h cs i v u g x dead l at may.held may.kept refl refl refl

  closing_home : v.phase ≡ Closing → (k : ℕ) → k < b.settings.threads → r ≡ thread_room (sizes_at b) k → IsAtPlace (point_after (opening_of b) h k) (next_command (opening_of b) h k) x
  closing_home = returns.closing_home b w h cs i v u g x dead l at may.held may.kept refl refl refl

  own_position : thread_room (sizes_at b) i ≡ r → KeepsPosition b h cs dead i v.phase v.ran v.wrote x
  own_position q = record {
    standing = λ s. ⊎_elim (λ (c : v.phase ≡ Running). let t = ap stands c in let f : true ≡ false = sym s ∙ t in absurd (cc)) (λ (c : v.phase ≡ Closing). closing_home c i (below_threads b w h cs l i v at) (sym q)) running_or_closing;
    written = λ z. absurd (omega (arith, z));
    unwritten = λ z. absurd (omega (arith, z));
    runs = λ z. absurd (omega (arith, z));
  }

  other_position : (j : ℕ) (c : View) → j ≢ i → ViewIs w j c → thread_room (sizes_at b) j ≡ r → KeepsPosition b h cs dead j c.phase c.ran c.wrote x
  other_position j c n f q = record {
    standing = λ s. ⊎_elim (λ (e : v.phase ≡ Running). absurd (n (own_room_of j q e))) (λ (e : v.phase ≡ Closing). closing_home e j (below_threads b w h cs l j c f) (sym q)) running_or_closing;
    written = λ z. absurd (omega (arith, z));
    unwritten = λ z. absurd (omega (arith, z));
    runs = λ z. absurd (omega (arith, z));
  }

  learnt : v.phase ≡ Closing → HasLearnt b h (Home next) v.closed
  learnt c = let f = l.bounds.learnt i v at c in record {
    rooms = f.rooms;
    fed = f.fed;
    number = f.number;
    ends = λ k s at' lt. ⊎_elim
        (λ (t : (thread_room (sizes_at b) k ≡ r) × (x ≡ s)). let q = t.0 in let n = f.number in let e = closing_room c in absurd (omega (arith, lt, q, n, e)))
        (λ (t : (thread_room (sizes_at b) k ≢ r) × Home w (thread_room (sizes_at b) k) s). f.ends k s t.1 lt)
        (returns.this_or_there b w h cs i v u g x dead l at may.held may.kept refl refl refl (thread_room (sizes_at b) k) s at');
    entries = f.entries;
  }

  pub retreat_stays : Lawful b next h cs
  retreat_stays = record {
    sized = returns.sized_returns b w h cs i v u g x dead l at may.held may.kept refl refl refl;
    arrival = returns.arrival_returns b w h cs i v u g x dead l at may.held may.kept refl refl refl;
    locks = returns.locks_return b w h cs i v u g x dead l at may.held may.kept refl refl refl (inr refl) (record {
      held = λ k e. absurd (cc);
      given = on_gave (λ (k : GivenBack). lock_of next k.room ≡ dead) (returns.lock_here b w h cs i v u g x dead l at may.held may.kept refl refl refl);
      one_room = λ _ _. (refl, may.off);
      may_hold = λ k e. absurd (cc);
      may_give = on_gave (λ (k : GivenBack). MayHold (sizes_at b) i v.phase v.closed.rooms k.room × (k.room < room_count (sizes_at b))) (may_hold, within);
      off = λ e. let o = (l.locks.views i v at).off e in let t = returns.word_same b w h cs i v u g x dead l at may.held may.kept refl refl refl 0 (omega arith) in omega (arith, o, t);
    }) (λ _. (gave, refl, refl)) (on_gave (λ (k : GivenBack). k.room ≡ r) refl);
    entries = returns.entries_return b w h cs i v u g x dead l at may.held may.kept refl refl refl refl refl;
    loads = returns.loads_return b w h cs i v u g x dead l at may.held may.kept refl refl refl left;
    epochs = returns.epochs_return b w h cs i v u g x dead l at may.held may.kept refl refl refl (l.epochs.views i v at) refl;
    rooms = returns.rooms_return b w h cs i v u g x dead l at may.held may.kept refl refl refl (λ z. absurd (omega (arith, z))) (λ _. dead_home) (λ q _. ap (nat_lt q) (done_set w.views i v u at refl refl));
    positions = returns.positions_return b w h cs i v u g x dead l at may.held may.kept refl refl refl
        (each_set (λ (j : ℕ) (c : View). thread_room (sizes_at b) j ≡ r → KeepsPosition b h cs dead j c.phase c.ran c.wrote x) w.views i u own_position other_position)
        (λ s _ at'. l.positions.views i v at s at');
    stored = returns.stored_return b w h cs i v u g x dead l at may.held may.kept refl refl refl (λ j c f q z. absurd (omega (arith, z))) (λ q d. ap (nat_lt q) (sym (done_set w.views i v u at refl refl)) ∙ d) refl (λ _. refl);
    bounds = returns.bounds_return b w h cs i v u g x dead l at may.held may.kept refl refl refl learnt (l.bounds.views i v at) refl refl refl refl;
    taken = returns.taken_return b w h cs i v u g x dead l at may.held may.kept refl refl refl refl;
  }

pub retreat_keeps : RetreatKeepsLaw Lawful
retreat_keeps b w h cs i v g x l at may = retreat_stays b w h cs i v g x l at may

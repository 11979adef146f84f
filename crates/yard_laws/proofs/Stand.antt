-- A thread stands.
use Rattle.std.proofs.Common.{◌≡◌, ◌≢◌, ℕ, ◌/◌, ◌%◌, ◌^◌, ◌<◌, true, List, sym, refl, ap, ◌∙◌, subst, ⊎_elim, inl, inr, arith, Option, Some, None, length-set}
use mathlib.Core.Logic.{dite}
use native.Mathlib.Decide.{ℕ_discrete}
use Rattle.seq_object.specs.declared.command.Command.{Command}
use Rattle.seq_object.specs.declared.history.Entry.{Entry}
use Rattle.restart_point.specs.ArrivalWord.{is_set}
use Rattle.rooms.specs.declared.room.Room.{Room}
use Rattle.yard_model.specs.declared.view.Phase.{Phase}
use Rattle.yard_model.specs.declared.view.Phase.TheVariants.{Standing, Running, Closing}
use Rattle.yard_model.specs.declared.view.Beginning.{Beginning}
use Rattle.yard_model.specs.declared.view.View.{View}
use Rattle.yard_model.specs.declared.view.GivenBack.{GivenBack}
use Rattle.yard_model.specs.declared.view.Checkpoint.{Checkpoint}
use Rattle.yard_model.specs.Beginnings.{sizes_at, epoch_now, is_over, is_fed}
use Rattle.yard_model.specs.Knows.{is_closing, HasCause, MayHold}
use Rattle.yard_model.specs.World.{YardState, arrival, lock_of, dead, ViewIs, Home, stands_at, closes, Shows}
use Rattle.yard_model.specs.Lawful.{Lawful}
use Rattle.yard_model.specs.Views.{stood}
use Rattle.yard_model.specs.Conditions.{MayStand}
use Rattle.yard_model.specs.Steps.{with_bit, at_stand}
use Rattle.yard_model.specs.Laws.{StandKeepsLaw}
use Rattle.yard_laws.proofs.Lists.{at_inside, same_at}
use Rattle.yard_laws.proofs.Views.{stands_here, stands_else, closes_set, done_set}
use Rattle.yard_laws.proofs.Bits.{set_same, set_other, set_zeros, set_epoch}
use Rattle.yard_laws.proofs.Knowns.{known_next}
use Rattle.yard_laws.proofs.Arrivals.{word_here, locks_here, tick_here, clock_here, few_threads, on_gave_none, runs_none_closes}
use Rattle.yard_laws.proofs.Moves.{sized_moves, arrival_moves, entries_moves, epochs_moves, taken_moves, loads_moves, positions_moves, stored_moves, rooms_move, bounds_same, locks_move}
use Rattle.seq_object.specs.Sizes.{thread_room, room_count}

module _ (b : Beginning) (w : YardState) (h : List Entry) (cs : List Checkpoint) (i : ℕ) (v : View) (l : Lawful b w h cs) (at : ViewIs w i v) (may : MayStand v) where
  abbrev u : View
  u = stood v

  abbrev next : YardState
  next = at_stand w i u

  abbrev word : ℕ
  word = with_bit (arrival w) i

  few : i < 16
  few = few_threads b w h cs l i v at

  same_closing : is_closing u.phase ≡ is_closing v.phase
  same_closing = sym (ap is_closing may.phase)

  bit_else : (j : ℕ) → j ≢ i → is_set (arrival next) j ≡ is_set (arrival w) j
  bit_else j n = ap (λ (m : ℕ). is_set m j) (word_here b w h cs l word) ∙ set_other (arrival w) i j n

  bit_here : is_set (arrival next) i ≡ true
  bit_here = ap (λ (m : ℕ). is_set m i) (word_here b w h cs l word) ∙ set_same (arrival w) i

  shows : Shows (arrival next) (stands_at next.views) (closes next.views) (is_over b cs) (is_fed b h cs) (epoch_now b cs)
  shows = let a = l.arrival.word in record {
    standing = λ j lt. dite (ℕ_discrete j i)
        (λ e. subst (λ (j : ℕ). is_set (arrival next) j ≡ stands_at next.views j) (sym e) (bit_here ∙ sym (stands_here w.views i v u at)))
        (λ n. bit_else j n ∙ (a.standing j lt ∙ sym (stands_else w.views i j u n)));
    closing = bit_else 16 (λ e. omega (arith, few, e)) ∙ (a.closing ∙ sym (closes_set w.views i v u at same_closing));
    over = bit_else 17 (λ e. omega (arith, few, e)) ∙ a.over;
    fed = bit_else 18 (λ e. omega (arith, few, e)) ∙ a.fed;
    zeros = let f = few in subst (λ (m : ℕ). m / 2 ^ 19 % 2 ^ 13 ≡ 0) (sym (word_here b w h cs l word)) (set_zeros (arrival w) i (omega (arith, f)) a.zeros);
    epoch = let f = few in ap (λ (m : ℕ). m / 2 ^ 32) (word_here b w h cs l word) ∙ (set_epoch (arrival w) i (omega (arith, f)) ∙ a.epoch);
  }

  -- its own room is free: nobody else may hold it or have given it back
  own_free : (x : Room) → Home w (thread_room (sizes_at b) i) x → lock_of w (thread_room (sizes_at b) i) ≡ 0
  own_free x at_home = ⊎_elim (λ (e : lock_of w (thread_room (sizes_at b) i) ≡ 0). e) (λ (e : lock_of w (thread_room (sizes_at b) i) ≡ dead). absurd (gone e)) (l.locks.home (thread_room (sizes_at b) i) x at_home)
    where
      inside : thread_room (sizes_at b) i < room_count (sizes_at b)
      inside = let f = at_inside w.views i v at in let n = l.sized.views in omega (arith, f, n)

      not_by : (j : ℕ) (c : View) → ViewIs w j c → (k : GivenBack) → c.given_back ≡ Some k → (p : Phase) → c.phase ≡ p → MayHold (sizes_at b) j p c.closed.rooms (thread_room (sizes_at b) i) → ⊥
      not_by j c at' k e Standing p m = m
      not_by j c at' k e Running p (inl m) = absurd (omega (arith, m))
      not_by j c at' k e Running p (inr m) = let same : i ≡ j = omega (arith, m) in
          let one : v ≡ c = same_at w.views j v c (subst (λ (j : ℕ). ViewIs w j v) same at) at' in
          on_gave_none b w h cs l i v at may.on k (ap (λ (a : View). a.given_back) one ∙ e)
      not_by j c at' k e Closing p m = runs_none_closes b w h cs l i v at may.phase j c at' p

      gone : lock_of w (thread_room (sizes_at b) i) ≡ dead → ⊥
      gone e = let t = l.locks.giver (thread_room (sizes_at b) i) inside e in
          not_by t.0 t.1 t.2 t.3.0 t.3.1 t.1.phase refl (subst (λ (r : ℕ). MayHold (sizes_at b) t.0 t.1.phase t.1.closed.rooms r) t.3.2 ((l.locks.views t.0 t.1 t.2).may_give t.3.0 t.3.1).0)

  pub stand_stays : Lawful b next h cs
  stand_stays = record {
    sized = sized_moves b w h cs i v u next.words w.rooms l at refl refl (length-set w.words 2 word) refl (λ q s e. e);
    arrival = arrival_moves b w h cs i v u next.words w.rooms l at shows (closes_set w.views i v u at same_closing) (λ e. absurd (cc)) (λ _. refl) (λ _. refl) (λ q s e. e);
    locks = locks_move b w h cs i v u next.words w.rooms l at (locks_here b w h cs l word) (let t = tick_here b w h cs l word in omega (arith, t)) (λ k e. (k, e, refl)) refl (λ q s e. e) (λ q s e. e)
        (let f = l.locks.views i v at in record {
          held = f.held;
          given = f.given;
          one_room = f.one_room;
          may_hold = λ g e. let n = may.nothing_held in let c : None ≡ Some g = sym n ∙ e in absurd (cc);
          may_give = λ k e. absurd (on_gave_none b w h cs l i v at may.on k e);
          off = λ e. let o = f.off e in let t = tick_here b w h cs l word in omega (arith, o, t);
        });
    entries = entries_moves b w h cs i v u next.words w.rooms l at (clock_here b w h cs l word) (l.entries.views i v at) (λ q s e. e);
    loads = loads_moves b w h cs i v u next.words w.rooms l at (λ q s e. e) (λ q s _. locks_here b w h cs l word q) (λ k e. absurd (on_gave_none b w h cs l i v at may.on k e));
    epochs = epochs_moves b w h cs i v u next.words w.rooms l at (let f = l.epochs.views i v at in record {
      no_later = f.no_later;
      runs = λ n. absurd (n refl);
      since = f.since;
      idle = f.idle;
      has_next = f.has_next;
      cause = λ _ _. subst (λ (c : Option Command). HasCause v.quota v.found_empty c) (known_next b w h cs i v l at) may.cause;
      emptied = f.emptied;
    }) refl;
    rooms = rooms_move b w h cs i v u next.words w.rooms l at (λ q s e. e) (λ q s _. locks_here b w h cs l word q) (done_set w.views i v u at same_closing refl) (λ e. (closes_set w.views i v u at same_closing) ∙ e);
    stored = stored_moves b w h cs i v u next.words w.rooms l at (λ q s e. e) (λ q s _. locks_here b w h cs l word q) (done_set w.views i v u at same_closing refl) (l.stored.views i v at);
    positions = positions_moves b w h cs i v u next.words w.rooms l at (λ q s e. e) (λ q s _. locks_here b w h cs l word q)
        (λ s e. let f = l.positions.views i v at s e in record {
          standing = λ _. f.written (own_free s e) may.phase may.wrote;
          written = λ _ p. absurd (cc);
          unwritten = λ _ p. absurd (cc);
          runs = f.runs;
        });
    bounds = bounds_same b w h cs i v u next.words w.rooms l at (λ q s e. e) (λ p. absurd (cc))
        (let f = l.bounds.views i v at in record { few_ticks = f.few_ticks; few_checkpoints = f.few_checkpoints; may_release = λ p. absurd (cc) })
        refl (tick_here b w h cs l word) refl refl refl;
    taken = taken_moves b w h cs i v u next.words w.rooms l at (λ g e. let n = may.nothing_held in let c : None ≡ Some g = sym n ∙ e in absurd (cc));
  }

pub stand_keeps : StandKeepsLaw Lawful
stand_keeps b w h cs i v l at may = stand_stays b w h cs i v l at may

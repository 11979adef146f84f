-- A thread leaves its restart point.
use Rattle.std.proofs.Common.{◌≡◌, ◌≢◌, ℕ, ◌/◌, ◌%◌, ◌^◌, ◌<◌, true, false, List, sym, refl, ap, ◌∙◌, subst, arith, length-set}
use mathlib.Core.Logic.{dite}
use native.Mathlib.Decide.{ℕ_discrete}
use Rattle.seq_object.specs.declared.history.Entry.{Entry}
use Rattle.restart_point.specs.declared.thread_end.ThreadEnd.{ThreadEnd}
use Rattle.restart_point.specs.ArrivalWord.{is_set, arrival_of}
use Rattle.yard_model.specs.declared.view.Beginning.{Beginning}
use Rattle.yard_model.specs.declared.view.View.{View}
use Rattle.yard_model.specs.declared.view.Checkpoint.{Checkpoint}
use Rattle.yard_model.specs.Beginnings.{opening_of, epoch_now, is_over, is_fed}
use Rattle.yard_model.specs.Knows.{stands, is_closing}
use Rattle.yard_model.specs.World.{YardState, arrival, ViewIs, stands_at, closes, Shows}
use Rattle.yard_model.specs.Lawful.{Lawful}
use Rattle.yard_laws.proofs.Epochs.{epoch_fits}
use Rattle.yard_model.specs.Views.{left_in}
use Rattle.yard_model.specs.Conditions.{MayLeave}
use Rattle.yard_model.specs.Steps.{without_bit, at_leave}
use Rattle.yard_model.specs.Laws.{LeaveKeepsLaw}
use Rattle.yard_laws.proofs.Views.{stands_here, stands_else, closes_set, done_set}
use Rattle.yard_laws.proofs.Bits.{clear_same, clear_other, clear_zeros, clear_epoch}
use Rattle.yard_laws.proofs.Knowns.{known_next, last_few, point_covered}
use Rattle.yard_laws.proofs.Arrivals.{word_here, locks_here, tick_here, clock_here, few_threads, stands_free, stands_gave_none, none_closes, not_over}
use Rattle.yard_laws.proofs.Moves.{sized_moves, arrival_moves, entries_moves, epochs_moves, taken_moves, loads_moves, positions_moves, stored_moves, rooms_move, bounds_same, locks_move}
use Rattle.yard_model.specs.Epochs.{since_mark}

module _ (b : Beginning) (w : YardState) (h : List Entry) (cs : List Checkpoint) (i : ℕ) (v : View) (end : ThreadEnd) (l : Lawful b w h cs) (at : ViewIs w i v) (may : MayLeave v end (arrival w)) where
  abbrev u : View
  u = left_in v (arrival_of (arrival w)).epoch

  abbrev next : YardState
  next = at_leave w i u

  abbrev word : ℕ
  word = without_bit (arrival w) i

  few : i < 16
  few = few_threads b w h cs l i v at

  now : arrival w / 2 ^ 32 ≡ epoch_now b cs
  now = l.arrival.word.epoch

  -- it did not run in this epoch, and drew nothing in it
  not_yet : v.ran ≢ epoch_now b cs
  not_yet e = let f = may.later in omega (arith, f, now, e)

  nothing : since_mark h cs i ≡ 0
  nothing = (l.epochs.views i v at).idle not_yet

  same_closing : is_closing u.phase ≡ is_closing v.phase
  same_closing = sym (ap is_closing may.phase)

  bit_else : (j : ℕ) → j < 19 → j ≢ i → is_set (arrival next) j ≡ is_set (arrival w) j
  bit_else j lt n = ap (λ (m : ℕ). is_set m j) (word_here b w h cs l word) ∙ clear_other (arrival w) i j few lt n

  bit_here : is_set (arrival next) i ≡ false
  bit_here = ap (λ (m : ℕ). is_set m i) (word_here b w h cs l word) ∙ clear_same (arrival w) i few

  shows : Shows (arrival next) (stands_at next.views) (closes next.views) (is_over b cs) (is_fed b h cs) (epoch_now b cs)
  shows = let a = l.arrival.word in record {
    standing = λ j lt. dite (ℕ_discrete j i)
        (λ e. subst (λ (j : ℕ). is_set (arrival next) j ≡ stands_at next.views j) (sym e) (bit_here ∙ sym (stands_here w.views i v u at)))
        (λ n. bit_else j (omega (arith, lt)) n ∙ (a.standing j lt ∙ sym (stands_else w.views i j u n)));
    closing = bit_else 16 (omega arith) (λ e. omega (arith, few, e)) ∙ (a.closing ∙ sym (closes_set w.views i v u at same_closing));
    over = bit_else 17 (omega arith) (λ e. omega (arith, few, e)) ∙ a.over;
    fed = bit_else 18 (omega arith) (λ e. omega (arith, few, e)) ∙ a.fed;
    zeros = subst (λ (m : ℕ). m / 2 ^ 19 % 2 ^ 13 ≡ 0) (sym (word_here b w h cs l word)) (clear_zeros (arrival w) i few a.zeros);
    epoch = ap (λ (m : ℕ). m / 2 ^ 32) (word_here b w h cs l word) ∙ (clear_epoch (arrival w) i few (let f = epoch_fits b w h cs l in omega (arith, f, now)) ∙ a.epoch);
  }

  none_closes_now : closes w.views ≡ false
  none_closes_now = none_closes b w h cs l may.not_closing

  pub leave_stays : Lawful b next h cs
  leave_stays = record {
    sized = sized_moves b w h cs i v u next.words w.rooms l at refl refl (length-set w.words 2 word) refl (λ q s e. e);
    arrival = arrival_moves b w h cs i v u next.words w.rooms l at shows (closes_set w.views i v u at same_closing) (λ e. absurd (cc)) (λ e. let n = none_closes_now in let c : false ≡ true = sym n ∙ e in absurd (cc))
        (λ o. absurd (not_over b w h cs l may.not_over o)) (λ q s e. e);
    locks = locks_move b w h cs i v u next.words w.rooms l at (locks_here b w h cs l word) (let t = tick_here b w h cs l word in omega (arith, t)) (λ k e. (k, e, refl)) refl (λ q s e. e) (λ q s e. e)
        (let f = l.locks.views i v at in record {
          held = f.held;
          given = f.given;
          one_room = f.one_room;
          may_hold = λ g e. absurd (stands_free b w h cs l i v at may.phase g e);
          may_give = λ k e. absurd (stands_gave_none b w h cs l i v at may.phase k e);
          off = λ e. let o = f.off e in let t = tick_here b w h cs l word in omega (arith, o, t);
        });
    entries = entries_moves b w h cs i v u next.words w.rooms l at (clock_here b w h cs l word) (l.entries.views i v at) (λ q s e. e);
    loads = loads_moves b w h cs i v u next.words w.rooms l at (λ q s e. e) (λ q s _. locks_here b w h cs l word q) (λ k e. absurd (stands_gave_none b w h cs l i v at may.phase k e));
    epochs = epochs_moves b w h cs i v u next.words w.rooms l at (record {
      no_later = omega (arith, now);
      runs = λ _. now;
      since = λ _. let z = nothing in let s = ap (λ (c : Beginning). c.settings.every) (l.sized.beginnings i v at) in omega (arith, z, s);
      idle = λ n. absurd (n now);
      has_next = λ _ _ e. may.next (known_next b w h cs i v l at ∙ e);
      cause = λ s. absurd (cc);
      emptied = λ _ f. absurd (cc);
    }) refl;
    rooms = rooms_move b w h cs i v u next.words w.rooms l at (λ q s e. e) (λ q s _. locks_here b w h cs l word q) (done_set w.views i v u at same_closing refl) (λ e. (closes_set w.views i v u at same_closing) ∙ e);
    stored = stored_moves b w h cs i v u next.words w.rooms l at (λ q s e. e) (λ q s _. locks_here b w h cs l word q) (done_set w.views i v u at same_closing refl) (λ s e z d ran wrote. absurd (cc));
    positions = positions_moves b w h cs i v u next.words w.rooms l at (λ q s e. e) (λ q s _. locks_here b w h cs l word q)
        (λ s e. let f = l.positions.views i v at s e in record {
          standing = λ p. absurd (cc);
          written = λ _ _ p. absurd (cc);
          unwritten = λ _ _ _. (f.standing (ap stands may.phase)).point ∙ point_covered (opening_of b) h cs i (last_few b w h cs l) nothing;
          runs = λ z r. absurd (not_yet (f.runs z r).0);
        });
    bounds = bounds_same b w h cs i v u next.words w.rooms l at (λ q s e. e) (λ p. absurd (cc))
        (let f = l.bounds.views i v at in record { few_ticks = f.few_ticks; few_checkpoints = f.few_checkpoints; may_release = λ p. absurd (cc) })
        refl (tick_here b w h cs l word) refl refl refl;
    taken = taken_moves b w h cs i v u next.words w.rooms l at (λ g e. absurd (stands_free b w h cs l i v at may.phase g e));
  }

pub leave_keeps : LeaveKeepsLaw Lawful
leave_keeps b w h cs i v end l at may = leave_stays b w h cs i v end l at may

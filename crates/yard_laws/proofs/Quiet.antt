-- Steps that change a view's looks, its ticks or what it saw of the power, and at most the tick word, keep the lawful world.
use Rattle.std.proofs.Common.{◌≡◌, ℕ, ◌+◌, ◌^◌, ◌≤◌, Bool, true, false, List, length, get_or, set, sym, refl, ◌∙◌, subst, arith}
use mathlib.Core.Option.{some}
use mathlib.Core.Logic.{dite}
use native.Mathlib.Decide.{ℕ_discrete}
use lib.ListN.{get_elem?}
use Rattle.seq_object.specs.declared.history.Entry.{Entry}
use Rattle.yard_model.specs.declared.view.Beginning.{Beginning}
use Rattle.yard_model.specs.declared.view.View.{View}
use Rattle.yard_model.specs.declared.view.Look.{Look}
use Rattle.yard_model.specs.declared.view.Checkpoint.{Checkpoint}
use Rattle.yard_model.specs.Beginnings.{epoch_now, is_over, is_fed}
use Rattle.yard_model.specs.Knows.{stands}
use Rattle.yard_model.specs.World.{YardState, tick_word, arrival, lock_of, ViewIs, stands_at, closes, all_ticks, number_on, is_called_off, Shows}
use Rattle.yard_model.specs.Lawful.{Lawful}
use Rattle.yard_laws.proofs.Views.{stands_here, stands_there, stands_else, closes_set, done_set}
use Rattle.yard_laws.proofs.Moves.{sized_moves, arrival_moves, entries_moves, epochs_moves, taken_moves, loads_moves, positions_moves, stored_moves, rooms_move, bounds_move, locks_move}
use Rattle.yard_model.specs.Locks.{HoldsRightly}

-- a view with another phase stands where it stood, if both phases stand or both do not
pub stands_same : (vs : List View) (i : ℕ) (v u : View) → get_elem? vs i ≡ some v → stands u.phase ≡ stands v.phase → (j : ℕ) → stands_at (set vs i u) j ≡ stands_at vs j
stands_same vs i v u at same j = dite (ℕ_discrete j i)
    (λ e. subst (λ (j : ℕ). stands_at (set vs i u) j ≡ stands_at vs j) (sym e) (stands_here vs i v u at ∙ (same ∙ sym (stands_there vs i v at))))
    (λ e. stands_else vs i j u e)

-- a view with other looks, ticks and sights of the power
abbrev pub changed : View → ℕ → Look → ℕ → Bool → Bool → Bool → View
changed v n k t on off called = record v { looks = n; look = k; ticks = t; saw_on = on; saw_off = off; called_off = called }

module _ (b : Beginning) (w : YardState) (h : List Entry) (cs : List Checkpoint) (i : ℕ) (v : View) (l : Lawful b w h cs) (at : ViewIs w i v)
    (n : ℕ) (k : Look) (t : ℕ) (on off called : Bool) (ws : List ℕ)
    (same_length : length ws ≡ length w.words) (same_word : (q : ℕ) → get_or ws (1 + q) 0 ≡ get_or w.words (1 + q) 0) where
  abbrev u : View
  u = changed v n k t on off called

  abbrev next : YardState
  next = record { words = ws; rooms = w.rooms; views = set w.views i u }

  locks : (r : ℕ) → lock_of next r ≡ lock_of w r
  locks r = let e = same_word (2 + r) in let p : 1 + (2 + r) ≡ 3 + r = omega arith in subst (λ (q : ℕ). get_or ws q 0 ≡ get_or w.words q 0) p e

  shows : Shows (arrival next) (stands_at next.views) (closes next.views) (is_over b cs) (is_fed b h cs) (epoch_now b cs)
  shows = subst (λ (p : ℕ × (ℕ → Bool) × Bool). Shows p.0 p.1 p.2 (is_over b cs) (is_fed b h cs) (epoch_now b cs))
      (λ c. (sym (same_word 1) c, λ j. sym (stands_same w.views i v u at refl j) c, sym (closes_set w.views i v u at refl) c)) l.arrival.word

  -- where the ticks are within their bounds
  pub quiet_stays : (v.saw_off ≡ true → off ≡ true) → (off ≡ true → b.limit ≤ tick_word next) → tick_word w ≤ tick_word next → t ≤ 2 ^ 32
      → (is_called_off next.views ≡ false → tick_word next ≡ all_ticks next.views)
      → (is_called_off next.views ≡ true → (2 ^ 63 ≤ tick_word next) × (tick_word next ≤ 2 ^ 63 + all_ticks next.views))
      → all_ticks next.views + number_on next.views ≤ b.limit + b.settings.threads → Lawful b next h cs
  quiet_stays still_off is_off rises few ticks high limit = record {
    sized = sized_moves b w h cs i v u ws w.rooms l at refl refl same_length refl (λ q s e. e);
    arrival = arrival_moves b w h cs i v u ws w.rooms l at shows (closes_set w.views i v u at refl) (λ e. e) (l.arrival.full i v at) (l.arrival.over_stands i v at) (λ q s e. e);
    locks = locks_move b w h cs i v u ws w.rooms l at locks rises (λ k e. (k, e, refl)) refl (λ q s e. e) (λ q s e. e) mine;
    entries = entries_moves b w h cs i v u ws w.rooms l at (same_word 0) (l.entries.views i v at) (λ q s e. e);
    loads = loads_moves b w h cs i v u ws w.rooms l at (λ q s e. e) (λ q s _. locks q) (l.loads.dead_room i v at);
    epochs = epochs_moves b w h cs i v u ws w.rooms l at (l.epochs.views i v at) refl;
    rooms = rooms_move b w h cs i v u ws w.rooms l at (λ q s e. e) (λ q s _. locks q) (done_set w.views i v u at refl refl) (λ e. (closes_set w.views i v u at refl) ∙ e);
    stored = stored_moves b w h cs i v u ws w.rooms l at (λ q s e. e) (λ q s _. locks q) (done_set w.views i v u at refl refl) (l.stored.views i v at);
    positions = positions_moves b w h cs i v u ws w.rooms l at (λ q s e. e) (λ q s _. locks q) (l.positions.views i v at);
    bounds = let f = l.bounds.views i v at in bounds_move b w h cs i v u ws w.rooms l at (λ q s e. e) (l.bounds.learnt i v at)
        (record { few_ticks = few; few_checkpoints = f.few_checkpoints; may_release = f.may_release }) refl ticks high limit;
    taken = taken_moves b w h cs i v u ws w.rooms l at (l.taken.views i v at);
  }
    where
      mine : HoldsRightly b (lock_of w) (tick_word next) i v.phase v.closed.rooms v.grip v.given_back off
      mine = let f = l.locks.views i v at in record {
        held = f.held;
        given = f.given;
        one_room = λ g e. let o = f.one_room g e in (o.0, still_off o.1);
        may_hold = f.may_hold;
        may_give = f.may_give;
        off = is_off;
      }

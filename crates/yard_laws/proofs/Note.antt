-- A thread that closes notes the number of entries.
use Rattle.std.proofs.Common.{◌≡◌, ℕ, Bool, List, length, sym, refl, ◌∙◌, subst, arith, Some}
use Rattle.seq_object.specs.declared.history.Entry.{Entry}
use Rattle.yard_model.specs.declared.view.Beginning.{Beginning}
use Rattle.yard_model.specs.declared.view.View.{View}
use Rattle.yard_model.specs.declared.view.Checkpoint.{Checkpoint}
use Rattle.yard_model.specs.Beginnings.{epoch_now, is_over, is_fed}
use Rattle.yard_model.specs.World.{YardState, clock, arrival, ViewIs, stands_at, closes, Shows}
use Rattle.yard_model.specs.Lawful.{Lawful}
use Rattle.yard_model.specs.Views.{entries_noted}
use Rattle.yard_model.specs.Conditions.{MayNote}
use Rattle.yard_model.specs.Steps.{with_view}
use Rattle.yard_model.specs.Laws.{NoteKeepsLaw}
use Rattle.yard_laws.proofs.Views.{closes_set, done_set}
use Rattle.yard_laws.proofs.Quiet.{stands_same}
use Rattle.yard_laws.proofs.Moves.{sized_moves, arrival_moves, entries_moves, epochs_moves, taken_moves, loads_moves, positions_moves, stored_moves, rooms_move, bounds_same, locks_move}

module _ (b : Beginning) (w : YardState) (h : List Entry) (cs : List Checkpoint) (i : ℕ) (v : View) (l : Lawful b w h cs) (at : ViewIs w i v) (may : MayNote v) where
  abbrev u : View
  u = entries_noted v (clock w)

  abbrev next : YardState
  next = with_view w i u

  shows : Shows (arrival next) (stands_at next.views) (closes next.views) (is_over b cs) (is_fed b h cs) (epoch_now b cs)
  shows = subst (λ (p : (ℕ → Bool) × Bool). Shows (arrival w) p.0 p.1 (is_over b cs) (is_fed b h cs) (epoch_now b cs))
      (λ c. (λ j. sym (stands_same w.views i v u at refl j) c, sym (closes_set w.views i v u at refl) c)) l.arrival.word

  number : (n : ℕ) → Some (clock w) ≡ Some n → n ≡ length h
  number n e = let same : clock w ≡ n = cc in sym same ∙ l.entries.clock

  pub note_stays : Lawful b next h cs
  note_stays = record {
    sized = sized_moves b w h cs i v u w.words w.rooms l at refl refl refl refl (λ q s e. e);
    arrival = arrival_moves b w h cs i v u w.words w.rooms l at shows (closes_set w.views i v u at refl) (λ e. e) (l.arrival.full i v at) (l.arrival.over_stands i v at) (λ q s e. e);
    locks = locks_move b w h cs i v u w.words w.rooms l at (λ r. refl) (omega arith) (λ k e. (k, e, refl)) refl (λ q s e. e) (λ q s e. e) (l.locks.views i v at);
    entries = entries_moves b w h cs i v u w.words w.rooms l at refl (l.entries.views i v at) (λ q s e. e);
    loads = loads_moves b w h cs i v u w.words w.rooms l at (λ q s e. e) (λ q s _. refl) (l.loads.dead_room i v at);
    epochs = epochs_moves b w h cs i v u w.words w.rooms l at (l.epochs.views i v at) refl;
    rooms = rooms_move b w h cs i v u w.words w.rooms l at (λ q s e. e) (λ q s _. refl) (done_set w.views i v u at refl refl) (λ e. (closes_set w.views i v u at refl) ∙ e);
    stored = stored_moves b w h cs i v u w.words w.rooms l at (λ q s e. e) (λ q s _. refl) (done_set w.views i v u at refl refl) (l.stored.views i v at);
    positions = positions_moves b w h cs i v u w.words w.rooms l at (λ q s e. e) (λ q s _. refl) (l.positions.views i v at);
    bounds = bounds_same b w h cs i v u w.words w.rooms l at (λ q s e. e)
        (λ p. let f = l.bounds.learnt i v at p in record { rooms = f.rooms; fed = f.fed; number = f.number; ends = f.ends; entries = number })
        (l.bounds.views i v at) refl refl refl refl refl;
    taken = taken_moves b w h cs i v u w.words w.rooms l at (l.taken.views i v at);
  }

pub note_keeps : NoteKeepsLaw Lawful
note_keeps b w h cs i v l at may = note_stays b w h cs i v l at may

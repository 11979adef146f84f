-- What a view says of its thread is what the history says; and which entries are a thread's or a room's.
use Rattle.std.proofs.Common.{◌≡◌, ℕ, suc, ◌+◌, ◌≤◌, cond, Bool, true, false, List, [], ◌∷◌, ◌++◌, length, sym, refl, ap, ◌∙◌, arith}
use Rattle.std.specs.List.{filter}
use Rattle.std.proofs.Math.Seq.{take-length}
use Rattle.seq_object.specs.declared.history.Entry.{Entry}
use Rattle.seq_object.specs.declared.history.Noted.{Noted}
use Rattle.seq_object.specs.declared.history.RestartPoint.{RestartPoint}
use Rattle.seq_object.specs.History.{of_thread, of_room, point_at}
use Rattle.life_model.specs.Life.{Opening, point_now, next_at, point_after, place_after, next_command, covered}
use Rattle.life_laws.proofs.Steps.{between, last_within}
use Rattle.yard_model.specs.declared.view.Beginning.{Beginning}
use Rattle.yard_model.specs.declared.view.View.{View}
use Rattle.yard_model.specs.declared.view.Checkpoint.{Checkpoint}
use Rattle.yard_model.specs.Entries.{placed, picked, is_of_thread, is_for_room, room_entries, entries_of}
use Rattle.yard_model.specs.Beginnings.{opening_of, recovery_marks, lengths_of, marks_of, first_epoch, epoch_now, covered_by, covered_part}
use Rattle.yard_model.specs.Knows.{point_of, place_of, next_of, closings_known}
use Rattle.yard_model.specs.World.{YardState, ViewIs}
use Rattle.yard_model.specs.Lawful.{Lawful}
use Rattle.life_model.specs.declared.life.Life.{Life}
use Rattle.life_model.specs.declared.life.Life.TheVariants.{Start, Resume}
use Rattle.yard_model.specs.Epochs.{since_mark}
use Rattle.seq_object.specs.declared.sizes.Sizes.{Sizes}

-- the entries that are picked, without their places
pub picked_entries : (picks : Entry → Bool) (k : ℕ) (h : List Entry) → entries_of (picked picks k h) ≡ filter picks h
picked_entries picks k [] = refl
picked_entries picks k (e ∷ h) = one (picks e) (picked_entries picks (suc k) h)
  where
    one : (c : Bool) → entries_of (picked picks (suc k) h) ≡ filter picks h
        → entries_of (cond c (placed k e ∷ picked picks (suc k) h) (picked picks (suc k) h)) ≡ cond c (e ∷ filter picks h) (filter picks h)
    one true f = ap (λ (es : List Entry). e ∷ es) f
    one false f = f

length_entries : (ns : List Noted) → length (entries_of ns) ≡ length ns
length_entries [] = refl
length_entries (n ∷ ns) = ap suc (length_entries ns)

pub picked_number : (picks : Entry → Bool) (k : ℕ) (h : List Entry) → length (picked picks k h) ≡ length (filter picks h)
picked_number picks k h = sym (length_entries (picked picks k h)) ∙ ap (λ (es : List Entry). length es) (picked_entries picks k h)

pub room_filter : (z : Sizes) (r : ℕ) (h : List Entry) → entries_of (room_entries z r h) ≡ of_room z r h
room_filter z r h = picked_entries (is_for_room z r) 0 h

-- the last mark, by the life's marks
pub last_same : (b : Beginning) (cs : List Checkpoint) → covered (marks_of b cs) ≡ covered_by cs
last_same b cs = by b.life
  where
    by : (life : Life) → covered (recovery_marks life ++ lengths_of cs) ≡ covered_by cs
    by Start = refl
    by Resume = refl

-- it is at most the number of entries
pub last_few : (b : Beginning) (w : YardState) (h : List Entry) (cs : List Checkpoint) → Lawful b w h cs → covered_by cs ≤ length h
last_few b w h cs l = let f = last_within 0 (marks_of b cs) (length h) l.epochs.order.rising in let s = last_same b cs in omega (arith, f, s)

-- a thread's entries are those that the last mark saves and those since
pub since_sum : (h : List Entry) (cs : List Checkpoint) (i : ℕ) → covered_by cs ≤ length h → length (of_thread i h) ≡ length (of_thread i (covered_part h cs)) + since_mark h cs i
since_sum h cs i le = let f = between h (covered_by cs) (length h) i le in let g = ap (λ (es : List Entry). length (of_thread i es)) (take-length h) in omega (arith, f, g)

-- a restart point so many commands further
abbrev pub further : RestartPoint → ℕ → RestartPoint
further p n = record { position = p.position + n }

-- a thread without entries since the last mark is where the mark covers it
pub point_covered : (o : Opening) (h : List Entry) (cs : List Checkpoint) (i : ℕ) → covered_by cs ≤ length h → since_mark h cs i ≡ 0 → point_after o h i ≡ point_after o (covered_part h cs) i
point_covered o h cs i le none = let f = since_sum h cs i le in let same : length (of_thread i h) ≡ length (of_thread i (covered_part h cs)) = omega (arith, f, none) in
    ap (further (point_at o.state.points i)) same

module _ (b : Beginning) (w : YardState) (h : List Entry) (cs : List Checkpoint) (i : ℕ) (v : View) (l : Lawful b w h cs) (at : ViewIs w i v) where
  known_own : entries_of v.own ≡ of_thread i h
  known_own = ap entries_of ((l.entries.views i v at).own) ∙ picked_entries (is_of_thread i) 0 h

  pub known_point : point_of v ≡ point_after (opening_of b) h i
  known_point = λ k. point_now (opening_of (l.sized.beginnings i v at k)) (l.sized.threads i v at k) (known_own k)

  pub known_place : place_of v ≡ place_after (opening_of b) h i
  known_place = ap (λ (p : RestartPoint). p.position) known_point

  pub known_next : next_of v ≡ next_command (opening_of b) h i
  known_next = λ k. next_at (opening_of (l.sized.beginnings i v at k)) (l.sized.threads i v at k) (known_own k)

  -- how many checkpoints were released before this epoch
  pub known_closings : v.ran ≡ epoch_now b cs → closings_known v ≡ length cs
  known_closings runs = let s = ap first_epoch (l.sized.beginnings i v at) in omega (arith, s, runs)

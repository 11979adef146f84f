-- The shares of threads and rooms: what each has of a history, and what each thread has of the checkpoints. Together they fix the whole.
use Rattle.std.specs.Prelude.{◌≡◌, ℕ, suc, ◌+◌, ◌<◌, ◌≤◌, ◌==◌, Bool, true, List, [], ◌∷◌, length, map, if◌then◌else◌}
use Rattle.std.specs.List.{All}
use Rattle.seq_object.specs.declared.history.Entry.{Entry}
use Rattle.yard_model.specs.declared.view.Beginning.{Beginning}
use Rattle.yard_model.specs.declared.view.Checkpoint.{Checkpoint}
use Rattle.yard_model.specs.declared.view.OwnMark.{OwnMark}
use Rattle.yard_model.specs.Entries.{picked, thread_entries, room_entries}
use Rattle.yard_model.specs.Beginnings.{first_epoch}
use Rattle.seq_object.specs.declared.sizes.Sizes.{Sizes}

-- ENTRIES

-- each entry passes some of so many tests
abbrev pub ArePicked : ℕ → (ℕ → Entry → Bool) → List Entry → Type 0
ArePicked n tests h = All (λ (e : Entry). (k : ℕ) × (k < n) × (tests k e ≡ true)) h

-- entries that pass such tests, picked by them with their places, fix the history
abbrev pub OneHistoryLaw : Type 0
OneHistoryLaw = (n : ℕ) (tests : ℕ → Entry → Bool) (g h : List Entry) → length g ≡ length h → ArePicked n tests g
    → ((k : ℕ) → k < n → picked (tests k) 0 g ≡ picked (tests k) 0 h) → g ≡ h

-- so do the entries of all threads
abbrev pub ThreadsHaveOneHistoryLaw : Type 0
ThreadsHaveOneHistoryLaw = (threads : ℕ) (g h : List Entry) → length g ≡ length h → All (λ (e : Entry). e.thread < threads) g
    → ((i : ℕ) → i < threads → thread_entries i g ≡ thread_entries i h) → g ≡ h

-- and the entries of all rooms of commands
abbrev pub RoomsHaveOneHistoryLaw : Type 0
RoomsHaveOneHistoryLaw = (z : Sizes) (g h : List Entry) → 0 < z.shards → length g ≡ length h
    → ((r : ℕ) → r ≤ z.shards → room_entries z r g ≡ room_entries z r h) → g ≡ h

-- CHECKPOINTS

-- a checkpoint with the thread that released it
pub record Release : Type 0 where
  pub thread : ℕ
  pub checkpoint : Checkpoint

-- the checkpoints that were released
abbrev pub checkpoints_of : List Release → List Checkpoint
checkpoints_of rs = map (λ (r : Release). r.checkpoint) rs

-- a checkpoint with the epoch that it began
abbrev pub own_mark : ℕ → Checkpoint → OwnMark
own_mark epoch m = record { mark = record { epoch = epoch; length = m.length }; over = m.over }

-- a thread's own checkpoints among these, the first of which began this epoch
abbrev pub own_from : ℕ → ℕ → List Release → List OwnMark
own_from thread epoch [] = []
own_from thread epoch (r ∷ rs) = if r.thread == thread then own_mark epoch r.checkpoint ∷ own_from thread (suc epoch) rs else own_from thread (suc epoch) rs

-- these are a thread's own checkpoints among those that were released
abbrev pub AreOwnOf : Beginning → List Release → ℕ → List OwnMark → Type 0
AreOwnOf b rs thread own = own ≡ own_from thread (first_epoch b + 1) rs

-- the own checkpoints of all threads, as many as there are in all, fix the checkpoints
abbrev pub OneCheckpointsLaw : Type 0
OneCheckpointsLaw = (threads epoch : ℕ) (rs ss : List Release) → length rs ≡ length ss → All (λ (r : Release). r.thread < threads) rs
    → ((i : ℕ) → i < threads → own_from i epoch rs ≡ own_from i epoch ss) → rs ≡ ss

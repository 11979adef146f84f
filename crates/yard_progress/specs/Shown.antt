-- The progress of a life, as a yard and what is in the hands of its threads show it.
use Rattle.std.specs.Prelude.{◌≡◌, ◌≢◌, ℕ, ◌+◌, ◌*◌, ◌≤◌, ◌⊎◌, ◌==◌, Bool, true, false, List, length, Option, None, if◌then◌else◌}
use mathlib.Core.Option.{Option as Maybe, some, none}
use lib.ListN.{get_elem?}
use Rattle.seq_object.specs.declared.command.Command.{Command}
use Rattle.seq_object.specs.declared.history.Entry.{Entry}
use Rattle.seq_object.specs.History.{total}
use Rattle.seq_object.specs.Sizes.{thread_room}
use Rattle.life_model.specs.Life.{script_of, next_command}
use Rattle.restart_point.specs.declared.thread_end.ThreadEnd.{ThreadEnd}
use Rattle.restart_point.specs.declared.thread_end.ThreadEnd.TheVariants.{Ready}
use Rattle.restart_point.specs.ArrivalWord.{arrival_of, AllStand}
use Rattle.block_allow.specs.Verdicts.{leaves}
use Rattle.rooms.specs.declared.room.Room.{Room}
use Rattle.rooms.specs.Rooms.{end_of}
use Rattle.yard_model.specs.declared.view.Phase.{Phase}
use Rattle.yard_model.specs.declared.view.Phase.TheVariants.{Standing, Running, Closing}
use Rattle.yard_model.specs.declared.view.Beginning.{Beginning}
use Rattle.yard_model.specs.declared.view.View.{View}
use Rattle.yard_model.specs.declared.view.Grip.{Grip}
use Rattle.yard_model.specs.declared.view.Checkpoint.{Checkpoint}
use Rattle.yard_model.specs.Beginnings.{opening_of, sizes_at, epoch_now, covered_by, is_over, is_fed}
use Rattle.yard_model.specs.Knows.{stands}
use Rattle.yard_model.specs.World.{YardState, ViewIs, Home}
use Rattle.rounds.specs.Progress.{Activity, AtPoint, EmptyHanded, OnCommand, OnDrawn, OnEmptyQueue, OnOwnRoom, OnClosing, ThreadProgress, Progress}

-- what a view tells, and nothing where there is no such thread
abbrev pub ran_told : Maybe View → ℕ
ran_told none = 0
ran_told (some v) = v.ran

abbrev pub quota_told : Maybe View → ℕ
quota_told none = 0
quota_told (some v) = v.quota

abbrev pub wrote_told : Maybe View → Bool
wrote_told none = false
wrote_told (some v) = v.wrote

abbrev pub found_told : Maybe View → Bool
found_told none = false
found_told (some v) = v.found_empty

-- a thread, by its view, what it is about, its next command, and the end that stands in its room
abbrev pub thread_told : Maybe View → Activity → Option Command → ThreadEnd → ThreadProgress
thread_told o activity next end = record {
  activity = activity;
  ran = ran_told o;
  quota = quota_told o;
  wrote = wrote_told o;
  found_empty = found_told o;
  next = next;
  end = end;
}

-- the progress of a life
abbrev pub progress_of : Beginning → YardState → List Entry → List Checkpoint → (ℕ → Activity) → (ℕ → ThreadEnd) → ℕ → Progress
progress_of b w h cs activities ends write_backs = record {
  shared = record {
    epoch = epoch_now b cs;
    fed = is_fed b h cs;
    over = is_over b cs;
    closed = length cs;
    covered = covered_by cs;
    entries = length h;
    write_backs = write_backs;
  };
  threads = λ i. thread_told (get_elem? w.views i) (activities i) (next_command (opening_of b) h i) (ends i);
}

-- for one thread another
abbrev pub updated : {A : Type 0} → (ℕ → A) → ℕ → A → ℕ → A
updated f i a j = if j == i then a else f j

-- what is in a thread's hand fits its view
abbrev pub IsAbout : Phase → Option Grip → ℕ → Option Command → Activity → Type 0
IsAbout phase grip done next AtPoint = phase ≡ Standing
IsAbout phase grip done next EmptyHanded = (phase ≡ Running) × (grip ≡ None)
IsAbout phase grip done next (OnCommand n) = (phase ≡ Running) × (grip ≢ None) × (next ≢ None)
IsAbout phase grip done next OnDrawn = (phase ≡ Running) × (grip ≢ None)
IsAbout phase grip done next OnEmptyQueue = (phase ≡ Running) × (grip ≢ None)
IsAbout phase grip done next (OnOwnRoom n) = (phase ≡ Running) × (grip ≢ None)
IsAbout phase grip done next (OnClosing r k) = (phase ≡ Closing) × (r ≡ done) × (k ≤ 3) × (k ≢ 0 → grip ≢ None)

-- a life that is not over goes on: some thread ran in this epoch, or may leave in it
abbrev pub GoesOn : Beginning → YardState → List Entry → List Checkpoint → Type 0
GoesOn b w h cs = is_over b cs ≡ false → (i : ℕ) × (v : View) × ViewIs w i v
    × ((v.ran ≡ epoch_now b cs) ⊎ ((x : Room) × Home w (thread_room (sizes_at b) i) x × (leaves (end_of x) (is_fed b h cs) ≡ true)))

-- what the hands of the threads show beside the lawful yard
pub record ShowsHands (b : Beginning) (w : YardState) (h : List Entry) (cs : List Checkpoint) (activities : ℕ → Activity)
    (ends : ℕ → ThreadEnd) (write_backs : ℕ) : Type 0 where
  -- each thread is about what its view allows
  pub about : (i : ℕ) (v : View) → ViewIs w i v → IsAbout v.phase v.grip v.closed.rooms (next_command (opening_of b) h i) (activities i)
  -- its end is that of its room, while this is at home
  pub told : (i : ℕ) (x : Room) → Home w (thread_room (sizes_at b) i) x → ends i ≡ end_of x
  -- lines were seldom written back
  pub few_write_backs : write_backs ≤ 4 * length h + (b.settings.threads + 1) * (length cs + 1)
  -- the life goes on
  pub goes_on : GoesOn b w h cs
  -- of each thread alone: where its room was written in this epoch and its quota is whole, it is not ready
  pub waits : (i : ℕ) (v : View) → ViewIs w i v → v.wrote ≡ true → b.settings.every ≤ v.quota → ends i ≢ Ready
  -- and where it stands and ran in this epoch its room was written
  pub wrote : (i : ℕ) (v : View) → ViewIs w i v → stands v.phase ≡ true → v.ran ≡ epoch_now b cs → v.wrote ≡ true

-- the commands of all scripts
abbrev pub all_commands : Beginning → ℕ
all_commands b = total (λ i. length (script_of b.scripts i)) b.settings.threads

-- an arrival word forbids a thread of this view and end to leave
abbrev pub RefusesLeave : View → ThreadEnd → ℕ → Type 0
RefusesLeave v end word = ((arrival_of word).closing ≡ true)
    ⊎ (((arrival_of word).over ≡ true) ⊎ (((arrival_of word).epoch ≤ v.ran) ⊎ (leaves end (arrival_of word).fed ≡ false)))

-- and forbids it to claim the closing
abbrev pub RefusesClaim : View → ℕ → Type 0
RefusesClaim v word = (AllStand (arrival_of word).mask v.beginning.settings.threads → ⊥)
    ⊎ (((arrival_of word).closing ≡ true) ⊎ (((arrival_of word).over ≡ true) ⊎ ((arrival_of word).epoch ≢ v.ran)))

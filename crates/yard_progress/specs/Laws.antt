-- The laws of the progress that a yard shows: it is sound, and what the steps of the yard are in it.
use Rattle.std.specs.Prelude.{◌≡◌, ◌≢◌, ℕ, ◌<◌, ◌⊎◌, Bool, true, false, List, [], ◌∷◌, ◌++◌, length, slice_set}
use mathlib.Core.Option.{some}
use Rattle.seq_object.specs.declared.history.Entry.{Entry}
use Rattle.seq_object.specs.Sizes.{thread_room, room_count}
use Rattle.life_model.specs.Life.{next_command}
use Rattle.life_model.specs.Work.{HasNoTake}
use Rattle.restart_point.specs.declared.thread_end.ThreadEnd.{ThreadEnd}
use Rattle.restart_point.specs.declared.thread_end.ThreadEnd.TheVariants.{Ended}
use Rattle.block_allow.specs.Verdicts.{leaves}
use Rattle.rooms.specs.declared.room.Room.{Room}
use Rattle.rooms.specs.Rooms.{end_of}
use Rattle.yard_model.specs.declared.view.Phase.TheVariants.{Running, Closing}
use Rattle.yard_model.specs.declared.view.Beginning.{Beginning}
use Rattle.yard_model.specs.declared.view.View.{View}
use Rattle.yard_model.specs.declared.view.Grip.{Grip}
use Rattle.yard_model.specs.declared.view.Checkpoint.{Checkpoint}
use Rattle.yard_model.specs.Beginnings.{opening_of, sizes_at, epoch_now, covered_by, is_over, is_fed}
use Rattle.yard_model.specs.World.{YardState, ViewIs, Home, arrival, clock, lock_of, dead}
use Rattle.yard_model.specs.Views.{released, drew, left_in}
use Rattle.yard_model.specs.Conditions.{MayRelease, MayDraw}
use Rattle.yard_model.specs.Steps.{at_release, at_draw, at_leave, checkpoint_at}
use Rattle.yard_model.specs.Opens.{IsOpeningWorld}
use Rattle.yard_model.specs.Lawful.{Lawful}
use Rattle.rounds.specs.Progress.{Activity, AtPoint, EmptyHanded, OnCommand, OnDrawn, OnClosing, is_holding}
use Rattle.rounds.specs.Events.{MakesEvent, RestsOrWaits}
use Rattle.rounds.specs.Sound.{IsSound}
use Rattle.yard_progress.specs.Shown.{thread_told, progress_of, updated, GoesOn, ShowsHands, all_commands, RefusesLeave, RefusesClaim}

-- SOUND.

-- a lawful yard and its threads' hands show a sound progress
abbrev pub SoundLaw : Type 0
SoundLaw = (b : Beginning) (w : YardState) (h : List Entry) (cs : List Checkpoint)
    (activities : ℕ → Activity) (ends : ℕ → ThreadEnd) (write_backs : ℕ)
    → Lawful b w h cs → ShowsHands b w h cs activities ends write_backs
    → IsSound (sizes_at b) b.settings.every (all_commands b) (progress_of b w h cs activities ends write_backs)

-- where a running thread finds a lock taken, some thread runs and holds a room
abbrev pub HolderLaw : Type 0
HolderLaw = (b : Beginning) (w : YardState) (h : List Entry) (cs : List Checkpoint)
    (activities : ℕ → Activity) (ends : ℕ → ThreadEnd) (write_backs i r : ℕ) (v : View)
    → Lawful b w h cs → ShowsHands b w h cs activities ends write_backs
    → ViewIs w i v → v.phase ≡ Running → r < room_count (sizes_at b) → lock_of w r ≢ 0 → lock_of w r ≢ dead
    → (j : ℕ) × (j < b.settings.threads) × (is_holding (activities j) ≡ true)

-- a thread at its restart point, whose leave and claim the arrival word forbids, rests
abbrev pub RestShownLaw : Type 0
RestShownLaw = (b : Beginning) (w : YardState) (h : List Entry) (cs : List Checkpoint)
    (activities : ℕ → Activity) (ends : ℕ → ThreadEnd) (write_backs i : ℕ) (v : View)
    → Lawful b w h cs → ShowsHands b w h cs activities ends write_backs → ViewIs w i v → activities i ≡ AtPoint
    → (ends i ≡ Ended) ⊎ RefusesLeave v (ends i) (arrival w) → RefusesClaim v (arrival w)
    → RestsOrWaits (sizes_at b) (progress_of b w h cs activities ends write_backs) i

-- GOES ON.

-- a life that opens, with each thread at its restart point, shows hands
abbrev pub OpensShownLaw : Type 0
OpensShownLaw = (b : Beginning) (w : YardState) (ends : ℕ → ThreadEnd) → IsOpeningWorld b w
    → ((i : ℕ) (x : Room) → Home w (thread_room (sizes_at b) i) x → ends i ≡ end_of x)
    → ShowsHands b w [] [] (λ i. AtPoint) ends 0

-- a life that opens and is not over goes on
abbrev pub OpensGoingLaw : Type 0
OpensGoingLaw = (b : Beginning) (w : YardState) → IsOpeningWorld b w → GoesOn b w [] []

-- so does one whose epoch was released
abbrev pub ReleasesGoingLaw : Type 0
ReleasesGoingLaw = (b : Beginning) (w : YardState) (h : List Entry) (cs : List Checkpoint) (i : ℕ) (v : View) (over fed : Bool) (n word : ℕ)
    → Lawful b w h cs → ViewIs w i v → MayRelease v over fed n
    → GoesOn b (at_release w word i (released v)) h (cs ++ checkpoint_at n over ∷ [])

-- STEPS.

-- any step that draws and releases nothing, and changes one view
abbrev pub ViewShownLaw : Type 0
ViewShownLaw = (b : Beginning) (w next : YardState) (h : List Entry) (cs : List Checkpoint)
    (activities : ℕ → Activity) (ends : ℕ → ThreadEnd) (write_backs more i : ℕ) (v u : View) (d : Activity) (end : ThreadEnd)
    → ViewIs w i v → next.views ≡ slice_set w.views i u
    → ((progress_of b next h cs (updated activities i d) (updated ends i end) more).shared
    ≡ record ((progress_of b w h cs activities ends write_backs).shared) { write_backs = more })
    × ((progress_of b next h cs (updated activities i d) (updated ends i end) more).threads i
    ≡ thread_told (some u) d (next_command (opening_of b) h i) end)
    × ((j : ℕ) → j ≢ i → (progress_of b next h cs (updated activities i d) (updated ends i end) more).threads j
    ≡ (progress_of b w h cs activities ends write_backs).threads j)

-- as a leave
abbrev pub LeaveShownLaw : Type 0
LeaveShownLaw = (b : Beginning) (w : YardState) (h : List Entry) (cs : List Checkpoint)
    (activities : ℕ → Activity) (ends : ℕ → ThreadEnd) (write_backs i : ℕ) (v : View)
    → Lawful b w h cs → ViewIs w i v → activities i ≡ AtPoint
    → v.ran < epoch_now b cs → leaves (ends i) (is_fed b h cs) ≡ true → is_over b cs ≡ false
    → MakesEvent (sizes_at b) b.settings.every i (progress_of b w h cs activities ends write_backs)
    (progress_of b (at_leave w i (left_in v (epoch_now b cs))) h cs (updated activities i EmptyHanded) (updated ends i (ends i)) write_backs)

-- a draw
abbrev pub DrawShownLaw : Type 0
DrawShownLaw = (b : Beginning) (w : YardState) (h : List Entry) (cs : List Checkpoint)
    (activities : ℕ → Activity) (ends : ℕ → ThreadEnd) (write_backs i : ℕ) (v : View) (g : Grip) (e : Entry)
    → Lawful b w h cs → ViewIs w i v → MayDraw v g e → activities i ≡ OnCommand 0
    → MakesEvent (sizes_at b) b.settings.every i (progress_of b w h cs activities ends write_backs)
    (progress_of b (at_draw w i (drew v g (clock w) e)) (h ++ e ∷ []) cs (updated activities i OnDrawn) ends write_backs)

-- a release
abbrev pub ReleaseShownLaw : Type 0
ReleaseShownLaw = (b : Beginning) (w : YardState) (h : List Entry) (cs : List Checkpoint)
    (activities : ℕ → Activity) (ends : ℕ → ThreadEnd) (write_backs i : ℕ) (v : View) (over fed : Bool) (n word : ℕ)
    → Lawful b w h cs → ViewIs w i v → MayRelease v over fed n → activities i ≡ OnClosing (room_count (sizes_at b)) 0
    → MakesEvent (sizes_at b) b.settings.every i (progress_of b w h cs activities ends write_backs)
    (progress_of b (at_release w word i (released v)) h (cs ++ checkpoint_at n over ∷ []) (updated activities i AtPoint) ends write_backs)

-- WITHOUT A TAKE.

-- where a thread closes in a life without a take, an entry was drawn since the last checkpoint
abbrev pub TakelessEntryLaw : Type 0
TakelessEntryLaw = (b : Beginning) (w : YardState) (h : List Entry) (cs : List Checkpoint) (i : ℕ) (v : View)
    → Lawful b w h cs → ViewIs w i v → v.phase ≡ Closing → HasNoTake (opening_of b) → covered_by cs < length h

-- Turns of threads: the events that they make, when they rest or wait, and the progress over the turns of a schedule.
use Rattle.std.specs.Prelude.{◌≡◌, ◌≢◌, ℕ, suc, ◌-◌, ◌<◌, ◌≤◌, ◌⊎◌, Bool, true, false, List, [], ◌∷◌}
use Rattle.seq_object.specs.declared.sizes.Sizes.{Sizes}
use Rattle.seq_object.specs.Sizes.{room_count}
use Rattle.restart_point.specs.declared.thread_end.ThreadEnd.{ThreadEnd}
use Rattle.restart_point.specs.declared.thread_end.ThreadEnd.TheVariants.{Ended}
use Rattle.block_allow.specs.Verdicts.{leaves}
use Rattle.yard_model.specs.Knows.{stands, is_closing}
use Rattle.rounds.specs.Progress.{Activity, AtPoint, EmptyHanded, OnCommand, OnDrawn, OnEmptyQueue, OnOwnRoom, OnClosing, ThreadProgress, SharedProgress, Progress, phase_of, is_holding}

-- EVENTS. What a turn of a thread does, by the first row of the table of a turn that applies.
pub data ThreadEvent : Type 0 where
  -- it leaves its restart point
  LeavesPoint : ThreadEvent
  -- it locks its command's room and begins the command, of so many stores
  BeginsCommand : ℕ → ThreadEvent
  -- it locks the queue room for a take and finds it empty
  FindsQueueEmpty : ThreadEvent
  -- a store of its command, behind which so many are left
  StoresForCommand : ℕ → ThreadEvent
  -- its command's entry is drawn
  DrawsEntry : ThreadEvent
  -- its command's room goes home
  UnlocksCommand : ThreadEvent
  -- the queue room goes home, found empty
  UnlocksEmptyQueue : ThreadEvent
  -- it locks its own room and begins to write its restart point
  BeginsOwnRoom : ThreadEvent
  -- a store to its own room, behind which so many are left
  StoresToOwn : ℕ → ThreadEvent
  -- its own room goes home, with this end
  UnlocksOwn : ThreadEnd → ThreadEvent
  -- it stands
  StandsAgain : ThreadEvent
  -- it claims the closing
  ClaimsClosing : ThreadEvent
  -- an event of the closing in one room that is no write-back: it comes to this stage
  ClosesFurther : ℕ → ThreadEvent
  -- a write-back of the closing
  ClosesByWriteBack : ThreadEvent
  -- a room that is closed goes home
  ClosesNextRoom : ThreadEvent
  -- it releases the epoch: whether the life is over, and whether the queue has an item
  ReleasesEpoch : Bool → Bool → ThreadEvent

-- when an event may be made, by the thread and by what all share
abbrev pub MayHappen : Sizes → ThreadEvent → SharedProgress → ThreadProgress → Type 0
MayHappen z LeavesPoint a x = (x.activity ≡ AtPoint) × (x.ran < a.epoch) × (leaves x.end a.fed ≡ true) × (a.over ≡ false)
MayHappen z (BeginsCommand n) a x = (x.activity ≡ EmptyHanded) × (x.wrote ≡ false) × (x.found_empty ≡ false) × (0 < x.quota) × (n ≤ 22)
MayHappen z FindsQueueEmpty a x = (x.activity ≡ EmptyHanded) × (x.wrote ≡ false) × (x.found_empty ≡ false) × (0 < x.quota)
MayHappen z (StoresForCommand n) a x = (x.activity ≡ OnCommand (suc n)) × (n < 22)
MayHappen z DrawsEntry a x = (x.activity ≡ OnCommand 0) × (0 < x.quota)
MayHappen z UnlocksCommand a x = (x.activity ≡ OnDrawn) × (x.wrote ≡ false)
MayHappen z UnlocksEmptyQueue a x = (x.activity ≡ OnEmptyQueue) × (x.wrote ≡ false) × (x.found_empty ≡ false)
MayHappen z BeginsOwnRoom a x = (x.activity ≡ EmptyHanded) × (x.wrote ≡ false)
MayHappen z (StoresToOwn n) a x = (x.activity ≡ OnOwnRoom (suc n)) × (n < 5)
MayHappen z (UnlocksOwn end) a x = (x.activity ≡ OnOwnRoom 0) × (x.wrote ≡ false)
MayHappen z StandsAgain a x = (x.activity ≡ EmptyHanded) × (x.wrote ≡ true)
MayHappen z ClaimsClosing a x = (x.activity ≡ AtPoint) × (x.ran ≡ a.epoch)
MayHappen z (ClosesFurther k) a x = (r : ℕ) × (j : ℕ) × (x.activity ≡ OnClosing r j) × (j < k)
MayHappen z ClosesByWriteBack a x = (r : ℕ) × (j : ℕ) × (x.activity ≡ OnClosing r j)
MayHappen z ClosesNextRoom a x = (r : ℕ) × (j : ℕ) × (x.activity ≡ OnClosing r j) × (j ≤ 3)
MayHappen z (ReleasesEpoch over fed) a x = x.activity ≡ OnClosing (room_count z) 0

-- at this stage of the same room, where the thread closes
abbrev pub at_stage : ℕ → Activity → Activity
at_stage k AtPoint = AtPoint
at_stage k EmptyHanded = EmptyHanded
at_stage k (OnCommand n) = OnCommand n
at_stage k OnDrawn = OnDrawn
at_stage k OnEmptyQueue = OnEmptyQueue
at_stage k (OnOwnRoom n) = OnOwnRoom n
at_stage k (OnClosing r j) = OnClosing r k

-- with one room more done, where the thread closes
abbrev pub one_room_more : Activity → Activity
one_room_more AtPoint = AtPoint
one_room_more EmptyHanded = EmptyHanded
one_room_more (OnCommand n) = OnCommand n
one_room_more OnDrawn = OnDrawn
one_room_more OnEmptyQueue = OnEmptyQueue
one_room_more (OnOwnRoom n) = OnOwnRoom n
one_room_more (OnClosing r j) = OnClosing (suc r) 0

-- the thread behind an event; left open are the command that is next behind a draw, and the end while its own room is in hand
abbrev pub ThreadBehind : ThreadEvent → ℕ → SharedProgress → ThreadProgress → ThreadProgress → Type 0
ThreadBehind LeavesPoint every a x y = y ≡ record x { activity = EmptyHanded; ran = a.epoch; quota = every; wrote = false; found_empty = false }
ThreadBehind (BeginsCommand n) every a x y = y ≡ record x { activity = OnCommand n }
ThreadBehind FindsQueueEmpty every a x y = y ≡ record x { activity = OnEmptyQueue }
ThreadBehind (StoresForCommand n) every a x y = y ≡ record x { activity = OnCommand n }
ThreadBehind DrawsEntry every a x y = y ≡ record x { activity = OnDrawn; quota = x.quota - 1; next = y.next }
ThreadBehind UnlocksCommand every a x y = y ≡ record x { activity = EmptyHanded }
ThreadBehind UnlocksEmptyQueue every a x y = y ≡ record x { activity = EmptyHanded; found_empty = true }
ThreadBehind BeginsOwnRoom every a x y = y ≡ record x { activity = OnOwnRoom 5; end = y.end }
ThreadBehind (StoresToOwn n) every a x y = y ≡ record x { activity = OnOwnRoom n }
ThreadBehind (UnlocksOwn end) every a x y = y ≡ record x { activity = EmptyHanded; wrote = true; end = end }
ThreadBehind StandsAgain every a x y = y ≡ record x { activity = AtPoint }
ThreadBehind ClaimsClosing every a x y = y ≡ record x { activity = OnClosing 0 0 }
ThreadBehind (ClosesFurther k) every a x y = y ≡ record x { activity = at_stage k x.activity }
ThreadBehind ClosesByWriteBack every a x y = y ≡ x
ThreadBehind ClosesNextRoom every a x y = y ≡ record x { activity = one_room_more x.activity }
ThreadBehind (ReleasesEpoch over fed) every a x y = y ≡ record x { activity = AtPoint }

-- what all share behind an event
abbrev pub shared_behind : ThreadEvent → SharedProgress → SharedProgress
shared_behind LeavesPoint a = a
shared_behind (BeginsCommand n) a = a
shared_behind FindsQueueEmpty a = a
shared_behind (StoresForCommand n) a = a
shared_behind DrawsEntry a = record a { entries = suc a.entries }
shared_behind UnlocksCommand a = a
shared_behind UnlocksEmptyQueue a = a
shared_behind BeginsOwnRoom a = a
shared_behind (StoresToOwn n) a = a
shared_behind (UnlocksOwn end) a = a
shared_behind StandsAgain a = a
shared_behind ClaimsClosing a = a
shared_behind (ClosesFurther k) a = a
shared_behind ClosesByWriteBack a = record a { write_backs = suc a.write_backs }
shared_behind ClosesNextRoom a = a
shared_behind (ReleasesEpoch over fed) a = record a { epoch = suc a.epoch; fed = fed; over = over; closed = suc a.closed; covered = a.entries }

-- a turn of thread i makes an event: it changes no other thread
pub record MakesEvent (z : Sizes) (every i : ℕ) (s t : Progress) : Type 0 where
  pub event : ThreadEvent
  pub may : MayHappen z event s.shared (s.threads i)
  pub behind : ThreadBehind event every s.shared (s.threads i) (t.threads i)
  pub shared : t.shared ≡ shared_behind event s.shared
  pub others : (j : ℕ) → j ≢ i → t.threads j ≡ s.threads j

-- RESTS. A thread at its restart point may neither leave nor claim; one that runs waits for a lock.

-- some thread closes
abbrev pub SomeCloses : Sizes → Progress → Type 0
SomeCloses z s = (j : ℕ) × (j < z.threads) × (is_closing (phase_of (s.threads j).activity) ≡ true)

-- some thread runs
abbrev pub SomeRuns : Sizes → Progress → Type 0
SomeRuns z s = (j : ℕ) × (j < z.threads) × (stands (phase_of (s.threads j).activity) ≡ false)

-- some thread runs and holds a room
abbrev pub SomeHolds : Sizes → Progress → Type 0
SomeHolds z s = (j : ℕ) × (j < z.threads) × (is_holding (s.threads j).activity ≡ true)

-- it may not leave: its script is used, some thread closes, the life is over, it ran in this epoch, or its end forbids it
abbrev pub MayNotLeave : Sizes → Progress → ℕ → Type 0
MayNotLeave z s i = ((s.threads i).end ≡ Ended)
    ⊎ (SomeCloses z s ⊎ ((s.shared.over ≡ true) ⊎ ((s.shared.epoch ≤ (s.threads i).ran) ⊎ (leaves (s.threads i).end s.shared.fed ≡ false))))

-- it may not claim: some thread runs, some thread closes, the life is over, or it did not run in this epoch
abbrev pub MayNotClaim : Sizes → Progress → ℕ → Type 0
MayNotClaim z s i = SomeRuns z s ⊎ (SomeCloses z s ⊎ ((s.shared.over ≡ true) ⊎ (s.shared.epoch ≢ (s.threads i).ran)))

-- the turn of thread i rests at its restart point, or waits for a lock
abbrev pub RestsOrWaits : Sizes → Progress → ℕ → Type 0
RestsOrWaits z s i = ((s.threads i).activity ≡ AtPoint) × MayNotLeave z s i × MayNotClaim z s i
    ⊎ ((s.threads i).activity ≡ EmptyHanded) × SomeHolds z s

-- RUNS.

-- a turn of thread i: an event, or a rest that leaves all as it is
abbrev pub MakesTurn : Sizes → ℕ → ℕ → Progress → Progress → Type 0
MakesTurn z every i s t = (i < z.threads) × (MakesEvent z every i s t ⊎ RestsOrWaits z s i × (t ≡ s))

-- the turns of a schedule lead from s to t, and end where the life is over; each progress that a turn leads to meets what is given
abbrev pub Progresses : Sizes → ℕ → (Progress → Type 0) → Progress → List ℕ → Progress → Type 0
Progresses z every meets s [] t = s ≡ t
Progresses z every meets s (i ∷ turns) t =
    (s.shared.over ≡ true) × (s ≡ t)
    ⊎ (s.shared.over ≡ false) × ((u : Progress) × MakesTurn z every i s u × meets u × Progresses z every meets u turns t)

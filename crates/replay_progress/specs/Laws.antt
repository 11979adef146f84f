-- The laws that tie a replay to the progress that it shows: how many rounds end it, and how seldom it closes.
use Rattle.std.specs.Prelude.{◌≡◌, ◌≢◌, ℕ, ◌^◌, ◌<◌, true, false, List, [], ◌∷◌, ◌++◌, length, drop, Some, Ok, Err, slice_get}
use Rattle.std.specs.declared.alloc.AllocError.{AllocError}
use Rattle.life_model.specs.Work.{OffersRounds, HasNoTake, ClosesSeldom, ClosesOncePerEntry}
use Rattle.restart_point.specs.declared.thread_end.ThreadEnd.TheVariants.{Waits}
use Rattle.yard_model.specs.declared.view.Beginning.{Beginning}
use Rattle.yard_model.specs.Beginnings.{opening_of, sizes_at, marks_of, write_backs_at}
use Rattle.yard_model.specs.Opens.{opening_view}
use Rattle.yard_model.specs.WriteBacks.{rise_of}
use Rattle.room_yard.specs.World.{WorldState, Opens}
use Rattle.worker_model.specs.declared.hand.Turn.{Turn}
use Rattle.worker_model.specs.Workers.{WorkerState, IsWorker}
use Rattle.replay_model.specs.Replays.{ReplayState, TurnOf, Runs, is_over_in}
use Rattle.replay_model.specs.Kept.{IsReplay}
use Rattle.replay_model.specs.Laws.{opening_replay}
use Rattle.rounds.specs.Progress.{Progress}
use Rattle.rounds.specs.Events.{MakesTurn, Progresses}
use Rattle.rounds.specs.Sound.{IsSound, NoneTakes}
use Rattle.rounds.specs.Spent.{takeless_rounds, enough_rounds}
use Rattle.yard_progress.specs.Shown.{ShowsHands, all_commands}
use Rattle.replay_progress.specs.Shown.{activities_of, ends_of, shown_by, GoesOnRight}
use Rattle.replay_progress.specs.Runs.{RunsKept}

-- ONE STATE.

-- a replay that goes on right shows hands
abbrev pub HandsShownLaw : Type 0
HandsShownLaw = (s : ReplayState) → IsReplay s → (right : GoesOnRight s)
    → ShowsHands s.yard.beginning s.yard.told.world s.yard.told.history s.yard.told.checkpoints (activities_of s) (ends_of s) (rise_of s.yard.beginning right.counts)

-- a replay that opens goes on right, where no worker begins with the end of one that waits, and no room with a count near its type's end
abbrev pub OpensRightLaw : Type 0
OpensRightLaw = (b : Beginning) (w : WorldState) (workers : List WorkerState) → Opens b w → length workers ≡ b.settings.threads
    → ((i : ℕ) (c : WorkerState) → slice_get workers i ≡ Some c → IsWorker c (opening_view b i))
    → ((i : ℕ) (c : WorkerState) → slice_get workers i ≡ Some c → c.end ≢ Waits) → ((r : ℕ) → write_backs_at b r < 2 ^ 63)
    → GoesOnRight (opening_replay b w workers)

-- ONE TURN. Each turn of a life that is not over, and that meets no want of memory, is a turn of the progress that it shows; and it goes on right
abbrev pub TurnIsShownLaw : Type 0
TurnIsShownLaw = (i : ℕ) (s s' : ReplayState) (answer : Turn) → IsReplay s → (right : GoesOnRight s) → is_over_in s ≡ false
    → TurnOf i s (Ok answer) s' → IsReplay s'
    → (right' : GoesOnRight s') × MakesTurn (sizes_at s.yard.beginning) s.yard.beginning.settings.every i
    (shown_by s (rise_of s.yard.beginning right.counts)) (shown_by s' (rise_of s.yard.beginning right'.counts))

-- one that meets want of memory draws nothing and releases nothing
abbrev pub RefusedTurnLaw : Type 0
RefusedTurnLaw = (i : ℕ) (s t : ReplayState) (error : AllocError) → TurnOf i s (Err error) t
    → (t.yard.told.history ≡ s.yard.told.history) × (t.yard.told.checkpoints ≡ s.yard.told.checkpoints)

-- RUNS. One whose states are replays is a run;
abbrev pub KeptRunsLaw : Type 0
KeptRunsLaw = (turns : List ℕ) (s t : ReplayState) → RunsKept turns s t → Runs turns s t

-- it goes on with one turn more, where it is not over and that turn leads to a replay;
abbrev pub KeptRunGoesOnLaw : Type 0
KeptRunGoesOnLaw = (turns : List ℕ) (i : ℕ) (s m t : ReplayState) (answer : Turn) → RunsKept turns s m → is_over_in m ≡ false
    → TurnOf i m (Ok answer) t → IsReplay t → RunsKept (turns ++ i ∷ []) s t

-- and once it is over, whatever turns come behind
abbrev pub KeptRunStaysLaw : Type 0
KeptRunStaysLaw = (turns rest : List ℕ) (s m : ReplayState) → RunsKept turns s m → is_over_in m ≡ true → RunsKept (turns ++ rest) s m

-- a run of a replay that goes on right leads to one, and is a run of the progress that it shows: each progress on the way is sound, and meets
-- what is said of each state
abbrev pub RunIsShownLaw : Type 0
RunIsShownLaw = (s t : ReplayState) (turns : List ℕ) → IsReplay s → (right : GoesOnRight s) → RunsKept turns s t
    → IsReplay t × (t.yard.beginning ≡ s.yard.beginning) × ((right' : GoesOnRight t)
    × Progresses (sizes_at s.yard.beginning) s.yard.beginning.settings.every
    (λ (u : Progress). IsSound (sizes_at s.yard.beginning) s.yard.beginning.settings.every (all_commands s.yard.beginning) u
    × (HasNoTake (opening_of s.yard.beginning) → NoneTakes (sizes_at s.yard.beginning) u))
    (shown_by s (rise_of s.yard.beginning right.counts)) turns (shown_by t (rise_of s.yard.beginning right'.counts)))

-- WHOLE SCHEDULES, of a replay that goes on right and released no checkpoint yet.

-- without a take the turns of a schedule that offers enough rounds, or behind so many of its turns does so, end the life
abbrev pub TakelessReplayEndsLaw : Type 0
TakelessReplayEndsLaw = (s t : ReplayState) (turns : List ℕ) (m : ℕ) → IsReplay s → GoesOnRight s → s.yard.told.checkpoints ≡ []
    → HasNoTake (opening_of s.yard.beginning) → RunsKept turns s t
    → OffersRounds s.yard.beginning.settings.threads (takeless_rounds (sizes_at s.yard.beginning) (all_commands s.yard.beginning)) (drop m turns)
    → is_over_in t ≡ true

-- so do those of a schedule that offers more, with a take
abbrev pub ReplayEndsLaw : Type 0
ReplayEndsLaw = (s t : ReplayState) (turns : List ℕ) (m : ℕ) → IsReplay s → GoesOnRight s → s.yard.told.checkpoints ≡ []
    → RunsKept turns s t
    → OffersRounds s.yard.beginning.settings.threads (enough_rounds (sizes_at s.yard.beginning) (all_commands s.yard.beginning)) (drop m turns)
    → is_over_in t ≡ true

-- the closings are at most two for each entry and one for each thread, and without a take one for each entry
abbrev pub ReplayClosesSeldomLaw : Type 0
ReplayClosesSeldomLaw = (s t : ReplayState) (turns : List ℕ) → IsReplay s → GoesOnRight s → s.yard.told.checkpoints ≡ [] → RunsKept turns s t
    → ClosesSeldom (opening_of t.yard.beginning) t.yard.told.history (marks_of t.yard.beginning t.yard.told.checkpoints)
    × ClosesOncePerEntry (opening_of t.yard.beginning) t.yard.told.history (marks_of t.yard.beginning t.yard.told.checkpoints)

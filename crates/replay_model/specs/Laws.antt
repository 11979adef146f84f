-- Laws on replays.
use Rattle.std.specs.Prelude.{◌≡◌, ◌≢◌, ℕ, ◌+◌, ◌<◌, ◌⊎◌, Bool, List, [], ◌∷◌, ◌++◌, length, Option, Some, None, Result, slice_get}
use Rattle.std.specs.declared.alloc.AllocError.{AllocError}
use Rattle.seq_object.specs.declared.command.Command.{Command}
use Rattle.seq_object.specs.declared.command.Reply.{Reply}
use Rattle.seq_object.specs.declared.history.Entry.{Entry}
use Rattle.life_model.specs.declared.life.Mark.{Mark}
use Rattle.room_yard.specs.Told.{Told, IsTold, BothTell}
use Rattle.room_yard.specs.Laws.{SetsOwnView}
use Rattle.room_yard.specs.World.{WorldState, Opens}
use Rattle.yard_model.specs.declared.view.Beginning.{Beginning}
use Rattle.yard_model.specs.declared.view.View.{View}
use Rattle.yard_model.specs.Opens.{opening_view}
use Rattle.yard_model.specs.Steps.{checkpoint_at}
use Rattle.plain_yard.specs.Shown.{view_at, opening_told, IsLawfulYard, NoneHolds}
use Rattle.worker_model.specs.declared.hand.Turn.{Turn}
use Rattle.worker_model.specs.Workers.{WorkerState, IsWorker}
use Rattle.worker_model.specs.Turns.{DoesTurn, entry_of}
use Rattle.replay_model.specs.Replays.{ReplayState, TurnOf, TurnsOff}
use Rattle.replay_model.specs.Kept.{IsReplay}

-- behind a turn the views of a told state are those before it, with the thread's own as it is now
abbrev pub TurnSetsOwnViewLaw : Type 0
TurnSetsOwnViewLaw = (c d : WorkerState) (v w : View) (t u : Option Told) (r : Result Turn AllocError) → IsTold t v → DoesTurn c v t r d w u → SetsOwnView v t w u

-- behind a turn the checkpoints of a told state are those before it, and so are the worker's marks; or one more of both, which begins the next epoch
pub record AddsMark (c d : WorkerState) (v : View) (a b : Told) : Type 0 where
  pub mark : Mark
  pub over : Bool
  pub epoch : mark.epoch ≡ v.ran + 1
  pub marks : d.marks ≡ c.marks ++ mark ∷ []
  pub checkpoints : b.checkpoints ≡ a.checkpoints ++ checkpoint_at mark.length over ∷ []

abbrev pub TurnKeepsCheckpointsLaw : Type 0
TurnKeepsCheckpointsLaw = (c d : WorkerState) (v w : View) (t u : Option Told) (r : Result Turn AllocError) → IsTold t v → DoesTurn c v t r d w u
    → BothTell t u (λ (a b : Told). ((d.marks ≡ c.marks) × (b.checkpoints ≡ a.checkpoints)) ⊎ AddsMark c d v a b)

-- one entry more, which is the worker's: of its next command, with some reply
pub record AddsEntry (c : WorkerState) (before behind : List Entry) : Type 0 where
  pub command : Command
  pub reply : Reply
  pub next : slice_get c.commands c.position ≡ Some command
  pub adds : behind ≡ before ++ entry_of c command reply ∷ []

-- behind a turn the history is that before it, or has one entry more
abbrev pub TurnKeepsHistoryLaw : Type 0
TurnKeepsHistoryLaw = (i : ℕ) (s s' : ReplayState) (r : Result Turn AllocError) → (turn : TurnOf i s r s')
    → (s'.yard.told.history ≡ s.yard.told.history) ⊎ AddsEntry turn.worker s.yard.told.history s'.yard.told.history

-- a turn behind which the yard is lawful and the thread's worker is its view's keeps a replay
abbrev pub TurnKeepsReplayLaw : Type 0
TurnKeepsReplayLaw = (i : ℕ) (s s' : ReplayState) (r : Result Turn AllocError) → IsReplay s → (turn : TurnOf i s r s') → IsLawfulYard s'.yard
    → IsWorker turn.behind (view_at s'.yard i) → IsReplay s'

-- THE BEGINNING. A replay opens with the yard of its world, and a worker for each thread that is its opening view's.
abbrev pub opening_replay : Beginning → WorldState → List WorkerState → ReplayState
opening_replay b w workers = record { yard = record { beginning = b; told = opening_told b w }; workers = workers }

abbrev pub OpensReplayLaw : Type 0
OpensReplayLaw = (b : Beginning) (w : WorldState) (workers : List WorkerState) → Opens b w → length workers ≡ b.settings.threads
    → ((i : ℕ) (c : WorkerState) → slice_get workers i ≡ Some c → IsWorker c (opening_view b i)) → IsReplay (opening_replay b w workers)

-- THE END. Behind the giving up of one thread it holds no room, the other threads' views are as before, and so are entries and checkpoints.
pub record HasTurnedOff (i : ℕ) (s s' : ReplayState) : Type 0 where
  pub none : (view_at s'.yard i).grip ≡ None
  pub others : (j : ℕ) → j ≢ i → view_at s'.yard j ≡ view_at s.yard j
  pub number : length s'.yard.told.world.views ≡ length s.yard.told.world.views
  pub history : s'.yard.told.history ≡ s.yard.told.history
  pub checkpoints : s'.yard.told.checkpoints ≡ s.yard.told.checkpoints

abbrev pub TurnsOffLaw : Type 0
TurnsOffLaw = (i : ℕ) (s s' : ReplayState) → i < length s.yard.told.world.views → IsReplay s → TurnsOff i s s' → HasTurnedOff i s s'

-- once each thread has given its room up, none holds one
abbrev pub NoneHoldsLaw : Type 0
NoneHoldsLaw = (s t : ReplayState) → IsLawfulYard t.yard → length t.yard.told.world.views ≡ length s.workers
    → ((i : ℕ) → i < length s.workers → (view_at t.yard i).grip ≡ None) → NoneHolds t.yard

-- What is told of a replay when its run has ended, and each thread has given its room up.
use Rattle.std.specs.Prelude.{◌≡◌, ◌≤◌, Bool, true, false, List, [], length, vec_capacity}
use Rattle.seq_object.specs.declared.settings.Settings.{Settings}
use Rattle.seq_object.specs.History.{Scripts}
use Rattle.seq_object.specs.Sizes.{sizes_of, room_count}
use Rattle.line_memory.specs.Line.{BankState}
use Rattle.life_model.specs.declared.life.Outcome.{Outcome}
use Rattle.life_model.specs.declared.life.Outcome.TheVariants.{Finished, Stalled, Cut, Starved}
use Rattle.life_model.specs.Told.{ReportState, is_resume}
use Rattle.restart_point.specs.declared.thread_end.ThreadEnd.{ThreadEnd}
use Rattle.restart_point.specs.declared.thread_end.ThreadEnd.TheVariants.{Ready, Waits, Ended}
use Rattle.rooms.specs.declared.room.Room.{Room}
use Rattle.rooms.specs.Rooms.{end_of}
use Rattle.yard_model.specs.declared.view.Beginning.{Beginning}
use Rattle.yard_model.specs.World.{YardState}
use Rattle.yard_model.specs.Outcomes.{NoneWaits, SomeWaits}
use Rattle.plain_yard.specs.Opening.{commands_in}
use Rattle.plain_yard.specs.Shown.{IsLawfulYard}
use Rattle.replay_model.specs.Replays.{ReplayState, AllTurnOff}
use Rattle.replay_model.specs.Endings.{IsReportOfYard}
use Rattle.script_run.specs.declared.ending.Began.{Began}
use Rattle.script_run.specs.declared.ending.Space.{Space}

-- empty lists with room for each command of these scripts, and for the number of each room
pub record HasSpace (settings : Settings) (scripts : Scripts) (s : Space) : Type 0 where
  pub no_entries : s.entries.items ≡ []
  pub entries : commands_in scripts ≤ vec_capacity s.entries
  pub no_numbers : s.numbers.items ≡ []
  pub numbers : room_count (sizes_of settings) ≤ vec_capacity s.numbers

-- a report that begins so is of a life with this beginning
pub record TellsBeginning (r : Began) (b : Beginning) : Type 0 where
  pub resumed : r.resumed ≡ is_resume b.life
  pub epoch : r.epoch ≡ b.epoch

-- whether a thread of this end waits for an item
abbrev pub is_waiting : ThreadEnd → Bool
is_waiting Ready = false
is_waiting Waits = true
is_waiting Ended = false

-- whether a thread waits, as its room tells
abbrev pub waits_in : Room → Bool
waits_in x = is_waiting (end_of x)

-- whether a thread waits is told rightly
abbrev pub TellsWaiting : Bool → Beginning → YardState → Type 0
TellsWaiting true b w = SomeWaits b w
TellsWaiting false b w = NoneWaits b w

-- how a life ends, of which memory ran out or not, that is over or not, and of which a thread waits or not
abbrev pub outcome_of : (dry over waits : Bool) → Outcome
outcome_of true over waits = Starved
outcome_of false false waits = Cut
outcome_of false true true = Stalled
outcome_of false true false = Finished

-- memory ran out exactly where the outcome says so
abbrev pub TellsWant : Bool → Outcome → Type 0
TellsWant dry Finished = dry ≡ false
TellsWant dry Stalled = dry ≡ false
TellsWant dry Cut = dry ≡ false
TellsWant dry Starved = dry ≡ true

-- a report and a memory are those of a run that ended so, by itself or at want of memory: each thread gives its room up, and they are the yard's
-- that is left
pub record Ends (dry : Bool) (s : ReplayState) (r : ReportState) (memory : List BankState) : Type 0 where
  pub last : ReplayState
  pub off : AllTurnOff 0 (length s.workers) s last
  pub lawful : IsLawfulYard last.yard
  pub beginning : last.yard.beginning ≡ s.yard.beginning
  pub history : last.yard.told.history ≡ s.yard.told.history
  pub checkpoints : last.yard.told.checkpoints ≡ s.yard.told.checkpoints
  pub report : IsReportOfYard last.yard r memory
  pub want : TellsWant dry r.outcome

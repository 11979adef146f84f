-- The first turns of a resume.
use Rattle.std.specs.Prelude.{◌≡◌, ℕ, ◌+◌, ◌⊎◌, length}
use Rattle.script_text.specs.Program.{Turns}
use Rattle.script_text.specs.Schedules.{schedule_of}
use Rattle.turn_order.specs.Orders.{OrderState}
use Rattle.life_model.specs.Life.{Opening}
use Rattle.epoch_word.specs.declared.stage.EpochStage.TheVariants.{InMemory}
use Rattle.recovery.specs.Recovering.{RecoveryState, IsRecovery, behind_events, events_left}
use Rattle.script_run.specs.Steps.{IsOrderIn}

-- a recovery did one of its events at each turn that was given
pub record IsGoingOn (threads : ℕ) (turns : Turns) (first r : RecoveryState) (o : OrderState) : Type 0 where
  pub order : IsOrderIn threads turns o
  pub is : r ≡ behind_events o.given first
  pub about : (a : Opening) → IsRecovery a first → IsRecovery a r
  pub left : o.given + events_left r ≡ events_left first

-- until it was finished, or the turns were spent
pub record IsRecoveredBy (threads : ℕ) (turns : Turns) (first r : RecoveryState) (o : OrderState) : Type 0 where
  pub goes : IsGoingOn threads turns first r o
  pub ends : (r.stage ≡ InMemory) ⊎ (o.given ≡ length (schedule_of threads turns))

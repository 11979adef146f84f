-- What a handle remembers of what its thread knows.
use Rattle.std.specs.Prelude.{◌≡◌, ℕ, ◌<◌, ◌≤◌, Bool, true, false, List, [], ◌∷◌, length, Option, Some, None}
use Rattle.seq_object.specs.Sizes.{room_count}
use Rattle.rooms.specs.declared.room.Room.{Room}
use Rattle.yard_model.specs.declared.view.Beginning.{Beginning}
use Rattle.yard_model.specs.declared.view.Grip.{Grip}
use Rattle.yard_model.specs.declared.view.Phase.{Phase}
use Rattle.yard_model.specs.Beginnings.{sizes_at}
use Rattle.room_yard.specs.Calls.{room_held}
use Rattle.shared_yard.specs.Plays.{SeatState}
use Rattle.shared_yard.specs.Rule.{one_known, one_view}

-- the slot that a seat has is that of the room held, and is empty while the caller has the room
abbrev pub slots_out : Option ℕ → List (ℕ × Option Room)
slots_out None = []
slots_out (Some r) = (r, None) ∷ []

-- the seat has one view, of a life that begins so, and these are fields of it
pub record IsHand (m : SeatState) (b : Beginning) (thread : ℕ) (phase : Phase) (room : Option ℕ) (ran : ℕ) (off : Bool) : Type 0 where
  pub one : m.0 ≡ one_known m.0 ∷ []
  pub begins : (one_view m.0).beginning ≡ b
  pub few_threads : b.settings.threads ≤ 16
  pub thread_is : thread ≡ (one_view m.0).thread
  pub is_thread : thread < b.settings.threads
  pub phase_is : phase ≡ (one_view m.0).phase
  pub room_is : room ≡ room_held (one_view m.0).grip
  pub within : (g : Grip) → (one_view m.0).grip ≡ Some g → g.room < room_count (sizes_at b)
  pub ran_is : ran ≡ (one_view m.0).ran
  pub off_is : off ≡ (one_view m.0).saw_off
  pub own_are : length (one_known m.0).own ≡ (one_view m.0).checkpoints  -- as many checkpoints as the view says
  pub slots : m.1 ≡ slots_out room

-- What a recovery keeps at all times: it is one of some life, and has room for what its end makes.
use Rattle.std.specs.Prelude.{◌≡◌, ◌≤◌, ℕ, [], length, vec_capacity}
use Rattle.std.specs.Global.{Vec}
use Rattle.line_memory.specs.Line.{BankState}
use Rattle.life_model.specs.Life.{Opening}
use Rattle.recovery.specs.Recovering.{RecoveryState, IsRecovery}

pub record IsKeptRecovery (r : RecoveryState) (spare : Vec BankState) (held : Vec ℕ) : Type 0 where
  pub some : Opening
  pub about : IsRecovery some r
  pub no_spare : spare.items ≡ []
  pub no_held : held.items ≡ []
  pub banks : length r.rooms ≤ vec_capacity spare
  pub numbers : length r.rooms ≤ vec_capacity held

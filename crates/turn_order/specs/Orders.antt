-- How far the turns of a replay were given.
use Rattle.std.specs.Prelude.{◌≡◌, ℕ, ◌+◌, Option, Some, None}
use Rattle.store_order.specs.Choice.{state_after}
use Rattle.script_text.specs.Program.{Turns, round_robin, seeded, listed, live}

pub record OrderState : Type 0 where
  pub threads : ℕ
  pub given : ℕ  -- how many turns were given, so the number of the next one, counted from 0
  pub words : ℕ  -- the state of the generator behind them

-- none is given
abbrev pub first_turn : ℕ → ℕ → OrderState
first_turn threads words = record { threads = threads; given = 0; words = words }

-- where a seed draws the threads, the generator has drawn a word for each turn that was given
abbrev pub IsOrderOf : Turns → OrderState → Type 0
IsOrderOf (round_robin n) o = Unit {0}
IsOrderOf (seeded seed n) o = o.words ≡ state_after o.given seed
IsOrderOf (listed threads) o = Unit {0}
IsOrderOf (live n) o = Unit {0}

-- one turn more is given, where there was one
abbrev pub IsBehind : Option ℕ → OrderState → OrderState → Type 0
IsBehind None o p = (p.threads ≡ o.threads) × (p.given ≡ o.given)
IsBehind (Some thread) o p = (p.threads ≡ o.threads) × (p.given ≡ o.given + 1)

-- A power cut: what its survivors recover to, and whether that is right.
use Rattle.std.specs.Prelude.{◌≡◌, ℕ, ◌≤◌, Bool, false, Option, Some, None, List, [], ◌∷◌, length, map, slice_index}
use Rattle.line_memory.specs.Line.{LineState, with_spare}
use Rattle.room_model.specs.Image.{surviving_lines}
use Rattle.crash_explorer.specs.declared.outcome.Outcome.{Outcome}
use Rattle.crash_explorer.specs.declared.outcome.Outcome.TheVariants.{State, Refused, Endless}
use Rattle.crash_explorer.specs.declared.recovered.Recovered.{Recovered}

-- lines without the room that was made for more stores
abbrev pub bare : List LineState → List LineState
bare lines = map (λ l. with_spare l 0) lines

-- a recovery within so many steps: how many events it makes, the lines in work behind the last of them, without their room, and the
-- state that it comes to, if it does
pub record Recovery : Type 0 where
  pub events : ℕ
  pub lines : List LineState
  pub state : Option (List ℕ)

-- a moment at which the power may be cut: the lines, without their room; the recovery from words of them within so many steps; and the
-- states that are allowed
pub record Cut : Type 0 where
  pub lines : List LineState
  pub recovered : ℕ → List (List ℕ) → Recovery
  pub allows : List ℕ → Bool

-- the state of an outcome, where there is one
abbrev pub outcome_state : Outcome → Option (List ℕ)
outcome_state (State words) = Some words.items
outcome_state Refused = None
outcome_state Endless = None

-- what was recovered is this recovery
pub record IsRecovered (recovery : Recovery) (recovered : Recovered) : Type 0 where
  pub events : recovered.events ≡ recovery.events
  pub lines : bare recovered.bank.lines ≡ recovery.lines
  pub state : outcome_state recovered.outcome ≡ recovery.state

-- the state to which words recover within so many steps, where they do
abbrev pub recovers_to : ℕ → Cut → List (List ℕ) → Option (List ℕ)
recovers_to steps cut left = (cut.recovered steps left).state

-- whether there is a state, and it is allowed
abbrev pub is_allowed : (List ℕ → Bool) → Option (List ℕ) → Bool
is_allowed allows None = false
is_allowed allows (Some state) = allows state

-- whether words that the cut left are right: they recover to an allowed state
abbrev pub is_right : ℕ → Cut → List (List ℕ) → Bool
is_right steps cut left = is_allowed cut.allows (recovers_to steps cut left)

-- how many stores are pending on each line
abbrev pub pending_of : List LineState → List ℕ
pending_of lines = map (λ l. length l.pending) lines

-- the choice by a list of counts, line by line
abbrev pub by_counts : List ℕ → ℕ → ℕ
by_counts kept line = slice_index kept line

-- the words of lines of which each keeps so many of its pending stores
abbrev pub left_by : List ℕ → List LineState → List (List ℕ)
left_by kept lines = surviving_lines (by_counts kept) 0 lines

-- as many counts as there are lines, none above what is pending on its line
abbrev pub AreWithin : List ℕ → List ℕ → Type 0
AreWithin [] [] = Unit {0}
AreWithin [] (m ∷ ms) = ⊥
AreWithin (k ∷ ks) [] = ⊥
AreWithin (k ∷ ks) (m ∷ ms) = (k ≤ m) × AreWithin ks ms

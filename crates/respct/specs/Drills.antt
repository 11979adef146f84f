-- What a drill tells: the text of the summary of its nine lives.
use Rattle.std.specs.Prelude.{◌≡◌, ℕ, ◌⊎◌, Option, List}
use Rattle.byte_ports.specs.Bytes.{Appended, AppendedSome}
use Rattle.byte_ports.specs.Images.{Named}
use Rattle.line_memory.specs.Line.{BankState}
use Rattle.drill.specs.declared.summary.Summary.{Summary}
use Rattle.drill.specs.Lives.{IsLeftAtWant, IsSummaryOf, HoldsAllCommands}
use Rattle.life_model.specs.declared.life.Outcome.TheVariants.{Finished}
use Rattle.drill.specs.Summaries.{summary_bytes}
use Rattle.respct.specs.declared.drilling.NotDrilled.{NotDrilled}
use Rattle.respct.specs.declared.drilling.NotDrilled.TheVariants.{Untold, Unwritten}
use Rattle.respct.specs.Steps.{HasCause}

-- the nine lives of a drill were lived, the last one left this memory, and this is their summary: the last life is finished, and what it left
-- holds all 800 commands, each once, without what is pending in it
pub record IsDrilled (n : ℕ) (memory : List BankState) (summary : Summary) : Type 0 where
  pub tells : IsSummaryOf n memory summary
  pub holds : HoldsAllCommands n memory
  pub kept : summary.kept ≡ 800
  pub finished : summary.outcome ≡ Finished

-- and the whole text of the summary was appended
pub record HasDrilled (n : ℕ) (memory : List BankState) (held held_now : Option (List ℕ)) : Type 0 where
  pub summary : Summary
  pub drilled : IsDrilled n memory summary
  pub appended : Appended held held_now (summary_bytes summary)

-- or a first part of that text
pub record HasDrilledSome (n : ℕ) (memory : List BankState) (held held_now : Option (List ℕ)) : Type 0 where
  pub summary : Summary
  pub drilled : IsDrilled n memory summary
  pub some : AppendedSome held held_now (summary_bytes summary)

-- memory ran out in a drill: in its lives, and nothing was appended; or behind them, and a first part of the text was
abbrev pub IsDrillStarved : ℕ → List BankState → Option (List ℕ) → Option (List ℕ) → Type 0
IsDrillStarved n memory held held_now = (IsLeftAtWant n memory × (held_now ≡ held)) ⊎ HasDrilledSome n memory held held_now

-- no script was read, and nothing was saved
pub record IsApart (left rest : Option (List ℕ)) (kept kept_now : Option Named) : Type 0 where
  pub left_same : rest ≡ left
  pub kept_same : kept_now ≡ kept

-- what a drill tells that was not written to its end: the cause, by the count of the sink, what it left, and what was written
abbrev pub IsUndrilled : ℕ → List BankState → Option (List ℕ) → Option (List ℕ) → ℕ → ℕ → NotDrilled → Type 0
IsUndrilled n memory held held_now faults faults_now Untold = IsLeftAtWant n memory × (held_now ≡ held)
IsUndrilled n memory held held_now faults faults_now (Unwritten refusal) = HasCause refusal faults faults_now × HasDrilledSome n memory held held_now

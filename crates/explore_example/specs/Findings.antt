-- What is found of a store: the answer of a run from its beginning, in words.
use Rattle.std.specs.Prelude.{◌≡◌, ℕ, ◌≤◌, false, List, [], ◌∷◌, ◌++◌, length, codes, replicate}
use Rattle.line_memory.specs.Line.{BankState, line_at}
use Rattle.crash_explorer.specs.declared.plan.Plan.{Plan}
use Rattle.crash_explorer.specs.declared.answer.Answer.{Answer}
use Rattle.crash_explorer.specs.Runs.{IsAnswer}
use Rattle.explore_example.specs.declared.event.Event.{Event}
use Rattle.explore_example.specs.declared.mistake.Mistake.{Mistake}
use Rattle.explore_example.specs.declared.running.Running.{Running}
use Rattle.explore_example.specs.Events.{all_events}
use Rattle.explore_example.specs.Runs.{cut_of, next, goes_on}
use Rattle.explore_example.specs.Words.{mistake_text, answer_text}

-- a line has these words in memory, nothing pending, and room for eight stores
pub record IsQuietLine (bank : BankState) (line : ℕ) (words : List ℕ) : Type 0 where
  pub base : (line_at bank.lines line).base ≡ words
  pub pending : (line_at bank.lines line).pending ≡ []
  pub room : 8 ≤ (line_at bank.lines line).spare

-- a store with this mistake and these events, of which none has happened, with variables of 0 and the epoch 1
pub record IsFresh (mistake : Mistake) (events : List Event) (s : Running) : Type 0 where
  pub wrong : s.mistake ≡ mistake
  pub has : s.events.items ≡ events
  pub at : s.at ≡ 0
  pub values : s.values ≡ 0 ∷ 0 ∷ []
  pub saved : s.saved ≡ 0 ∷ 0 ∷ []
  pub closing : s.is_closing ≡ false
  pub lines : length s.bank.lines ≡ 3
  pub epoch : IsQuietLine s.bank 0 (1 ∷ replicate 7 0)
  pub first : IsQuietLine s.bank 1 (replicate 8 0)
  pub second : IsQuietLine s.bank 2 (replicate 8 0)

-- how far a store is tried: all survivors of each cut up to 1,000, in at most 1,000 events, with one cut inside each recovery, of at
-- most 100 events
pub record IsPlan (plan : Plan) : Type 0 where
  pub events : plan.events ≡ 1000
  pub budget : plan.budget ≡ 1000
  pub steps : plan.steps ≡ 100
  pub depth : plan.depth ≡ 1

-- this text tells of the store with this mistake what the explorer answers of it, from its beginning on
pub record IsFinding (mistake : Mistake) (text : List ℕ) : Type 0 where
  pub first : Running
  pub last : Running
  pub plan : Plan
  pub answer : Answer
  pub fresh : IsFresh mistake (all_events mistake) first
  pub is_plan : IsPlan plan
  pub found : IsAnswer plan cut_of next goes_on first last answer
  pub told : text ≡ mistake_text mistake ++ codes "\n" ++ answer_text last answer

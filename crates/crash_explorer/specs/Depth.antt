-- Cuts inside recovery, to a depth.
use Rattle.std.specs.Prelude.{◌≡◌, ℕ, zero, suc, ◌+◌, ◌-◌, ◌<◌, ◌≤◌, ◌⊎◌, true, false, List, [], ◌∷◌}
use Rattle.line_memory.specs.Line.{LineState}
use Rattle.room_model.specs.Image.{surviving_lines}
use Rattle.crash_explorer.specs.declared.plan.Plan.{Plan}
use Rattle.crash_explorer.specs.declared.outcome.Outcome.{Outcome}
use Rattle.crash_explorer.specs.declared.answer.CutInside.{CutInside}
use Rattle.crash_explorer.specs.Cut.{Cut, AreWithin, pending_of, left_by, is_right, recovers_to, outcome_state}
use Rattle.crash_explorer.specs.Answers.{survivors_of, AreClean, IsNamed, sum_below, tried_at}

-- how many events the recovery from words makes
abbrev pub events_of : ℕ → Cut → List (List ℕ) → ℕ
events_of steps cut left = (cut.recovered steps left).events

-- the lines in work behind event number i + 1 of the recovery from words: its recovery within so many steps
abbrev pub moment : Cut → List (List ℕ) → ℕ → List LineState
moment cut left i = (cut.recovered (i + 1) left).lines

-- words are safe to a depth: they recover to an allowed state; and above depth 0, behind each event of that recovery each survivor is
-- safe to the depth below
abbrev pub IsSafeLeft : ℕ → Cut → ℕ → List (List ℕ) → Type 0
IsSafeLeft steps cut zero left = is_right steps cut left ≡ true
IsSafeLeft steps cut (suc depth) left = (is_right steps cut left ≡ true)
    × ((i : ℕ) → i < events_of steps cut left → (choice : ℕ → ℕ) → IsSafeLeft steps cut depth (surviving_lines choice 0 (moment cut left i)))

-- every survivor of these lines is safe to a depth
abbrev pub AreSafe : ℕ → Cut → ℕ → List LineState → Type 0
AreSafe steps cut depth lines = (choice : ℕ → ℕ) → IsSafeLeft steps cut depth (surviving_lines choice 0 lines)

-- words are clean to a depth: the same of the survivors that are tried
abbrev pub IsClean : Plan → Cut → ℕ → List (List ℕ) → Type 0
IsClean plan cut zero left = is_right plan.steps cut left ≡ true
IsClean plan cut (suc depth) left = (is_right plan.steps cut left ≡ true)
    × ((i : ℕ) → i < events_of plan.steps cut left → AreClean plan (λ words. IsClean plan cut depth words) (moment cut left i))

-- a cut inside the recovery from words, to a depth, has more survivors than the budget
abbrev pub IsPartialLeft : Plan → Cut → ℕ → List (List ℕ) → Type 0
IsPartialLeft plan cut zero left = ⊥
IsPartialLeft plan cut (suc depth) left = (i : ℕ) × (i < events_of plan.steps cut left) × ((plan.budget < survivors_of (moment cut left i))
    ⊎ ((kept : List ℕ) × AreWithin kept (pending_of (moment cut left i)) × IsPartialLeft plan cut depth (left_by kept (moment cut left i))))

-- a cut of these lines has, or one inside the recovery from one of its survivors
abbrev pub IsPartial : Plan → Cut → ℕ → List LineState → Type 0
IsPartial plan cut depth lines = (plan.budget < survivors_of lines) ⊎ ((kept : List ℕ) × AreWithin kept (pending_of lines) × IsPartialLeft plan cut depth (left_by kept lines))

-- how many survivors are tried inside the recovery from words, to a depth
abbrev pub tried_inside : Plan → Cut → ℕ → List (List ℕ) → ℕ
tried_inside plan cut zero left = 0
tried_inside plan cut (suc depth) left = sum_below (λ i. tried_at plan (λ words. tried_inside plan cut depth words) (moment cut left i)) (events_of plan.steps cut left)

-- a cut inside the recovery from words, which is right where it is not cut: nothing behind its events before is wrong, and the counts name
-- the first survivor that is
pub record IsCutInside (plan : Plan) (cut : Cut) (depth : ℕ) (left : List (List ℕ)) (inside : CutInside) : Type 0 where
  pub right : is_right plan.steps cut left ≡ true
  pub some : 1 ≤ inside.event
  pub events : inside.event ≤ events_of plan.steps cut left
  pub before : (i : ℕ) → i + 1 < inside.event → AreClean plan (λ words. IsClean plan cut depth words) (moment cut left i)
  pub named : IsNamed plan (λ words. IsClean plan cut depth words) (moment cut left (inside.event - 1)) inside.kept.items
  pub pending : inside.pending.items ≡ pending_of (moment cut left (inside.event - 1))

-- words are wrong to a depth: these cuts inside recovery, each in the recovery from what the one before left, leave words that do not
-- recover to an allowed state, but to this outcome
abbrev pub IsWrongLeft : Plan → Cut → List CutInside → ℕ → List (List ℕ) → Outcome → Type 0
IsWrongLeft plan cut [] depth left outcome = (is_right plan.steps cut left ≡ false) × (outcome_state outcome ≡ recovers_to plan.steps cut left)
IsWrongLeft plan cut (c ∷ cs) depth left outcome = (1 ≤ depth) × IsCutInside plan cut (depth - 1) left c
    × IsWrongLeft plan cut cs (depth - 1) (left_by c.kept.items (moment cut left (c.event - 1))) outcome

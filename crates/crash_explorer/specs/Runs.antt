-- What a run found: behind each event, and of all events together.
use Rattle.std.specs.Prelude.{◌≡◌, ℕ, zero, suc, ◌+◌, ◌-◌, ◌^◌, ◌<◌, ◌≤◌, Bool, true, false, min, List}
use Rattle.crash_explorer.specs.declared.plan.Plan.{Plan}
use Rattle.crash_explorer.specs.declared.answer.Tally.{Tally}
use Rattle.crash_explorer.specs.declared.answer.Wrong.{Wrong}
use Rattle.crash_explorer.specs.declared.answer.Answer.{Answer}
use Rattle.crash_explorer.specs.declared.answer.Answer.TheVariants.{Right as IsRight, Wrong as IsNot}
use Rattle.crash_explorer.specs.Cut.{Cut, pending_of, left_by}
use Rattle.crash_explorer.specs.Answers.{AreClean, IsNamed, tried_at}
use Rattle.crash_explorer.specs.Depth.{IsClean, AreSafe, IsPartial, tried_inside, IsWrongLeft}

-- words that the cut left are clean to the plan's depth
abbrev pub IsCleanOf : Plan → Cut → List (List ℕ) → Type 0
IsCleanOf plan cut left = IsClean plan cut plan.depth left

-- how many survivors are tried at a cut, those of cuts inside recovery among them
abbrev pub tried_of : Plan → Cut → ℕ
tried_of plan cut = tried_at plan (tried_inside plan cut plan.depth) cut.lines

-- the state behind so many events
abbrev pub after : {S : Type 0} → (S → S) → ℕ → S → S
after next zero s = s
after next (suc n) s = next (after next n s)

-- how many survivors are tried behind the first so many events, in a sum that stands still at its type's end
abbrev pub tried_behind : {S : Type 0} → Plan → (S → Cut) → (S → S) → S → ℕ → ℕ
tried_behind plan cut next s zero = 0
tried_behind plan cut next s (suc n) = min (tried_behind plan cut next s n + tried_of plan (cut (after next (suc n) s))) (2 ^ 64 - 1)

-- each of the first so many events is made, and no survivor that is tried behind it is wrong
pub record AreRightBehind {S : Type 0} (plan : Plan) (cut : S → Cut) (next : S → S) (goes_on : S → Bool) (s : S) (n : ℕ) : Type 0 where
  pub went : (i : ℕ) → i < n → goes_on (after next i s) ≡ true
  pub right : (i : ℕ) → i < n → AreClean plan (IsCleanOf plan (cut (after next (suc i) s))) (cut (after next (suc i) s)).lines

-- a cut behind one of the first so many events, or inside recovery from it, has more survivors than the budget
abbrev pub IsSomePartial : {S : Type 0} → Plan → (S → Cut) → (S → S) → S → ℕ → Type 0
IsSomePartial plan cut next s n = (i : ℕ) × (i < n) × IsPartial plan (cut (after next (suc i) s)) plan.depth (cut (after next (suc i) s)).lines

-- each survivor of each cut behind the first so many events is safe to the plan's depth
abbrev pub AreSafeBehind : {S : Type 0} → Plan → (S → Cut) → (S → S) → S → ℕ → Type 0
AreSafeBehind plan cut next s n = (i : ℕ) → i < n → AreSafe plan.steps (cut (after next (suc i) s)) plan.depth (cut (after next (suc i) s)).lines

-- a run in which each survivor that was tried is right
pub record IsRightRun {S : Type 0} (plan : Plan) (cut : S → Cut) (next : S → S) (goes_on : S → Bool) (s : S) (tally : Tally) : Type 0 where
  pub events : tally.events ≤ plan.events
  pub right : AreRightBehind plan cut next goes_on s tally.events
  pub survivors : tally.survivors ≡ tried_behind plan cut next s tally.events
  pub all : tally.all ≡ true → AreSafeBehind plan cut next s tally.events
  pub not_all : tally.all ≡ false → IsSomePartial plan cut next s tally.events
  pub ended : tally.ended ≡ true → goes_on (after next tally.events s) ≡ false
  pub cut_off : tally.ended ≡ false → tally.events ≡ plan.events

-- a run that ends at a survivor that is wrong
pub record IsWrongRun {S : Type 0} (plan : Plan) (cut : S → Cut) (next : S → S) (goes_on : S → Bool) (s new : S) (wrong : Wrong) : Type 0 where
  pub some : 1 ≤ wrong.event
  pub events : wrong.event ≤ plan.events
  pub stands : new ≡ after next wrong.event s
  pub went : goes_on (after next (wrong.event - 1) s) ≡ true
  pub before : AreRightBehind plan cut next goes_on s (wrong.event - 1)
  pub named : IsNamed plan (IsCleanOf plan (cut new)) (cut new).lines wrong.kept.items
  pub pending : wrong.pending.items ≡ pending_of (cut new).lines
  pub is_wrong : IsWrongLeft plan (cut new) wrong.inside.items plan.depth (left_by wrong.kept.items (cut new).lines) wrong.outcome

-- what a run answers
abbrev pub IsAnswer : {S : Type 0} → Plan → (S → Cut) → (S → S) → (S → Bool) → S → S → Answer → Type 0
IsAnswer plan cut next goes_on s new (IsRight tally) = IsRightRun plan cut next goes_on s tally
IsAnswer plan cut next goes_on s new (IsNot wrong) = IsWrongRun plan cut next goes_on s new wrong

-- behind how many events the watcher is told
abbrev pub told_events : Answer → ℕ
told_events (IsRight tally) = tally.events
told_events (IsNot wrong) = wrong.event - 1

-- a watcher is told once behind each of the first so many events, in their order
abbrev pub AreTold : {S W : Type 0} → Plan → (S → Cut) → (S → S) → (W → ℕ → ℕ → W → Type 0) → S → W → ℕ → W → Type 0
AreTold {S} {W} plan cut next tells s old zero new = new ≡ old
AreTold {S} {W} plan cut next tells s old (suc n) new = (w : W) × AreTold plan cut next tells s old n w × tells w (suc n) (tried_behind plan cut next s (suc n)) new

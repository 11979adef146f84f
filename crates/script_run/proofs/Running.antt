-- Runs turn by turn: what holds behind the turns that are given, behind one more, and behind the last.
use Rattle.std.proofs.Common.{◌≡◌, ℕ, zero, suc, ◌+◌, ◌⊎◌, true, false, List, [], ◌∷◌, ◌++◌, take, drop, Some, None, Ok, Err, refl, sym, ap, ◌∙◌, subst}
use Rattle.std.specs.Prelude.{slice_get}
use Rattle.std.specs.declared.alloc.AllocError.{AllocError}
use Rattle.std.proofs.lemmas.List.{take_more, take-append-drop}
use Rattle.std.proofs.lemmas.Option.{none-some, same_Some, slice_get_within, get_or_from_slice_get}
use Rattle.worker_model.specs.declared.hand.Turn.{Turn}
use Rattle.replay_model.specs.Replays.{ReplayState, is_over_in, TurnOf, RunsDry}
use Rattle.replay_model.specs.Kept.{IsReplay}
use Rattle.replay_progress.specs.Runs.{RunsKept}
use Rattle.replay_progress.proofs.Runs.{kept_runs, kept_run_goes_on, kept_run_stays}
use Rattle.script_run.specs.Runs.{DriesKept}

-- a run at whose last turn memory ran out is one
pub dries_kept : (turns : List ℕ) (s t : ReplayState) → DriesKept turns s t → RunsDry turns s t
dries_kept turns s t dries = record {
  front = dries.front;
  thread = dries.thread;
  back = dries.back;
  turns_are = dries.turns_are;
  last = dries.last;
  runs = kept_runs dries.front s dries.last dries.runs;
  not_over = dries.not_over;
  refused = dries.refused;
}

-- THE TURNS THAT ARE GIVEN: with one more;
one_more : (turns : List ℕ) (given i : ℕ) → slice_get turns given ≡ Some i → take (given + 1) turns ≡ take given turns ++ i ∷ []
one_more turns given i at = take_more turns given i (slice_get_within turns given i at) ∙ ap (λ (k : ℕ). take given turns ++ k ∷ []) (get_or_from_slice_get turns given i i at)

-- and the turn behind them, with the rest;
next_of : (turns : List ℕ) (given i : ℕ) → slice_get turns given ≡ Some i → drop given turns ≡ i ∷ drop (suc given) turns
next_of [] given i at = absurd (none-some i at)
next_of (x ∷ xs) zero i at = ap (λ (k : ℕ). k ∷ xs) (same_Some x i at)
next_of (x ∷ xs) (suc given) i at = next_of xs given i at

-- and all of them, where no turn is left
all_given : (turns : List ℕ) (given : ℕ) → slice_get turns given ≡ None → take given turns ≡ turns
all_given [] zero at = refl
all_given [] (suc given) at = refl
all_given (x ∷ xs) zero at = absurd (none-some x (sym at))
all_given (x ∷ xs) (suc given) at = ap (λ (l : List ℕ). x ∷ l) (all_given xs given at)

module _ (turns : List ℕ) (s : ReplayState) (given : ℕ) (now : ReplayState) (ran : RunsKept (take given turns) s now) where
  -- the run ends where the life is over, and where no turn is left
  pub ends_over : is_over_in now ≡ true → RunsKept turns s now
  ends_over over = subst (λ (l : List ℕ). RunsKept l s now) (take-append-drop given turns) (kept_run_stays (take given turns) (drop given turns) s now ran over)

  pub ends_spent : slice_get turns given ≡ None → RunsKept turns s now
  ends_spent none = subst (λ (l : List ℕ). RunsKept l s now) (all_given turns given none) ran

  module _ (i : ℕ) (at : slice_get turns given ≡ Some i) (on : is_over_in now ≡ false) where
    -- it goes on with one turn more
    pub leads_on : (m : ReplayState) (answer : Turn) → TurnOf i now (Ok answer) m → IsReplay m → RunsKept (take (given + 1) turns) s m
    leads_on m answer turn replay = subst (λ (l : List ℕ). RunsKept l s m) (sym (one_more turns given i at)) (kept_run_goes_on (take given turns) i s now m answer ran on turn replay)

    -- and ends at want of memory
    pub ends_dry : (t : ReplayState) → ((error : AllocError) × TurnOf i now (Err error) t) ⊎ (t ≡ now) → DriesKept turns s t
    ends_dry t refused = record {
      front = take given turns;
      thread = i;
      back = drop (suc given) turns;
      turns_are = sym (take-append-drop given turns) ∙ ap (λ (l : List ℕ). take given turns ++ l) (next_of turns given i at);
      last = now;
      runs = ran;
      not_over = on;
      refused = refused;
    }

-- Runs of which each state is a replay.
use Rattle.std.proofs.Common.{◌≡◌, ℕ, Bool, true, false, List, [], ◌∷◌, ◌++◌, Ok, refl, sym, ap, ◌∙◌, subst, inl, inr, arith}
use Rattle.std.proofs.lemmas.Bool.{cases_Bool}
use Rattle.worker_model.specs.declared.hand.Turn.{Turn}
use Rattle.replay_model.specs.Replays.{ReplayState, TurnOf, RunsBy, Runs, is_over_in}
use Rattle.replay_model.specs.Kept.{IsReplay}
use Rattle.replay_progress.specs.Runs.{RunsKept}
use Rattle.replay_progress.specs.Laws.{KeptRunsLaw, KeptRunGoesOnLaw, KeptRunStaysLaw}

-- what a first turn of such a run leads to, and the rest of it
abbrev pub LeadsKept : List ℕ → ReplayState → ReplayState → Type 0
LeadsKept is m t = IsReplay m × RunsKept is m t

-- a run that is over stays
kept_over : (i : ℕ) (is : List ℕ) (s t : ReplayState) → is_over_in s ≡ true → t ≡ s → RunsKept (i ∷ is) s t
kept_over i is s t over same = subst (λ (b : Bool). RunsBy b i (LeadsKept is) s t) (sym over) same

pub over_kept : (i : ℕ) (is : List ℕ) (s t : ReplayState) → is_over_in s ≡ true → RunsKept (i ∷ is) s t → t ≡ s
over_kept i is s t over run = subst (λ (b : Bool). RunsBy b i (LeadsKept is) s t) over run

-- one that is not over makes a turn
kept_on : (i : ℕ) (is : List ℕ) (s m t : ReplayState) (answer : Turn) → is_over_in s ≡ false → TurnOf i s (Ok answer) m → IsReplay m → RunsKept is m t → RunsKept (i ∷ is) s t
kept_on i is s m t answer on turn replay run = subst (λ (b : Bool). RunsBy b i (LeadsKept is) s t) (sym on) (answer, m, turn, (replay, run))

pub on_kept : (i : ℕ) (is : List ℕ) (s t : ReplayState) → is_over_in s ≡ false → RunsKept (i ∷ is) s t → (answer : Turn) × (m : ReplayState) × TurnOf i s (Ok answer) m × LeadsKept is m t
on_kept i is s t on run = subst (λ (b : Bool). RunsBy b i (LeadsKept is) s t) on run

-- it is a run
pub kept_runs : KeptRunsLaw
kept_runs [] s t run = run
kept_runs (i ∷ is) s t run = elim (cases_Bool (is_over_in s)) [
  | inl over ↦ subst (λ (b : Bool). RunsBy b i (Runs is) s t) (sym over) (over_kept i is s t over run)
  | inr on ↦
      let rest = on_kept i is s t on run in
      subst (λ (b : Bool). RunsBy b i (Runs is) s t) (sym on) (rest.0, rest.1, rest.2, kept_runs is rest.1 t rest.3.1)
]

-- with one turn more
pub kept_run_goes_on : KeptRunGoesOnLaw
kept_run_goes_on [] i s m t answer run on turn replay =
    subst (λ (u : ReplayState). RunsKept (i ∷ []) u t) run (kept_on i [] m t t answer on turn replay refl)
kept_run_goes_on (j ∷ js) i s m t answer run on turn replay = elim (cases_Bool (is_over_in s)) [
  | inl over ↦
      let q : true ≡ false = sym over ∙ (ap is_over_in (sym (over_kept j js s m over run)) ∙ on) in
      absurd (grind arith)
  | inr more ↦
      let rest = on_kept j js s m more run in
      kept_on j (js ++ i ∷ []) s rest.1 t rest.0 more rest.2 rest.3.0 (kept_run_goes_on js i rest.1 m t answer rest.3.1 on turn replay)
]

-- once it is over
pub kept_run_stays : KeptRunStaysLaw
kept_run_stays [] [] s m run over = run
kept_run_stays [] (i ∷ is) s m run over = kept_over i is s m (ap is_over_in (sym run) ∙ over) run
kept_run_stays (j ∷ js) rest s m run over = elim (cases_Bool (is_over_in s)) [
  | inl ended ↦ kept_over j (js ++ rest) s m ended (over_kept j js s m ended run)
  | inr more ↦
      let behind = on_kept j js s m more run in
      kept_on j (js ++ rest) s behind.1 m behind.0 more behind.2 behind.3.0 (kept_run_stays js rest behind.1 m behind.3.1 over)
]

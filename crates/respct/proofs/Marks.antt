-- The marks of a replay are few: each turn releases at most one checkpoint, and so does each giving up of a room behind the run.
use Rattle.std.proofs.Common.{◌≡◌, ℕ, zero, suc, ◌+◌, ◌≤◌, ◌⊎◌, inl, inr, Bool, true, false, List, [], ◌∷◌, ◌++◌, length, Option, Some, Result, Ok, Err, refl, ap, ◌∙◌, arith}
use Rattle.std.specs.declared.alloc.AllocError.{AllocError}
use Rattle.std.proofs.lemmas.List.{length-append, length-map}
use Rattle.seq_object.specs.declared.settings.Settings.{Settings}
use Rattle.seq_object.specs.History.{Scripts}
use Rattle.line_memory.specs.Line.{BankState}
use Rattle.life_model.specs.declared.life.Life.{Life}
use Rattle.life_model.specs.declared.life.Life.TheVariants.{Start, Resume}
use Rattle.life_model.specs.declared.life.Outcome.{Outcome}
use Rattle.life_model.specs.declared.life.Outcome.TheVariants.{Finished, Stalled, Cut, Starved}
use Rattle.life_model.specs.Life.{marks_from}
use Rattle.life_model.specs.Told.{ReportState}
use Rattle.yard_model.specs.declared.view.Checkpoint.{Checkpoint}
use Rattle.yard_model.specs.declared.view.View.{View}
use Rattle.yard_model.specs.Beginnings.{recovery_marks, lengths_of, marks_of}
use Rattle.room_yard.specs.Told.{Told, BothTell}
use Rattle.plain_yard.specs.Shown.{view_at}
use Rattle.worker_model.specs.declared.hand.Turn.{Turn}
use Rattle.worker_model.specs.Workers.{WorkerState}
use Rattle.replay_model.specs.Replays.{ReplayState, is_over_in, TurnOf, RunsBy, Runs, RunsDry, RunsTo, TurnsOff, AllTurnOff, Replays}
use Rattle.replay_model.specs.Endings.{IsReportOfYard}
use Rattle.replay_laws.proofs.Answered.{both_tell, same_tells, turned_off}
use Rattle.replay_laws.proofs.Turned.{IsCalm, HasDrawn, HasTurned, has_turned}
use Rattle.script_run.specs.Starts.{IsReplayOf}

-- A TURN.

-- at most one checkpoint more is told
abbrev HasOneMore : Told → Told → Type 0
HasOneMore a b = length b.checkpoints ≤ length a.checkpoints + 1

-- the same checkpoints, or one behind them
no_more : (a b : Told) → b.checkpoints ≡ a.checkpoints → HasOneMore a b
no_more a b same = let n = ap length same in omega (arith, n)

one_more : (a b : Told) (m : Checkpoint) → b.checkpoints ≡ a.checkpoints ++ m ∷ [] → HasOneMore a b
one_more a b m more = let n = ap length more in let l = length-append a.checkpoints (m ∷ []) in omega (arith, n, l)

module _ (c d : WorkerState) (v w : View) (t u : Option Told) where
  calm : IsCalm v t w u → BothTell t u HasOneMore
  calm (inl same) = same_tells t u HasOneMore (λ a. no_more a a refl) same.1
  calm (inr quiet) = both_tell t u _ _ (λ a b s. no_more a b s.checkpoints) quiet

  kept : IsCalm v t w u ⊎ HasDrawn c v t w u → BothTell t u HasOneMore
  kept (inl still) = calm still
  kept (inr drawn) = both_tell t u _ _ (λ a b f. no_more a b (ap (λ (o : Told). o.checkpoints) f.1)) drawn.drew.world

  turned : HasTurned c d v t w u → BothTell t u HasOneMore
  turned (inl same) = kept same.1
  turned (inr ended) = both_tell t u _ _ (λ a b f. one_more a b _ (ap (λ (o : Told). o.checkpoints) f.1)) ended.ended.world

-- the checkpoints of a replay
abbrev checkpoints_in : ReplayState → List Checkpoint
checkpoints_in s = s.yard.told.checkpoints

one_turn : (i : ℕ) (s t : ReplayState) (r : Result Turn AllocError) → TurnOf i s r t → length (checkpoints_in t) ≤ length (checkpoints_in s) + 1
one_turn i s t r turn =
    turned turn.worker turn.behind (view_at s.yard i) (view_at t.yard i) (Some s.yard.told) (Some t.yard.told)
    (has_turned turn.worker turn.behind (view_at s.yard i) (view_at t.yard i) (Some s.yard.told) (Some t.yard.told) r turn.does)

-- A RUN.
by : (over : Bool) (i : ℕ) (is : List ℕ) (s t : ReplayState) → ((m : ReplayState) → Runs is m t → length (checkpoints_in t) ≤ length (checkpoints_in m) + length is)
    → RunsBy over i (Runs is) s t → length (checkpoints_in t) ≤ length (checkpoints_in s) + suc (length is)
by true i is s t rest same = let n = ap (λ (x : ReplayState). length (checkpoints_in x)) same in omega (arith, n)
by false i is s t rest runs =
    let first = one_turn i s runs.1 (Ok runs.0) runs.2 in
    let more = rest runs.1 runs.3 in
    omega (arith, first, more)

runs_few : (turns : List ℕ) (s t : ReplayState) → Runs turns s t → length (checkpoints_in t) ≤ length (checkpoints_in s) + length turns
runs_few [] s t same = let n = ap (λ (x : ReplayState). length (checkpoints_in x)) same in omega (arith, n)
runs_few (i ∷ is) s t runs = by (is_over_in s) i is s t (λ m. runs_few is m t) runs

refused_few : (thread : ℕ) (last t : ReplayState) → ((error : AllocError) × TurnOf thread last (Err error) t) ⊎ (t ≡ last) → length (checkpoints_in t) ≤ length (checkpoints_in last) + 1
refused_few thread last t (inl refused) = one_turn thread last t (Err refused.0) refused.1
refused_few thread last t (inr same) = let n = ap (λ (x : ReplayState). length (checkpoints_in x)) same in omega (arith, n)

dry_few : (turns : List ℕ) (s t : ReplayState) → RunsDry turns s t → length (checkpoints_in t) ≤ length (checkpoints_in s) + length turns
dry_few turns s t dry =
    let first = runs_few dry.front s dry.last dry.runs in
    let next = refused_few dry.thread dry.last t dry.refused in
    let all = ap length dry.turns_are in
    let parts = length-append dry.front (dry.thread ∷ dry.back) in
    omega (arith, first, next, all, parts)

to_few : (outcome : Outcome) (turns : List ℕ) (s t : ReplayState) → RunsTo outcome turns s t → length (checkpoints_in t) ≤ length (checkpoints_in s) + length turns
to_few Finished turns s t runs = runs_few turns s t runs
to_few Stalled turns s t runs = runs_few turns s t runs
to_few Cut turns s t runs = runs_few turns s t runs
to_few Starved turns s t runs = dry_few turns s t runs

-- GIVING UP.
off_few : (i : ℕ) (s t : ReplayState) → TurnsOff i s t → length (checkpoints_in t) ≤ length (checkpoints_in s) + 1
off_few i s t off =
    let same = ap length (turned_off _ _ _ _ off.off).checkpoints in
    let one = one_turn i off.between t (Ok off.answer) off.gives_up in
    omega (arith, same, one)

all_off_few : (n i : ℕ) (s t : ReplayState) → AllTurnOff i n s t → length (checkpoints_in t) ≤ length (checkpoints_in s) + n
all_off_few zero i s t same = let n = ap (λ (x : ReplayState). length (checkpoints_in x)) same in omega (arith, n)
all_off_few (suc n) i s t off =
    let first = off_few i s off.0 off.1 in
    let more = all_off_few n (suc i) off.0 t off.2 in
    omega (arith, first, more)

-- THE WHOLE REPLAY.
pub replay_few : (outcome : Outcome) (turns : List ℕ) (s t : ReplayState) → Replays outcome turns s t
    → length (checkpoints_in t) ≤ length (checkpoints_in s) + length turns + length s.workers
replay_few outcome turns s t replays =
    let ran = to_few outcome turns s replays.last replays.runs in
    let off = all_off_few (length s.workers) 0 replays.last t replays.ends in
    omega (arith, ran, off)

-- THE MARKS.
as_many_from : (epoch : ℕ) (ns : List ℕ) → length (marks_from epoch ns) ≡ length ns
as_many_from epoch [] = refl
as_many_from epoch (n ∷ ns) = ap suc (as_many_from (suc epoch) ns)

few_of_recovery : (life : Life) → length (recovery_marks life) ≤ 1
few_of_recovery Start = omega arith
few_of_recovery Resume = omega arith

-- a report of a yard has a mark for each checkpoint, and one more at most
pub marks_few : (y : ReplayState) (r : ReportState) (memory : List BankState) → IsReportOfYard y.yard r memory → length r.marks ≤ length (checkpoints_in y) + 1
marks_few y r memory is =
    let all = ap length is.marks ∙ as_many_from (y.yard.beginning.epoch + 1) (marks_of y.yard.beginning (checkpoints_in y)) in
    let parts = length-append (recovery_marks y.yard.beginning.life) (lengths_of (checkpoints_in y)) in
    let own = few_of_recovery y.yard.beginning.life in
    let same = length-map (checkpoints_in y) (λ (m : Checkpoint). m.length) in
    omega (arith, all, parts, own, same)

-- the marks of a replay of a start are at most as many as its turns and its threads, and one more
pub start_marks_few : (settings : Settings) (scripts : Scripts) (schedule : List ℕ) (r : ReportState) (memory : List BankState) → IsReplayOf settings scripts schedule r memory
    → length r.marks ≤ length schedule + settings.threads + 1
start_marks_few settings scripts schedule r memory is =
    let ran = replay_few r.outcome schedule is.first is.last is.replays in
    let none : length (checkpoints_in is.first) ≡ 0 = ap (λ (s : ReplayState). length (checkpoints_in s)) is.start.is in
    let threads : length is.first.workers ≡ settings.threads = ap (λ (s : ReplayState). length s.workers) is.start.is ∙ is.start.number in
    let marks = marks_few is.last r memory is.report in
    omega (arith, ran, none, threads, marks)

-- What a turn adds: at most one event of its worker, and at most one mark, which is that of the yard's checkpoint.
use Rattle.std.proofs.Common.{◌≡◌, ℕ, zero, suc, ◌+◌, ◌<◌, ◌≤◌, inl, ⊎_elim, Bool, List, [], ◌∷◌, ◌++◌, length, Option, Some, None, Result, Ok, Err, set, get_or, refl, sym, ap, ◌∙◌, subst, arith, length-set}
use Rattle.std.specs.Prelude.{slice_get, option_to_list, is_err}
use Rattle.std.specs.declared.alloc.AllocError.{AllocError}
use Rattle.std.proofs.lemmas.List.{length-append}
use Rattle.std.proofs.lemmas.List.Elements.{All-set}
use Rattle.std.proofs.lemmas.Option.{slice_get_within, slice_get_past, get_or_from_slice_get}
use Rattle.life_model.specs.declared.life.Mark.{Mark}
use Rattle.life_model.specs.Life.{reported}
use Rattle.yard_model.specs.declared.view.Checkpoint.{Checkpoint}
use Rattle.yard_model.specs.declared.view.Phase.TheVariants.{Standing, Closing}
use Rattle.yard_model.specs.declared.view.View.{View}
use Rattle.yard_model.specs.Beginnings.{opening_of, marks_of, epoch_now}
use Rattle.yard_model.specs.Steps.{checkpoint_at}
use Rattle.yard_model.specs.World.{ViewIs}
use Rattle.room_yard.specs.Told.{IsTold}
use Rattle.plain_yard.specs.Shown.{view_at, IsThread}
use Rattle.plain_yard.proofs.Told.{tells}
use Rattle.worker_model.specs.declared.hand.Turn.{Turn}
use Rattle.worker_model.specs.Workers.{WorkerState}
use Rattle.replay_model.specs.Replays.{ReplayState, TurnOf}
use Rattle.replay_model.specs.Kept.{IsReplay}
use Rattle.replay_model.specs.Laws.{AddsMark}
use Rattle.replay_laws.proofs.Keeps.{number_at, turn_keeps_checkpoints}
use Rattle.script_run.specs.Runs.{HaveDone}
use Rattle.script_run.specs.Steps.{marks_in, marks_by, AreMarksOf, HasTurnOrDries, StaysReplay}
use Rattle.script_run.proofs.Owned.{KeepsOwn, keeps_own}
use Rattle.script_run.proofs.Marked.{reported_more}

-- what was set is there
there_set : (l : List WorkerState) (i : ℕ) (c : WorkerState) → i < length l → slice_get (set l i c) i ≡ Some c
there_set [] i c lt = absurd (omega (arith, lt))
there_set (x ∷ xs) zero c lt = refl
there_set (x ∷ xs) (suc i) c lt = there_set xs i c (omega (arith, lt))

-- what stands behind a list's elements
behind_all : (l : List Mark) (m : Mark) → slice_get (l ++ m ∷ []) (length l) ≡ Some m
behind_all [] m = refl
behind_all (x ∷ xs) m = behind_all xs m

append_none : (l : List Mark) → l ++ [] ≡ l
append_none [] = refl
append_none (x ∷ xs) = ap (λ (k : List Mark). x ∷ k) (append_none xs)

module _ (s : ReplayState) (was : IsReplay s) (i : ℕ) (r : Result Turn AllocError) (t : ReplayState) (turn : TurnOf i s r t) where
  abbrev c : WorkerState
  c = turn.worker

  abbrev d : WorkerState
  d = turn.behind

  abbrev v : View
  v = view_at s.yard i

  own : KeepsOwn c d v (view_at t.yard i)
  own = keeps_own c d v (view_at t.yard i) (Some s.yard.told) (Some t.yard.told) r (was.workers i c turn.is_worker) turn.does

  inside : i < length s.workers
  inside = slice_get_within s.workers i c turn.is_worker

  thread : IsThread s.yard i
  thread = let lt = inside in let n = was.number in omega (arith, lt, n)

  told : IsTold (Some s.yard.told) v
  told = tells s.yard i was.lawful thread

  -- EVENTS.
  done_more : (n : ℕ) → HaveDone n s → HaveDone (n + 1) t
  done_more n done =
      let here : c.done ≤ n = subst (λ (o : WorkerState). o.done ≤ n) (get_or_from_slice_get s.workers i c c turn.is_worker) (done i c inside) in
      let one = own.done in
      subst (λ (l : List WorkerState). (k : ℕ) (e : WorkerState) → k < length l → (get_or l k e).done ≤ n + 1) (sym turn.workers)
      (All-set (λ (o : WorkerState). o.done ≤ n + 1) s.workers i d (omega (arith, here, one)) (λ k e lt. let few = done k e lt in omega (arith, few)))

  pub stays_replay : IsReplay t → StaysReplay s t
  stays_replay replay = record {
    replay = replay;
    beginning = turn.beginning;
    number = ap length turn.workers ∙ length-set s.workers i d;
    done = done_more;
  }

  -- MARKS. Those of the worker before the turn and behind it.
  marks_before : marks_by s i ≡ c.marks
  marks_before = ap marks_in turn.is_worker

  marks_behind : marks_by t i ≡ d.marks
  marks_behind = ap (λ (l : List WorkerState). marks_in (slice_get l i)) turn.workers ∙ ap marks_in (there_set s.workers i d inside)

  mark_is : slice_get (marks_by t i) (length (marks_by s i)) ≡ slice_get d.marks (length c.marks)
  mark_is = λ j. slice_get (marks_behind j) (length (marks_before j))

  -- those of the yard are of these checkpoints
  abbrev told_by : List Checkpoint → List Mark
  told_by cs = reported (opening_of s.yard.beginning) (marks_of s.yard.beginning cs)

  same_told : (cs : List Checkpoint) → t.yard.told.checkpoints ≡ cs → told_by cs ≡ reported (opening_of t.yard.beginning) (marks_of t.yard.beginning t.yard.told.checkpoints)
  same_told cs same =
      let b : s.yard.beginning ≡ t.yard.beginning = sym turn.beginning in
      let l : cs ≡ t.yard.told.checkpoints = sym same in
      (λ j. reported (opening_of (b j)) (marks_of (b j) (l j)))

  -- the thread closes where a mark comes, and so it ran in the epoch that ends
  closing : AddsMark c d v s.yard.told t.yard.told → v.phase ≡ Closing
  closing is = ⊎_elim
      (λ (e : d.marks ≡ c.marks).
      let longer : length d.marks ≡ length (c.marks ++ is.mark ∷ []) = ap length is.marks in
      let more = length-append c.marks (is.mark ∷ []) in
      let same : length d.marks ≡ length c.marks = ap length e in
      absurd (omega (arith, longer, more, same)))
      (λ (e : v.phase ≡ Closing). e)
      own.marks

  ran_now : AddsMark c d v s.yard.told t.yard.told → v.ran ≡ epoch_now s.yard.beginning s.yard.told.checkpoints
  ran_now is =
      let at : ViewIs s.yard.told.world i v = subst (λ (k : ℕ). ViewIs s.yard.told.world k v) (number_at s.yard i was.lawful thread) told.1 in
      (was.lawful.epochs.views i v at).runs (λ (f : v.phase ≡ Standing). let e : Standing ≡ Closing = sym f ∙ closing is in absurd (cc))

  module _ (marks : List Mark) (are : AreMarksOf marks s) where
    same_marks : (d.marks ≡ c.marks) × (t.yard.told.checkpoints ≡ s.yard.told.checkpoints) → AreMarksOf (marks ++ option_to_list (slice_get (marks_by t i) (length (marks_by s i)))) t
    same_marks same =
        let none : slice_get (marks_by t i) (length (marks_by s i)) ≡ None =
        mark_is ∙ (ap (λ (l : List Mark). slice_get l (length c.marks)) same.0 ∙ slice_get_past c.marks (length c.marks) (omega arith)) in
        ap (λ (o : Option Mark). marks ++ option_to_list o) none ∙ (append_none marks ∙ (are ∙ same_told s.yard.told.checkpoints same.1))

    one_mark : AddsMark c d v s.yard.told t.yard.told → AreMarksOf (marks ++ option_to_list (slice_get (marks_by t i) (length (marks_by s i)))) t
    one_mark is =
        let some : slice_get (marks_by t i) (length (marks_by s i)) ≡ Some is.mark =
        mark_is ∙ (ap (λ (l : List Mark). slice_get l (length c.marks)) is.marks ∙ behind_all c.marks is.mark) in
        let next = is.epoch in
        let ran = ran_now is in
        let epoch : is.mark.epoch ≡ epoch_now s.yard.beginning s.yard.told.checkpoints + 1 = omega (arith, next, ran) in
        ap (λ (o : Option Mark). marks ++ option_to_list o) some
        ∙ (ap (λ (l : List Mark). l ++ is.mark ∷ []) are
        ∙ (sym (reported_more s.yard.beginning s.yard.told.checkpoints is.mark is.over epoch)
        ∙ same_told (s.yard.told.checkpoints ++ checkpoint_at is.mark.length is.over ∷ []) is.checkpoints))

    pub marks_kept : AreMarksOf (marks ++ option_to_list (slice_get (marks_by t i) (length (marks_by s i)))) t
    marks_kept = ⊎_elim same_marks one_mark (turn_keeps_checkpoints c d v (view_at t.yard i) (Some s.yard.told) (Some t.yard.told) r told turn.does)

-- AS THE CODE HAS IT: memory ran out where the turn answered so.
pub turn_or_dries : (i : ℕ) (s t : ReplayState) (r : Result Turn AllocError) (dry : Bool) → dry ≡ is_err r → TurnOf i s r t → HasTurnOrDries dry i s t
turn_or_dries i s t (Ok answer) dry is turn = subst (λ (b : Bool). HasTurnOrDries b i s t) (sym is) (answer, turn)
turn_or_dries i s t (Err error) dry is turn = subst (λ (b : Bool). HasTurnOrDries b i s t) (sym is) (inl (error, turn))

-- A turn through a handle on a replay's yard, and the power turned off through one.
use Rattle.std.proofs.Common.{◌≡◌, ◌≢◌, ℕ, zero, suc, ◌<◌, ◌≤◌, ◌⊎◌, inl, inr, ⊎_elim, Bool, List, [], ◌∷◌, length, Some, Result, set, get_or, refl, sym, ap, ◌∙◌, subst, arith, length-set}
use mathlib.Core.Option.{some}
use lib.ListN.{get_elem?}
use Rattle.std.specs.Prelude.{slice_get, slice_set}
use Rattle.std.specs.declared.alloc.AllocError.{AllocError}
use Rattle.std.proofs.lemmas.List.Elements.{All-set}
use Rattle.std.proofs.lemmas.Option.{slice_get_within, slice_get_read, get_or_from_slice_get}
use Rattle.yard_model.specs.declared.view.Beginning.{Beginning}
use Rattle.yard_model.specs.declared.view.View.{View}
use Rattle.yard_model.specs.Lawful.{Lawful}
use Rattle.yard_model.specs.Opens.{opening_view}
use Rattle.room_yard.specs.Told.{IsTold}
use Rattle.room_yard.specs.Answers.{TurnedOff}
use Rattle.plain_yard.specs.Shown.{ShownYard, ShownPost, view_at, view_of, IsThread, IsLawfulYard}
use Rattle.plain_yard.proofs.Views.{read_at}
use Rattle.worker_model.specs.declared.hand.Turn.{Turn}
use Rattle.worker_model.specs.declared.hand.Turn.TheVariants.{Over}
use Rattle.worker_model.specs.Workers.{WorkerState, IsWorker}
use Rattle.worker_model.specs.Turns.{TakesTurn, DoesTurn, GivesUp}
use Rattle.worker.proofs.Unchanged.{stays_behind_off}
use Rattle.replay_model.specs.Replays.{ReplayState, TurnOf, TurnsOff}
use Rattle.replay_model.specs.Kept.{IsReplay}
use Rattle.replay_laws.proofs.Answered.{turned_off as quiet_behind_off}
use Rattle.replay_laws.proofs.Keeps.{number_at, others_at, turn_keeps_replay}
use Rattle.script_run.specs.Runs.{HaveDone}
use Rattle.script_run.proofs.Owned.{KeepsOwn, keeps_own}

-- THE VIEW of any number has this number, and knows what the yard began with.
here_or_default : (l : List View) (i : ℕ) (d : View) → (get_elem? l i ≡ some (get_or l i d)) ⊎ (get_or l i d ≡ d)
here_or_default [] i d = inr refl
here_or_default (x ∷ xs) zero d = inl refl
here_or_default (x ∷ xs) (suc i) d = here_or_default xs i d

pub number_of : (y : ShownYard) (i : ℕ) → IsLawfulYard y → (view_at y i).thread ≡ i
number_of y i lawful = ⊎_elim (λ at. lawful.sized.threads i (view_at y i) at) (λ e. ap (λ (o : View). o.thread) e) (here_or_default y.told.world.views i (opening_view y.beginning i))

pub began_with : (y : ShownYard) (i : ℕ) → IsLawfulYard y → (view_at y i).beginning ≡ y.beginning
began_with y i lawful = ⊎_elim (λ at. lawful.sized.beginnings i (view_at y i) at) (λ e. ap (λ (o : View). o.beginning) e) (here_or_default y.told.world.views i (opening_view y.beginning i))

-- A TURN of the worker c of thread i, behind which the worker is d and the handle is q.
module _ (s : ReplayState) (was : IsReplay s) (i : ℕ) (c d : WorkerState) (at : slice_get s.workers i ≡ Some c) (q : ShownPost) (r : Result Turn AllocError) (lawful : IsLawfulYard q.yard)
    (worker : IsWorker d (view_of q)) (does : DoesTurn c (view_at s.yard i) (Some s.yard.told) r d (view_of q) (Some q.yard.told)) where
  own : KeepsOwn c d (view_at s.yard i) (view_of q)
  own = keeps_own c d (view_at s.yard i) (view_of q) (Some s.yard.told) (Some q.yard.told) r (was.workers i c at) does

  same_thread : q.thread ≡ i
  same_thread =
      sym (number_of q.yard q.thread lawful) ∙ (sym worker.fits.thread ∙ (own.thread ∙ ((was.workers i c at).fits.thread ∙ number_of s.yard i was.lawful)))

  same_beginning : q.yard.beginning ≡ s.yard.beginning
  same_beginning = sym (began_with q.yard q.thread lawful) ∙ (own.beginning ∙ began_with s.yard i was.lawful)

  -- the replay behind it
  abbrev pub turned : ReplayState
  turned = record { yard = q.yard; workers = slice_set s.workers i d }

  pub turn_made : TurnOf i s r turned
  turn_made = record {
    worker = c;
    is_worker = at;
    behind = d;
    does = subst (λ (k : ℕ). DoesTurn c (view_at s.yard i) (Some s.yard.told) r d (view_at q.yard k) (Some q.yard.told)) same_thread does;
    beginning = same_beginning;
    workers = refl;
  }

  pub turn_keeps : IsReplay turned
  unfolding turn_made
  turn_keeps = turn_keeps_replay i s turned r was turn_made lawful (subst (λ (k : ℕ). IsWorker d (view_at q.yard k)) same_thread worker)

-- THE POWER is turned off through the handle of thread i, which is p then.
same_or_other : (j i : ℕ) → (j ≡ i) ⊎ (j ≢ i)
same_or_other zero zero = inl refl
same_or_other zero (suc i) = inr (λ h. omega (arith, h))
same_or_other (suc j) zero = inr (λ h. omega (arith, h))
same_or_other (suc j) (suc i) = ⊎_elim (λ e. inl (ap suc e)) (λ n. inr (λ h. n (omega (arith, h)))) (same_or_other j i)

module _ (s : ReplayState) (was : IsReplay s) (i : ℕ) (thread : IsThread s.yard i) (p : ShownPost) (told : IsTold (Some p.yard.told) (view_of p))
    (off : TurnedOff (view_at s.yard i) (Some s.yard.told) (view_of p) (Some p.yard.told)) where
  abbrev v : View
  v = view_at s.yard i

  -- the replay behind it
  abbrev pub dark : ReplayState
  dark = record { yard = record { beginning = s.yard.beginning; told = p.yard.told }; workers = s.workers }

  dark_thread : (view_of p).thread ≡ i
  dark_thread = ap (λ (o : View). o.thread) off.view ∙ number_at s.yard i was.lawful thread

  -- its view is the handle's
  pub dark_view : view_at dark.yard i ≡ view_of p
  dark_view = read_at p.yard.told.world.views i (view_of p) (opening_view s.yard.beginning i) (subst (λ (k : ℕ). get_elem? p.yard.told.world.views k ≡ some (view_of p)) dark_thread told.1)

  dark_lawful : IsLawfulYard dark.yard
  dark_lawful =
      subst (λ (b : Beginning). Lawful b p.yard.told.world p.yard.told.history p.yard.told.checkpoints)
      (ap (λ (o : View). o.beginning) off.view ∙ began_with s.yard i was.lawful) told.0

  dark_views : p.yard.told.world.views ≡ set s.yard.told.world.views i (view_of p)
  dark_views =
      (quiet_behind_off v (view_of p) (Some s.yard.told) (Some p.yard.told) off).views
      ∙ ap (λ (k : ℕ). set s.yard.told.world.views k (view_of p)) (number_at s.yard i was.lawful thread)

  -- the worker of each thread is that of its view
  dark_here : (c : WorkerState) → slice_get s.workers i ≡ Some c → IsWorker c (view_of p)
  dark_here c at = subst (IsWorker c) (sym off.view) (stays_behind_off c v (was.workers i c at))

  dark_each : (j : ℕ) (c : WorkerState) → slice_get s.workers j ≡ Some c → IsWorker c (view_at dark.yard j)
  dark_each j c at = ⊎_elim
      (λ (e : j ≡ i). subst (λ (k : ℕ). IsWorker c (view_at dark.yard k)) (sym e)
      (subst (IsWorker c) (sym dark_view) (dark_here c (subst (λ (k : ℕ). slice_get s.workers k ≡ Some c) e at))))
      (λ (n : j ≢ i). subst (IsWorker c) (sym (others_at s.yard dark.yard i (view_of p) refl dark_views j n)) (was.workers j c at))
      (same_or_other j i)

  pub dark_keeps : IsReplay dark
  dark_keeps = record {
    lawful = dark_lawful;
    number = was.number ∙ (sym (length-set s.yard.told.world.views i (view_of p)) ∙ ap length (sym dark_views));
    workers = dark_each;
  }

  module _ (c d : WorkerState) (at : slice_get s.workers i ≡ Some c) (q : ShownPost) (r : Result Turn AllocError) (lawful : IsLawfulYard q.yard)
      (worker : IsWorker d (view_of q)) (does : DoesTurn c (view_of p) (Some p.yard.told) r d (view_of q) (Some q.yard.told)) where
    dark_does : DoesTurn c (view_at dark.yard i) (Some dark.yard.told) r d (view_of q) (Some q.yard.told)
    dark_does = subst (λ (o : View). DoesTurn c o (Some p.yard.told) r d (view_of q) (Some q.yard.told)) (sym dark_view) does

    -- the worker gives up what it has in hand
    gives : GivesUp c (view_of p) (Some p.yard.told) r d (view_of q) (Some q.yard.told)
    gives = subst (λ (b : Bool). TakesTurn b c (view_of p) (Some p.yard.told) r d (view_of q) (Some q.yard.told)) (ap (λ (o : View). o.saw_off) off.view) does

    abbrev gave : ReplayState
    gave = record { yard = q.yard; workers = slice_set s.workers i d }

    pub turns_off : TurnsOff i s gave
    turns_off = record {
      between = dark;
      off = subst (λ (o : View). TurnedOff v (Some s.yard.told) o (Some p.yard.told)) (sym dark_view) off;
      beginning = refl;
      same = refl;
      answer = Over;
      gives_up = subst (λ (o : Result Turn AllocError). TurnOf i dark o gave) gives.over (turn_made dark dark_keeps i c d at q r lawful worker dark_does);
    }

    pub off_keeps : IsReplay gave
    off_keeps = turn_keeps dark dark_keeps i c d at q r lawful worker dark_does

    -- no event is done
    pub off_done : (n : ℕ) → HaveDone n s → HaveDone n gave
    off_done n done =
        let here : c.done ≤ n = subst (λ (o : WorkerState). o.done ≤ n) (get_or_from_slice_get s.workers i c c at) (done i c (slice_get_within s.workers i c at)) in
        let same : d.done ≡ c.done = ap (λ (o : WorkerState). o.done) gives.worker in
        All-set (λ (o : WorkerState). o.done ≤ n) s.workers i d (omega (arith, here, same)) done

-- AS THE CODE HAS IT: the replay's own yard and workers, the handle p before the turn, and the yard z behind it.
module _ (yard : ShownYard) (workers : List WorkerState) (s : ReplayState) (inside : record { yard = yard; workers = workers } ≡ s) (was : IsReplay s) (i : ℕ) (few : i < length s.workers)
    (c : WorkerState) (read : c ≡ get_or workers i c) (p : ShownPost) (p_yard : p.yard ≡ yard) (p_thread : p.thread ≡ i) where
  abbrev own_replay : ReplayState
  own_replay = record { yard = yard; workers = workers }

  own_was : IsReplay own_replay
  own_was = subst IsReplay (sym inside) was

  own_few : i < length workers
  own_few = subst (λ (o : ReplayState). i < length o.workers) (sym inside) few

  own_at : slice_get workers i ≡ Some c
  own_at = slice_get_read workers (length workers) i c refl own_few read

  handle : record { yard = yard; thread = i } ≡ p
  handle = let y : yard ≡ p.yard = sym p_yard in let n : i ≡ p.thread = sym p_thread in (λ j. record { yard = y j; thread = n j })

  pub handled_worker : IsWorker c (view_of p)
  handled_worker = subst (λ (o : ShownPost). IsWorker c (view_of o)) handle (own_was.workers i c own_at)

  -- and behind the turning off of the power, where the handle is m
  pub dark_worker : (m : ShownPost) → TurnedOff (view_of p) (Some p.yard.told) (view_of m) (Some m.yard.told) → IsWorker c (view_of m)
  dark_worker m off = subst (IsWorker c) (sym off.view) (stays_behind_off c (view_of p) handled_worker)

  -- it has done no more than all have
  pub handled_few : (n : ℕ) → HaveDone n s → c.done ≤ n
  handled_few n done = subst (λ (o : WorkerState). o.done ≤ n) (sym read) (subst (HaveDone n) (sym inside) done i c own_few)

  module _ (d : WorkerState) (q : ShownPost) (z : ShownYard) (is : z ≡ q.yard) (lawful : IsLawfulYard z) (r : Result Turn AllocError) (worker : IsWorker d (view_of q)) where
    module _ (does : DoesTurn c (view_of p) (Some p.yard.told) r d (view_of q) (Some q.yard.told)) where
      own_does : DoesTurn c (view_at yard i) (Some yard.told) r d (view_of q) (Some q.yard.told)
      own_does = subst (λ (o : ShownPost). DoesTurn c (view_of o) (Some o.yard.told) r d (view_of q) (Some q.yard.told)) (sym handle) does

      pub handled_turn : TurnOf i s r (record { yard = z; workers = set workers i d })
      handled_turn = subst (λ (o : ReplayState × ShownYard). TurnOf i o.0 r (record { yard = o.1; workers = set workers i d })) (λ j. (inside j, sym is j))
          (turn_made own_replay own_was i c d own_at q r (subst IsLawfulYard is lawful) worker own_does)

      pub handled_keeps : IsReplay (record { yard = z; workers = set workers i d })
      handled_keeps = subst (λ (y : ShownYard). IsReplay (record { yard = y; workers = set workers i d })) (sym is) (turn_keeps own_replay own_was i c d own_at q r (subst IsLawfulYard is lawful) worker own_does)

    -- with the power turned off in between, behind which the handle is m
    module _ (m : ShownPost) (told : IsTold (Some m.yard.told) (view_of m)) (off : TurnedOff (view_of p) (Some p.yard.told) (view_of m) (Some m.yard.told))
        (does : DoesTurn c (view_of m) (Some m.yard.told) r d (view_of q) (Some q.yard.told)) where
      own_thread : IsThread yard i
      own_thread = let lt = own_few in let n = own_was.number in omega (arith, lt, n)

      own_off : TurnedOff (view_at yard i) (Some yard.told) (view_of m) (Some m.yard.told)
      own_off = subst (λ (o : ShownPost). TurnedOff (view_of o) (Some o.yard.told) (view_of m) (Some m.yard.told)) (sym handle) off

      pub handled_off : TurnsOff i s (record { yard = z; workers = set workers i d })
      handled_off = subst (λ (o : ReplayState × ShownYard). TurnsOff i o.0 (record { yard = o.1; workers = set workers i d })) (λ j. (inside j, sym is j))
          (turns_off own_replay own_was i own_thread m told own_off c d own_at q r (subst IsLawfulYard is lawful) worker does)

      pub handled_off_keeps : IsReplay (record { yard = z; workers = set workers i d })
      handled_off_keeps = subst (λ (y : ShownYard). IsReplay (record { yard = y; workers = set workers i d })) (sym is)
          (off_keeps own_replay own_was i own_thread m told own_off c d own_at q r (subst IsLawfulYard is lawful) worker does)

      pub handled_off_done : (n : ℕ) → HaveDone n s → HaveDone n (record { yard = z; workers = set workers i d })
      handled_off_done n done =
          off_done own_replay own_was i own_thread m told own_off c d own_at q r (subst IsLawfulYard is lawful) worker does n (subst (HaveDone n) (sym inside) done)

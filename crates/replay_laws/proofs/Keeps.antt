-- What a turn leaves of the views, the checkpoints and the history that are told, and of a replay.
use Rattle.std.proofs.Common.{◌≡◌, ◌≢◌, ℕ, zero, suc, ◌⊎◌, inl, inr, ⊎_elim, List, [], ◌∷◌, length, Option, Some, None, Result, set, get_or, refl, sym, ap, ◌∙◌, subst, arith, length-set, get_or-set_other}
use mathlib.Core.Option.{some}
use Rattle.std.specs.Prelude.{slice_get}
use Rattle.std.specs.declared.alloc.AllocError.{AllocError}
use Rattle.std.proofs.lemmas.Option.{slice_get_within, get_or_from_slice_get}
use Rattle.yard_model.specs.declared.view.View.{View}
use Rattle.yard_model.specs.Opens.{opening_view}
use Rattle.room_yard.specs.Told.{Told, IsTold, BothTell}
use Rattle.room_yard.specs.Laws.{SetsOwnView}
use Rattle.plain_yard.specs.Shown.{ShownYard, view_at, IsThread, IsLawfulYard}
use Rattle.plain_yard.proofs.Views.{read_at}
use Rattle.plain_yard.proofs.Told.{tells}
use Rattle.yard_laws.proofs.Lists.{there}
use Rattle.worker_model.specs.declared.hand.Turn.{Turn}
use Rattle.worker_model.specs.Workers.{WorkerState, IsWorker}
use Rattle.replay_model.specs.Replays.{ReplayState, TurnOf}
use Rattle.replay_model.specs.Kept.{IsReplay}
use Rattle.replay_model.specs.Laws.{TurnSetsOwnViewLaw, TurnKeepsCheckpointsLaw, TurnKeepsHistoryLaw, TurnKeepsReplayLaw, AddsMark, AddsEntry}
use Rattle.replay_laws.proofs.Answered.{both_tell, same_tells, set_as_it_was}
use Rattle.replay_laws.proofs.Turned.{IsStill, IsCalm, HasDrawn, HasTurned, has_turned}

-- VIEWS.
as_it_is : (t : Option Told) (v : View) → IsTold t v → SetsOwnView v t v t
as_it_is None v told = tt
as_it_is (Some a) v told = sym (set_as_it_was a.world.views v.thread v told.1)

module _ (c d : WorkerState) (v w : View) (t u : Option Told) where
  module _ (told : IsTold t v) where
    still_views : IsStill v t w u → SetsOwnView v t w u
    still_views same = subst (λ (x : View × Option Told). SetsOwnView v t x.0 x.1) (λ k. (sym same.0 k, sym same.1 k)) (as_it_is t v told)

    calm_views : IsCalm v t w u → SetsOwnView v t w u
    calm_views (inl same) = still_views same
    calm_views (inr quiet) = both_tell t u _ _ (λ a b s. s.views) quiet

    kept_views : IsCalm v t w u ⊎ HasDrawn c v t w u → SetsOwnView v t w u
    kept_views (inl calm) = calm_views calm
    kept_views (inr drawn) = both_tell t u _ _ (λ a b f. ap (λ (o : Told). o.world.views) f.1) drawn.drew.world

    turned_views : HasTurned c d v t w u → SetsOwnView v t w u
    turned_views (inl kept) = kept_views kept.1
    turned_views (inr ended) = both_tell t u _ _ (λ a b f. ap (λ (o : Told). o.world.views) f.1) ended.ended.world

  -- CHECKPOINTS.
  abbrev AreSaved : Told → Told → Type 0
  AreSaved a b = b.checkpoints ≡ a.checkpoints

  calm_checkpoints : IsCalm v t w u → BothTell t u AreSaved
  calm_checkpoints (inl same) = same_tells t u AreSaved (λ a. refl) same.1
  calm_checkpoints (inr quiet) = both_tell t u _ _ (λ a b s. s.checkpoints) quiet

  kept_checkpoints : IsCalm v t w u ⊎ HasDrawn c v t w u → BothTell t u AreSaved
  kept_checkpoints (inl calm) = calm_checkpoints calm
  kept_checkpoints (inr drawn) = both_tell t u _ _ (λ a b f. ap (λ (o : Told). o.checkpoints) f.1) drawn.drew.world

  turned_checkpoints : HasTurned c d v t w u → BothTell t u (λ (a b : Told). ((d.marks ≡ c.marks) × AreSaved a b) ⊎ AddsMark c d v a b)
  turned_checkpoints (inl kept) = both_tell t u _ _ (λ a b e. inl (kept.0, e)) (kept_checkpoints kept.1)
  turned_checkpoints (inr ended) = both_tell t u _ _ (λ a b f. inr (record {
    mark = ended.mark;
    over = ended.over;
    epoch = ended.ended.epoch;
    marks = ended.marks;
    checkpoints = ap (λ (o : Told). o.checkpoints) f.1;
  })) ended.ended.world

  -- HISTORY.
  abbrev Grows : Told → Told → Type 0
  Grows a b = (b.history ≡ a.history) ⊎ AddsEntry c a.history b.history

  calm_history : IsCalm v t w u → BothTell t u Grows
  calm_history (inl same) = same_tells t u Grows (λ a. inl refl) same.1
  calm_history (inr quiet) = both_tell t u _ _ (λ a b s. inl s.history) quiet

  kept_history : IsCalm v t w u ⊎ HasDrawn c v t w u → BothTell t u Grows
  kept_history (inl calm) = calm_history calm
  kept_history (inr drawn) = both_tell t u _ _ (λ a b f. inr (record {
    command = drawn.command;
    reply = drawn.reply;
    next = drawn.next;
    adds = ap (λ (o : Told). o.history) f.1;
  })) drawn.drew.world

  turned_history : HasTurned c d v t w u → BothTell t u Grows
  turned_history (inl kept) = kept_history kept.1
  turned_history (inr ended) = both_tell t u _ _ (λ a b f. inl (ap (λ (o : Told). o.history) f.1)) ended.ended.world

pub turn_sets_own_view : TurnSetsOwnViewLaw
turn_sets_own_view c d v w t u r told does = turned_views c d v w t u told (has_turned c d v w t u r does)

pub turn_keeps_checkpoints : TurnKeepsCheckpointsLaw
turn_keeps_checkpoints c d v w t u r told does = turned_checkpoints c d v w t u (has_turned c d v w t u r does)

pub turn_keeps_history : TurnKeepsHistoryLaw
turn_keeps_history i s s' r turn =
    turned_history turn.worker turn.behind (view_at s.yard i) (view_at s'.yard i) (Some s.yard.told) (Some s'.yard.told)
    (has_turned turn.worker turn.behind (view_at s.yard i) (view_at s'.yard i) (Some s.yard.told) (Some s'.yard.told) r turn.does)

-- A REPLAY.

-- the view of a thread is its own
pub number_at : (y : ShownYard) (i : ℕ) → IsLawfulYard y → IsThread y i → (view_at y i).thread ≡ i
number_at y i lawful thread =
    let t = there y.told.world.views i thread in
    lawful.sized.threads i (view_at y i) (t.1 ∙ ap some (sym (read_at y.told.world.views i t.0 (opening_view y.beginning i) t.1)))

-- where one view is set, the others are as before
pub others_at : (y z : ShownYard) (i : ℕ) (w : View) → z.beginning ≡ y.beginning → z.told.world.views ≡ set y.told.world.views i w
    → (j : ℕ) → j ≢ i → view_at z j ≡ view_at y j
others_at y z i w beginning views j ne = (λ k. get_or (views k) j (opening_view (beginning k) j)) ∙ get_or-set_other y.told.world.views i j w (opening_view y.beginning j) ne

-- who is at a place, where one is set
worker_at : (l : List WorkerState) (i j : ℕ) (a b : WorkerState) → slice_get (set l i a) j ≡ Some b → ((j ≡ i) × (a ≡ b)) ⊎ ((j ≢ i) × (slice_get l j ≡ Some b))
worker_at [] i j a b e = let lt = slice_get_within [] j b e in absurd (omega (arith, lt))
worker_at (x ∷ xs) zero zero a b e = inl (refl, get_or_from_slice_get (a ∷ xs) 0 b a e)
worker_at (x ∷ xs) zero (suc j) a b e = inr ((λ h. omega (arith, h)), e)
worker_at (x ∷ xs) (suc i) zero a b e = inr ((λ h. omega (arith, h)), e)
worker_at (x ∷ xs) (suc i) (suc j) a b e = ⊎_elim (λ p. inl (ap suc p.0, p.1)) (λ p. let n = p.0 in inr ((λ h. n (omega (arith, h))), p.1)) (worker_at xs i j a b e)

module _ (i : ℕ) (s s' : ReplayState) (r : Result Turn AllocError) (was : IsReplay s) (turn : TurnOf i s r s') where
  thread : IsThread s.yard i
  thread =
      let lt = slice_get_within s.workers i turn.worker turn.is_worker in
      let n = was.number in
      omega (arith, lt, n)

  told : IsTold (Some s.yard.told) (view_at s.yard i)
  told = tells s.yard i was.lawful thread

  views : s'.yard.told.world.views ≡ set s.yard.told.world.views i (view_at s'.yard i)
  views = turn_sets_own_view turn.worker turn.behind (view_at s.yard i) (view_at s'.yard i) (Some s.yard.told) (Some s'.yard.told) r told turn.does
      ∙ ap (λ (k : ℕ). set s.yard.told.world.views k (view_at s'.yard i)) (number_at s.yard i was.lawful thread)

  module _ (lawful : IsLawfulYard s'.yard) (here : IsWorker turn.behind (view_at s'.yard i)) where
    each : (j : ℕ) (c : WorkerState) → slice_get s'.workers j ≡ Some c → IsWorker c (view_at s'.yard j)
    each j c at = ⊎_elim
        (λ (p : (j ≡ i) × (turn.behind ≡ c)). subst (λ (x : WorkerState × ℕ). IsWorker x.0 (view_at s'.yard x.1)) (λ k. (p.1 k, sym p.0 k)) here)
        (λ (p : (j ≢ i) × (slice_get s.workers j ≡ Some c)). subst (IsWorker c) (sym (others_at s.yard s'.yard i (view_at s'.yard i) turn.beginning views j p.0)) (was.workers j c p.1))
        (worker_at s.workers i j turn.behind c (ap (λ (l : List WorkerState). slice_get l j) (sym turn.workers) ∙ at))

    replay : IsReplay s'
    replay = record {
      lawful = lawful;
      number = ap length turn.workers ∙ (length-set s.workers i turn.behind
          ∙ (was.number ∙ (sym (length-set s.yard.told.world.views i (view_at s'.yard i)) ∙ ap length (sym views))));
      workers = each;
    }

pub turn_keeps_replay : TurnKeepsReplayLaw
turn_keeps_replay i s s' r was turn lawful here = replay i s s' r was turn lawful here
